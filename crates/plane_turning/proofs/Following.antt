-- The side that `following` answers: it leaves the end of the arriving side, and none that leaves there is a sharper turn to the right. Assumes nothing.
use mathlib.Core.Path.{◌≡◌, refl, sym, ◌∙◌, ap, subst}
use mathlib.Core.Logic.{◌⊎◌, inl, inr}
use mathlib.Core.Bool.{Bool, true, false, not, cond}
use mathlib.Core.List.{List, [], ◌∷◌, ◌++◌}
use Prim.Native.Nat.{◌+◌, ◌≤◌}
use native.Mathlib.Omega.{arith}
use lib.Dec.{T, T_not}
use Rattle.whole.specs.Sums.{All, Among, any, bit, count}
use Rattle.whole.proofs.Sums.{and_left, and_right, and_both, bit_yes}
use Rattle.plane.specs.Points.{Point, Edge, turn, same_point, same_edge}
use Rattle.plane.proofs.Points.{same_point-eq, same_point-refl, same_edge-eq, same_edge-refl}
use Rattle.whole_signs.proofs.Signs.{Sign, minus, null, plus, sign}
use Rattle.plane_turning.specs.Turning.{sharper, beats, sharpest, following}
use Rattle.plane_turning.proofs.Rays.{sooner, sharper_is, sharper_trans, turn_self}

-- A test whose passing is absurd fails.
pub refuted : (b : Bool) → (T b → ⊥) → T (not b)
refuted true f = f tt
refuted false f = tt

-- No way on is sharper than itself.
never_self : (u v w : Point) → T (not (sharper u v w w))
never_self u v w = subst (λ b. T (not b)) (sym (sharper_is u v w w)) (rw (turn_self v w) (go (sign (turn v u w))))
  where
    go : (s : Sign) → T (not (sooner s s null))
    go minus = tt
    go null = tt
    go plus = tt

module _ (e : Edge) where
  abbrev Unbeaten : Edge → Edge → Type 0
  Unbeaten c d = d.from ≡ e.to → T (not (sharper e.from e.to d.to c.to))

  -- What is not sharper than the choice so far is not sharper than the choice in the end.
  kept : (x c : Edge) (l : List Edge) → T (not (sharper e.from e.to x.to c.to)) → T (not (sharper e.from e.to x.to (sharpest e c l).to))
  unfolding sharpest
  kept x c [] h = h
  kept x c (d ∷ l) h = kept x (cond (beats e d c) d c) l (go (beats e d c) (λ t. and_right (same_point d.from e.to) (sharper e.from e.to d.to c.to) t))
    where
      go : (b : Bool) → (T b → T (sharper e.from e.to d.to c.to)) → T (not (sharper e.from e.to x.to (cond b d c).to))
      go true f = refuted (sharper e.from e.to x.to d.to) (λ t. T_not (sharper e.from e.to x.to c.to) h (sharper_trans e.from e.to x.to d.to c.to t (f tt)))
      go false f = h

  sharpest_all : (c : Edge) (l : List Edge) → All (Unbeaten (sharpest e c l)) l
  unfolding sharpest
  sharpest_all c [] = tt
  sharpest_all c (d ∷ l) = (
    λ s. kept d (cond (beats e d c) d c) l (go (beats e d c) (λ t. and_both (same_point d.from e.to) (sharper e.from e.to d.to c.to)
        (subst (λ z. T (same_point d.from z)) s (same_point-refl d.from)) t)),
    sharpest_all (cond (beats e d c) d c) l,
  )
    where
      go : (b : Bool) → (T (sharper e.from e.to d.to c.to) → T b) → T (not (sharper e.from e.to d.to (cond b d c).to))
      go true f = never_self e.from e.to d.to
      go false f = refuted (sharper e.from e.to d.to c.to) f

  -- The choice is c or in the list.
  sharpest_in : (c : Edge) (l : List Edge) → c.from ≡ e.to → ((sharpest e c l).from ≡ e.to) × ((sharpest e c l ≡ c) ⊎ Among same_edge (sharpest e c l) l)
  unfolding sharpest
  sharpest_in c [] s = (s, inl refl)
  sharpest_in c (d ∷ l) s = go (beats e d c) (λ t. same_point-eq d.from e.to (and_left (same_point d.from e.to) (sharper e.from e.to d.to c.to) t)) (sharpest_in d l) (sharpest_in c l s)
    where
      here : (r : Edge) → r ≡ d → 1 ≤ bit (same_edge d r) + count same_edge r l
      here r p = omega (arith, bit_yes (same_edge d r) (subst (λ z. T (same_edge d z)) (sym p) (same_edge-refl d)))

      go : (b : Bool) → (T b → d.from ≡ e.to)
          → (d.from ≡ e.to → ((sharpest e d l).from ≡ e.to) × ((sharpest e d l ≡ d) ⊎ Among same_edge (sharpest e d l) l))
          → ((sharpest e c l).from ≡ e.to) × ((sharpest e c l ≡ c) ⊎ Among same_edge (sharpest e c l) l)
          → ((sharpest e (cond b d c) l).from ≡ e.to) × ((sharpest e (cond b d c) l ≡ c) ⊎ Among same_edge (sharpest e (cond b d c) l) (d ∷ l))
      go true f p q = let r = p (f tt) in (r.0, inr (at r.1))
        where
          at : (sharpest e d l ≡ d) ⊎ Among same_edge (sharpest e d l) l → Among same_edge (sharpest e d l) (d ∷ l)
          at (inl p) = here (sharpest e d l) p
          at (inr h) = omega (arith, h)
      go false f p q = (q.0, at q.1)
        where
          at : (sharpest e c l ≡ c) ⊎ Among same_edge (sharpest e c l) l → (sharpest e c l ≡ c) ⊎ Among same_edge (sharpest e c l) (d ∷ l)
          at (inl p) = inl p
          at (inr h) = inr (omega (arith, h))

-- c is a side of the list that leaves the end of e, and no side of the list that leaves there is a sharper turn to the right.
pub record Follows (l : List Edge) (e c : Edge) : Type 0 where
  pub listed : Among same_edge c l
  pub joined : c.from ≡ e.to
  pub sharp : All (λ d. d.from ≡ e.to → T (not (sharper e.from e.to d.to c.to))) l

-- Where a side leaves the end of e, `following` answers such a one.
pub follows : (l : List Edge) (e d : Edge) → Among same_edge d l → d.from ≡ e.to → Follows l e (following l e)
unfolding following
follows [] e d h s = absurd (omega arith)
follows (x ∷ l) e d h s = go (same_point x.from e.to) refl (λ k. follows l e d k s)
  where
    go : (b : Bool) → same_point x.from e.to ≡ b → (Among same_edge d l → Follows l e (following l e)) → Follows (x ∷ l) e (cond b (sharpest e x l) (following l e))
    go true p next = let start = same_point-eq x.from e.to (rw p tt) in let i = sharpest_in e x l start in record {
      listed = at i.1;
      joined = i.0;
      sharp = (λ t. kept e x x l (never_self e.from e.to x.to), sharpest_all e x l);
    }
      where
        at : (sharpest e x l ≡ x) ⊎ Among same_edge (sharpest e x l) l → Among same_edge (sharpest e x l) (x ∷ l)
        at (inl q) = omega (arith, bit_yes (same_edge x (sharpest e x l)) (subst (λ z. T (same_edge x z)) (sym q) (same_edge-refl x)))
        at (inr k) = omega (arith, k)
    go false p next = let r = next (tail (same_edge x d) (same_edge-eq x d) h) in record {
      listed = omega (arith, r.listed);
      joined = r.joined;
      sharp = (λ t. absurd (other t), r.sharp);
    }
      where
        other : x.from ≡ e.to → ⊥
        other t = subst T p (subst (λ z. T (same_point x.from z)) t (same_point-refl x.from))

        tail : (b : Bool) → (T b → x ≡ d) → 1 ≤ bit b + count same_edge d l → 1 ≤ count same_edge d l
        tail true f h = absurd (other (ap (λ z. z.from) (f tt) ∙ s))
        tail false f h = omega arith

-- ---- one side more at the end of the list: what a loop over the sides does
sharpest_more : (e c d : Edge) (l : List Edge) → sharpest e c (l ++ d ∷ []) ≡ cond (beats e d (sharpest e c l)) d (sharpest e c l)
unfolding sharpest
sharpest_more e c d [] = refl
sharpest_more e c d (x ∷ l) = sharpest_more e (cond (beats e x c) x c) d l

-- Where a side of the list leaves the end of e, the new one is taken if it beats what was found; else if it leaves there.
pub following_more : (e d : Edge) (l : List Edge)
    → following (l ++ d ∷ []) e ≡ cond (any (λ x. same_point x.from e.to) l) (cond (beats e d (following l e)) d (following l e)) (cond (same_point d.from e.to) d e)
unfolding following sharpest
following_more e d [] = refl
following_more e d (x ∷ l) = go (same_point x.from e.to) (following_more e d l)
  where
    go : (b : Bool) → following (l ++ d ∷ []) e ≡ cond (any (λ x. same_point x.from e.to) l) (cond (beats e d (following l e)) d (following l e)) (cond (same_point d.from e.to) d e)
        → cond b (sharpest e x (l ++ d ∷ [])) (following (l ++ d ∷ []) e)
        ≡ cond (elim b [ true ↦ true | false ↦ any (λ x. same_point x.from e.to) l ])
        (cond (beats e d (cond b (sharpest e x l) (following l e))) d (cond b (sharpest e x l) (following l e))) (cond (same_point d.from e.to) d e)
    go true r = sharpest_more e x d l
    go false r = r
