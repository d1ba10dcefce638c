-- Chains of ordered pairs, and the law of the round walk: a part of a closed walk that passes each point once, of which as many pairs
-- come to a point as leave it, is the whole walk or nothing.
-- The idea: a point of the walk has one pair that comes and one that leaves, so the part has both or neither, and so on round.
-- Assumes nothing.
use mathlib.Core.Path.{◌≡◌, refl, sym, ◌∙◌, ap, subst}
use mathlib.Core.Logic.{◌⊎◌, inl, inr}
use mathlib.Core.Bool.{Bool, true, false, cond}
use mathlib.Core.List.{List, [], ◌∷◌, ◌++◌, map}
use Prim.Native.Nat.{ℕ, ◌+◌, ◌≤◌}
use native.Mathlib.Omega.{arith}
use native.Mathlib.Decide.{ℕ_discrete}
use lib.Dec.{T}
use Rattle.whole.specs.Sums.{All, Among, bit, count}
use Rattle.whole.proofs.Sums.{all_map, all_counted, bit_no, bit_yes}
use Rattle.plane.specs.Points.{Point, Edge, same_point, same_edge}
use Rattle.plane.proofs.Points.{same_point-refl, same_edge-eq, same_edge-refl}

-- Ordered pairs that join up, from p to q.
abbrev pub Chain : Point → Point → List Edge → Type 0
Chain p q [] = p ≡ q
Chain p q (e ∷ l) = (e.from ≡ p) × Chain e.to q l

pub chain-++ : (p q r : Point) (l m : List Edge) → Chain p q l → Chain q r m → Chain p r (l ++ m)
chain-++ p q r [] m h k = subst (λ z. Chain z r m) (sym h) k
chain-++ p q r (x ∷ l) m h k = (h.0, chain-++ x.to q r l m h.1 k)

-- How often a point is a first point of the pairs, and a second point.
abbrev pub leaves : Point → List Edge → ℕ
leaves w l = count same_point w (map (λ e. e.from) l)

abbrev pub comes : Point → List Edge → ℕ
comes w l = count same_point w (map (λ e. e.to) l)

-- The pairs of a list that pass a test.
abbrev pub keep : (Edge → Bool) → List Edge → List Edge
keep p [] = []
keep p (x ∷ l) = cond (p x) (x ∷ keep p l) (keep p l)

pub keep_all : (p : Edge → Bool) (l : List Edge) → All (λ e. T (p e)) l → keep p l ≡ l
keep_all p [] h = refl
keep_all p (x ∷ l) h = go (p x) h.0 (keep_all p l h.1)
  where
    go : (b : Bool) → T b → keep p l ≡ l → cond b (x ∷ keep p l) (keep p l) ≡ x ∷ l
    go true t r = ap (λ m. x ∷ m) r
    go false t r = absurd t

pub keep_none : (p : Edge → Bool) (l : List Edge) → All (λ e. T (p e) → ⊥) l → keep p l ≡ []
keep_none p [] h = refl
keep_none p (x ∷ l) h = go (p x) h.0 (keep_none p l h.1)
  where
    go : (b : Bool) → (T b → ⊥) → keep p l ≡ [] → cond b (x ∷ keep p l) (keep p l) ≡ []
    go true t r = absurd (t tt)
    go false t r = r

module _ (p : Edge → Bool) (e : Edge) where
  pub count_kept : T (p e) → (l : List Edge) → count same_edge e (keep p l) ≡ count same_edge e l
  count_kept t [] = refl
  count_kept t (x ∷ l) = go (p x) (λ s. subst (λ z. T (p z)) (sym (same_edge-eq x e s)) t) (count_kept t l)
    where
      go : (b : Bool) → (T (same_edge x e) → T b) → count same_edge e (keep p l) ≡ count same_edge e l → count same_edge e (cond b (x ∷ keep p l) (keep p l)) ≡ bit (same_edge x e) + count same_edge e l
      go true f h = omega arith
      go false f h = omega (arith, bit_no (same_edge x e) f)

  pub count_dropped : (T (p e) → ⊥) → (l : List Edge) → count same_edge e (keep p l) ≡ 0
  count_dropped t [] = refl
  count_dropped t (x ∷ l) = go (p x) (λ b s. t (subst (λ z. T (p z)) (same_edge-eq x e s) b)) (count_dropped t l)
    where
      go : (b : Bool) → (T b → T (same_edge x e) → ⊥) → count same_edge e (keep p l) ≡ 0 → count same_edge e (cond b (x ∷ keep p l) (keep p l)) ≡ 0
      go true f h = omega (arith, bit_no (same_edge x e) (f tt))
      go false f h = h

pub leaves-++ : (w : Point) (l m : List Edge) → leaves w (l ++ m) ≡ leaves w l + leaves w m
leaves-++ w [] m = omega arith
leaves-++ w (x ∷ l) m = omega (arith, leaves-++ w l m)

-- A chain comes to each point as often as it leaves it, but for its first point and its last.
pub chain_ends : (w p q : Point) (l : List Edge) → Chain p q l → bit (same_point p w) + comes w l ≡ leaves w l + bit (same_point q w)
chain_ends w p q [] h = rw h (omega arith)
chain_ends w p q (x ∷ l) h = rw (← h.0) (omega (arith, chain_ends w x.to q l h.1))

-- ---- the pairs at one point, by their first points or by their second points
module _ (k : Edge → Point) where
  abbrev at : Point → List Edge → ℕ
  at w l = count same_point w (map k l)

  pub at_count : (e : Edge) (l : List Edge) → count same_edge e l ≤ at (k e) l
  at_count e [] = omega arith
  at_count e (x ∷ l) = go (same_edge x e) (same_edge-eq x e) (at_count e l)
    where
      go : (b : Bool) → (T b → x ≡ e) → count same_edge e l ≤ at (k e) l → bit b + count same_edge e l ≤ bit (same_point (k x) (k e)) + at (k e) l
      go true f h = omega (arith, bit_yes (same_point (k x) (k e)) (subst (λ z. T (same_point (k x) (k z))) (f tt) (same_point-refl (k x))))
      go false f h = omega arith

  at_keep : (p : Edge → Bool) (w : Point) (l : List Edge) → at w (keep p l) ≤ at w l
  at_keep p w [] = omega arith
  at_keep p w (x ∷ l) = go (p x) (at_keep p w l)
    where
      go : (b : Bool) → at w (keep p l) ≤ at w l → at w (cond b (x ∷ keep p l) (keep p l)) ≤ bit (same_point (k x) w) + at w l
      go true h = omega arith
      go false h = omega arith

  -- Of the pairs at a point that one pair only has, those that pass a test are that pair if it passes.
  sole : (p : Edge → Bool) (e : Edge) (l : List Edge) → Among same_edge e l → at (k e) l ≤ 1 → at (k e) (keep p l) ≡ bit (p e)
  sole p e [] m h = absurd (omega arith)
  sole p e (x ∷ l) m h = go (same_edge x e) (same_edge-eq x e) m (p x) refl (sole p e l)
    where
      go : (s : Bool) → (T s → x ≡ e) → 1 ≤ bit s + count same_edge e l → (b : Bool) → p x ≡ b → (Among same_edge e l → at (k e) l ≤ 1 → at (k e) (keep p l) ≡ bit (p e))
          → at (k e) (cond b (x ∷ keep p l) (keep p l)) ≡ bit (p e)
      go true f m true q r =
          omega (arith, at_keep p (k e) l, bit_yes (same_point (k x) (k e)) (subst (λ z. T (same_point (k x) (k z))) (f tt) (same_point-refl (k x))), ap bit (sym (ap p (f tt)) ∙ q))
      go true f m false q r =
          omega (arith, at_keep p (k e) l, bit_yes (same_point (k x) (k e)) (subst (λ z. T (same_point (k x) (k z))) (f tt) (same_point-refl (k x))), ap bit (sym (ap p (f tt)) ∙ q))
      go false f m true q r = omega (arith, at_count e l, r (omega arith) (omega (arith, at_count e l)))
      go false f m false q r = r (omega arith) (omega (arith, at_count e l))

-- ---- the law of the round walk
-- Along a chain whose pairs have equal values at both points all points have the value of the first.
steady : (n : Point → ℕ) (p q : Point) (l : List Edge) → Chain p q l → All (λ e. n e.from ≡ n e.to) l → All (λ e. n e.from ≡ n p) l
steady n p q [] h k = tt
steady n p q (x ∷ l) h k = (
  ap n h.0,
  all_map (λ e. n e.from ≡ n x.to) (λ e. n e.from ≡ n p) (λ e f. f ∙ sym k.0 ∙ ap n h.0) l (steady n x.to q l h.1 k.1),
)

module _ (o : Point) (l : List Edge) (closed : Chain o o l) (once : (w : Point) → leaves w l ≤ 1) (p : Edge → Bool) (balanced : (w : Point) → comes w (keep p l) ≡ leaves w (keep p l)) where
  member : (e : Edge) → Among same_edge e l → (leaves e.from (keep p l) ≡ bit (p e)) × (leaves e.from (keep p l) ≡ leaves e.to (keep p l))
  member e m =
      let out = sole (λ e. e.from) p e l m (once e.from) in
      let way = sole (λ e. e.to) p e l m (omega (arith, chain_ends e.to o o l closed, once e.to)) in
      (out, out ∙ sym way ∙ balanced e.to)

  abbrev Told : List Edge → Type 0
  Told m = All (λ e. bit (p e) ≡ leaves o (keep p l)) m

  told : Told l
  told = join l (all_map (λ e. Among same_edge e l) (λ e. leaves e.from (keep p l) ≡ bit (p e)) (λ e m. (member e m).0) l (all_counted same_edge same_edge-eq same_edge-refl l))
      (steady (λ w. leaves w (keep p l)) o o l closed
      (all_map (λ e. Among same_edge e l) (λ e. leaves e.from (keep p l) ≡ leaves e.to (keep p l)) (λ e m. (member e m).1) l (all_counted same_edge same_edge-eq same_edge-refl l)))
    where
      join : (m : List Edge) → All (λ e. leaves e.from (keep p l) ≡ bit (p e)) m → All (λ e. leaves e.from (keep p l) ≡ leaves o (keep p l)) m → Told m
      join [] h k = tt
      join (x ∷ m) h k = (sym h.0 ∙ k.0, join m h.1 k.1)

  -- Either each pair of the walk passes the test or none does.
  pub round : All (λ e. T (p e)) l ⊎ All (λ e. T (p e) → ⊥) l
  round = go (ℕ_discrete (leaves o (keep p l)) 0)
    where
      set : (b : Bool) (n : ℕ) → bit b ≡ n → (n ≡ 0 → ⊥) → T b
      set true n h k = tt
      set false n h k = k (sym h)

      unset : (b : Bool) (n : ℕ) → bit b ≡ n → n ≡ 0 → T b → ⊥
      unset true n h k t = omega arith
      unset false n h k t = t

      go : Dec (leaves o (keep p l) ≡ 0) → All (λ e. T (p e)) l ⊎ All (λ e. T (p e) → ⊥) l
      go (yes z) = inr (all_map (λ e. bit (p e) ≡ leaves o (keep p l)) (λ e. T (p e) → ⊥) (λ e h. unset (p e) (leaves o (keep p l)) h z) l told)
      go (no z) = inl (all_map (λ e. bit (p e) ≡ leaves o (keep p l)) (λ e. T (p e)) (λ e h. set (p e) (leaves o (keep p l)) h z) l told)
