-- Round a corner as many boundary sides of a set arrive as leave: in all, and in each arc that has both rays of a wedge of the set or none.
-- The idea: the edge-sum law with 1 for a pair that leaves the corner in the arc, less 1 for one that arrives in it. Assumes nothing.
use mathlib.Core.Path.{◌≡◌, refl, sym, ◌∙◌, ap, ap₂, subst}
use mathlib.Core.Bool.{Bool, true, false, ◌&&◌}
use mathlib.Core.List.{List, [], ◌∷◌, flat_map}
use Prim.Native.Nat.{ℕ, ◌+◌, ◌≤◌}
use native.Mathlib.Omega.{arith}
use lib.IntN.{ℤ, pos, neg_ℤ, ◌+ℤ◌, ◌-ℤ◌}
use lib.Dec.{T}
use Rattle.whole.specs.Sums.{All, Among, bit, sum, count}
use Rattle.whole.proofs.Int.{zify}
use Rattle.whole.specs.Polynomials.{◌:-◌, :-◌, ◌:=◌}
use Rattle.whole.proofs.Ring.{solve}
use Rattle.whole.proofs.Sums.{sum-++, and_left, and_right, and_both, bit_yes}
use Rattle.plane.specs.Points.{Point, Edge, Triangle, flip, same_point, same_edge, sides}
use Rattle.plane.specs.Boundaries.{sides_of}
use Rattle.plane.proofs.Points.{same_point-eq, same_point-refl, same_edge-eq, same_edge-refl}
use Rattle.plane.proofs.Boundaries.{edge_sum}
use Rattle.table.proofs.Sets.{tally}
use Rattle.repair_sides.specs.Sides.{boundary_sides}
use Rattle.repair_sides.proofs.Bounding.{same_boundary}

module _ (v : Point) (g : Point → Bool) where
  -- The pair leaves v in the arc; arrives in it.
  abbrev pub leaving : Edge → Bool
  leaving e = same_point e.from v && g e.to

  abbrev pub arriving : Edge → Bool
  arriving e = same_point e.to v && g e.from

  -- How many do.
  abbrev pub departures : List Edge → ℕ
  departures = tally (λ e. bit (leaving e))

  abbrev pub arrivals : List Edge → ℕ
  arrivals = tally (λ e. bit (arriving e))

  flow : Edge → ℤ
  flow e = pos (bit (leaving e)) -ℤ pos (bit (arriving e))

  flow_flip : (e : Edge) → flow (flip e) ≡ neg_ℤ (flow e)
  unfolding flow
  flow_flip e = solve 2 (λ p q. q :- p := :- (p :- q)) tt (pos (bit (leaving e))) (pos (bit (arriving e)))

  flow_sum : (l : List Edge) → sum flow l ≡ pos (departures l) -ℤ pos (arrivals l)
  unfolding flow tally
  flow_sum [] = refl
  flow_sum (e ∷ l) = rw (flow_sum l) (simp zify (omega arith))

  -- The arc has both rays of the triangle's wedge at v, or none.
  abbrev pub Even : Triangle → Type 0
  Even t = (t.a ≡ v → g t.b ≡ g t.c) × (t.b ≡ v → g t.c ≡ g t.a) × (t.c ≡ v → g t.a ≡ g t.b)

  still : (t : Triangle) → Even t → sum flow (sides t) ≡ pos 0
  unfolding flow
  still t h = go (same_point t.a v) (same_point t.b v) (same_point t.c v)
      (λ s. h.0 (same_point-eq t.a v s)) (λ s. h.1 (same_point-eq t.b v s)) (λ s. h.2 (same_point-eq t.c v s))
    where
      go : (p q r : Bool) → (T p → g t.b ≡ g t.c) → (T q → g t.c ≡ g t.a) → (T r → g t.a ≡ g t.b)
          → (pos (bit (p && g t.b)) -ℤ pos (bit (q && g t.a))) +ℤ ((pos (bit (q && g t.c)) -ℤ pos (bit (r && g t.b)))
          +ℤ ((pos (bit (r && g t.a)) -ℤ pos (bit (p && g t.c))) +ℤ pos 0)) ≡ pos 0
      go true true true i j k = simp zify (omega (arith, ap bit (i tt), ap bit (j tt), ap bit (k tt)))
      go true true false i j k = simp zify (omega (arith, ap bit (i tt), ap bit (j tt)))
      go true false true i j k = simp zify (omega (arith, ap bit (i tt), ap bit (k tt)))
      go true false false i j k = simp zify (omega (arith, ap bit (i tt)))
      go false true true i j k = simp zify (omega (arith, ap bit (j tt), ap bit (k tt)))
      go false true false i j k = simp zify (omega (arith, ap bit (j tt)))
      go false false true i j k = simp zify (omega (arith, ap bit (k tt)))
      go false false false i j k = refl

  all_still : (l : List Triangle) → All Even l → sum flow (sides_of l) ≡ pos 0
  unfolding flat_map
  all_still [] h = refl
  all_still (t ∷ l) h = sum-++ flow (sides t) (sides_of l) ∙ ap₂ ◌+ℤ◌ (still t h.0) (all_still l h.1)

  -- As many boundary sides arrive at v in the arc as leave it there.
  pub balance : (l : List Triangle) → ((e : Edge) → count same_edge e (sides_of l) ≤ 1) → All Even l → departures (boundary_sides l) ≡ arrivals (boundary_sides l)
  balance l once h = omega (arith, simp zify at (sym (flow_sum (boundary_sides l)) ∙ edge_sum flow flow_flip (boundary_sides l) (sides_of l) (same_boundary l once) ∙ all_still l h))

-- ---- from counts to sides
pub tally_counted : (p : Edge → Bool) (e : Edge) (l : List Edge) → Among same_edge e l → T (p e) → 1 ≤ tally (λ e. bit (p e)) l
unfolding tally
tally_counted p e [] h t = absurd (omega arith)
tally_counted p e (x ∷ l) h t = go (same_edge x e) (same_edge-eq x e) h (λ k. tally_counted p e l k t)
  where
    go : (b : Bool) → (T b → x ≡ e) → 1 ≤ bit b + count same_edge e l → (Among same_edge e l → 1 ≤ tally (λ e. bit (p e)) l) → 1 ≤ bit (p x) + tally (λ e. bit (p e)) l
    go true f h r = omega (arith, bit_yes (p x) (subst (λ z. T (p z)) (sym (f tt)) t))
    go false f h r = omega (arith, r (omega arith))

pub tally_found : (p : Edge → Bool) (l : List Edge) → 1 ≤ tally (λ e. bit (p e)) l → (e : Edge) × Among same_edge e l × T (p e)
unfolding tally
tally_found p [] h = absurd (omega arith)
tally_found p (x ∷ l) h = go (p x) refl h (tally_found p l)
  where
    go : (b : Bool) → p x ≡ b → 1 ≤ bit b + tally (λ e. bit (p e)) l → (1 ≤ tally (λ e. bit (p e)) l → (e : Edge) × Among same_edge e l × T (p e)) → (e : Edge) × Among same_edge e (x ∷ l) × T (p e)
    go true s h r = (x, omega (arith, bit_yes (same_edge x x) (same_edge-refl x)), rw s tt)
    go false s h r = let z = r (omega arith) in (z.0, omega (arith, z.1), z.2)

-- Where a side of the list arrives in the arc, one leaves in it.
pub leaves_too : (v : Point) (g : Point → Bool) (l : List Edge) → departures v g l ≡ arrivals v g l → (e : Edge) → Among same_edge e l → e.to ≡ v → T (g e.from)
    → (d : Edge) × Among same_edge d l × (d.from ≡ v) × T (g d.to)
leaves_too v g l b e h s t =
    let a = tally_counted (arriving v g) e l h (and_both (same_point e.to v) (g e.from) (subst (λ z. T (same_point e.to z)) s (same_point-refl e.to)) t) in
    let d = tally_found (leaving v g) l (omega arith) in
    (d.0, d.1, same_point-eq d.0.from v (and_left (same_point d.0.from v) (g d.0.to) d.2), and_right (same_point d.0.from v) (g d.0.to) d.2)
