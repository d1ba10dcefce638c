-- `sheet_areas::ring` meets its contract: what is summed up is the double area of whichever ring stands at the place. Assumes nothing.
use mathlib.Core.Path.{◌≡◌, sym, ◌∙◌, subst}
use mathlib.Core.List.{List}
use Prim.Native.Nat.{ℕ, ◌+◌, ◌*◌, ◌≤◌, ◌<◌}
use native.Mathlib.Omega.{arith}
use lib.IntN.{ℤ}
use lib.ListN.{length, get_or, take}
use Rattle.whole.specs.Numbers.{Within}
use Rattle.whole.specs.Sums.{All}
use Rattle.whole.proofs.Bound.{returned}
use Rattle.plane.specs.Members.{Ring, edges}
use Rattle.plane.specs.Keys.{Held}
use Rattle.plane_rings.specs.Closed.{RingLimits}
use Rattle.plane_rings.specs.Rings.{ring_area}
use Rattle.sheet_form.specs.Numbers.{point_numbers, ring_numbers}
use Rattle.sheet_edges.specs.Standing.{NumbersAt}
use Rattle.sheet_sums.specs.Standing.{RingAt}
use Rattle.sheet_sums.proofs.Summing.{points_length}
use Rattle.sheet_areas.proofs.Walk.{place_count, ring_behind}
use Rattle.sheet_areas.proofs.ring.Statement.{statement}
use Rattle.sheet_areas.proofs.ring.Tie as tie

-- The ring stands at the place for the sum of its double area.
ring_at : (numbers : List ℕ) (at : ℕ) (r : Ring) (rest : List ℤ) → RingLimits r → All Held (take (at + length (ring_numbers r)) numbers) → NumbersAt ring_numbers numbers at r rest
    → RingAt numbers at r rest
ring_at numbers at r rest fits held s =
    let e : at + length (ring_numbers r) ≡ at + 1 + 2 * length r = omega (arith, points_length r) in
    record { held = subst (λ n. All Held (take n numbers)) e held; numbers_at = s; limits = fits }

-- The count of the ring's points.
count : (c : tie.Start) → let a = c.args in
    (a.at < length a.numbers.now) × (get_or a.numbers.now a.at 0 ≡ length c.requires.thing + 10_000_000) × (length c.requires.thing ≤ 4096)
count c = let w = place_count point_numbers c.requires in (w.0, w.1, c.requires.fits.high)

sum_requires : tie.Need-sum-requires
sum_requires c κs = let s = c in let p = s.requires in (p.thing, p.rest, ring_at s.args.numbers.now s.args.at p.thing p.rest p.fits p.held p.numbers_at)

returns : tie.Need-returns
unfolding ring_area
returns c =
    let s = c in
    let numbers = s.args.numbers.now in
    let at = s.args.at in
    let r = c.sum in
    let same = returned r.result r.type_inv in
    record {
      reads = λ a rest fits held w.
          let v = r.ensures a rest (ring_at numbers at a rest fits held w) in
          let next = ring_behind numbers at a rest w in
          (same ∙ v.0, subst (Within (400_000_000_000_000 * length (edges a))) (sym same) v.1, next.0, next.1);
    }

pub ring_spec : {M : Type 1} → statement M
ring_spec =
    tie.close
    (tie.spec
    sum_requires
    (λ c. omega (arith, count c.before.before))
    (λ c. omega (arith, count c.before.before))
    (λ c. omega (arith, count c.before.before.before))
    (λ c. omega (arith, count c.before.before.before))
    (λ c. omega (arith, count c.before.before.before))
    (λ c. omega (arith, count c.before.before.before))
    (λ c. omega (arith, count c.before.before.before))
    returns)
