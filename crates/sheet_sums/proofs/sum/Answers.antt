-- Each corner has its own y behind it and that of the point after the next, which the closing point has the last of.
use Rattle.std.proofs.Common.{◌≡◌, ◌+◌, ◌*◌, ◌<◌, ◌≤◌, List, ℕ, ℤ, length, get_or, arith, refl}
use Rattle.plane.specs.Members.{Ring}
use Rattle.sheet_sums.specs.Standing.{RingAt}
use Rattle.sheet_sums.proofs.Summing.{Summing, ring_held, ring_first, summing_begin, summing_as, summing_two, summing_added, summing_done}
use Rattle.sheet_sums.proofs.sum.Goals as goal

-- The count of the ring's points, and their numbers.
first : {numbers : List ℕ} {at : ℕ} (w : (r : Ring) × (rest : List ℤ) × RingAt numbers at r rest)
    → (at < length numbers) × (4 ≤ length w.0) × (get_or numbers at 0 ≡ length w.0 + 10_000_000) × (at + 2 * length w.0 < length numbers)
first w = let h = ring_first w.2 in (h.0, w.2.limits.low, h.1, h.2)

-- Before the closing point two points stand.
two : {numbers : List ℕ} {at before k corners : ℕ} {total : ℤ} (w : (r : Ring) × (rest : List ℤ) × RingAt numbers at r rest)
    → ((r : Ring) (rest : List ℤ) → RingAt numbers at r rest → Summing numbers r rest (at + 2 * corners + 1) before (at + 1 + 2 * k) total) → k < corners
    → at + 1 + 2 * k + 3 < length numbers
two w h k = (summing_two (h w.0 w.1 w.2) (omega arith)).0

pub bounds-numbers-at-2 : goal.bounds-numbers-at-2
bounds-numbers-at-2 c = let h = first c.requires in omega arith

pub loop-k-init : goal.loop-k-init
loop-k-init c = record {
  held = let h = first c.requires in ring_held c.requires.2 _ (omega arith) (omega arith);
  sums = λ r rest w. summing_begin w _ _ refl (omega arith);
}

pub bounds-numbers-here : goal.bounds-numbers-here
bounds-numbers-here c = omega (arith, two c.requires c.loop-k.invariant.sums c.loop-k-test.true)

pub bounds-numbers-here-in-loop-k : goal.bounds-numbers-here-in-loop-k
bounds-numbers-here-in-loop-k c = omega (arith, two c.requires c.loop-k.invariant.sums c.loop-k-test.true)

pub bounds-numbers-here-in-loop-k-2 : goal.bounds-numbers-here-in-loop-k-2
bounds-numbers-here-in-loop-k-2 c = omega (arith, two c.requires c.loop-k.invariant.sums c.loop-k-test.true)

pub product-total-requires : goal.product-total-requires
product-total-requires c =
    let w = c.requires in
    let h = first w in
    let t = two w c.loop-k.invariant.sums c.loop-k-test.true in (
      ring_held w.2 _ (omega arith) (omega arith),
      c.loop-k.invariant.held,
      ring_held w.2 _ (omega arith) t,
    )

pub loop-k-preserved : goal.loop-k-preserved
loop-k-preserved c = record {
  held = let t = two c.requires c.loop-k.invariant.sums c.loop-k-test.true in let h = first c.requires in ring_held c.requires.2 _ (omega arith) (omega arith);
  sums = λ r rest w. let p = c.product-total in
      summing_as (summing_added (c.loop-k.invariant.sums r rest w) (omega arith) p.result p.type_inv p.ensures.0 p.ensures.1).1 (omega arith);
}

pub returns : goal.returns
returns c = λ r rest w. summing_done (c.loop-k.invariant.sums r rest w) (omega arith)
