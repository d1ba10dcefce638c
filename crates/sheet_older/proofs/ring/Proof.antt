-- `sheet_older::ring` meets its contract: the sum is the ring's double area, whichever ring stands at the place. Assumes nothing.
use mathlib.Core.Path.{◌≡◌, sym, ◌∙◌}
use mathlib.Core.List.{List}
use Prim.Native.Nat.{◌+◌, ◌≤◌, ◌<◌}
use native.Mathlib.Omega.{arith}
use lib.IntN.{ℤ}
use lib.ListN.{length, get_or}
use mir.Syntax.{w64}
use mir.Val.{to_z, of_z}
use Rattle.whole.proofs.Bound.{returned}
use Rattle.plane.specs.Members.{Ring}
use Rattle.plane_rings.specs.Rings.{ring_area}
use Rattle.sheet_form.specs.Numbers.{point_numbers}
use Rattle.sheet_sums.specs.Standing.{RingAt}
use Rattle.sheet_older.proofs.Places.{place_count}
use Rattle.sheet_older.proofs.Ways.{ring_at, way_turned, way_stays}
use borrow.Author.Rules.{rules}
use Rattle.sheet_older.proofs.ring.Statement.{statement}
use Rattle.sheet_older.proofs.ring.Tie as tie

-- ---- places
abbrev start : tie.After-wrong_way → tie.Start
start c = c.before.before.before

-- ---- what stands there
-- The count of the ring's points.
count : (c : tie.Start) → let a = c.args in
    (a.at < length a.numbers.now) × (get_or a.numbers.now a.at 0 ≡ length c.requires.thing + 10_000_000) × (length c.requires.thing ≤ 4096)
count c = let w = place_count point_numbers c.requires in (w.0, w.1, c.requires.fits.high)

sum_requires : tie.Need-sum-area-requires
sum_requires c κs = let p = c.requires in (p.thing, p.rest, ring_at p.thing p.rest p.held p.fits p.stands)

-- What was summed up is the double area of whichever ring stands there.
area : (c : tie.After-wrong_way) → let a = (start c).args in (r : Ring) (rest : List ℤ) → RingAt a.numbers.now a.at r rest → to_z w64 (of_z w64 c.sum-area.result) ≡ ring_area r
area c r rest w = returned c.sum-area.result c.sum-area.type_inv ∙ (c.sum-area.ensures r rest w).0

returns : tie.Need-returns-then-wrong_way
returns c =
    let w = c.before.before.before.before.before in
    let s = start w in
    way_turned s.args.first s.requires.held (area w) (sym w.wrong_way.ensures ∙ c.if-wrong_way.true) c.turn_round.ensures

returns_2 : tie.Need-returns
returns_2 c =
    let w = c.before.before in
    let s = start w in
    way_stays s.args.first s.requires.held (area w) (sym w.wrong_way.ensures ∙ c.if-wrong_way.false)

pub ring_spec : {M : Type 1} → statement M
ring_spec =
    tie.close
    (tie.spec
    sum_requires
    (λ c κs. search rules)
    (λ c κs. search rules)
    (λ c. search rules)
    returns
    (λ c. omega (arith, count (start c.before)))
    (λ c. omega (arith, count (start c.before)))
    (λ c. omega (arith, count (start c.before.before)))
    (λ c. omega (arith, count (start c.before.before)))
    (λ c. omega (arith, count (start c.before.before)))
    (λ c. omega (arith, count (start c.before.before)))
    (λ c. omega (arith, count (start c.before.before)))
    (λ c. search rules)
    returns_2)
