-- The owner numbers, then the numbers of the boundary sides, and then the rings of these stand at the front of the work lists. Assumes nothing.
use Rattle.std.proofs.Common.{arith, ◌≡◌, ◌≤◌, ◌<◌, ◌∙◌, List, [], ℕ, map, length, take, drop, sym, ap, subst}
use mathlib.Core.List.{◌++◌}
use mathlib.Core.Path.{ap₂}
use lib.ListN.{length-map, length-append, length-take}
use lib.Seq.{length-take-le, take-append-le}
use Rattle.whole.specs.Sums.{All}
use Rattle.lent.specs.Stages.{value}
use Rattle.owners_marks.specs.Sets.{owners_of}
use Rattle.repair_regions.specs.Spreading.{Paired}
use Rattle.repair.specs.Ways.{repaired_by}
use Rattle.repair_longest.specs.Held.{lengths_held}
use Rattle.repair_sides.specs.Numbered.{boundary_numbers}
use Rattle.repair_sides.proofs.Laying.{bounding_below}
use Rattle.repair_follower.specs.Follower.{follower}
use Rattle.repair_ring_walk.specs.Walk.{ring_numbers, RingsDown}
use Rattle.repair_answers.proofs.After.{repaired_to, as_many, front, sides_laid}
use Rattle.sheet_ring_bytes.specs.Held.{polygon_rings}
use Rattle.sheet_ring_bytes.proofs.Standing.{standing, standing_none, standing_ended}
use Rattle.sheet_ring_bytes.proofs.found.Goals as goal
use Rattle.sheet_ring_bytes.proofs.found.Goals.{After-rings-r}

-- The k numbers of the boundary sides, laid down by the owner numbers of repair; the lists have room for as many.
record Laid (opposite owners left order ends : List ℕ) (polygon k n : ℕ) : Type 0 where
  many : length owners ≡ n
  within : k ≤ length left
  sides : take k left ≡ boundary_numbers opposite owners polygon
  few : k ≤ 3072
  order_room : k ≤ length order
  ends_room : k ≤ length ends

laid : {opposite owners left order ends : List ℕ} {polygon k n : ℕ} → Paired opposite n → n ≤ 1024 → length owners ≡ n → (k ≤ length left) × (take k left ≡ boundary_numbers opposite owners polygon)
    → length left ≡ length opposite → length order ≡ 3072 → length ends ≡ 3072 → Laid opposite owners left order ends polygon k n
laid pairs small m (h, e) l o n =
    record { many = m; within = h; sides = e; few = omega (arith, pairs.sides); order_room = omega (arith, pairs.sides); ends_room = omega (arith, pairs.sides) }

module _ {opposite owners left order ends : List ℕ} {polygon k n : ℕ} (l : Laid opposite owners left order ends polygon k n) where
  sides_front : (rest : List ℕ) → take k (left ++ rest) ≡ boundary_numbers opposite owners polygon
  sides_front rest = take-append-le k left rest l.within ∙ l.sides

  sides_many : (rest : List ℕ) → length (take k (left ++ rest)) ≡ k
  sides_many rest = length-take-le k (left ++ rest) (omega (arith, length-append left rest, l.within))

  -- The rings of these.
  rings_down : (rest restOwners : List ℕ) {after endsAfter : List ℕ} {r : ℕ}
      → RingsDown (ring_numbers (length (take k (left ++ rest))) (follower opposite (take n (owners ++ restOwners)) polygon) [] (take k (left ++ rest))) (take k order) (take k ends) r after endsAfter
      → RingsDown (polygon_rings opposite owners polygon) (take k order) (take k ends) r after endsAfter
  rings_down rest restOwners {after} {endsAfter} {r} e =
      subst (λ m. RingsDown m (take k order) (take k ends) r after endsAfter)
      (ap₂ (λ l o. ring_numbers (length l) (follower opposite o polygon) [] l) (sides_front rest) (front owners restOwners n l.many)) e

pub rings-r-requires : goal.rings-r-requires
rings-r-requires c =
    let a = c.args in
    let n = length a.sets.now in
    let owners = c.repair.new.owners in
    let p = c.requires in
    let many : length owners ≡ n = as_many c.repair.ensures c.in_ok-repair.was ∙ length-map a.sets.now owners_of in
    let fits : length a.opposite.now ≤ 3072 = omega (arith, p.0.sides, p.1) in
    let l = laid {order = a.order.now} {ends = a.ends.now} p.0 p.1 many (sides_laid a.opposite.now owners _ a.polygon n many c.boundary-k.ensures) (c.boundary-k.auto.sides ∙ length-take-le _ _ fits) p.3 p.4 in
    let long = ap length (front owners _ n many) ∙ many in (
      subst (Paired a.opposite.now) (sym long) p.0,
      omega (arith, long, p.1),
      subst (All (λ k. k < length a.opposite.now)) (sym (sides_front l _)) (bounding_below a.opposite.now owners a.polygon),
      length-take-le _ _ l.order_room ∙ sym (sides_many l _),
      length-take-le _ _ l.ends_room ∙ sym (sides_many l _),
    )

down : (c : After-rings-r) → let a = c.args in let k = c.boundary-k.result in
    RingsDown (polygon_rings a.opposite.now c.repair.new.owners a.polygon) (take k a.order.now) (take k a.ends.now) c.rings-r.result c.rings-r.new.order c.rings-r.new.ends
down c =
    let a = c.args in
    let n = length a.sets.now in
    let owners = c.repair.new.owners in
    let p = c.requires in
    let many : length owners ≡ n = as_many c.repair.ensures c.in_ok-repair.was ∙ length-map a.sets.now owners_of in
    let fits : length a.opposite.now ≤ 3072 = omega (arith, p.0.sides, p.1) in
    let l = laid {order = a.order.now} {ends = a.ends.now} p.0 p.1 many (sides_laid a.opposite.now owners _ a.polygon n many c.boundary-k.ensures) (c.boundary-k.auto.sides ∙ length-take-le _ _ fits) p.3 p.4 in
    rings_down l _ _ c.rings-r.ensures

repaired : (c : After-rings-r) → repaired_by c.args.way (lengths_held c.args.numbers.now (length c.args.opposite.now)) c.args.opposite.now (map owners_of c.args.sets.now) ≡ value c.repair.new.owners
repaired c = repaired_to c.repair.ensures c.in_ok-repair.was

pub returns-then-r-eq0 : goal.returns-then-r-eq0
returns-then-r-eq0 c = let r = (goal.at.returns-then-r-eq0 c).After-rings-r in (c.repair.new.owners, repaired r, standing_none (down r) _ _ c.if-r-eq0.true)

pub offset_bounds-ends-r : goal.offset_bounds-ends-r
offset_bounds-ends-r c =
    let r = (goal.at.offset_bounds-ends-r c).After-rings-r in
    omega (arith, (standing (down r) [] []).ends_room, length-append c.rings-r.new.ends [], c.rings-r.auto.ends, length-take c.boundary-k.result c.args.ends.now, c.requires.4)

pub bounds-ends-r : goal.bounds-ends-r
bounds-ends-r c =
    let r = (goal.at.bounds-ends-r c).After-rings-r in
    omega (arith, (standing (down r) [] (drop c.boundary-k.result c.args.ends.now)).ends_room, c.if-r-eq0.false)

pub returns : goal.returns
returns c = let r = (goal.at.returns c).After-rings-r in (c.repair.new.owners, repaired r, standing_ended (down r) _ _ (omega (arith, c.if-r-eq0.false)))
