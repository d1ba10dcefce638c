-- The owner numbers, and then the numbers of the boundary sides, stand at the front of the work lists. Assumes nothing.
use Rattle.std.proofs.Common.{arith, ◌≡◌, ◌≤◌, ◌∙◌, ◌*◌, List, ℕ, length, take, sym, ap, subst}
use mathlib.Core.List.{flat_map, ◌++◌}
use lib.ListN.{length-map}
use lib.Seq.{length-take-le, take-append-le}
use Rattle.whole.specs.Sums.{All}
use Rattle.owners_marks.specs.Sets.{owners_of}
use Rattle.repair_sides.specs.Numbered.{boundary_numbers}
use Rattle.lent.proofs.Answered.{answered_short}
use Rattle.lent_little.specs.Held.{side_held, SideIn}
use Rattle.lent_little.proofs.Bytes.{side_length, all_length}
use Rattle.repair_answers.specs.Held.{sides_held}
use Rattle.repair_answers.proofs.After.{goes_on, as_many, sides_laid, sides_in}
use Rattle.repair_side_bytes.proofs.boundary.Goals as goal

-- The sides that are answered, and how many bytes they have.
module _ (numbers opposite owners : List ℕ) (polygon k : ℕ) (left : List ℕ) (laid : (k ≤ length left) × (take k left ≡ boundary_numbers opposite owners polygon)) where
  abbrev sides : List ℕ
  sides = boundary_numbers opposite owners polygon

  count : length sides ≡ k
  count = ap length (sym laid.1) ∙ length-take-le k left laid.0

  long : length (flat_map (side_held numbers) sides) ≡ 16 * k
  long = all_length 16 (side_held numbers) (side_length numbers) sides ∙ ap (λ m. 16 * m) count

  at_front : (rest : List ℕ) → take k (left ++ rest) ≡ sides
  at_front rest = take-append-le k left rest laid.0 ∙ laid.1

pub returns-then-out-k : goal.returns-then-out-k
returns-then-out-k c =
    let a = c.args in
    let owners = c.repair.new.owners in
    let e = c.repair.ensures in
    let many : length owners ≡ length a.sets.now = as_many e c.in_ok-repair.was ∙ length-map a.sets.now owners_of in
    let laid = sides_laid a.opposite.now owners _ a.polygon (length a.sets.now) many c.boundary-k.ensures in
    answered_short _ _ (length (boundary_numbers a.opposite.now owners a.polygon)) _ (goes_on e c.in_ok-repair.was (λ l. sides_held a.numbers.now (boundary_numbers a.opposite.now l a.polygon)))
    (omega (arith, long a.numbers.now a.opposite.now owners a.polygon c.boundary-k.result c.boundary-k.new.sides laid))

pub write_sides-requires : goal.write_sides-requires
write_sides-requires c =
    let a = c.args in
    let owners = c.repair.new.owners in
    let many : length owners ≡ length a.sets.now = as_many c.repair.ensures c.in_ok-repair.was ∙ length-map a.sets.now owners_of in
    let laid = sides_laid a.opposite.now owners _ a.polygon (length a.sets.now) many c.boundary-k.ensures in
    let at = at_front a.numbers.now a.opposite.now owners a.polygon _ _ laid in (
      subst (All (SideIn a.numbers.now)) (sym (at _)) (sides_in a.numbers.now a.opposite.now owners a.polygon (length a.sets.now) c.requires.0 c.requires.2.room),
      subst (λ l. 16 * length l ≤ length a.out.now) (sym (at _)) (omega (arith, count a.numbers.now a.opposite.now owners a.polygon _ _ laid)),
    )
