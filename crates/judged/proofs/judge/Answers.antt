-- `judged::judge` meets its contract: the first number tells how long the fronts of the lent lists are. Assumes nothing.
use Rattle.std.proofs.Common.{◌≡◌, sym, ◌∙◌, ap, List, ℕ, ◌+◌, ◌-◌, ◌*◌, ◌/◌, ◌≤◌, min, length, get_or, take, drop, arith}
use lib.Seq.{length-take-le}
use Rattle.table_neighbours.specs.Neighbours.{lent_if}
use Rattle.sheet_modes.specs.Modes.{framed}
use Rattle.sheet_modes.specs.Held.{around_of}
use Rattle.sheet_form.specs.Numbers.{Sheet, members, counted, member_numbers}
use Rattle.sheet.specs.Held.{SheetHeld}
use Rattle.sheet_edges.proofs.Triangles.{table_room}
use Rattle.judged_sets.proofs.Standing.{first_count}
use Rattle.judged.proofs.Judging.{on_fronts}
use Rattle.judged.proofs.judge.Goals as goal

module _ {n : Sheet} {numbers : List ℕ} (held : SheetHeld members n numbers) where
  -- The number of triangles, off the first number.
  many : get_or numbers 0 0 - 10_000_000 ≡ length n.table
  many = omega (arith, (first_count n numbers held).1)

  -- Six numbers stand for each triangle.
  paid : 1 + 6 * length n.table ≤ length numbers
  paid = let r = table_room numbers n.table (counted member_numbers n.polygons) held.is in omega arith

  -- The lent lists have room for the table, and their fronts are as long as it asks.
  opposite_room : (l : List ℕ) → min 3072 (length numbers / 2) ≤ length l → 3 * (get_or numbers 0 0 - 10_000_000) ≤ length l
  opposite_room l h = omega (arith, many, held.few, paid)

  sets_room : (l : List ℕ) → min 1024 (length numbers / 6) ≤ length l → get_or numbers 0 0 - 10_000_000 ≤ length l
  sets_room l h = omega (arith, many, held.few, paid)

  opposite_front : (l : List ℕ) → min 3072 (length numbers / 2) ≤ length l → length (take (3 * (get_or numbers 0 0 - 10_000_000)) l) ≡ 3 * (get_or numbers 0 0 - 10_000_000)
  opposite_front l h = length-take-le (3 * (get_or numbers 0 0 - 10_000_000)) l (opposite_room l h)

  sets_front : (l : List ℕ) → min 1024 (length numbers / 6) ≤ length l → length (take (get_or numbers 0 0 - 10_000_000) l) ≡ get_or numbers 0 0 - 10_000_000
  sets_front l h = length-take-le (get_or numbers 0 0 - 10_000_000) l (sets_room l h)

pub slice_bounds-judge_over-end : goal.slice_bounds-judge_over-end
slice_bounds-judge_over-end c = let p = c.requires in opposite_room p.0.1 c.args.opposite.now p.1

pub slice_bounds-judge_over-end-2 : goal.slice_bounds-judge_over-end-2
slice_bounds-judge_over-end-2 c = let p = c.requires in sym (opposite_front p.0.1 c.args.opposite.now p.1)

pub slice_bounds-judge_over-end-3 : goal.slice_bounds-judge_over-end-3
slice_bounds-judge_over-end-3 c = let p = c.requires in sets_room p.0.1 c.args.sets.now p.2

pub slice_bounds-judge_over-end-4 : goal.slice_bounds-judge_over-end-4
slice_bounds-judge_over-end-4 c = let p = c.requires in sym (sets_front p.0.1 c.args.sets.now p.2)

pub judge_over-requires : goal.judge_over-requires
judge_over-requires c =
    let p = c.requires in
    let s = sets_front p.0.1 c.args.sets.now p.2 in
    ((p.0.0, p.0.1, sym (s ∙ many p.0.1)), opposite_front p.0.1 c.args.opposite.now p.1 ∙ ap (λ t. 3 * t) (sym s))

pub returns : goal.returns
returns c = λ n held.
    let a = c.args in
    let p = c.requires in
    let j = c.judge_over in
    let m = many held in
    let s = sets_front p.0.1 a.sets.now p.2 in
    on_fronts (lent_if a.indexed a.lent.now) (framed (around_of a.around) n) n j.result _ _ (drop (3 * (get_or a.numbers.now 0 0 - 10_000_000)) a.opposite.now) (drop (get_or a.numbers.now 0 0 - 10_000_000) a.sets.now)
    (j.ensures n held (sym (s ∙ m))) (j.auto.opposite ∙ opposite_front p.0.1 a.opposite.now p.1 ∙ ap (λ t. 3 * t) m) (j.auto.sets ∙ s ∙ m)
