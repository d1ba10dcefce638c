-- The sheet without its polygons is refused as the sheet is before them, and else the reverses of its sides are those of its table.
use mathlib.Core.Path.{◌≡◌, refl, sym, ◌∙◌, ap, subst}
use mathlib.Core.Logic.{inl, inr}
use mathlib.Core.Bool.{Bool}
use mathlib.Core.List.{List, []}
use mathlib.Core.Option.{Option, none, some}
use Prim.Native.Nat.{ℕ, ◌+◌, ◌-◌, ◌*◌, ◌≤◌, ◌<◌}
use native.Mathlib.Omega.{arith}
use lib.ListN.{length, get_or, take, set, length-set}
use lib.Seq.{length-take-le}
use Rattle.std.specs.Prelude.{Ok, Err}
use Rattle.std.proofs.lemmas.Result.{err_from_is_err_and}
use Rattle.lent.specs.Stages.{Answer}
use Rattle.lent.specs.Answered.{Answered}
use Rattle.lent.specs.Told.{number_of}
use Rattle.lent.proofs.Stages.{value_refused, chain_value, chain_refused}
use Rattle.lent.proofs.Answered.{answered_refusal}
use Rattle.sheet_form.specs.Numbers.{Sheet, members}
use Rattle.sheet.specs.Held.{SheetHeld}
use Rattle.sheet_blob.specs.declared.Opened.{Opened}
use Rattle.sheet_modes.specs.Modes.{framed}
use Rattle.sheet_modes.specs.Held.{around_of}
use Rattle.judged_sets.specs.Owning.{held_sets}
use Rattle.judged_sets.proofs.Standing.{first_count}
use Rattle.judged.specs.Judged.{check_framed}
use Rattle.judged.specs.Judging.{OwnedOf}
use Rattle.outcomes.proofs.Index.{index_refused, index_told}
use Rattle.sheets_index.proofs.Bare.{bare, there, bare_held}
use Rattle.sheets_index.proofs.index_of.Goals as goal

-- A held sheet: the number of triangles off the first number, at most 1,024, and the sheet without its polygons at the front.
module _ {numbers : List ℕ} (n : Sheet) (h : SheetHeld members n numbers) where
  abbrev many : ℕ
  many = get_or numbers 0 0 - 10000000

  first : (0 < length numbers) × (get_or numbers 0 0 ≡ length n.table + 10000000) × (many ≤ 1024) × (1 + 6 * many < length numbers) × (2 + 6 * many ≤ length (set numbers (1 + 6 * many) 10000000))
  first =
      let f = first_count n numbers h in
      let t = there n numbers h in
      (f.0, f.1, omega (arith, h.few), omega arith, omega (arith, length-set numbers (1 + 6 * many) 10000000))

  standing : SheetHeld members (bare n) (take (2 + 6 * many) (set numbers (1 + 6 * many) 10000000))
  standing =
      let e : length n.table ≡ many = omega (arith, (first_count n numbers h).1) in
      subst (λ t. SheetHeld members (bare n) (take (2 + 6 * t) (set numbers (1 + 6 * t) 10000000))) e (bare_held n numbers h)

-- The envelope is compared with the frame of the table alone.
same_frame : (o : Option Opened) (n : Sheet) → framed o n ≡ framed o (bare n)
same_frame none n = refl
same_frame (some r) n = refl

abbrev none_left : Sheet → Unit {0} → Answer (List ℕ)
none_left n u = held_sets n.table []

pub bounds-numbers-0 : goal.bounds-numbers-0
bounds-numbers-0 c = (first c.requires.0 c.requires.1).0

pub bounds-numbers-t : goal.bounds-numbers-t
bounds-numbers-t c = (first c.requires.0 c.requires.1).3

pub slice_bounds-judge-end : goal.slice_bounds-judge-end
slice_bounds-judge-end c = (first c.requires.0 c.requires.1).4

pub slice_bounds-judge-end-2 : goal.slice_bounds-judge-end-2
slice_bounds-judge-end-2 c = sym (length-take-le _ _ (first c.requires.0 c.requires.1).4)

pub overflow_mul-opposite : goal.overflow_mul-opposite
overflow_mul-opposite c = let t = c.in_ok-n.ensures (bare c.requires.0) (standing c.requires.0 c.requires.1) in omega (arith, t.each, c.requires.1.few)

pub slice_bounds-opposite-end : goal.slice_bounds-opposite-end
slice_bounds-opposite-end c = let t = c.in_ok-n.ensures (bare c.requires.0) (standing c.requires.0 c.requires.1) in omega (arith, t.each, c.requires.1.few, c.judge.auto.opposite)

pub slice_bounds-write-end : goal.slice_bounds-write-end
slice_bounds-write-end c =
    let t = c.in_ok-n.ensures (bare c.requires.0) (standing c.requires.0 c.requires.1) in
    sym (length-take-le _ _ (omega (arith, t.each, c.requires.1.few, c.judge.auto.opposite)))

pub judge-requires : goal.judge-requires
judge-requires c = let (n, h) = c.requires in ((bare n, standing n h), omega arith, omega arith)

pub returns-in_err-n : goal.returns-in_err-n
returns-in_err-n c = λ n h.
    let a = c.args in
    let f = framed (around_of a.around) n in
    let w = subst (λ b. OwnedOf none b (bare n) (Err c.in_err-n.field-0.0) c.judge.new.opposite c.judge.new.sets) (sym (same_frame (around_of a.around) n)) (c.in_err-n.ensures (bare n) (standing n h)) in
    let p = err_from_is_err_and c.from_residual.result c.from_residual.ensures.1 in
    rw (p.1, p.2) (answered_refusal _ a.out.now _ _
    (index_refused f n _ _ (elim ((chain_refused (check_framed f (bare n)) (none_left n) _ _).0 (sym w.is)) [ inl p ↦ p | inr (u, p, q) ↦ absurd (value_refused _ _ _ q) ])))

pub returns : goal.returns
returns c = λ n h.
    let a = c.args in
    let f = framed (around_of a.around) n in
    let t = subst (λ b. OwnedOf none b (bare n) (Ok c.in_ok-n.n) c.judge.new.opposite c.judge.new.sets) (sym (same_frame (around_of a.around) n)) (c.in_ok-n.ensures (bare n) (standing n h)) in
    let (u, p, q) = (chain_value (check_framed f (bare n)) (none_left n) (take c.in_ok-n.n c.judge.new.sets)).0 (sym t.is) in
    subst (λ z. Answered z a.out.now (number_of c.write.result) c.write.new.out) (index_told f n _ p t.crossed) c.write.ensures
