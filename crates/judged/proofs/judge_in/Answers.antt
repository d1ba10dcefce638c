-- `judged::judge_in` meets its contract: the table is checked, then the envelope is compared with its frame, then an index that is lent with
-- the table's own, and then the polygons are judged. Assumes nothing.
use Rattle.std.proofs.Common.{◌≡◌, refl, sym, ◌∙◌, ap, subst, Bool, true, false, List, Ok, ℕ, ◌*◌, ◌≤◌, length, arith}
use mathlib.Core.Logic.{inl, inr}
use Rattle.std.proofs.lemmas.Result.{err_from_is_err_and}
use lib.Seq.{length-take-le}
use Rattle.plane.specs.Boundaries.{sides_of}
use Rattle.lent.specs.declared.Reason.TheVariants.{OtherFrame, OtherIndex}
use Rattle.lent.specs.Stages.{value}
use Rattle.table.specs.Table.{frame_edges, RuleA}
use Rattle.table.specs.Sides.{triangles_of}
use Rattle.table.specs.Opposites.{opposites}
use Rattle.table.proofs.Rules.{passes}
use Rattle.table_neighbours.specs.Neighbours.{lent_if}
use Rattle.sheet_form.specs.Numbers.{Sheet, members}
use Rattle.sheet_modes.specs.Modes.{framed}
use Rattle.sheet_modes.specs.Held.{around_of}
use Rattle.judged_table.specs.Checked.{TableChecked}
use Rattle.judged_sets.specs.Owning.{OneEach}
use Rattle.judged.specs.Judged.{check_framed}
use Rattle.judged.proofs.Stages.{checked, framed_value, framed_refused}
use Rattle.judged.proofs.Judging.{agreed, table_refused, index_refused, polygons_judged}
use Rattle.judged.proofs.judge_in.Goals as goal

-- ---- the table has passed
module _ {n : Sheet} {keys ordered index opposite : List ℕ} {k : ℕ} (t : TableChecked n keys ordered index opposite (Ok k)) where
  passed : checked n ≡ value tt
  passed = sym t.is

  rule_a : RuleA (triangles_of keys)
  rule_a = subst RuleA (sym t.laid) ((passes (frame_edges n.table) n.table).0 passed).0

  room : k ≤ length ordered
  room = (t.indexed k refl).0

  -- The reverses of the table's sides.
  crossed : opposite ≡ opposites (sides_of n.table)
  crossed = (t.indexed k refl).1.opposite_is ∙ ap (λ t. opposites (sides_of t)) t.laid

-- As many corners as the sheet's table has.
corners : {t k s : ℕ} → k ≡ 3 * s → t ≡ s → 3 * t ≡ k
corners e q = omega arith

pub check-requires : goal.check-requires
check-requires c =
    let p = c.requires.0 in
    let l = c.requires.1 in
    ((members, p.0, p.1, corners l.keys p.2), record { keys = refl; ordered = l.ordered ∙ sym l.keys; index = l.index ∙ sym l.keys; opposite = l.opposite ∙ sym l.keys })

pub returns-in_err-k : goal.returns-in_err-k
returns-in_err-k c = λ n held e.
    let x = err_from_is_err_and c.from_residual.result c.from_residual.ensures.1 in
    let f = framed (around_of c.args.around) n in
    rw (x.1, x.2) (table_refused (lent_if c.args.indexed c.args.lent.now) f n c.in_err-k.field-0.0 _ _ (sym ((framed_refused f n _ _).1 (inl (sym (c.in_err-k.ensures members n held (corners c.requires.1.keys e)).is)))))

pub framed-requires : goal.framed-requires
framed-requires c = let p = c.requires.0 in (members, p.0, p.1)

pub returns-then-not-framed : goal.returns-then-not-framed
returns-then-not-framed c = λ n held e.
    let t = c.in_ok-k.ensures members n held (corners c.requires.1.keys e) in
    let f = framed (around_of c.args.around) n in
    table_refused (lent_if c.args.indexed c.args.lent.now) f n (record { reason = OtherFrame; item = 0 }) _ _ (sym ((framed_refused f n 52 0).1 (inr (passed t, sym (c.framed.ensures members n held) ∙ c.if-not-framed.true, refl, refl))))

-- Where the envelope is the frame, or there is none, the check has passed.
whole_passed : {whole b : Bool} (n : Sheet) → checked n ≡ value tt → b ≡ whole → b ≡ true → value tt ≡ check_framed whole n
whole_passed {whole} {b} n p e t = sym ((framed_value whole n).1 (p, sym e ∙ t))

pub agrees-requires : goal.agrees-requires
agrees-requires c = let p = c.requires.0 in omega (arith, c.check.auto.opposite, c.requires.1.opposite, p.1.few, p.2)

pub returns-then-not-agrees : goal.returns-then-not-agrees
returns-then-not-agrees c = λ n held e.
    let a = c.args in
    let t = c.in_ok-k.ensures members n held (corners c.requires.1.keys e) in
    index_refused (lent_if a.indexed a.lent.now) (framed (around_of a.around) n) n (record { reason = OtherIndex; item = 0 }) _ _ (whole_passed n (passed t) (c.framed.ensures members n held) c.if-not-framed.false)
    (sym (agreed a.indexed a.lent.now n.table c.check.new.opposite (crossed t) false (sym c.agrees.ensures ∙ c.if-not-agrees.true)))

pub slice_bounds-judge_all-end : goal.slice_bounds-judge_all-end
slice_bounds-judge_all-end c = let p = c.requires.0 in room (c.in_ok-k.ensures members p.0 p.1 (corners c.requires.1.keys p.2))

pub slice_bounds-judge_all-end-2 : goal.slice_bounds-judge_all-end-2
slice_bounds-judge_all-end-2 c = let p = c.requires.0 in sym (length-take-le _ _ (room (c.in_ok-k.ensures members p.0 p.1 (corners c.requires.1.keys p.2))))

pub judge_all-requires : goal.judge_all-requires
judge_all-requires c =
    let p = c.requires.0 in
    let t = c.in_ok-k.ensures members p.0 p.1 (corners c.requires.1.keys p.2) in
    let many = ap length t.laid in
    ((c.check.new.keys, (t.indexed c.in_ok-k.k refl).1, rule_a t, sym (many ∙ p.2), omega (arith, many, p.1.few)), (p.0, p.1, p.2))

pub returns : goal.returns
returns c = λ n held e.
    let a = c.args in
    let t = c.in_ok-k.ensures members n held (corners c.requires.1.keys e) in
    let j = c.judge_all in
    polygons_judged (lent_if a.indexed a.lent.now) (framed (around_of a.around) n) n j.result _ _ (whole_passed n (passed t) (c.framed.ensures members n held) c.if-not-framed.false)
    (sym (agreed a.indexed a.lent.now n.table c.check.new.opposite (crossed t) true (sym c.agrees.ensures ∙ c.if-not-agrees.false)))
    (j.ensures.1 c.check.new.keys n (t.indexed c.in_ok-k.k refl).1 (rule_a t) held t.laid (sym (ap length t.laid ∙ e))) (subst (OneEach j.result) (sym e) j.ensures.0)
    (c.check.auto.opposite ∙ c.requires.1.opposite ∙ ap (λ t. 3 * t) (sym e)) (crossed t)
