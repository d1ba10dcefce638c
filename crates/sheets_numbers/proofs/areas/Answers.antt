-- The sheet that was read stands at the front of the work array as it is held, and the double areas of its polygons, one for each, at the front of another; the envelope
-- around it is compared first.
use Rattle.std.proofs.Common.{◌≡◌, ◌+◌, ◌-◌, ◌*◌, ◌<◌, ◌≤◌, ◌++◌, List, ℕ, map, get_or, length, take, arith, sym, ap, subst, ◌∙◌, w64, of_z}
use Rattle.std.proofs.lemmas.Result.{err_from_is_err_and}
use lib.ListN.{length-append}
use lib.Seq.{length-take-le, take_at}
use Rattle.plane.specs.Members.{Member, double_area}
use Rattle.lent.specs.Answered.{Answered}
use Rattle.lent.specs.Told.{number_of}
use Rattle.lent.proofs.Answered.{answered_refusal}
use Rattle.lent_sets.specs.Sets.{each_outcome}
use Rattle.sheet_form.specs.Numbers.{Sheet, members}
use Rattle.sheet.specs.Held.{SheetHeld}
use Rattle.sheet_areas.proofs.Sheets.{table_count, polygons_count}
use Rattle.sheet_modes.specs.Modes.{header_by, framed}
use Rattle.outcomes.specs.Entries.{areas_outcome, sheet_areas}
use Rattle.outcomes.proofs.Outcomes.{goes_on, unframed, unread, areas_held}
use Rattle.sheets_numbers.proofs.areas.Goals as goal

-- The numbers of triangles and of polygons stand in the numbers.
module _ (n : Sheet) (k : ℕ) (numbers : List ℕ) (h : SheetHeld members n (take k numbers)) where
  abbrev at : ℕ
  at = 1 + 6 * (get_or numbers 0 0 - 10_000_000)

  counts : (get_or numbers 0 0 ≡ length n.table + 10_000_000) × (length n.table ≤ 1024) × (at < length numbers)
      × (get_or numbers at 0 ≡ length n.polygons + 10_000_000) × (length n.polygons ≤ 64)
  counts =
      let t = table_count k numbers h in
      let p = polygons_count k numbers h in
      (t.1, h.few, p.0, p.1, omega (arith, p.2))

pub framed-requires : goal.framed-requires
framed-requires c = let h = c.in_ok-n.ensures.0 in (members, h.0, h.3)

pub returns-then-not-framed : goal.returns-then-not-framed
returns-then-not-framed c =
    let a = c.args in
    let h = c.in_ok-n.ensures.0 in
    let e : c.framed.result ≡ framed (header_by a.mode a.sheet.now) h.0 = c.framed.ensures members h.0 h.3 ∙ ap (λ o. framed o h.0) (sym h.2) in
    answered_refusal _ _ 52 0 (unframed areas_outcome a.mode a.sheet.now h.0 h.1 (sym e ∙ c.if-not-framed.true))

pub returns-in_err-n : goal.returns-in_err-n
returns-in_err-n c =
    let a = c.args in
    let p = err_from_is_err_and c.from_residual.result c.from_residual.ensures.1 in
    rw (p.1, p.2) (answered_refusal _ _ _ _ (unread areas_outcome a.mode a.sheet.now _ _ c.in_err-n.ensures.0.0))

-- How many polygons there are, as it stands in the numbers: at most 64.
few : (n : Sheet) (k : ℕ) (numbers : List ℕ) (h : SheetHeld members n (take k numbers)) → (get_or numbers (at n k numbers h) 0 - 10_000_000 ≤ 64) × (length n.polygons ≡ get_or numbers (at n k numbers h) 0 - 10_000_000)
few n k numbers h = let c = counts n k numbers h in (omega arith, omega arith)

pub overflow_sub-polygons : goal.overflow_sub-polygons
overflow_sub-polygons c = let h = c.in_ok-n.ensures.0 in let t = counts h.0 _ c.read.new.numbers h.3 in omega (arith, t.0)

pub bounds-numbers-numbers : goal.bounds-numbers-numbers
bounds-numbers-numbers c = let h = c.in_ok-n.ensures in let t = counts h.0.0 _ c.read.new.numbers h.0.3 in omega (arith, t.2, h.1)

pub overflow_sub-polygons-2 : goal.overflow_sub-polygons-2
overflow_sub-polygons-2 c = let h = c.in_ok-n.ensures.0 in let t = counts h.0 _ c.read.new.numbers h.3 in omega (arith, t.3)

pub slice_bounds-areas-end-2 : goal.slice_bounds-areas-end-2
slice_bounds-areas-end-2 c = let h = c.in_ok-n.ensures.0 in (few h.0 _ c.read.new.numbers h.3).0

pub slice_bounds-areas-end-3 : goal.slice_bounds-areas-end-3
slice_bounds-areas-end-3 c = let h = c.in_ok-n.ensures.0 in sym (length-take-le _ _ (few h.0 _ c.read.new.numbers h.3).0)

pub areas-requires : goal.areas-requires
areas-requires c =
    let h = c.in_ok-n.ensures.0 in
    let f = few h.0 _ c.read.new.numbers h.3 in
    (members, h.0, c.in_ok-n.n, h.3, h.5, f.1 ∙ sym (length-take-le _ _ f.0))

-- What was laid down stands at the front of the work list.
room : (laid rest : List ℕ) {k : ℕ} → length laid ≡ k → k ≤ length (laid ++ rest)
room laid rest e = omega (arith, length-append laid rest)

pub slice_bounds-areas-end-4 : goal.slice_bounds-areas-end-4
slice_bounds-areas-end-4 c = let h = c.in_ok-n.ensures.0 in room c.areas.new.areas _ (c.areas.auto.areas ∙ length-take-le _ _ (few h.0 _ c.read.new.numbers h.3).0)

pub slice_bounds-each-end : goal.slice_bounds-each-end
slice_bounds-each-end c = let h = c.in_ok-n.ensures.0 in sym (length-take-le _ _ (room c.areas.new.areas _ (c.areas.auto.areas ∙ length-take-le _ _ (few h.0 _ c.read.new.numbers h.3).0)))

pub returns : goal.returns
returns c =
    let a = c.args in
    let h = c.in_ok-n.ensures.0 in
    let f = few h.0 _ c.read.new.numbers h.3 in
    let e : c.framed.result ≡ framed (header_by a.mode a.sheet.now) h.0 = c.framed.ensures members h.0 h.3 ∙ ap (λ o. framed o h.0) (sym h.2) in
    let are = c.areas.ensures members h.0 c.in_ok-n.n h.3 h.5 (f.1 ∙ sym (length-take-le _ _ f.0)) in
    subst (λ o. Answered o a.out.now (number_of c.each.result) c.each.new.out)
    (ap each_outcome (take_at c.areas.new.areas _ _ (c.areas.auto.areas ∙ length-take-le _ _ f.0) ∙ are) ∙ areas_held h.0
    ∙ sym (goes_on areas_outcome a.mode a.sheet.now h.0 h.1 (sym e ∙ c.if-not-framed.false))) c.each.ensures
