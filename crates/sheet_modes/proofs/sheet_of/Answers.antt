-- Of the present edition what was read stands, of the older one its rings are turned where they stand.
use Rattle.std.proofs.Common.{◌≡◌, ℕ, ◌*◌, ◌≤◌, ◌<◌, ◌∙◌, cond, List, length, take, drop, Ok, Err, Fits, w8, get_or, refl, sym, subst, arith, length-append, length-drop}
use Rattle.std.proofs.lemmas.Result.{err_from_is_err_and}
use borrow.Author.Tests.{eqb-false}
use lib.Seq.{length-take-le, take_at}
use Rattle.whole.specs.Sums.{All}
use Rattle.whole.proofs.Sums.{all_from}
use Rattle.lent.specs.declared.Fault.{Fault}
use Rattle.lent.specs.Stages.{value}
use Rattle.sheet_form.specs.Numbers.{Sheet, members}
use Rattle.sheet.specs.Reading.{reading_of}
use Rattle.sheet.specs.Going.{laid, ReadAs}
use Rattle.sheet.specs.Read.{read_sheet}
use Rattle.sheet.specs.Held.{SheetHeld}
use Rattle.sheet.proofs.Fit.{numbers_fit}
use Rattle.sheet.proofs.Paid.{numbers_paid}
use Rattle.sheet_positions.proofs.Exactly.{refused_exactly, within_bytes}
use Rattle.sheet_written.proofs.Held.{read_held}
use Rattle.sheet_turned.specs.Rings.{RingsFit}
use Rattle.sheet_turned.specs.Turned.{turned}
use Rattle.sheet_turned.proofs.Turned.{turned_rings}
use Rattle.sheet_turned.proofs.Trip.{read_rings}
use Rattle.sheet_modes.specs.Modes.{Edition, present, older}
use Rattle.sheet_modes.specs.Held.{Room, EndsAs}
use Rattle.sheet_modes.proofs.Endings.{refusal_is, code_is, room, front}
use Rattle.sheet_modes.proofs.sheet_of.Goals as goal

module _ (s numbers₀ numbers : List ℕ) (long : Room s numbers₀) (laid_over : numbers ≡ laid (reading_of members s).numbers numbers₀) where
  -- A sheet was read: it stands at the front.
  stood : All (λ b. b < 256) s → (k : ℕ) → ReadAs (reading_of members s) (Ok k) → (n : Sheet) × (read_sheet members s ≡ value n) × SheetHeld members n (take k numbers) × (k ≤ length numbers) × RingsFit n × (4 * k ≤ length s)
  stood all k e =
      let (z, m) = e in
      let (n, h, r) = read_held members (omega arith) s all z in
      let few = numbers_fit members s z in
      let paid = numbers_paid members s in
      let fit : length (reading_of members s).numbers ≤ length numbers₀ = omega (arith, long) in
      let f = front numbers (reading_of members s).numbers numbers₀ k laid_over fit m in
      (n, r, subst (SheetHeld members n) (sym f) h, omega (arith, room numbers (reading_of members s).numbers numbers₀ laid_over), read_rings members (omega arith) s all n r, omega arith)

  -- A refusal, of any edition; its position is within the bytes.
  refused : (edition : Edition) (f : Fault) → ReadAs (reading_of members s) (Err f) → EndsAs edition s (Err f) numbers
  refused edition f e =
      let c = code_is members s f e in
      let p = e.2 in
      let w = (refused_exactly members s _ _ _).0 (record { code_is = refl; item_is = refl; position_is = refl }, eqb-false _ 0 c) in
      (refusal_is members s f e, p, c, rw p (within_bytes members s _ _ _ w))

bytes : (s : List ℕ) → ((i : ℕ) → Fits w8 (get_or s i 0)) → All (λ b. b < 256) s
bytes s h = all_from (λ x. x < 256) 0 s (λ i l. (h i).fits)

pub returns-in_err-n : goal.returns-in_err-n
returns-in_err-n c =
    let p = err_from_is_err_and c.from_residual.result c.from_residual.ensures.1 in
    let r = c.in_err-n.ensures in
    rw (p.1, p.2) (refused _ _ _ c.requires r.1 (cond c.args.turns older present) _ r.0, room _ _ _ r.1)

pub slice_bounds-turn-end : goal.slice_bounds-turn-end
slice_bounds-turn-end c = let r = c.in_ok-n.ensures in let w = stood _ _ _ c.requires r.1 (bytes _ c.type_inv.s) _ r.0 in w.3

pub slice_bounds-turn-end-then-turns : goal.slice_bounds-turn-end-then-turns
slice_bounds-turn-end-then-turns c = let r = c.in_ok-n.ensures in let w = stood _ _ _ c.requires r.1 (bytes _ c.type_inv.s) _ r.0 in sym (length-take-le _ _ w.3)

pub turn-requires : goal.turn-requires
turn-requires c = let r = c.in_ok-n.ensures in let (n, e, h, l, f, p) = stood _ _ _ c.requires r.1 (bytes _ c.type_inv.s) _ r.0 in (members, n, h, f)

pub returns-then-turns : goal.returns-then-turns
returns-then-turns c =
    let r = c.in_ok-n.ensures in
    let k = c.in_ok-n.n in
    let (n, e, h, l, f, p) = stood _ _ _ c.requires r.1 (bytes _ c.type_inv.s) _ r.0 in
    let m = c.turn.ensures.1 ∙ length-take-le k c.read.new.numbers l in
    let a = length-append c.turn.new.numbers (drop k c.read.new.numbers) in
    let d = length-drop k c.read.new.numbers in
    let t = c.if-turns.true in (
      (n, e, rw t (subst (SheetHeld members (turned n)) (sym (take_at c.turn.new.numbers _ k m)) (c.turn.ensures.0 members n h f)), omega arith, rw t (turned_rings n f), p),
      omega (arith, room _ _ _ r.1),
    )

pub returns-else-turns : goal.returns-else-turns
returns-else-turns c =
    let r = c.in_ok-n.ensures in
    let t = c.if-turns.false in
    (rw t (stood _ _ _ c.requires r.1 (bytes _ c.type_inv.s) _ r.0), room _ _ _ r.1)
