-- What is got in a mode says of what the position entry tells: the refusal with its position, or the bytes of the numbers, and no position. Assumes nothing.
use mathlib.Core.Path.{◌≡◌, sym, ◌∙◌, ap, ap₂}
use mathlib.Core.Bool.{true, false, cond}
use mathlib.Core.List.{List}
use Prim.Native.Nat.{ℕ, ◌+◌, ◌*◌}
use lib.Dec.{eqb}
use lib.ListN.{length}
use Rattle.lent.specs.Stages.{value, refused}
use Rattle.sheet_form.specs.Numbers.{Sheet, members}
use Rattle.sheet.specs.Held.{SheetHeld}
use Rattle.sheet.specs.Reading.{reading_of}
use Rattle.sheet_written.proofs.Held.{read_sheet_is}
use Rattle.sheet_modes.specs.Modes.{mode_of, header_by, read_by, framed, behind, begins, placed, position_in}
use Rattle.sheet_modes.proofs.Modes.{by_value}
use Rattle.outcomes.specs.Entries.{first_of, form_outcome, with_room, telling, sheet_position}
use Rattle.outcomes.proofs.Outcomes.{goes_on, unframed, unread, numbers_held}

module _ (mode : ℕ) (s : List ℕ) where
  pub position_refused : (code item field : ℕ) → read_by members mode s ≡ refused code item → field ≡ position_in (mode_of mode) s → sheet_position mode s ≡ telling (item * 256 + code) field
  position_refused code item field r p = ap₂ telling (ap with_room (unread (form_outcome (header_by mode s)) mode s code item r)) (sym p)

  module _ (n : Sheet) (r : read_by members mode s ≡ value n) where
    -- A sheet that is read is at fault nowhere.
    pub nowhere : position_in (mode_of mode) s ≡ 0
    nowhere =
        let w = (by_value members s mode n).0 r in
        let o = w.header in
        let t = behind o s in
        let z = ((read_sheet_is members t w.sheet).0 w.read).0 in
        ap (λ a. position_in a s) w.is_mode ∙ ap (placed w.known.form s) w.is_around ∙ ap (λ c. cond (eqb c 0) 0 (begins o + (reading_of members t).position)) z

    pub position_read : (l : List ℕ) → SheetHeld members n l → framed (header_by mode s) n ≡ true → sheet_position mode s ≡ telling ((length (first_of (header_by mode s)) + 4 * length l) * 256) 0
    position_read l h e = ap₂ telling (ap with_room (goes_on (form_outcome (header_by mode s)) mode s n r e ∙ numbers_held (header_by mode s) n l h)) nowhere

    pub position_unframed : framed (header_by mode s) n ≡ false → sheet_position mode s ≡ telling 52 0
    position_unframed e = ap₂ telling (ap with_room (unframed (form_outcome (header_by mode s)) mode s n r e)) nowhere
