-- The double areas of the first polygons are laid down, and the next polygon stands here.
use Rattle.std.proofs.Common.{◌≡◌, ℕ, length, take}
use Rattle.sheet_form.specs.Numbers.{Sheet}
use Rattle.sheet.specs.Held.{SheetHeld}
use Rattle.sheet_turned.specs.Rings.{RingsFit}
use Rattle.sheet_areas.proofs.Sheets.{Laying}
use Rattle.sheet_areas.proofs.areas.Given as goal

abbrev pub invariant-loop-area : goal.invariant-loop-area
invariant-loop-area l =
    (limit : ℕ) (n : Sheet) (size : ℕ) → SheetHeld limit n (take size l.numbers) → RingsFit n → length n.polygons ≡ length l.fn.areas → Laying n size l.numbers l.areas l.here l.area-index
