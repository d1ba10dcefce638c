-- A sheet that is read has its rings within the limits, and written with its rings turned it is read as it was written, in either mode alike. Assumes nothing.
use mathlib.Core.Path.{◌≡◌}
use mathlib.Core.List.{List}
use Prim.Native.Nat.{ℕ, ◌^◌, ◌<◌}
use lib.Dec.{T}
use Rattle.whole.specs.Sums.{All}
use Rattle.lent.specs.Stages.{value}
use Rattle.sheet_form.specs.Numbers.{Sheet}
use Rattle.sheet.specs.Read.{read_sheet}
use Rattle.sheet_written.specs.Fits.{sheet_fits}
use Rattle.sheet_written.specs.Normal.{written}
use Rattle.sheet_written.proofs.Held.{read_sheet_is}
use Rattle.sheet_written.proofs.Trip.{round_trip, read_written}
use Rattle.sheet_turned.specs.Rings.{RingsFit}
use Rattle.sheet_turned.specs.Turned.{turned}
use Rattle.sheet_turned.proofs.Turned.{turned_once}
use Rattle.sheet_turned.proofs.Fits.{fits_rings, members_fit}

-- A sheet within the limits is so with its rings turned.
pub turned_fits : (limit : ℕ) (n : Sheet) → T (sheet_fits limit n) → T (sheet_fits limit (turned n))
turned_fits limit n h = members_fit limit n h

-- ---- with a limit that is a u32, as a count is
module _ (limit : ℕ) (word : limit < 2 ^ 32) where
  module _ (s : List ℕ) (bytes : All (λ b. b < 256) s) (n : Sheet) (read : read_sheet limit s ≡ value n) where
    read_fits : T (sheet_fits limit n)
    read_fits = read_written limit word s bytes n ((read_sheet_is limit s n).0 read)

    -- A sheet that is read has its rings within the limits.
    pub read_rings : RingsFit n
    read_rings = fits_rings limit n read_fits

    -- A sheet that is read is, with its rings turned, within the limits.
    pub read_turned : T (sheet_fits limit (turned n))
    read_turned = turned_fits limit n read_fits

  -- A sheet with its rings turned is read as it was written, and turning its rings once more changes nothing: both modes read that writing alike.
  pub turned_trip : (n : Sheet) → T (sheet_fits limit (turned n)) → (read_sheet limit (written (turned n)) ≡ value (turned n)) × (turned (turned n) ≡ turned n)
  turned_trip n h = ((read_sheet_is limit (written (turned n)) (turned n)).1 (round_trip limit word (turned n) h), turned_once n)
