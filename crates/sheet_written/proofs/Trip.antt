-- Writing and reading. The idea: the normal tree of a sheet within the limits is within the limits and unfolds to the sheet, so reading its
-- encoding answers the sheet (reads-the-standard); reading answers one sheet at most, as the numbers form tells the sheet. Assumes nothing.
use mathlib.Core.Path.{◌≡◌, refl, sym, ◌∙◌, ap, subst}
use mathlib.Core.List.{List, map}
use Prim.Native.Nat.{ℕ, ◌+◌, ◌^◌, ◌≤◌, ◌<◌}
use native.Mathlib.Omega.{arith}
use lib.Dec.{T}
use lib.ListN.{length, length-map}
use Rattle.whole.specs.Sums.{All}
use Rattle.plane.specs.Corners.{millimetres}
use Rattle.wkb.specs.Standard.{Geometry, encode}
use Rattle.sheet_form.specs.Numbers.{Sheet, numbers_of}
use Rattle.sheet.specs.Reading.{reading_of}
use Rattle.sheet.proofs.Fit.{numbers_fit}
use Rattle.sheet_standard.specs.Limits.{sheet_of, SheetFits}
use Rattle.sheet_standard.proofs.NumbersForm.{numbers_of-injective}
use Rattle.sheet_standard.proofs.Standard.{Reads, reads_the_standard}
use Rattle.sheet_written.specs.Fits.{sheet_fits}
use Rattle.sheet_written.specs.Normal.{normal, written}
use Rattle.sheet_written.proofs.Encoded.{encode_bytes}
use Rattle.sheet_written.proofs.Normal.{normal_fits, normal_sheet}
use Rattle.sheet_written.proofs.Read.{read_fits}

-- What is written is bytes.
pub written_bytes : (n : Sheet) → All (λ b. b < 256) (written n)
written_bytes n = encode_bytes (normal n)

-- Written bytes are one of the standard's encodings of the sheet.
pub written_standard : (limit : ℕ) (n : Sheet) → T (sheet_fits limit n) → (g : Geometry) × SheetFits limit g × (encode g ≡ written n) × (sheet_of g ≡ n)
written_standard limit n h = (normal n, normal_fits limit n h, refl, normal_sheet limit n h)

-- Bytes read as one sheet at most.
pub reads_one : (limit : ℕ) (s : List ℕ) (m n : Sheet) → Reads limit s m → Reads limit s n → m ≡ n
reads_one limit s m n p q = numbers_of-injective m n (sym p.1 ∙ q.1)

-- Bytes that read as the same numbers are written as the same bytes.
pub equal_bytes : (limit : ℕ) (s t : List ℕ) (m n : Sheet) → Reads limit s m → Reads limit t n → (reading_of limit s).numbers ≡ (reading_of limit t).numbers → written m ≡ written n
equal_bytes limit s t m n p q e = ap written (numbers_of-injective m n (sym p.1 ∙ ap (map millimetres) e ∙ q.1))

-- ---- with a limit that is a u32, as a count is
module _ (limit : ℕ) (word : limit < 2 ^ 32) where
  -- Reading the written bytes of any sheet within the limits answers the sheet.
  pub round_trip : (n : Sheet) → T (sheet_fits limit n) → Reads limit (written n) n
  round_trip n h = (reads_the_standard limit word (written n) (written_bytes n) n).1 (written_standard limit n h)

  -- Whatever is read is within the limits, so that it can be written.
  pub read_written : (s : List ℕ) → All (λ b. b < 256) s → (n : Sheet) → Reads limit s n → T (sheet_fits limit n)
  read_written s bytes n r =
      let g = (reads_the_standard limit word s bytes n).0 r in
      subst (λ m. T (sheet_fits limit m)) g.3 (read_fits limit g.0 g.1)

  -- Writing what was read from written bytes changes nothing.
  pub fixed_point : (n : Sheet) → T (sheet_fits limit n) → (m : Sheet) → Reads limit (written n) m → written m ≡ written n
  fixed_point n h m r = ap written (reads_one limit (written n) m n r (round_trip n h))

  -- The numbers form of a sheet within the limits is short.
  pub form_small : (n : Sheet) → T (sheet_fits limit n) → length (numbers_of n) ≤ 16385 + limit
  form_small n h =
      let r = round_trip n h in
      let e : length (map millimetres (reading_of limit (written n)).numbers) ≡ length (numbers_of n) = ap length r.1 in
      let m = length-map (reading_of limit (written n)).numbers millimetres in
      let f = numbers_fit limit (written n) r.0 in
      omega arith
