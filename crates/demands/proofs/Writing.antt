-- Demand 2: "Sheets are .. written as OGC Simple Features lays down its binary form. Reading a written sheet gives the same numbers back, and
-- equal sheets are written as equal bytes." Assumes nothing.
use mathlib.Core.Path.{◌≡◌, refl, sym, ◌∙◌, ap}
use mathlib.Core.List.{List, ◌++◌}
use Prim.Native.Nat.{ℕ, ◌<◌}
use native.Mathlib.Omega.{arith}
use lib.Dec.{T}
use lib.ListN.{length}
use Rattle.whole.specs.Sums.{All}
use Rattle.wkb.specs.Standard.{Geometry, encode}
use Rattle.lent.specs.Stages.{value}
use Rattle.sheet_form.specs.Numbers.{Sheet, numbers_of, members}
use Rattle.sheet.specs.Reading.{reading_of}
use Rattle.sheet_standard.specs.Limits.{SheetFits, sheet_of}
use Rattle.sheet_written.specs.Fits.{sheet_fits}
use Rattle.sheet.specs.Read.{read_sheet}
use Rattle.sheet_modes.specs.Modes.{read_by}
use Rattle.sheet_modes.proofs.Modes.{by_present, by_fits}
use Rattle.sheet_written.specs.Normal.{written}
use Rattle.sheet_written.proofs.Given.{form_bytes}
use Rattle.sheet_written.proofs.Held.{read_sheet_is}
use Rattle.sheet_written.proofs.Trip.{written_bytes}
use Rattle.sheet_written.proofs.Trip
use Rattle.lent.specs.Answered.{bytes}
use Rattle.outcomes.specs.Entries.{first_of, form_of}
use Rattle.demands.specs.Entries.{numbers, write, outcome_of}
use Rattle.demands.proofs.Envelopes.{plain_header, no_envelope}
use Rattle.demands.proofs.Answers.{numbers_answers, write_answers}

-- What is written is one of the standard's encodings of the sheet, within the limits.
pub written_standard : (n : Sheet) → T (sheet_fits members n) → (g : Geometry) × SheetFits members g × (encode g ≡ written n) × (sheet_of g ≡ n)
written_standard = Trip.written_standard members

-- Reading the written bytes of any sheet within the limits answers the sheet.
pub round_trip : (n : Sheet) → T (sheet_fits members n) → read_sheet members (written n) ≡ value n
round_trip n h = (read_sheet_is members (written n) n).1 (Trip.round_trip members (omega arith) n h)

-- Whatever is read from bytes is within the limits, so that it can be written.
pub read_fits : (s : List ℕ) → All (λ b. b < 256) s → (n : Sheet) → read_sheet members s ≡ value n → T (sheet_fits members n)
read_fits s all n e = Trip.read_written members (omega arith) s all n ((read_sheet_is members s n).0 e)

-- Bytes that read as the same numbers are written as the same bytes.
pub equal_bytes : (s t : List ℕ) (m n : Sheet) → read_sheet members s ≡ value m → read_sheet members t ≡ value n → (reading_of members s).numbers ≡ (reading_of members t).numbers → written m ≡ written n
equal_bytes s t m n p q = Trip.equal_bytes members s t m n ((read_sheet_is members s m).0 p) ((read_sheet_is members t n).0 q)

-- ---- the entries
-- "The writer takes this form": given the numbers form of any sheet within the limits, the writer answers the sheet's normal bytes.
pub write_form : (n : Sheet) → T (sheet_fits members n) → outcome_of write (form_of n) ≡ bytes (length (written n)) (written n)
write_form n h = (write_answers (form_of n) (form_bytes (numbers_of n)) _ _).1 (n, h, refl, refl, refl)

-- Whatever is read can be written: given what the numbers entry answers of a sheet by itself, in either edition, the writer answers the normal bytes of the sheet
-- that was read.
pub numbers_then_write : (mode : ℕ) → mode < 2 → (s : List ℕ) → All (λ b. b < 256) s → (item : ℕ) (l : List ℕ) → outcome_of (numbers mode) s ≡ bytes item l
    → (n : Sheet) × (read_by members mode s ≡ value n) × (outcome_of write l ≡ bytes (length (written n)) (written n))
numbers_then_write mode h s all item l q =
    let (n, r, o, e, i) = (numbers_answers mode s all item l).0 q in
    (n, r, ap (outcome_of write) (e ∙ ap (λ o. first_of o ++ form_of n) (plain_header mode h s)) ∙ write_form n (by_fits members s (omega arith) all mode n r))

-- "Reading a written sheet gives the same numbers back": given what the writer answers, the numbers entry answers what the writer was given, byte by
-- byte. "The same numbers back in demand 2 are those of the present mode."
pub same_bytes : (s : List ℕ) → All (λ b. b < 256) s → (item : ℕ) (l : List ℕ) → outcome_of write s ≡ bytes item l → outcome_of (numbers 0) l ≡ bytes (length s) s
same_bytes s all item l q =
    let (n, t, f, e, i) = (write_answers s all item l).0 q in
    ap (outcome_of (numbers 0)) e ∙ (numbers_answers 0 (written n) (written_bytes n) (length s) s).1 (n, by_present members (written n) ∙ round_trip n t, no_envelope 0 (omega arith) (written n) n, sym f, refl)
