-- Writing and reading a blob. The idea: the header written is one of the grammar's, so it is read as its number and its doubles; the pattern of a bound is
-- that of the double that equals it, so the envelope read is the one made around the frame and equals it; behind it stands the written sheet.
-- Assumes nothing.
use mathlib.Core.Path.{◌≡◌, refl, sym, ◌∙◌, ap, ap₂}
use mathlib.Core.Bool.{true}
use mathlib.Core.List.{◌∷◌, ◌++◌}
use Prim.Native.Nat.{ℕ, ◌+◌, ◌^◌, ◌<◌}
use lib.Dec.{T}
use lib.ListN.{length, drop, length-append}
use lib.Seq.{drop-append_seam}
use Rattle.std.specs.Prelude.{Ok}
use Rattle.whole.specs.Sums.{All}
use Rattle.whole.proofs.Sums.{all-++}
use Rattle.lent_little.specs.Ordered.{bytes, ordered}
use Rattle.table.specs.Table.{Frame}
use Rattle.sheet_form.specs.Numbers.{numbers_of}
use Rattle.sheet_standard.proofs.NumbersForm.{numbers_of-injective}
use Rattle.sheet_standard.proofs.Standard.{Reads}
use Rattle.sheet_written.specs.Fits.{sheet_fits}
use Rattle.sheet_written.specs.Normal.{pattern_of, written}
use Rattle.sheet_written.proofs.Patterns.{pattern_eight, pattern_double}
use Rattle.sheet_written.proofs.Trip.{written_bytes, round_trip}
use Rattle.sheet_envelope.specs.Envelope.{around, agrees}
use Rattle.sheet_envelope.specs.Written.{envelope_bytes}
use Rattle.sheet_envelope.proofs.Same.{around_same}
use Rattle.sheet_blob.specs.declared.Opened.{Opened}
use Rattle.sheet_blob.specs.Blob.{encode_header, HeaderFits}
use Rattle.sheet_blob.specs.Opening.{opening_of}
use Rattle.sheet_blob.proofs.Grammar.{header_length, header_bytes, encoded_read}
use Rattle.sheet_blob_written.specs.Normal.{Blob, normal_header, written_blob, opened_of}
use Rattle.sheet_framed.specs.Framed.{frame_on}

-- ---- the header
-- Its bytes: the letters, version 0, flags 3, the number, and the doubles of the envelope around the frame.
pub header_written : (number : ℕ) (f : Frame) → encode_header (normal_header number f) ≡ 71 ∷ 80 ∷ 0 ∷ 3 ∷ bytes 4 number ++ envelope_bytes (around f)
unfolding encode_header envelope_bytes pattern_of ordered
header_written number f = refl

pub forty : (number : ℕ) (f : Frame) → length (encode_header (normal_header number f)) ≡ 40
forty number f = header_length (normal_header number f)

header_fits : (number : ℕ) (f : Frame) → number < 2 ^ 32 → HeaderFits (normal_header number f)
header_fits number f h = record { number = h; envelope = (pattern_eight f.left, pattern_eight f.right, pattern_eight f.low, pattern_eight f.high) }

pub header_back : (b : Blob) → b.number < 2 ^ 32 → opening_of (written_blob b) ≡ Ok (opened_of b)
header_back b h =
    let f = frame_on b.sheet in
    encoded_read (normal_header b.number f) (header_fits b.number f h) (written b.sheet)
    ∙ rw (forty b.number f, pattern_double f.left, pattern_double f.right, pattern_double f.low, pattern_double f.high) refl

-- ---- the blob
-- The written sheet stands behind the header.
pub sheet_back : (b : Blob) → drop 40 (written_blob b) ≡ written b.sheet
sheet_back b = let h = encode_header (normal_header b.number (frame_on b.sheet)) in ap (λ k. drop k (written_blob b)) (sym (forty b.number (frame_on b.sheet))) ∙ drop-append_seam h (written b.sheet)

pub blob_length : (b : Blob) → length (written_blob b) ≡ 40 + length (written b.sheet)
blob_length b = length-append (encode_header (normal_header b.number (frame_on b.sheet))) (written b.sheet) ∙ ap (λ k. k + length (written b.sheet)) (forty b.number (frame_on b.sheet))

-- What is written is bytes.
pub blob_bytes : (b : Blob) → All (λ x. x < 256) (written_blob b)
blob_bytes b = let h = normal_header b.number (frame_on b.sheet) in all-++ (λ x. x < 256) (encode_header h) (written b.sheet) (header_bytes h) (written_bytes b.sheet)

-- A written blob is read back: its number, its sheet, and an envelope that equals the frame.
pub record Back (limit : ℕ) (b : Blob) : Type 0 where
  pub header : opening_of (written_blob b) ≡ Ok (opened_of b)
  pub sheet : Reads limit (drop (opened_of b).at (written_blob b)) b.sheet
  pub envelope : agrees (opened_of b).envelope (frame_on b.sheet) ≡ true

pub blob_back : (limit : ℕ) → limit < 2 ^ 32 → (b : Blob) → b.number < 2 ^ 32 → T (sheet_fits limit b.sheet) → Back limit b
blob_back limit word b h fits =
    record { header = header_back b h; sheet = rw (sheet_back b) (round_trip limit word b.sheet fits); envelope = around_same (frame_on b.sheet) }

-- Equal numbers are written as equal bytes.
pub equal_blobs : (a b : Blob) → a.number ≡ b.number → numbers_of a.sheet ≡ numbers_of b.sheet → written_blob a ≡ written_blob b
equal_blobs a b p q = ap₂ (λ number sheet. written_blob (record { number = number; sheet = sheet })) p (numbers_of-injective a.sheet b.sheet q)
