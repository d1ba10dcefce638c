-- Request No. 1: GeoPackage geometry. Demand 2 for blobs: they are read and written as OGC 12-128 lays down its binary form, around sheets as demand 2 has them; a
-- written blob is read back with its number and sheet and is never refused 52; equal numbers and sheets are written as equal bytes. Demands 1 and 3 hold in every
-- mode, by the same proofs. Assumes nothing.
use mathlib.Core.Path.{◌≡◌, refl, sym, ◌∙◌, ap, ap₂, subst}
use mathlib.Core.Logic.{◌↔◌, ◌⊎◌, inl, inr, ⊎_elim}
use mathlib.Core.Bool.{false≢true}
use mathlib.Core.List.{List, ◌++◌}
use mathlib.Core.Option.{Option, none, some, none-ne-some}
use Prim.Native.Nat.{ℕ, ◌^◌, ◌<◌}
use native.Mathlib.Omega.{arith}
use lib.Dec.{T}
use lib.Ieee.{binary64, nan, of_bits}
use lib.IntN.{ℤ, pos}
use lib.ListN.{length, drop}
use Rattle.whole.specs.Sums.{All}
use Rattle.whole.proofs.Sums.{all-++, all_drop}
use Rattle.lent.specs.declared.Fault.{Fault as Told}
use Rattle.lent.specs.Refusals.{code_of}
use Rattle.lent.specs.Stages.{Answer, value, refused, and_then}
use Rattle.lent.specs.Answered.{bytes}
use Rattle.lent.proofs.Stages.{value_refused, same_refusal}
use Rattle.lent_little.proofs.Ordered.{bytes_below}
use Rattle.wkb.specs.Standard.{encode}
use Rattle.sheet_coordinate.specs.Coordinate.{Equals}
use Rattle.sheet_form.specs.Numbers.{Sheet, members, numbers_of}
use Rattle.sheet.specs.Read.{read_sheet}
use Rattle.sheet_envelope.specs.Envelope.{Same, agrees}
use Rattle.sheet_envelope.proofs.Same.{nan_equals_nothing, minus_zero_equals}
use Rattle.sheet_framed.specs.Framed.{frame_on}
use Rattle.sheet_blob.specs.declared.Opened.{Opened}
use Rattle.std.specs.Prelude.{Ok, Err}
use Rattle.sheet_blob.specs.Blob.{blob_of}
use Rattle.sheet_blob.specs.Opening.{Opening, opening_of}
use Rattle.sheet_blob.specs.Faults.{Fault}
use Rattle.sheet_blob.proofs.Grammar.{BlobRead, read_exactly, sheet_behind}
use Rattle.sheet_blob.proofs.Refusals.{refused_exactly, refused_as_fault}
use Rattle.sheet_standard.specs.Limits.{sheet_of}
use Rattle.sheet_written.specs.Fits.{sheet_fits}
use Rattle.sheet_written.proofs.Given.{form_bytes}
use Rattle.sheet_written.proofs.Held.{read_sheet_is}
use Rattle.sheet_blob_written.specs.Normal.{Blob, written_blob, opened_of}
use Rattle.sheet_blob_written.specs.Given.{blob_form}
use Rattle.sheet_blob_written.proofs.Trip.{blob_bytes, blob_back}
use Rattle.sheet_blob_written.proofs.Trip as trip
use Rattle.sheet_modes.specs.Modes.{Edition, present, older, edited, blob, Mode, mode_of, headed, around, found, header_by, read_by, framed}
use Rattle.sheet_modes.proofs.Modes.{by_value, by_refused, in_mode_value, in_mode_refused, header_is, by_fits}
use Rattle.outcomes.specs.Entries.{first_of, form_of}
use Rattle.demands.specs.Answers.{OtherEnvelope, Refused, unread, breaks_a, breaks_b, breaks_c, unframed, not_carried, no_ground}
use Rattle.demands.specs.Triangles.{Passes}
use Rattle.demands.specs.Blobs.{ReadsBlobs, BlobOf}
use Rattle.demands.specs.Entries.{numbers, write_blob, outcome_of}
use Rattle.demands.proofs.Stages.{of_reading, not_above, around_refused, read_opened}
use Rattle.demands.proofs.Envelopes.{framed_yes}
use Rattle.demands.proofs.Reading.{reads_the_standard}
use Rattle.demands.proofs.Answers.{numbers_answers, numbers_refuses, write_blob_answers}

-- Mode 2 reads blobs of the present edition, mode 3 of the older one.
pub mode_2 : ReadsBlobs 2 present
mode_2 = refl

pub mode_3 : ReadsBlobs 3 older
mode_3 = refl

module _ (mode : ℕ) (edition : Edition) (reads : ReadsBlobs mode edition) (s : List ℕ) where
  abbrev known : Mode
  known = record { form = blob; edition = edition }

  -- What stands around the sheet is the header that is read.
  headed_by : header_by mode s ≡ found (headed (opening_of s))
  headed_by = ap (λ a. found (and_then a (λ m. around m.form s))) reads

  header_read : (r : Opened) → (header_by mode s ≡ some r) ↔ (opening_of s ≡ Ok r)
  header_read r = (λ e. to (opening_of s) (sym headed_by ∙ e), λ e. headed_by ∙ ap (λ o. found (headed o)) e)
    where
      to : (o : Opening) → found (headed o) ≡ some r → o ≡ Ok r
      to (Ok t) e = let q : t ≡ r = cc e in ap Ok q
      to (Err f) e = absurd (none-ne-some r e)

  -- Where a sheet is read there is one.
  header_there : (n : Sheet) → read_by members mode s ≡ value n → (r : Opened) × (header_by mode s ≡ some r)
  header_there n e = go (opening_of s) refl
    where
      go : (o : Opening) → opening_of s ≡ o → (r : Opened) × (header_by mode s ≡ some r)
      go (Ok r) o = (r, (header_read r).1 o)
      go (Err f) o =
          let c = code_of f.refusal.reason in
          absurd (value_refused n c 0 (sym e ∙ (by_refused members s mode c 0).1 (inr (known, reads, inl (ap headed o)))))

  -- ---- reading
  -- Bytes are read as a blob with this header, its number and its envelope or none, and with this sheet exactly if they are such a blob within the limits.
  pub reads_blobs : All (λ b. b < 256) s → (r : Opened) (n : Sheet) → ((header_by mode s ≡ some r) × (read_by members mode s ≡ value n)) ↔ BlobOf edition s r n
  reads_blobs all r n = (to, from)
    where
      behind_bytes : All (λ b. b < 256) (drop r.at s)
      behind_bytes = all_drop (λ b. b < 256) r.at s all

      to : (header_by mode s ≡ some r) × (read_by members mode s ≡ value n) → BlobOf edition s r n
      to (h, e) =
          let o = (header_read r).0 h in
          let (k, p, t) = (in_mode_value members s mode known (some r) reads (ap headed o) n).0 e in
          let b = (read_exactly s all r).0 o in
          let (g, fit, q, u) = (reads_the_standard (drop r.at s) behind_bytes k).0 p in
          record {
            header = b.header;
            fits = b.fits;
            opened = b.read;
            tree = g;
            within = fit;
            bytes = b.bytes ∙ ap (blob_of b.header) (sym (sheet_behind s r b) ∙ sym q);
            is = ap (edited edition) u ∙ t;
          }

      from : BlobOf edition s r n → (header_by mode s ≡ some r) × (read_by members mode s ≡ value n)
      from w =
          let b : BlobRead s r = record { header = w.header; fits = w.fits; sheet = encode w.tree; bytes = w.bytes; read = w.opened } in
          let o = (read_exactly s all r).1 b in
          let p = (reads_the_standard (drop r.at s) behind_bytes (sheet_of w.tree)).1 (w.tree, w.within, sym (sheet_behind s r b), refl) in
          ((header_read r).1 o, (in_mode_value members s mode known (some r) reads (ap headed o) n).1 (sheet_of w.tree, p, w.is))

  -- They are refused exactly if a field of the header is at fault, with its code and item 0, or else the sheet behind it is refused, with its code and item.
  pub refuses_blobs : (code item : ℕ)
      → (read_by members mode s ≡ refused code item) ↔ (((item ≡ 0) × (position : ℕ) × Fault s code position) ⊎ ((r : Opened) × (opening_of s ≡ Ok r) × (read_sheet members (drop r.at s) ≡ refused code item)))
  refuses_blobs code item = (to (opening_of s) refl, from)
    where
      to : (o : Opening) → opening_of s ≡ o → read_by members mode s ≡ refused code item
          → ((item ≡ 0) × (position : ℕ) × Fault s code position) ⊎ ((r : Opened) × (opening_of s ≡ Ok r) × (read_sheet members (drop r.at s) ≡ refused code item))
      to (Ok r) o e = inr (r, o, (in_mode_refused members s mode known (some r) reads (ap headed o) code item).0 e)
      to (Err f) o e =
          let c = code_of f.refusal.reason in
          let q = (by_refused members s mode c 0).1 (inr (known, reads, inl (ap headed o))) in
          let z : ◌≡◌ {A = Answer Sheet} (refused c 0) (refused code item) = sym q ∙ e in
          let (a, i) = (same_refusal {A = Sheet} c 0 code item).0 z in
          let w = refused_as_fault s f o in
          inl (i, f.position, (refused_exactly s code f.position).0 (f.refusal.reason, sym a, o ∙ ap Err w))

      from : ((item ≡ 0) × (position : ℕ) × Fault s code position) ⊎ ((r : Opened) × (opening_of s ≡ Ok r) × (read_sheet members (drop r.at s) ≡ refused code item)) → read_by members mode s ≡ refused code item
      from (inl (i, p, f)) =
          let (reason, w, o) = (refused_exactly s code p).1 f in
          (by_refused members s mode code item).1 (inr (known, reads, inl (ap headed o ∙ ap₂ refused w (sym i))))
      from (inr (r, o, e)) = (in_mode_refused members s mode known (some r) reads (ap headed o) code item).1 e

-- ---- 52
-- "52 exactly if there is an envelope and it differs from the frame": in the numbers entry right after reading,
pub refused_52 : (mode : ℕ) (s : List ℕ) → All (λ b. b < 256) s → (outcome_of (numbers mode) s ≡ refused 52 0) ↔ ((n : Sheet) × (read_by members mode s ≡ value n) × OtherEnvelope mode s n)
refused_52 mode s all = (
  λ e. ⊎_elim (λ p. absurd (not_above (of_reading mode s 52 0 p) (omega arith) (omega arith))) (λ (c, i, n, p, o). (n, p, o)) ((numbers_refuses mode s all 52 0).0 e),
  λ (n, p, o). (numbers_refuses mode s all 52 0).1 (inr (refl, refl, n, p, o)),
)

-- in those that judge right after the table rules.
pub judged_52 : (mode : ℕ) (s : List ℕ) → Refused mode s 52 0 ↔ ((n : Sheet) × (read_by members mode s ≡ value n) × Passes n.table × OtherEnvelope mode s n)
judged_52 mode s = (λ r. to r refl, λ (n, p, t, o). unframed n p t o)
  where
    to : {code item : ℕ} → Refused mode s code item → code ≡ 52 → (n : Sheet) × (read_by members mode s ≡ value n) × Passes n.table × OtherEnvelope mode s n
    to (unread {code} {item} e) z = absurd (not_above (of_reading mode s code item e) (omega arith) (omega arith))
    to (breaks_a n p f) z = absurd (omega arith)
    to (breaks_b n p a f) z = absurd (omega arith)
    to (breaks_c n p a b c) z = absurd (omega arith)
    to (unframed n p t o) z = (n, p, t, o)
    to (not_carried n p t o f) z = absurd (omega arith)
    to (no_ground n p t o f) z = absurd (omega arith)

-- As numbers: a NaN equals no bound, and -0 equals 0.
pub nan_differs : (n : ℤ) → Equals nan n → ⊥
nan_differs n e = false≢true (sym (nan_equals_nothing n) ∙ e)

pub minus_zero : Equals (of_bits binary64 (2 ^ 63)) (pos 0)
minus_zero = minus_zero_equals

-- ---- writing
module _ (b : Blob) (small : b.number < 2 ^ 32) (fits : T (sheet_fits members b.sheet)) where
  -- What is written is read back: the number, the sheet, in the older edition as turned, and an envelope that is the frame.
  module _ (mode : ℕ) (edition : Edition) (reads : ReadsBlobs mode edition) where
    pub header_back : header_by mode (written_blob b) ≡ some (opened_of b)
    header_back = (header_read mode edition reads (written_blob b) (opened_of b)).1 (blob_back members (omega arith) b small fits).header

    pub sheet_back : read_by members mode (written_blob b) ≡ value (edited edition b.sheet)
    sheet_back =
        let w = blob_back members (omega arith) b small fits in
        (in_mode_value members (written_blob b) mode (record { form = blob; edition = edition }) (some (opened_of b)) reads (ap headed w.header) (edited edition b.sheet)).1
        (b.sheet, (read_sheet_is members (drop 40 (written_blob b)) b.sheet).1 w.sheet, refl)

    same_table : (e : Edition) (n : Sheet) → frame_on (edited e n) ≡ frame_on n
    same_table present n = refl
    same_table older n = refl

    -- It is never refused 52.
    pub never_52 : OtherEnvelope mode (written_blob b) (edited edition b.sheet) → ⊥
    never_52 = (framed_yes mode (written_blob b) (edited edition b.sheet)).0 (
        ap (λ o. framed o (edited edition b.sheet)) header_back
        ∙ ap (agrees (opened_of b).envelope) (same_table edition b.sheet)
        ∙ (blob_back members (omega arith) b small fits).envelope)

  -- And it is a blob of the grammar, with the normal bytes of the sheet.
  pub written_grammar : BlobOf present (written_blob b) (opened_of b) b.sheet
  written_grammar = (reads_blobs 2 present refl (written_blob b) (blob_bytes b) (opened_of b) b.sheet).0 (header_back 2 present refl, sheet_back 2 present refl)

-- Equal numbers and sheets are written as equal bytes.
pub equal_blobs : (a b : Blob) → a.number ≡ b.number → numbers_of a.sheet ≡ numbers_of b.sheet → written_blob a ≡ written_blob b
equal_blobs = trip.equal_blobs

-- ---- the entries
-- Whatever is read can be written: given what the numbers entry answers of a blob, in either edition, the blob writer answers the normal bytes of the blob of its
-- number and the sheet that was read.
pub blob_numbers_then_write : (mode : ℕ) (edition : Edition) → ReadsBlobs mode edition → (s : List ℕ) → All (λ b. b < 256) s → (item : ℕ) (l : List ℕ) → outcome_of (numbers mode) s ≡ bytes item l
    → (r : Opened) × (n : Sheet) × (header_by mode s ≡ some r) × (read_by members mode s ≡ value n)
    × (let b : Blob = record { number = r.number; sheet = n } in outcome_of write_blob l ≡ bytes (length (written_blob b)) (written_blob b))
blob_numbers_then_write mode edition reads s all item l q =
    let (n, p, o, e, i) = (numbers_answers mode s all item l).0 q in
    let (r, h) = header_there mode edition reads s n p in
    let w = (reads_blobs mode edition reads s all r n).0 (h, p) in
    let f : l ≡ blob_form (record { number = r.number; sheet = n }) = e ∙ ap (λ o. first_of o ++ form_of n) h in
    let small : r.number < 2 ^ 32 = subst (λ r. r.number < 2 ^ 32) (sym w.opened) w.fits.number in
    let form-all = all-++ (λ b. b < 256) (first_of (some r)) (form_of n) (bytes_below 4 r.number) (form_bytes (numbers_of n)) in
    (r, n, h, p, (write_blob_answers l (subst (All (λ b. b < 256)) (sym f) form-all) _ _).1 (record { number = r.number; sheet = n }, by_fits members s (omega arith) all mode n p, small, sym f, refl, refl))

-- "Numbers after write are the identity byte for byte": given what the blob writer answers, the numbers entry answers what the blob writer was given.
pub same_blob : (s : List ℕ) → All (λ b. b < 256) s → (item : ℕ) (l : List ℕ) → outcome_of write_blob s ≡ bytes item l → outcome_of (numbers 2) l ≡ bytes (length s) s
same_blob s all item l q =
    let (b, t, k, f, e, i) = (write_blob_answers s all item l).0 q in
    let h = header_back b k t 2 present refl in
    ap (outcome_of (numbers 2)) e
    ∙ (numbers_answers 2 (written_blob b) (blob_bytes b) (length s) s).1 (b.sheet, sheet_back b k t 2 present refl, never_52 b k t 2 present refl, sym f ∙ ap (λ o. first_of o ++ form_of b.sheet) (sym h), refl)
