-- Bytes are read as a header exactly if they are one of the grammar's, and then anything: in either byte order by the same steps. The idea: a field of n
-- bytes and the number that is read there determine each other; the flags determine byte order and envelope kind. Assumes nothing.
use mathlib.Core.Path.{◌≡◌, refl, sym, ◌∙◌, ap, subst}
use mathlib.Core.Logic.{◌↔◌}
use mathlib.Core.Bool.{Bool, true, false}
use mathlib.Core.List.{List, [], ◌∷◌, ◌++◌, append_assoc}
use mathlib.Core.Option.{Option, none, some}
use Prim.Native.Nat.{ℕ, ◌+◌, ◌*◌, ◌%◌, ◌^◌, ◌≤◌, ◌<◌}
use native.Mathlib.Omega.{arith}
use lib.ListN.{length, drop, get_or, length-append}
use lib.Seq.{drop-append_seam}
use Rattle.whole.proofs.Sums.{all-++}
use Rattle.lent.specs.declared.Reason.{Reason}
use Rattle.lent_little.specs.Ordered.{bytes, number_of, bytes_of, field, word_at, double_at}
use Rattle.lent_little.proofs.Ordered.{length-bytes_of, ordered_all, bytes_below}
use Rattle.lent_fields.proofs.Fields.{Bytes, Reads, reads, written, number_fits}
use Rattle.wkb.specs.Standard.{order}
use Rattle.wkb.proofs.Orders.{order_said, said_order}
use Rattle.sheet_envelope.specs.Envelope.{envelope_at}
use Rattle.sheet_blob.specs.declared.Opened.{Opened}
use Rattle.sheet_blob.specs.Blob.{Patterns, Header, kind_of, flags_of, encode_envelope, encode_header, blob_of, PatternsFit, HeaderFits}
use Rattle.sheet_blob.specs.Opening.{fault, flags_at, little_in, kind_in, opened, rest_of, opening_of, doubles_of, opened_as}
use Rattle.sheet_blob.specs.Faults.{Flagged}
use Rattle.sheet_blob.proofs.Cases.{by_case}
use Rattle.sheet_blob.proofs.Refusals.{flagged, rest_bare, rest_enveloped}
use Rattle.std.specs.Prelude.{None, Some, Ok, Err}

-- ---- lengths
envelope_length : (little : Bool) (o : Option Patterns) → length (encode_envelope little o) ≡ 32 * kind_of o
envelope_length little none = refl
envelope_length little (some p) =
    let a = bytes_of little 8 p.left in
    let b = bytes_of little 8 p.right in
    let c = bytes_of little 8 p.low in
    let d = bytes_of little 8 p.high in
    omega (
      arith,
      length-append (a ++ b ++ c) d,
      length-append (a ++ b) c,
      length-append a b,
      length-bytes_of little 8 p.left,
      length-bytes_of little 8 p.right,
      length-bytes_of little 8 p.low,
      length-bytes_of little 8 p.high,
    )

pub header_length : (h : Header) → length (encode_header h) ≡ 8 + 32 * kind_of h.envelope
unfolding encode_header
header_length h =
    omega (arith, length-append (bytes_of h.little 4 h.number) (encode_envelope h.little h.envelope), length-bytes_of h.little 4 h.number, envelope_length h.little h.envelope)

-- ---- bytes
number_bytes : (little : Bool) (n v : ℕ) → Bytes (bytes_of little n v)
number_bytes little n v = ordered_all little (λ b. b < 256) (bytes n v) (bytes_below n v)

envelope_bytes : (little : Bool) (o : Option Patterns) → Bytes (encode_envelope little o)
envelope_bytes little none = tt
envelope_bytes little (some p) =
    let a = bytes_of little 8 p.left in
    let b = bytes_of little 8 p.right in
    let c = bytes_of little 8 p.low in
    let d = bytes_of little 8 p.high in
    all-++ (λ x. x < 256) (a ++ b ++ c) d
    (all-++ (λ x. x < 256) (a ++ b) c (all-++ (λ x. x < 256) a b (number_bytes little 8 p.left) (number_bytes little 8 p.right)) (number_bytes little 8 p.low))
    (number_bytes little 8 p.high)

order_small : (little : Bool) → order little < 2
order_small true = omega arith
order_small false = omega arith

kind_small : (o : Option Patterns) → kind_of o < 2
kind_small none = omega arith
kind_small (some p) = omega arith

-- A header of the grammar is bytes.
pub header_bytes : (h : Header) → Bytes (encode_header h)
unfolding encode_header
header_bytes h = (
  omega arith,
  (
    omega arith,
    (
      omega arith,
      (
        omega (arith, order_small h.little, kind_small h.envelope),
        all-++ (λ x. x < 256) (bytes_of h.little 4 h.number) (encode_envelope h.little h.envelope) (number_bytes h.little 4 h.number) (envelope_bytes h.little h.envelope),
      ),
    ),
  ),
)

-- ---- what the bytes of a header are read as
module _ (h : Header) (fits : HeaderFits h) (sheet : List ℕ) where
  abbrev S : List ℕ
  S = blob_of h sheet

  first : get_or S 3 0 ≡ flags_of h
  unfolding encode_header
  first = refl

  little_is : little_in S ≡ h.little
  little_is = let a = order_small h.little in let b = kind_small h.envelope in said_order (flags_at S % 2) h.little (rw first (omega arith))

  kind_is : kind_in S ≡ kind_of h.envelope
  kind_is = let a = order_small h.little in let b = kind_small h.envelope in rw first (omega arith)

  long : length S ≡ 8 + 32 * kind_of h.envelope + length sheet
  long = omega (arith, length-append (encode_header h) sheet, header_length h)

  is_flagged : Flagged S
  unfolding encode_header
  is_flagged =
      let a = order_small h.little in
      let b = kind_small h.envelope in
      (((omega (arith, long), refl, refl), omega (arith, long), refl), omega (arith, long), rw first (omega arith), rw kind_is b)

  -- The number stands at 4 and the envelope at 8.
  number_reads : Reads h.little 4 S 4 h.number (encode_envelope h.little h.envelope ++ sheet)
  unfolding encode_header
  number_reads = reads h.little 4 S 4 h.number _ (omega (arith, long)) fits.number (append_assoc (bytes_of h.little 4 h.number) (encode_envelope h.little h.envelope) sheet)

  number_is : word_at (little_in S) S 4 ≡ h.number
  unfolding word_at
  number_is = rw little_is number_reads.number

-- Four patterns, one behind the other.
regroup : (a b c d e : List ℕ) → a ++ b ++ c ++ d ++ e ≡ a ++ (b ++ (c ++ (d ++ e)))
regroup a b c d e = simp append_assoc

envelope_is : (little : Bool) (p : Patterns) (s sheet : List ℕ) → 8 ≤ length s → PatternsFit (some p) → drop 8 s ≡ encode_envelope little (some p) ++ sheet → Some (envelope_at little s 8) ≡ doubles_of (some p)
unfolding double_at
envelope_is little p s sheet l (a, b, c, d) e =
    let r1 = reads little 8 s 8 p.left (bytes_of little 8 p.right ++ (bytes_of little 8 p.low ++ (bytes_of little 8 p.high ++ sheet))) l a (e ∙ regroup (bytes_of little 8 p.left) (bytes_of little 8 p.right) (bytes_of little 8 p.low) (bytes_of little 8 p.high) sheet) in
    let r2 = reads little 8 s 16 p.right (bytes_of little 8 p.low ++ (bytes_of little 8 p.high ++ sheet)) r1.fits b r1.next in
    let r3 = reads little 8 s 24 p.low (bytes_of little 8 p.high ++ sheet) r2.fits c r2.next in
    let r4 = reads little 8 s 32 p.high sheet r3.fits d r3.next in
    rw (r1.number, r2.number, r3.number, r4.number) refl

-- A header of the grammar is read, whatever stands behind it.
pub encoded_read : (h : Header) → HeaderFits h → (sheet : List ℕ) → opening_of (blob_of h sheet) ≡ Ok (opened_as h)
encoded_read h fits sheet = flagged (blob_of h sheet) (is_flagged h fits sheet) ∙ go h.envelope refl
  where
    go : (o : Option Patterns) → h.envelope ≡ o → rest_of (blob_of h sheet) ≡ Ok (opened_as h)
    go none e =
        rest_bare (blob_of h sheet) (omega (arith, long h fits sheet)) (kind_is h fits sheet ∙ ap kind_of e)
        ∙ rw (number_is h fits sheet, header_length h, e) refl
    go (some p) e =
        let k : kind_in (blob_of h sheet) ≡ 1 = kind_is h fits sheet ∙ ap kind_of e in
        let l : 40 ≤ length (blob_of h sheet) = let m = ap kind_of e in omega (arith, long h fits sheet) in
        let d = envelope_is h.little p (blob_of h sheet) sheet (omega arith) (subst PatternsFit e fits.envelope) ((number_reads h fits sheet).next ∙ ap (λ o. encode_envelope h.little o ++ sheet) e) in
        rest_enveloped (blob_of h sheet) l (λ z. omega arith)
        ∙ rw (number_is h fits sheet, header_length h, little_is h fits sheet, d, e) refl

-- ---- the bytes of what is read
-- The bytes are a blob of the grammar: a header that is read so, and then the bytes of a sheet.
pub record BlobRead (s : List ℕ) (r : Opened) : Type 0 where
  pub header : Header
  pub fits : HeaderFits header
  pub sheet : List ℕ
  pub bytes : s ≡ blob_of header sheet
  pub read : r ≡ opened_as header

four_first : (s : List ℕ) → 4 ≤ length s → s ≡ get_or s 0 0 ∷ get_or s 1 0 ∷ get_or s 2 0 ∷ get_or s 3 0 ∷ drop 4 s
four_first [] h = absurd (omega arith)
four_first (a ∷ []) h = absurd (omega arith)
four_first (a ∷ b ∷ []) h = absurd (omega arith)
four_first (a ∷ b ∷ c ∷ []) h = absurd (omega arith)
four_first (a ∷ b ∷ c ∷ d ∷ s) h = refl

module _ (s : List ℕ) (bytes : Bytes s) (f : Flagged s) (eight : 8 ≤ length s) where
  abbrev header_at : Option Patterns → Header
  header_at o = record { little = little_in s; number = word_at (little_in s) s 4; envelope = o }

  flags_are : (o : Option Patterns) → kind_in s ≡ kind_of o → flags_at s ≡ flags_of (header_at o)
  flags_are o k = let h = f.2 in let e = order_said (flags_at s % 2) (omega arith) in let b = kind_small o in omega arith

  blob_of_lem : (o : Option Patterns) (sheet : List ℕ) → kind_in s ≡ kind_of o → drop 8 s ≡ encode_envelope (little_in s) o ++ sheet → s ≡ blob_of (header_at o) sheet
  unfolding encode_header word_at
  blob_of_lem o sheet k e =
      let b = bytes_of (little_in s) 4 (number_of (little_in s) (field s 4 4)) in
      let g = f.0.0.1 in
      let p = f.0.0.2 in
      let z = f.0.2 in
      let q = flags_are o k in
      let t : drop 4 s ≡ b ++ encode_envelope (little_in s) o ++ sheet = written (little_in s) 4 s 4 bytes eight ∙ ap (λ r. b ++ r) e ∙ sym (append_assoc b (encode_envelope (little_in s) o) sheet) in
      four_first s f.1 ∙ (λ i. g i ∷ p i ∷ z i ∷ q i ∷ t i)

  number_fit : word_at (little_in s) s 4 < 2 ^ 32
  unfolding word_at
  number_fit = number_fits (little_in s) 4 s 4 bytes eight

  bare_blob : (r : Opened) → kind_in s ≡ 0 → opened s 8 None ≡ Ok r → BlobRead s r
  bare_blob r k e =
      let q : record { number = word_at (little_in s) s 4; at = 8; envelope = None } ≡ r = cc e in
      record { header = header_at none; fits = record { number = number_fit; envelope = tt }; sheet = drop 8 s; bytes = blob_of_lem none (drop 8 s) k refl; read = sym q ∙ rw (header_length (header_at none)) refl }

-- Four fields of 8 bytes, one behind the other.
abbrev patterns_at : Bool → List ℕ → Patterns
patterns_at little s =
    record { left = number_of little (field s 8 8); right = number_of little (field s 16 8); low = number_of little (field s 24 8); high = number_of little (field s 32 8) }

module _ (s : List ℕ) (bytes : Bytes s) (little : Bool) (forty : 40 ≤ length s) where
  fields : drop 8 s ≡ encode_envelope little (some (patterns_at little s)) ++ drop 40 s
  fields =
      let a = bytes_of little 8 (number_of little (field s 8 8)) in
      let b = bytes_of little 8 (number_of little (field s 16 8)) in
      let c = bytes_of little 8 (number_of little (field s 24 8)) in
      let d = bytes_of little 8 (number_of little (field s 32 8)) in
      written little 8 s 8 bytes (omega arith)
      ∙ ap (λ r. a ++ r) (written little 8 s 16 bytes (omega arith) ∙ ap (λ r. b ++ r) (written little 8 s 24 bytes (omega arith) ∙ ap (λ r. c ++ r) (written little 8 s 32 bytes forty)))
      ∙ sym (regroup a b c d (drop 40 s))

  patterns_fit : PatternsFit (some (patterns_at little s))
  patterns_fit =
      (number_fits little 8 s 8 bytes (omega arith), number_fits little 8 s 16 bytes (omega arith), number_fits little 8 s 24 bytes (omega arith), number_fits little 8 s 32 bytes forty)

enveloped_blob : (s : List ℕ) → Bytes s → Flagged s → 40 ≤ length s → (r : Opened) → kind_in s ≡ 1 → opened s 40 (Some (envelope_at (little_in s) s 8)) ≡ Ok r → BlobRead s r
unfolding double_at
enveloped_blob s bytes f forty r k e =
    let eight : 8 ≤ length s = omega arith in
    let o = some (patterns_at (little_in s) s) in
    let q : record { number = word_at (little_in s) s 4; at = 40; envelope = Some (envelope_at (little_in s) s 8) } ≡ r = cc e in
    record {
      header = header_at s bytes f eight o;
      fits = record { number = number_fit s bytes f eight; envelope = patterns_fit s bytes (little_in s) forty };
      sheet = drop 40 s;
      bytes = blob_of_lem s bytes f eight o (drop 40 s) k (fields s bytes (little_in s) forty);
      read = sym q ∙ rw (header_length (header_at s bytes f eight o)) refl;
    }

-- Bytes are read as a header exactly if they are a blob of the grammar.
pub read_exactly : (s : List ℕ) → Bytes s → (r : Opened) → (opening_of s ≡ Ok r) ↔ BlobRead s r
read_exactly s bytes r = (by_case (λ o. o ≡ Ok r → BlobRead s r) s (record { refused = λ c p f e. never e; bare = λ f l k e. bare_blob s bytes f l r k e; enveloped = λ f l k e. enveloped_blob s bytes f l r k e }), back)
  where
    never : {c : Reason} {p : ℕ} → Err (fault c p) ≡ Ok r → BlobRead s r
    never e = absurd (cc e)

    back : BlobRead s r → opening_of s ≡ Ok r
    back b = ap opening_of b.bytes ∙ encoded_read b.header b.fits b.sheet ∙ ap Ok (sym b.read)

-- The sheet's bytes are those behind the header.
pub sheet_behind : (s : List ℕ) (r : Opened) (b : BlobRead s r) → drop r.at s ≡ b.sheet
sheet_behind s r b = ap (λ t. drop t.at s) b.read ∙ ap (drop (length (encode_header b.header))) b.bytes ∙ drop-append_seam (encode_header b.header) b.sheet
