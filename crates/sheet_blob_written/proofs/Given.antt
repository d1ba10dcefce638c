-- What gives the blob writer a blob: exactly the numbers forms of the blobs within the limits. The idea: the first 4 bytes are those of the number that is
-- read there, and the others are the sheet's numbers form. Assumes nothing.
use mathlib.Core.Path.{◌≡◌, refl, sym, ◌∙◌, ap, ap₂, subst}
use mathlib.Core.Logic.{◌↔◌}
use mathlib.Core.Bool.{Bool, true, false}
use mathlib.Core.List.{List, ◌++◌, flat_map}
use mathlib.Core.Option.{Option, none, some, none-ne-some, some-injective}
use Prim.Native.Nat.{ℕ, ◌^◌, ◌≤◌, ◌<◌}
use native.Mathlib.Omega.{arith}
use borrow.Author.Tests.{le-leb, lt-leb, leb-true, leb-false}
use lib.Dec.{T, leb}
use lib.ListN.{length, drop, length-append}
use Rattle.whole.proofs.Sums.{all_drop}
use Rattle.plane.specs.Corners.{offset}
use Rattle.lent_little.specs.Ordered.{bytes, word_at, ordered}
use Rattle.lent_little.specs.Bytes.{i32}
use Rattle.lent_little.proofs.Ordered.{length_bytes}
use Rattle.lent_fields.proofs.Fields.{Bytes, reads, written, number_fits}
use Rattle.sheet_form.specs.Numbers.{Sheet, numbers_of}
use Rattle.sheet_written.specs.Fits.{sheet_fits}
use Rattle.sheet_written.specs.Given.{sheet_given}
use Rattle.sheet_written.proofs.Given.{given_form}
use Rattle.sheet_blob_written.specs.Normal.{Blob}
use Rattle.sheet_blob_written.specs.Given.{blob_form, numbered, blob_given}

-- ---- by the number of bytes
pub given_short : (limit : ℕ) (s : List ℕ) → length s < 4 → blob_given limit s ≡ none
unfolding blob_given
given_short limit s h = rw (lt-leb 4 (length s) h) refl

pub given_long : (limit : ℕ) (s : List ℕ) → 4 ≤ length s → blob_given limit s ≡ numbered (word_at true s 0) (sheet_given limit (drop 4 s))
unfolding blob_given
given_long limit s h = rw (le-leb 4 (length s) h) refl

numbered_is : (k : ℕ) (x : Option Sheet) (b : Blob) → numbered k x ≡ some b → (k ≡ b.number) × (x ≡ some b.sheet)
numbered_is k none b e = absurd (none-ne-some b e)
numbered_is k (some n) b e = let q = some-injective (record { number = k; sheet = n }) b e in (ap (λ b. b.number) q, ap (λ b. some b.sheet) q)

-- ---- the first 4 bytes
module _ (s : List ℕ) (h : Bytes s) (four : 4 ≤ length s) where
  number_there : s ≡ bytes 4 (word_at true s 0) ++ drop 4 s
  unfolding word_at ordered
  number_there = written true 4 s 0 h four

  number_below : word_at true s 0 < 2 ^ 32
  unfolding word_at
  number_below = number_fits true 4 s 0 h four

number_back : (k : ℕ) (l : List ℕ) → k < 2 ^ 32 → (word_at true (bytes 4 k ++ l) 0 ≡ k) × (drop 4 (bytes 4 k ++ l) ≡ l)
unfolding word_at ordered
number_back k l h = let r = reads true 4 (bytes 4 k ++ l) 0 k l (omega arith) h refl in (r.number, r.next)

-- Bytes give a blob exactly if its sheet is within the limits, its number has 32 bits, and they are its numbers form.
pub given_blob : (limit : ℕ) → limit ≤ offset → (s : List ℕ) → Bytes s → (b : Blob) → (blob_given limit s ≡ some b) ↔ (T (sheet_fits limit b.sheet) × (b.number < 2 ^ 32) × (blob_form b ≡ s))
given_blob limit l s h b = (to (leb 4 (length s)) refl, from)
  where
    to : (t : Bool) → leb 4 (length s) ≡ t → blob_given limit s ≡ some b → T (sheet_fits limit b.sheet) × (b.number < 2 ^ 32) × (blob_form b ≡ s)
    to true e q =
        let four = leb-true 4 (length s) e in
        let (k, x) = numbered_is (word_at true s 0) (sheet_given limit (drop 4 s)) b (sym (given_long limit s four) ∙ q) in
        let g = (given_form limit l (drop 4 s) (all_drop (λ b. b < 256) 4 s h) b.sheet).0 x in
        (g.0, subst (λ n. n < 2 ^ 32) k (number_below s h four), ap₂ (λ n r. bytes 4 n ++ r) (sym k) g.1 ∙ sym (number_there s h four))
    to false e q = absurd (none-ne-some b (sym (given_short limit s (leb-false 4 (length s) e)) ∙ q))

    from : T (sheet_fits limit b.sheet) × (b.number < 2 ^ 32) × (blob_form b ≡ s) → blob_given limit s ≡ some b
    from (t, k, e) =
        let r = number_back b.number (flat_map i32 (numbers_of b.sheet)) k in
        let four : 4 ≤ length s = omega (arith, ap length e, length-append (bytes 4 b.number) (flat_map i32 (numbers_of b.sheet)), length_bytes 4 b.number) in
        let d : flat_map i32 (numbers_of b.sheet) ≡ drop 4 s = sym r.1 ∙ ap (drop 4) e in
        given_long limit s four
        ∙ ap₂ numbered (ap (λ x. word_at true x 0) (sym e) ∙ r.0) ((given_form limit l (drop 4 s) (all_drop (λ b. b < 256) 4 s h) b.sheet).1 (t, d))
