-- What the writing of the sheet behind the header answers and leaves, against what writing the blob comes to. The idea: a sheet that isn't given or doesn't
-- fit leaves its room as it was, and the blob has 40 bytes more than its sheet; where it fits, the header stands before it. Assumes nothing.
use mathlib.Core.Path.{◌≡◌, refl, sym, ◌∙◌, ap, ap₂, subst}
use mathlib.Core.Bool.{Bool, true, false, cond}
use mathlib.Core.List.{List, [], ◌++◌, append_assoc, append-nil}
use mathlib.Core.Option.{Option, none, some}
use Prim.Native.Nat.{ℕ, ◌+◌, ◌-◌, ◌*◌, ◌%◌, ◌≤◌, ◌<◌}
use native.Mathlib.Omega.{arith}
use borrow.Author.Tests.{lt-leb, leb-true, leb-false}
use borrow.Rule.Slice.PartMut.{mid_of, put_mid, put_same}
use lib.Dec.{leb}
use lib.ListN.{length, take, drop, length-drop, length-append, drop_of_length-le}
use lib.Seq.{sets, sets-eq, take_all, drop-drop, length-take-le, drop_at}
use Rattle.lent.specs.Answered.{Answered}
use Rattle.lent.proofs.Answered.{answered_refusal, answered_short, answered_bytes}
use Rattle.lent_little.specs.Ordered.{word_at}
use Rattle.table.specs.Table.{Frame}
use Rattle.sheet_form.specs.Numbers.{Sheet, members}
use Rattle.sheet_written.specs.Normal.{written}
use Rattle.sheet_written.specs.Given.{sheet_given, write_outcome}
use Rattle.sheet_written.proofs.Given.{given_fits}
use Rattle.sheet_written.proofs.Sized.{written_length, written_small}
use Rattle.sheet_blob.specs.Blob.{encode_header}
use Rattle.sheet_blob_written.specs.Normal.{Blob, normal_header, written_blob}
use Rattle.sheet_framed.specs.Framed.{frame_on}
use Rattle.sheet_blob_written.specs.Given.{numbered, blob_given, write_blob}
use Rattle.sheet_blob_written.proofs.Trip.{forty, blob_length}
use Rattle.sheet_blob_written.proofs.Given.{given_short, given_long}

-- ---- the end of a list, as a part of it
pub tail_is : (k : ℕ) (l : List ℕ) → take (length l - k) (drop k l) ≡ drop k l
tail_is k l = take_all (length l - k) (drop k l) (omega (arith, length-drop k l))

-- ---- what writing the sheet came to
-- It was written: it is given, it fits, the answer is its length, and it stands at the front of its room.
pub record Fitted (x : Option Sheet) (room : List ℕ) (r : ℕ) (after : List ℕ) : Type 0 where
  pub sheet : Sheet
  pub is : x ≡ some sheet
  pub fits : length (written sheet) ≤ length room
  pub answer : r ≡ length (written sheet) * 256
  pub left : after ≡ written sheet ++ drop (length (written sheet)) room

pub fitted : (x : Option Sheet) (room : List ℕ) (r : ℕ) (after : List ℕ) → Answered (write_outcome x) room r after → r % 256 ≡ 0 → Fitted x room r after
fitted none room r after a z = absurd (omega (arith, a.answer))
fitted (some n) room r after a z = go (leb (length (written n)) (length room)) refl a.answer a.left
  where
    go : (b : Bool) → leb (length (written n)) (length room) ≡ b → r ≡ cond b (length (written n) * 256) 40 → after ≡ cond b (written n ++ drop (length (written n)) room) room → Fitted (some n) room r after
    go true e p q = record { sheet = n; is = refl; fits = leb-true (length (written n)) (length room) e; answer = p; left = q }
    go false e p q = absurd (omega arith)

-- A refusal: the sheet doesn't fit where it is given.
no_room : (x : Option Sheet) (room : List ℕ) (r : ℕ) (after : List ℕ) → Answered (write_outcome x) room r after → (r % 256 ≡ 0 → ⊥) → (n : Sheet) → x ≡ some n → length room < length (written n)
no_room x room r after a z n e = go (leb (length (written n)) (length room)) refl (subst (λ y. Answered (write_outcome y) room r after) e a).answer
  where
    go : (b : Bool) → leb (length (written n)) (length room) ≡ b → r ≡ cond b (length (written n) * 256) 40 → length room < length (written n)
    go true f p = absurd (z (omega arith))
    go false f p = leb-false (length (written n)) (length room) f

-- So the blob is refused alike, with its room as it was.
refused_alike : (k : ℕ) (out : List ℕ) (x : Option Sheet) (room : List ℕ) (r : ℕ) (after : List ℕ) → Answered (write_outcome x) room r after
    → ((n : Sheet) → x ≡ some n → (length room < length (written n)) × (length out < 40 + length (written n))) → Answered (write_blob (numbered k x)) out r out × (after ≡ room)
refused_alike k out none room r after a h = (record { answer = a.answer; left = refl }, a.left)
refused_alike k out (some n) room r after a h =
    let (p, q) = h n refl in
    let b : Blob = record { number = k; sheet = n } in
    let f = lt-leb (length (written n)) (length room) p in
    let s = answered_short (write_blob (some b)) out (length (written_blob b)) (written_blob b) refl (omega (arith, blob_length b)) in
    (record { answer = rw f at a.answer ∙ s.answer; left = s.left }, rw f at a.left)

-- ---- the blob, by the room that there is
module _ (s out : List ℕ) where
  pub no_number : length s < 4 → Answered (write_blob (blob_given members s)) out 42 out
  no_number h = answered_refusal (write_blob (blob_given members s)) out 42 0 (ap write_blob (given_short members s h))

  module _ (four : 4 ≤ length s) (form : List ℕ) (e : form ≡ drop 4 s) where
    given : blob_given members s ≡ numbered (word_at true s 0) (sheet_given members form)
    given = given_long members s four ∙ ap (λ t. numbered (word_at true s 0) (sheet_given members t)) (sym e)

    some_bytes : (n : Sheet) → sheet_given members form ≡ some n → 18 ≤ length (written n)
    some_bytes n q = omega (arith, written_length members n (given_fits members form n q))

    -- No room for the header.
    pub header_short : (room after : List ℕ) (r : ℕ) → length out < 40 → room ≡ [] → Answered (write_outcome (sheet_given members form)) room r after → Answered (write_blob (blob_given members s)) out r (after ++ out)
    header_short room after r h z a =
        let (p, q) = refused_alike (word_at true s 0) out (sheet_given members form) room r after a (λ n f. (omega (arith, ap length z, some_bytes n f), omega (arith, some_bytes n f))) in
        rw (given, q, z) p

    module _ (room after : List ℕ) (r : ℕ) (long : 40 ≤ length out) (z : room ≡ mid_of 40 (length out - 40) out) (a : Answered (write_outcome (sheet_given members form)) room r after) where
      room_length : length room ≡ length out - 40
      room_length = ap length (z ∙ tail_is 40 out) ∙ length-drop 40 out

      -- The sheet is refused.
      pub sheet_short : (r % 256 ≡ 0 → ⊥) → Answered (write_blob (blob_given members s)) out r (put_mid 40 (length out - 40) out after)
      sheet_short f =
          let (p, q) = refused_alike (word_at true s 0) out (sheet_given members form) room r after a (λ n g. let k = no_room (sheet_given members form) room r after a f n g in (k, omega (arith, room_length))) in
          rw given (subst (Answered (write_blob (numbered (word_at true s 0) (sheet_given members form))) out r) (sym (ap (put_mid 40 (length out - 40) out) (q ∙ z) ∙ put_same 40 (length out - 40) out)) p)

      -- The sheet is written, and then the header.
      module _ (f : r % 256 ≡ 0) where
        pub done : Fitted (sheet_given members form) room r after
        done = fitted (sheet_given members form) room r after a f

        pub fits_answer : r ≤ 256 * 158290
        fits_answer = let w = done in omega (arith, w.answer, written_small members w.sheet (given_fits members form w.sheet w.is))

        behind : drop 40 (put_mid 40 (length out - 40) out after) ≡ after
        behind =
            let tail = drop (length out - 40) (drop 40 out) in
            let k : length (drop 40 out) ≤ length out - 40 = omega (arith, length-drop 40 out) in
            drop_at (take 40 out) (after ++ tail) 40 (length-take-le 40 out long) ∙ ap (λ m. after ++ m) (drop_of_length-le (drop 40 out) k) ∙ append-nil after

        over_length : 40 ≤ length (put_mid 40 (length out - 40) out after)
        over_length = omega (arith, length-append (take 40 out) (after ++ drop (length out - 40) (drop 40 out)), length-take-le 40 out long)

        pub blob_over : (number : ℕ) (g : Frame) (last : List ℕ) (m : ℕ) → m ≡ r + 10240 → number ≡ word_at true s 0 → ((n : Sheet) → sheet_given members form ≡ some n → g ≡ frame_on n)
            → last ≡ sets (put_mid 40 (length out - 40) out after) 0 (encode_header (normal_header number g)) → Answered (write_blob (blob_given members s)) out m last
        blob_over number g last m u p q l =
            let w = done in
            let n = w.sheet in
            let b : Blob = record { number = word_at true s 0; sheet = n } in
            let h = encode_header (normal_header (word_at true s 0) (frame_on n)) in
            let o = put_mid 40 (length out - 40) out after in
            let k = forty (word_at true s 0) (frame_on n) in
            let c = blob_length b in
            let first : last ≡ sets o 0 h = l ∙ ap₂ (λ x y. sets o 0 (encode_header (normal_header x y))) p (q n w.is) in
            let end : drop (length (written n)) room ≡ drop (length (written_blob b)) out =
            ap (drop (length (written n))) (z ∙ tail_is 40 out) ∙ drop-drop (length (written n)) 40 out ∙ ap (λ x. drop x out) (sym c) in
            let all : last ≡ written_blob b ++ drop (length (written_blob b)) out =
            first ∙ sets-eq h o 0 (omega (arith, over_length)) ∙ ap (λ x. h ++ drop x o) (let y : 0 + length h ≡ 40 = omega arith in y)
            ∙ ap (λ x. h ++ x) (behind ∙ w.left ∙ ap (λ x. written n ++ x) end) ∙ sym (append_assoc h (written n) (drop (length (written_blob b)) out)) in
            let item : length (written_blob b) * 256 ≡ m = omega (arith, w.answer) in
            subst (λ x. Answered (write_blob (blob_given members s)) out x last) item
            (answered_bytes (write_blob (blob_given members s)) out (length (written_blob b)) (written_blob b) (ap write_blob (given ∙ ap (numbered (word_at true s 0)) w.is)) last (omega (arith, w.fits, room_length)) all)
