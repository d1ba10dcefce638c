-- Demand 1: "Every call ends with an answer, for every sequence of bytes and every lent buffer. Nothing is left to the caller to test first.
-- Each refusal has a number and an item, and a refused call changes no lent byte." That every call ends, and answers and leaves what `Answered`
-- says, is the contract of each entry; none of them requires anything. Here is what that comes to. Assumes nothing.
use mathlib.Core.Path.{◌≡◌, refl, sym, ◌∙◌, ap, subst}
use mathlib.Core.Logic.{◌⊎◌, inl, inr}
use mathlib.Core.Bool.{Bool, true, false, cond}
use mathlib.Core.List.{List, ◌++◌}
use Prim.Native.Nat.{ℕ, ◌+◌, ◌*◌, ◌/◌, ◌%◌, ◌<◌}
use native.Mathlib.Omega.{arith}
use borrow.Author.Tests.{leb-true}
use lib.Dec.{leb}
use lib.ListN.{length, take, drop, length-append, length-drop}
use lib.Seq.{take_at, drop-append_seam}
use Rattle.whole.specs.Sums.{All}
use Rattle.lent.specs.Stages.{value, refused}
use Rattle.lent.specs.Answered.{Outcome, bytes, Answered}
use Rattle.demands.specs.Refusals.{Listed}
use Rattle.demands.specs.Entries.{Entry, outcome_of}
use Rattle.demands.proofs.Listed.{code_fits, outcome_listed, short_listed}

-- ---- a call that comes to an outcome, answered r and left the lent bytes as `after`
-- Two answers that the contract allows are one: the same number, and the same bytes left.
pub one_answer : (o : Outcome) (before : List ℕ) (r r' : ℕ) (after after' : List ℕ) → Answered o before r after → Answered o before r' after' → (r ≡ r') × (after ≡ after')
one_answer o before r r' after after' p q = (p.answer ∙ sym q.answer, p.left ∙ sym q.left)

-- A refused call, which has another code than 0, changes no lent byte.
pub refused_unchanged : (o : Outcome) (before : List ℕ) (r : ℕ) (after : List ℕ) → Answered o before r after → (r % 256 ≡ 0 → ⊥) → after ≡ before
refused_unchanged (refused code item) before r after p h = p.left
refused_unchanged (value w) before r after p h = go (leb (length w.text) (length before)) p.answer p.left
  where
    go : (b : Bool) → r ≡ cond b (w.item * 256) 40 → after ≡ cond b (w.text ++ drop (length w.text) before) before → after ≡ before
    go true e q = absurd (h (omega arith))
    go false e q = q

-- The lent bytes keep their number.
pub same_length : (o : Outcome) (before : List ℕ) (r : ℕ) (after : List ℕ) → Answered o before r after → length after ≡ length before
same_length (refused code item) before r after p = ap length p.left
same_length (value w) before r after p = go w.text (leb (length w.text) (length before)) refl p.left
  where
    go : (l : List ℕ) (b : Bool) → leb (length l) (length before) ≡ b → after ≡ cond b (l ++ drop (length l) before) before → length after ≡ length before
    go l true e q = omega (arith, ap length q, length-append l (drop (length l) before), length-drop (length l) before, leb-true (length l) (length before) e)
    go l false e q = ap length q

-- On success the item is given, the bytes stand at the front, and those past them keep their values.
pub in_front : (item : ℕ) (l before : List ℕ) (r : ℕ) (after : List ℕ) → Answered (bytes item l) before r after → r % 256 ≡ 0
    → (r / 256 ≡ item) × (take (length l) after ≡ l) × (drop (length l) after ≡ drop (length l) before)
in_front item l before r after p h = go (leb (length l) (length before)) p.answer p.left
  where
    go : (b : Bool) → r ≡ cond b (item * 256) 40 → after ≡ cond b (l ++ drop (length l) before) before
        → (r / 256 ≡ item) × (take (length l) after ≡ l) × (drop (length l) after ≡ drop (length l) before)
    go true e q = (
      omega arith,
      ap (take (length l)) q ∙ take_at l (drop (length l) before) (length l) refl,
      ap (drop (length l)) q ∙ drop-append_seam l (drop (length l) before),
    )
    go false e q = absurd (omega arith)

-- ---- each entry, for every sequence of bytes
-- Each refusal has a number and an item of document 01's table.
pub refusals_listed : (e : Entry) (s : List ℕ) → All (λ b. b < 256) s → (code item : ℕ) → outcome_of e s ≡ refused code item → Listed code item
refusals_listed e s all = outcome_listed s all e

-- The answer tells both.
pub number_and_item : (e : Entry) (s : List ℕ) → All (λ b. b < 256) s → (code item : ℕ) → outcome_of e s ≡ refused code item
    → (before : List ℕ) (r : ℕ) (after : List ℕ) → Answered (outcome_of e s) before r after → (r % 256 ≡ code) × (r / 256 ≡ item)
number_and_item e s all code item q before r after p =
    let w = code_fits code item (refusals_listed e s all code item q) in
    let a : r ≡ item * 256 + code = (subst (λ o. Answered o before r after) q p).answer in
    (omega (arith, w.1), omega (arith, w.1))

-- A call that answers code 0 comes to bytes, which stand at the front of the lent ones; the item is theirs.
pub succeeds : (e : Entry) (s : List ℕ) → All (λ b. b < 256) s → (before : List ℕ) (r : ℕ) (after : List ℕ) → Answered (outcome_of e s) before r after → r % 256 ≡ 0
    → (l : List ℕ) × (outcome_of e s ≡ bytes (r / 256) l) × (take (length l) after ≡ l) × (drop (length l) after ≡ drop (length l) before)
succeeds e s all before r after p h = go (outcome_of e s) refl p
  where
    go : (o : Outcome) → outcome_of e s ≡ o → Answered o before r after → (l : List ℕ) × (o ≡ bytes (r / 256) l) × (take (length l) after ≡ l) × (drop (length l) after ≡ drop (length l) before)
    go (refused code item) q a = absurd (omega (arith, (code_fits code item (refusals_listed e s all code item q)).0, (number_and_item e s all code item q before r after p).0))
    go (value w) q a = let x = in_front w.item w.text before r after a h in (w.text, ap (λ i. bytes i w.text) (sym x.0), x.1, x.2)

-- An answer has code 0, or a code and an item of the table.
pub listed : (e : Entry) (s : List ℕ) → All (λ b. b < 256) s → (before : List ℕ) (r : ℕ) (after : List ℕ) → Answered (outcome_of e s) before r after
    → (r % 256 ≡ 0) ⊎ Listed (r % 256) (r / 256)
listed e s all before r after p = go (outcome_of e s) refl p
  where
    short : (item : ℕ) (l : List ℕ) (b : Bool) → r ≡ cond b (item * 256) 40 → (r % 256 ≡ 0) ⊎ Listed (r % 256) (r / 256)
    short item l true e = inl (omega arith)
    short item l false e = inr (subst (λ r. Listed (r % 256) (r / 256)) (sym e) short_listed)

    go : (o : Outcome) → outcome_of e s ≡ o → Answered o before r after → (r % 256 ≡ 0) ⊎ Listed (r % 256) (r / 256)
    go (refused code item) q a =
        let w = number_and_item e s all code item q before r after p in
        inr (subst (λ c. Listed c (r / 256)) (sym w.0) (subst (Listed code) (sym w.1) (refusals_listed e s all code item q)))
    go (value w) q a = short w.item w.text (leb (length w.text) (length before)) a.answer
