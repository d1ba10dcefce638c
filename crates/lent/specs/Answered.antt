-- The one sentence that all entries share. An answer is one number, item × 256 + code; success has code 0.
use Rattle.std.specs.Prelude.{◌≡◌, cond, List, ◌++◌, ℕ, ◌+◌, ◌*◌, leb, length, drop}
use Rattle.lent.specs.Stages.{Answer, value, refused}

-- What an entry writes on success: its bytes, and the item.
pub record Written : Type 0 where
  pub item : ℕ
  pub text : List ℕ

-- What an entry comes to, the last stage of its road: bytes with the item of success, or a refusal with its code and item.
abbrev pub Outcome : Type 0
Outcome = Answer Written

abbrev pub bytes : ℕ → List ℕ → Outcome
bytes item l = value (record { item = item; text = l })

-- The number answered where so many bytes are lent: 40 where the bytes are longer than those.
abbrev pub answer_of : Outcome → List ℕ → ℕ
answer_of (value w) lent = cond (leb (length w.text) (length lent)) (w.item * 256) 40
answer_of (refused code item) lent = item * 256 + code

-- The lent bytes afterwards: bytes that fit stand at their front, and those past them keep their values; a refusal leaves them as they were.
abbrev pub left_of : Outcome → List ℕ → List ℕ
left_of (value w) lent = cond (leb (length w.text) (length lent)) (w.text ++ drop (length w.text) lent) lent
left_of (refused code item) lent = lent

-- An entry that comes to the outcome answered r and left the lent bytes as `after`.
pub record Answered (outcome : Outcome) (before : List ℕ) (r : ℕ) (after : List ℕ) : Type 0 where
  pub answer : r ≡ answer_of outcome before
  pub left : after ≡ left_of outcome before
