-- A stage of the road from bytes to answers, and how one goes on from it. The chain of stages is the order of refusals.
use Rattle.std.specs.Prelude.{Bool, cond, ℕ}
use Rattle.std.proofs.Math.Option.{Option, none, some}

-- What a stage answers: a value, or a refusal with its code and item.
pub data Answer (A : Type 0) : Type 0 where
  value : A → Answer A
  refused : (code item : ℕ) → Answer A

-- The next stage goes on with the value; a refusal stays.
abbrev pub and_then : {A B : Type 0} → Answer A → (A → Answer B) → Answer B
and_then (value a) next = next a
and_then (refused code item) next = refused code item

-- A stage that only tests: it passes, or is refused with the code and the item.
abbrev pub needing : Bool → ℕ → ℕ → Answer (Unit {0})
needing test code item = cond test (value tt) (refused code item)

-- A fault found is refused with that code, its number being the item; where there is none the stage passes.
abbrev pub faultless : ℕ → Option ℕ → Answer (Unit {0})
faultless code none = value tt
faultless code (some item) = refused code item
