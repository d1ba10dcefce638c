-- What a reading answers is one answer, so that the contract of reading says all of it. The idea: a code is that of one reason. Assumes nothing.
use mathlib.Core.Path.{◌≡◌, sym, ◌∙◌, ap}
use Prim.Native.Nat.{ℕ}
use Rattle.std.specs.Prelude.{Result, Ok, Err}
use Rattle.lent.specs.declared.Fault.{Fault}
use Rattle.lent.proofs.Refusals.{equal_refusals, no_success}
use Rattle.sheet.specs.Reading.{Reading}
use Rattle.sheet.specs.Going.{ReadAs}

pub one_answer : (r : Reading) (a b : Result ℕ Fault) → ReadAs r a → ReadAs r b → a ≡ b
one_answer r (Ok n) (Ok m) h k = ap Ok (h.1 ∙ sym k.1)
one_answer r (Ok n) (Err f) h k = absurd (no_success f.refusal.reason (k.0 ∙ h.0))
one_answer r (Err f) (Ok n) h k = absurd (no_success f.refusal.reason (h.0 ∙ k.0))
one_answer r (Err f) (Err g) h k =
    let e = equal_refusals (h.0 ∙ sym k.0) (h.1 ∙ sym k.1) in
    let p = h.2 ∙ sym k.2 in
    ap Err (λ i. record { refusal = e i; position = p i })
