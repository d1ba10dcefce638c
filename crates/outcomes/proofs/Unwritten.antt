-- Outcomes that write no bytes: any lent bytes suffice, and stay as they were. Assumes nothing.
use mathlib.Core.Path.{◌≡◌, refl, sym, subst}
use mathlib.Core.List.{List, []}
use native.Mathlib.Omega.{arith}
use Prim.Native.Nat.{ℕ}
use Rattle.lent.specs.Stages.{Answer, value, refused, and_then}
use Rattle.lent.specs.Answered.{Outcome, bytes, answer_of, Answered}
use Rattle.lent.proofs.Answered.{answered_bytes}

-- If it is an answer, it has no bytes.
abbrev pub Unwritten : Outcome → Type 0
Unwritten (value w) = w.text ≡ []
Unwritten (refused code item) = Unit {0}

pub then_unwritten : {A : Type 0} (first : Answer A) (next : A → Outcome) → ((a : A) → Unwritten (next a)) → Unwritten (and_then first next)
then_unwritten (value a) next h = h a
then_unwritten (refused code item) next h = tt

pub nothing_written : (o : Outcome) (lent : List ℕ) {r : ℕ} → Unwritten o → r ≡ answer_of o [] → Answered o lent r lent
nothing_written (refused code item) lent h e = record { answer = e; left = refl }
nothing_written (value w) lent {r} h e = subst (λ l. r ≡ answer_of (bytes w.item l) [] → Answered (bytes w.item l) lent r lent) (sym h)
    (λ f. subst (λ r. Answered (bytes w.item []) lent r lent) (sym f) (answered_bytes (bytes w.item []) lent w.item [] refl lent (omega arith) refl)) e
