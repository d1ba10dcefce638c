-- What is wrong with a type, as a reason and as its code. The idea: no reason has code 0. Assumes nothing.
use mathlib.Core.Path.{◌≡◌, refl}
use Prim.Native.Nat.{ℕ}
use Rattle.std.specs.Prelude.{Option, Some, None}
use Rattle.lent.specs.declared.Reason.{Reason}
use Rattle.lent.specs.Refusals.{code_of}
use Rattle.lent.proofs.Refusals.{no_success}
use Rattle.wkb_kinds.specs.declared.Slot.{Slot}
use Rattle.wkb_kinds.specs.Types.{code_told}
use Rattle.wkb.specs.declared.Cursor.{Cursor}
use Rattle.wkb.specs.declared.Step.{Step}
use Rattle.wkb.specs.Steps.{kind_reason, kind_fault, refusal, unless}

-- A type is allowed, or it has a fault.
pub by_fault : (P : Step → Type 0) (o : Option Reason) (field : ℕ) (c : Cursor) (next : Step) → (o ≡ None → P next) → ((reason : Reason) → o ≡ Some reason → P (refusal reason field c)) → P (unless o field c next)
by_fault P None field c next h k = h refl
by_fault P (Some reason) field c next h k = k reason refl

module _ (slot : Slot) (c : Cursor) (kind : ℕ) where
  pub allowed_code : kind_reason slot c kind ≡ None → kind_fault slot c kind ≡ 0
  unfolding kind_fault
  allowed_code e = rw e

  pub code_allowed : kind_fault slot c kind ≡ 0 → kind_reason slot c kind ≡ None
  unfolding kind_fault
  code_allowed = go (kind_reason slot c kind)
    where
      go : (o : Option Reason) → code_told o ≡ 0 → o ≡ None
      go None e = refl
      go (Some reason) e = absurd (no_success reason e)

  pub fault_code : (reason : Reason) → kind_reason slot c kind ≡ Some reason → kind_fault slot c kind ≡ code_of reason
  unfolding kind_fault
  fault_code reason e = rw e

  pub code_fault : (kind_fault slot c kind ≡ 0 → ⊥) → (reason : Reason) × (kind_reason slot c kind ≡ Some reason) × (kind_fault slot c kind ≡ code_of reason)
  unfolding kind_fault
  code_fault = go (kind_reason slot c kind)
    where
      go : (o : Option Reason) → (code_told o ≡ 0 → ⊥) → (reason : Reason) × (o ≡ Some reason) × (code_told o ≡ code_of reason)
      go None e = absurd (e refl)
      go (Some reason) e = (reason, refl, refl)
