-- What the ending of a reading says of the sheet read, and where its numbers stand. Assumes nothing.
use mathlib.Core.Path.{◌≡◌, sym, ap, ap₂, ◌∙◌}
use mathlib.Core.Bool.{false}
use mathlib.Core.List.{List}
use Prim.Native.Nat.{ℕ, ◌≤◌}
use borrow.Author.Tests.{ne_eqb}
use lib.Dec.{eqb}
use lib.ListN.{length, take}
use Rattle.lent.specs.Stages.{refused}
use Rattle.std.specs.Prelude.{Err}
use Rattle.lent.specs.declared.Fault.{Fault}
use Rattle.lent.specs.Refusals.{refused_as}
use Rattle.lent.proofs.Refusals.{no_success}
use Rattle.sheet.specs.Reading.{reading_of}
use Rattle.sheet.specs.Going.{laid, ReadAs}
use Rattle.sheet.specs.Read.{read_sheet}
use Rattle.sheet.proofs.Laid.{length_laid, laid_front}

-- A refusal of reading, and its position; a refusal has a code.
module _ (limit : ℕ) (s : List ℕ) (f : Fault) (e : ReadAs (reading_of limit s) (Err f)) where
  pub code_is : eqb (reading_of limit s).code 0 ≡ false
  code_is = ne_eqb (reading_of limit s).code 0 (λ z. no_success f.refusal.reason (e.0 ∙ z))

  pub refusal_is : read_sheet limit s ≡ refused_as f.refusal
  unfolding read_sheet
  refusal_is = rw code_is (ap₂ refused (sym e.0) (sym e.1))

-- The lent list keeps its length, and the numbers read stand at its front.
pub room : (last l out : List ℕ) → last ≡ laid l out → length last ≡ length out
room last l out e = ap length e ∙ length_laid l out

pub front : (last l out : List ℕ) (n : ℕ) → last ≡ laid l out → length l ≤ length out → n ≡ length l → take n last ≡ l
front last l out n e h q = ap₂ take q e ∙ laid_front l out h
