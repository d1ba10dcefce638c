-- `sheet_writer::header` meets its contract: the type number is the kind's. Assumes nothing.
use mathlib.Core.Path.{◌≡◌, ◌∙◌, ap}
use mathlib.Core.Bool.{true}
use mathlib.Core.List.{List}
use Prim.Native.Nat.{ℕ}
use borrow.Author.Rules.{rules}
use lib.Seq.{sets}
use Rattle.wkb_kinds.specs.Kinds.{type_of}
use Rattle.wkb_kinds.specs.declared.Kind.{Kind}
use Rattle.wkb_header.specs.Header.{headed}
use Rattle.wkb.specs.Standard.{header}
use Rattle.sheet_writer.proofs.header.Statement.{statement}
use Rattle.sheet_writer.proofs.header.Tie as tie

of_kind : (o p : List ℕ) (to : ℕ) (kind : Kind) (n : ℕ) {t : ℕ} → t ≡ type_of kind → p ≡ sets o to (headed t n) → p ≡ sets o to (header true kind n)
unfolding header
of_kind o p to kind n e f = f ∙ ap (λ t. sets o to (headed t n)) e

returns : tie.Need-returns
returns c = let p = c in of_kind _ _ _ _ _ p.number.ensures p.put.ensures

pub header_spec : {M : Type 1} → statement M
header_spec =
    tie.close
    (tie.spec
    (λ c κs. search rules)
    (λ c κs. search rules)
    (λ c. search rules)
    returns)
