-- The byte order, the type number and the count stand one behind the other.
use Rattle.std.proofs.Common.{◌≡◌, ◌∙◌, ap, List, ◌++◌, ℕ, ◌+◌, arith}
use Rattle.std.proofs.lemmas.List.Edits.{sets}
use Rattle.lent_little.specs.Ordered.{bytes, ordered}
use Rattle.lent_little.proofs.Stored.{sets_behind}
use Rattle.wkb_header.specs.Header.{headed}
use Rattle.wkb_header.proofs.put.Goals as goal

three : (o : List ℕ) (to kind n : ℕ) {p q r : List ℕ} → p ≡ sets o to (bytes 1 1) → q ≡ sets p (to + 1) (bytes 4 kind) → r ≡ sets q (to + 5) (bytes 4 n)
    → r ≡ sets o to (headed kind n)
unfolding bytes ordered
three o to kind n e f g =
    g
    ∙ ap (λ l. sets l (to + 5) (bytes 4 n)) (f ∙ ap (λ l. sets l (to + 1) (bytes 4 kind)) e ∙ sets_behind o (bytes 1 1) (bytes 4 kind) to (to + 1) (omega arith))
    ∙ sets_behind o (bytes 1 1 ++ bytes 4 kind) (bytes 4 n) to (to + 5) (omega arith)

pub returns : goal.returns
returns c = three _ _ _ _ c.put.ensures c.put-2.ensures c.put-3.ensures
