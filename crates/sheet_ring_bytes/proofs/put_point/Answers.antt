-- The patterns of the corner's two numbers stand one behind the other. Assumes nothing.
use Rattle.std.proofs.Common.{arith, ◌≡◌, ◌∙◌, ◌++◌, ◌+◌, ℕ, ℤ, List, true, ap}
use mathlib.Core.Path.{ap₂}
use lib.Seq.{sets}
use Rattle.lent_little.specs.Ordered.{bytes, ordered}
use Rattle.lent_little.proofs.Ordered.{length_bytes}
use Rattle.lent_little.proofs.Stored.{sets_behind}
use Rattle.wkb.specs.Standard.{encode_point}
use Rattle.sheet_written.specs.Normal.{pattern_of, pair_of}
use Rattle.sheet_ring_bytes.proofs.put_point.Goals as goal

both : (o : List ℕ) (to : ℕ) (x y : ℤ) {v w : ℕ} {p q : List ℕ} → v ≡ pattern_of x → w ≡ pattern_of y → p ≡ sets o to (bytes 8 v) → q ≡ sets p (to + 8) (bytes 8 w)
    → q ≡ sets o to (encode_point true (pair_of (record { x = x; y = y })))
unfolding encode_point ordered
both o to x y {v} {w} e f g h =
    h
    ∙ ap (λ l. sets l (to + 8) (bytes 8 w)) g
    ∙ sets_behind o (bytes 8 v) (bytes 8 w) to (to + 8) (omega (arith, length_bytes 8 v))
    ∙ ap₂ (λ a b. sets o to (bytes 8 a ++ bytes 8 b)) e f

pub returns : goal.returns
returns c = both _ _ _ _ c.pattern.ensures c.pattern-2.ensures c.put.ensures c.put-2.ensures
