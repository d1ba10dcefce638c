-- The four numbers written are the side's four coordinates. Assumes nothing.
use Rattle.std.proofs.Common.{arith, ◌≡◌, List, ℕ, ◌+◌, ◌*◌, get_or, refl, ◌∙◌, ap}
use mathlib.Core.Path.{ap₂}
use lib.Seq.{sets}
use Rattle.lent_little.specs.Held.{end_of, corner_held, held_bytes}
use Rattle.lent_little.proofs.Bytes.{held_length, corner_length}
use Rattle.lent_little.proofs.Stored.{sets_behind}
use Rattle.repair_side_bytes.proofs.put_side.Goals as goal

-- A corner's two numbers, one stored behind the other.
corner : (numbers o p q : List ℕ) (c at i n : ℕ) → i ≡ at + 4 → n ≡ 2 * c + 2
    → p ≡ sets o at (held_bytes (get_or numbers (2 * c + 1) 0)) → q ≡ sets p i (held_bytes (get_or numbers n 0)) → q ≡ sets o at (corner_held numbers c)
corner numbers o p q c at i n h k e f =
    let x = get_or numbers (2 * c + 1) 0 in
    let y = get_or numbers (2 * c + 2) 0 in
    f ∙ ap₂ (λ l m. sets l i (held_bytes (get_or numbers m 0))) e k ∙ sets_behind o (held_bytes x) (held_bytes y) at i (omega (arith, held_length x))

pub returns : goal.returns
returns c =
    let a = c.args in
    let l = a.numbers.now in
    let o = a.out.now in
    let e = end_of a.k in
    let u = corner l o c.put.new.out c.put-2.new.out a.k a.at (a.at + 4) (2 * a.k + 1 + 1) refl (omega arith) c.put.ensures c.put-2.ensures in
    let v = corner l c.put-2.new.out c.put-3.new.out c.put-4.new.out e (a.at + 8) (a.at + 12) (2 * e + 1 + 1) (omega arith) (omega arith) c.put-3.ensures c.put-4.ensures in
    v
    ∙ ap (λ m. sets m (a.at + 8) (corner_held l e)) u
    ∙ sets_behind o (corner_held l a.k) (corner_held l e) a.at (a.at + 8) (omega (arith, corner_length l a.k))
