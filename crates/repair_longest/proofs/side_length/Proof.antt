-- `repair_longest::side_length` meets its contract: the four numbers read are the coordinates of the side's two corners. Assumes nothing.
use mathlib.Core.Path.{◌≡◌, ◌∙◌, ap₂}
use mathlib.Core.List.{List}
use Prim.Native.Nat.{ℕ, ◌+◌, ◌*◌}
use native.Mathlib.Omega.{arith}
use borrow.Author.Rules.{rules}
use lib.ListN.{get_or}
use Rattle.plane.specs.Corners.{millimetres}
use Rattle.plane.specs.Points.{Point, ◌⟶◌}
use Rattle.plane_lengths.specs.Lengths.{length_of}
use Rattle.lent_little.specs.Held.{end_of}
use Rattle.repair_longest.specs.Held.{length_held}
use Rattle.repair_longest.proofs.side_length.Statement.{statement}
use Rattle.repair_longest.proofs.side_length.Tie as tie

-- The point of two numbers, one behind the other.
abbrev point_from : List ℕ → ℕ → ℕ → Point
point_from table i j = record { x = millimetres (get_or table i 0); y = millimetres (get_or table j 0) }

is_length : (table : List ℕ) (k r : ℕ) → let e = end_of k in r ≡ length_of (point_from table (2 * k + 1) (2 * k + 1 + 1) ⟶ point_from table (2 * e + 1) (2 * e + 1 + 1)) → r ≡ length_held table k
unfolding length_held
is_length table k r h =
    let p : 2 * k + 1 + 1 ≡ 2 * k + 2 = omega arith in
    let q : 2 * end_of k + 1 + 1 ≡ 2 * end_of k + 2 = omega arith in
    h ∙ ap₂ (λ i j. length_of (point_from table (2 * k + 1) i ⟶ point_from table (2 * end_of k + 1) j)) p q

length_requires : tie.Need-length-requires
length_requires c κs =
    let t = c.requires in
    (record { x = t.held _ (omega arith); y = t.held _ (omega arith) }, record { x = t.held _ (omega arith); y = t.held _ (omega arith) })

returns : tie.Need-returns
returns c = let e = c.length.ensures in (is_length _ _ _ e.0, e.1)

pub side_length_spec : {M : Type 1} → statement M
side_length_spec =
    tie.close
    (tie.spec
    (λ c. search rules)
    (λ c. search rules)
    (λ c. search rules)
    (λ c. search rules)
    (λ c. search rules)
    (λ c. search rules)
    (λ c. search rules)
    (λ c. search rules)
    (λ c. search rules)
    (λ c. search rules)
    (λ c. search rules)
    (λ c. search rules)
    (λ c. search rules)
    (λ c. search rules)
    (λ c. search rules)
    (λ c. search rules)
    (λ c. search rules)
    length_requires
    returns)
