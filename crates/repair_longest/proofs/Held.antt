-- Lengths off the held numbers: the length of side k is that of the edge of its two corners, and stands at place k of all lengths. Assumes nothing.
use mathlib.Core.Path.{◌≡◌, refl, ◌∙◌, ap, subst}
use mathlib.Core.List.{List, ◌∷◌}
use Prim.Native.Nat.{ℕ, zero, suc, ◌+◌, ◌*◌, ◌≤◌, ◌<◌}
use native.Mathlib.Omega.{arith}
use lib.ListN.{length, get_or}
use Rattle.repair_regions.proofs.Regions.{map_from_at}
use Rattle.repair_choices.specs.Adding.{sides_met, Adding}
use Rattle.repair_longest.specs.Held.{TableIn, length_held, lengths_held}

-- The corners of fewer triangles stand there too.
pub table_fewer : {table : List ℕ} {n : ℕ} (m : ℕ) → m ≤ n → TableIn table n → TableIn table m
table_fewer m h t = record { room = omega (arith, t.room); held = λ i l. t.held i (omega arith) }

pub length_at : (table : List ℕ) (n k : ℕ) → k < n → get_or (lengths_held table n) k 0 ≡ length_held table k
length_at table n k h = map_from_at (length_held table) n k 0 h

-- Three sides are met for each triangle.
pub length_met : (group : List ℕ) (first c : ℕ) → length (sides_met group first c) ≡ 3 * c
length_met group first zero = refl
length_met group first (suc c) = omega (arith, length_met group first c)

-- With one triangle more, u at place i from `first` on.
pub met_more : (group : List ℕ) (first i u : ℕ) → u ≡ get_or group (first + i) 0 → (3 * u + 2) ∷ (3 * u + 1) ∷ (3 * u) ∷ sides_met group first i ≡ sides_met group first (i + 1)
met_more group first i u e =
    let z : suc i ≡ i + 1 = omega arith in
    ap (λ u. (3 * u + 2) ∷ (3 * u + 1) ∷ (3 * u) ∷ sides_met group first i) e ∙ ap (sides_met group first) z

pub adding_to : {lengths opposite numbers sides sides' sums : List ℕ} {best : ℕ} → sides ≡ sides' → Adding lengths opposite numbers sides sums best → Adding lengths opposite numbers sides' sums best
adding_to {lengths} {opposite} {numbers} {sides} {sides'} {sums} {best} e is = subst (λ l. Adding lengths opposite numbers l sums best) e is
