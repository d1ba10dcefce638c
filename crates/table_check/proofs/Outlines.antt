-- The labels of all triangles of a table, all set, at the front of a work list that has room for them. Assumes nothing.
use mathlib.Core.Path.{◌≡◌, refl, ◌∙◌}
use mathlib.Core.Bool.{true}
use mathlib.Core.List.{List}
use Prim.Native.Nat.{ℕ, zero, suc, ◌*◌, ◌/◌, ◌≤◌}
use native.Mathlib.Omega.{arith}
use lib.ListN.{length, take, replicate, length-replicate}
use lib.Seq.{length-take-le}
use Rattle.whole.specs.Sums.{All}
use Rattle.whole.proofs.Sums.{all_take}
use Rattle.table.specs.Sides.{triangles_of}
use Rattle.table.proofs.Shares.{length_triangles}

-- A list of one label is of that label.
all_set : (n : ℕ) → All (λ b. b ≡ true) (replicate n true)
all_set zero = tt
all_set (suc n) = (refl, all_set n)

module _ (m : ℕ) (keys : List ℕ) (n : ℕ) (three : length keys ≡ 3 * n) (few : length keys ≤ 3 * m) where
  pub labels_long : length (take (length keys / 3) (replicate m true)) ≡ length (triangles_of keys)
  labels_long =
      let t : length keys / 3 ≡ length (triangles_of keys) = omega (arith, length_triangles keys n three) in
      length-take-le (length keys / 3) (replicate m true) (let l = length-replicate m true in omega arith) ∙ t

  pub labels_set : All (λ b. b ≡ true) (take (length keys / 3) (replicate m true))
  labels_set = all_take (λ b. b ≡ true) (length keys / 3) (replicate m true) (all_set m)
