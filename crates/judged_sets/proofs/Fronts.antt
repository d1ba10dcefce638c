-- The fronts of fresh work lists are lists as long as the table asks, where they were long enough. Assumes nothing.
use mathlib.Core.Path.{◌≡◌, ◌∙◌}
use mathlib.Core.Bool.{false}
use mathlib.Core.List.{List}
use Prim.Native.Nat.{ℕ, ◌*◌, ◌≤◌}
use native.Mathlib.Omega.{arith}
use lib.ListN.{length, take, replicate, length-replicate}
use lib.Seq.{length-take-le}
use Rattle.table.specs.Sides.{triangles_of}
use Rattle.table.proofs.Shares.{length_triangles}
use Rattle.owners_judge.specs.Preparing.{WorkLists}

-- Of work lists for `most` triangles, three places for each of t triangles and one for each.
pub fronts : (most : ℕ) (keys : List ℕ) (n t : ℕ) → length keys ≡ 3 * n → t ≡ length (triangles_of keys) → t ≤ most
    → WorkLists keys (take (3 * t) (replicate (3 * most) 0)) (take (3 * t) (replicate (3 * most) 0)) (take t (replicate most false)) (take t (replicate most 0))
fronts most keys n t three e h =
    let s : 3 * t ≡ length keys = omega (arith, length_triangles keys n three) in
    let w : 3 * t ≤ length (replicate {A = ℕ} (3 * most) 0) = omega (arith, length-replicate {A = ℕ} (3 * most) 0) in
    record {
      each_count = length-take-le (3 * t) (replicate (3 * most) 0) w ∙ s;
      each_side = length-take-le (3 * t) (replicate (3 * most) 0) w ∙ s;
      each_label = length-take-le t (replicate most false) (omega (arith, length-replicate most false)) ∙ e;
      each_place = length-take-le t (replicate most 0) (omega (arith, length-replicate {A = ℕ} most 0)) ∙ e;
    }
