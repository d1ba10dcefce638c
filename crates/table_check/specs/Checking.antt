-- How the code's answer shows what the check of a table comes to.
use Rattle.std.specs.Prelude.{◌≡◌, List, Result, Ok, Err, ℕ, ◌*◌, ◌≤◌, length, take}
use Rattle.whole.specs.Sums.{All}
use Rattle.plane.specs.Points.{Edge}
use Rattle.plane.specs.Keys.{Key}
use Rattle.lent.specs.Stages.{Answer, value}
use Rattle.lent.specs.Refusals.{refused_as}
use Rattle.lent.specs.declared.Refusal.{Refusal}
use Rattle.table.specs.Table.{check_table}
use Rattle.table.specs.Sides.{triangles_of}
use Rattle.table_count.specs.Indexed.{Indexed}

-- The corners of n triangles, at most 1,024.
pub record Tableable (keys : List ℕ) (n : ℕ) : Type 0 where
  pub in_range : All Key keys
  pub three : length keys ≡ 3 * n
  pub few : n ≤ 1024

-- What an answer stands for: the check passes, or is refused.
abbrev pub checked_of : Result ℕ Refusal → Answer (Unit {0})
checked_of (Ok n) = value tt
checked_of (Err r) = refused_as r

-- The check is that of the table rules in their order; where it passes, corners and sides can be looked up.
pub record CheckOf (outline : List Edge) (keys ordered index opposite : List ℕ) (r : Result ℕ Refusal) : Type 0 where
  pub is : checked_of r ≡ check_table outline (triangles_of keys)
  pub indexed : (n : ℕ) → r ≡ Ok n → (n ≤ length ordered) × Indexed keys (take n ordered) index opposite
