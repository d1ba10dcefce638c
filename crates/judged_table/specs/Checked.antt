-- The table of a held sheet by the table rules, against the frame of its corners.
use Rattle.std.specs.Prelude.{◌≡◌, List, Result, Ok, ℕ, ◌≤◌, length, take}
use Rattle.lent.specs.declared.Refusal.{Refusal}
use Rattle.table.specs.Table.{frame_edges, check_table}
use Rattle.table.specs.Sides.{triangles_of}
use Rattle.table_count.specs.Indexed.{Indexed}
use Rattle.table_check.specs.Checking.{checked_of}
use Rattle.sheet_form.specs.Numbers.{Sheet}

-- Work lists of one length.
pub record Lists (n : ℕ) (k r i o : List ℕ) : Type 0 where
  pub keys : length k ≡ n
  pub ordered : length r ≡ n
  pub index : length i ≡ n
  pub opposite : length o ≡ n

-- The corners of the sheet's table are laid down, the answer is what its check comes to, and where it passes corners and sides can be looked up.
pub record TableChecked (n : Sheet) (keys ordered index opposite : List ℕ) (r : Result ℕ Refusal) : Type 0 where
  pub laid : triangles_of keys ≡ n.table
  pub is : checked_of r ≡ check_table (frame_edges n.table) n.table
  pub indexed : (k : ℕ) → r ≡ Ok k → (k ≤ length ordered) × Indexed keys (take k ordered) index opposite
