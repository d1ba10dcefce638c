-- What the stages in the code come to, put together; and the answer over lists that are the fronts of longer ones. Assumes nothing.
use mathlib.Core.Path.{◌≡◌, refl, sym, ◌∙◌, ap}
use mathlib.Core.Bool.{Bool, true, false, cond}
use mathlib.Core.List.{List, ◌++◌}
use mathlib.Core.Option.{Option}
use Prim.Native.Nat.{ℕ, ◌*◌}
use native.Mathlib.Omega.{arith}
use lib.ListN.{length}
use lib.Seq.{take-append-le, take_all}
use Rattle.plane.specs.Points.{Triangle}
use Rattle.plane.specs.Boundaries.{sides_of}
use Rattle.std.specs.Prelude.{Result, Ok, Err}
use Rattle.lent.specs.Refusals.{refused_as}
use Rattle.lent.specs.declared.Refusal.{Refusal}
use Rattle.lent.specs.Stages.{Answer, value, and_then, needing}
use Rattle.table.specs.Opposites.{opposites}
use Rattle.table_neighbours.specs.Neighbours.{same_bytes, indexed, lent_if}
use Rattle.table_neighbours.specs.Held.{held_index}
use Rattle.table_neighbours.proofs.Neighbours.{held_own}
use Rattle.sheet_form.specs.Numbers.{Sheet}
use Rattle.judged_sets.specs.Owning.{held_sets, owned_as, OneEach}
use Rattle.judged.specs.Judged.{check_framed}
use Rattle.judged.specs.Judging.{Crossed, OwnedOf}

-- An index is compared where one is lent, with that of the table.
pub agreed : (lent : Bool) (index : List ℕ) (table : List Triangle) (opposite : List ℕ) → opposite ≡ opposites (sides_of table) → (b : Bool) → cond lent (same_bytes index (held_index opposite)) true ≡ b → indexed (lent_if lent index) table ≡ needing b 53 0
agreed false index table opposite e b q = ap (λ b. needing b 53 0) q
agreed true index table opposite e b q = ap (λ b. needing b 53 0) (ap (same_bytes index) (sym (held_own table) ∙ ap held_index (sym e)) ∙ q)

module _ (index : Option (List ℕ)) (whole : Bool) (n : Sheet) where
  -- The stages behind the envelope: an index that is lent, and then the polygons.
  abbrev behind : Unit {0} → Answer (List ℕ)
  behind u = and_then (indexed index n.table) (λ _. held_sets n.table n.polygons)

  -- A refusal of the table or of the envelope is the sheet's.
  pub table_refused : (r : Refusal) (opposite l : List ℕ) → refused_as r ≡ check_framed whole n → OwnedOf index whole n (Err r) opposite l
  table_refused r opposite l e = record { is = ap (λ c. and_then c behind) e; each = tt; crossed = tt }

  -- Where the table passes, an index that is lent is refused,
  pub index_refused : (r : Refusal) (opposite l : List ℕ) → value tt ≡ check_framed whole n → refused_as r ≡ indexed index n.table → OwnedOf index whole n (Err r) opposite l
  index_refused r opposite l p e = record { is = ap (λ c. and_then c (λ _. held_sets n.table n.polygons)) e ∙ ap (λ c. and_then c behind) p; each = tt; crossed = tt }

  -- or the polygons tell.
  pub polygons_judged : (r : Result ℕ Refusal) (opposite l : List ℕ) → value tt ≡ check_framed whole n → value tt ≡ indexed index n.table → owned_as r l ≡ held_sets n.table n.polygons → OneEach r (length n.table)
      → length opposite ≡ 3 * length n.table → opposite ≡ opposites (sides_of n.table) → OwnedOf index whole n r opposite l
  polygons_judged r opposite l p i q one many e = record { is = q ∙ ap (λ c. and_then c (λ _. held_sets n.table n.polygons)) i ∙ ap (λ c. and_then c behind) p; each = one; crossed = all r one }
    where
      all : (r : Result ℕ Refusal) → OneEach r (length n.table) → Crossed r n.table opposite
      all (Ok t) one = take_all (3 * t) opposite (omega arith) ∙ e
      all (Err r) one = tt

  -- What the answer is with two lists it is with longer ones.
  pub on_fronts : (r : Result ℕ Refusal) (opposite l others rest : List ℕ) → OwnedOf index whole n r opposite l → length opposite ≡ 3 * length n.table → length l ≡ length n.table
      → OwnedOf index whole n r (opposite ++ others) (l ++ rest)
  on_fronts r opposite l others rest w o m = record { is = same r w.each ∙ w.is; each = w.each; crossed = still r w.each w.crossed }
    where
      same : (r : Result ℕ Refusal) → OneEach r (length n.table) → owned_as r (l ++ rest) ≡ owned_as r l
      same (Ok t) one = ap value (take-append-le t l rest (omega arith))
      same (Err r) one = refl

      still : (r : Result ℕ Refusal) → OneEach r (length n.table) → Crossed r n.table opposite → Crossed r n.table (opposite ++ others)
      still (Ok t) one q = take-append-le (3 * t) opposite others (omega arith) ∙ q
      still (Err r) one q = tt
