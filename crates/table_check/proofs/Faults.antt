-- The table rules in their order, by the first faults that the code finds. Assumes nothing.
use mathlib.Core.Path.{◌≡◌, refl, sym, ap}
use mathlib.Core.Logic.{inl, inr}
use mathlib.Core.Bool.{Bool, true, false}
use mathlib.Core.List.{List, [], ◌∷◌}
use mathlib.Core.Option.{none, some}
use Prim.Native.Nat.{ℕ, suc, ◌+◌, ◌≤◌}
use native.Mathlib.Omega.{arith}
use lib.ListN.{length}
use Rattle.plane.specs.Points.{Edge, Triangle}
use Rattle.plane.specs.Cuts.{all_pieces}
use Rattle.plane.specs.Boundaries.{agree, sides_of}
use Rattle.lent.specs.Stages.{refused, needing}
use Rattle.table.specs.Table.{corners, RuleA, RuleB, first_fault, flat, repeats, check_table}
use Rattle.table.proofs.Rules.{no_fault, rule_a, rule_b, first_fault_lem, refused_as}

-- A fault has a number up to that of the last member.
pub fault_within : {A : Type 0} (bad : List A → A → Bool) (before l : List A) {n : ℕ} → first_fault bad before l ≡ some n → n ≤ length before + length l
fault_within bad before [] e = absurd (cc e)
fault_within bad before (a ∷ l) {n} e = go (bad before a) (fault_within bad (a ∷ before) l) e
  where
    go : (b : Bool) → (first_fault bad (a ∷ before) l ≡ some n → n ≤ suc (length before) + length l) → elim b [ true ↦ some (suc (length before)) | false ↦ first_fault bad (a ∷ before) l ] ≡ some n
        → n ≤ length before + suc (length l)
    go true r e = let q : suc (length before) ≡ n = cc e in omega arith
    go false r e = let q = r e in omega arith

module _ (outline : List Edge) (table : List Triangle) where
  pub areas_above : first_fault flat [] table ≡ none → RuleA table
  areas_above e = (rule_a [] table).0 ((no_fault flat [] table).0 e)

  pub check_flat : {n : ℕ} → first_fault flat [] table ≡ some n → refused 10 n ≡ check_table outline table
  check_flat e = sym ((refused_as outline table 10 _).1 (inl (refl, (first_fault_lem flat [] table _).0 e)))

  module _ (e : first_fault flat [] table ≡ none) where
    pub sides_once : first_fault repeats [] table ≡ none → RuleB table
    sides_once f = (rule_b table (areas_above e)).0 ((no_fault repeats [] table).0 f)

    pub check_repeated : {n : ℕ} → first_fault repeats [] table ≡ some n → refused 11 n ≡ check_table outline table
    check_repeated f = sym ((refused_as outline table 11 _).1 (inr (inl (refl, areas_above e, (first_fault_lem repeats [] table _).0 f))))

    pub check_outlined : first_fault repeats [] table ≡ none → (b : Bool) → b ≡ agree (sides_of table) (all_pieces (corners table) outline) → needing b 12 0 ≡ check_table outline table
    unfolding check_table
    check_outlined f b q = rw (e, f) (ap (λ b. needing b 12 0) q)
