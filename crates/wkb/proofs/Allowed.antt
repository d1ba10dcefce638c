-- Which types are let through where a geometry stands, and what else that says. Assumes nothing.
use mathlib.Core.Path.{◌≡◌}
use Prim.Native.Nat.{ℕ, ◌<◌}
use native.Mathlib.Omega.{arith}
use borrow.Author.Tests.{ltb-true, eqb-true}
use lib.Dec.{ltb, eqb}
use Rattle.whole.proofs.Tests.{by_equal}
use Rattle.std.specs.Prelude.{Option}
use Rattle.lent.specs.declared.Reason.{Reason}
use Rattle.wkb.specs.declared.Cursor.{Cursor}
use Rattle.wkb_kinds.specs.declared.Slot.TheVariants.{Part, Member}
use Rattle.wkb_kinds.specs.Types.{code_told}
use Rattle.wkb.specs.Steps.{crowded, deep, kind_fault}

-- A member's geometry.
pub data Allowed (c : Cursor) (k : ℕ) : Type 0 where
  polygon : k ≡ 3 → c.polygons < 64 → Allowed c k
  parts : k ≡ 6 → Allowed c k
  members : k ≡ 7 → c.fourth ≡ 0 → Allowed c k

crowded_then : (c : Cursor) → code_told (crowded c) ≡ 0 → c.polygons < 64
unfolding crowded
crowded_then c = by_equal (λ (o : Option Reason). code_told o ≡ 0 → c.polygons < 64) (ltb c.polygons 64) _ _ (λ e h. ltb-true c.polygons 64 e) (λ e h. absurd (omega arith))

deep_then : (c : Cursor) → code_told (deep c) ≡ 0 → c.fourth ≡ 0
unfolding deep
deep_then c = by_equal (λ (o : Option Reason). code_told o ≡ 0 → c.fourth ≡ 0) (eqb c.fourth 0) _ _ (λ e h. eqb-true c.fourth 0 e) (λ e h. absurd (omega arith))

pub allowed_member : (c : Cursor) (k : ℕ) → kind_fault Member c k ≡ 0 → Allowed c k
unfolding kind_fault
allowed_member c k =
    by_equal (λ (o : Option Reason). code_told o ≡ 0 → Allowed c k) (eqb k 3) _ _ (λ e h. polygon (eqb-true k 3 e) (crowded_then c h))
    (λ e. by_equal (λ (o : Option Reason). code_told o ≡ 0 → Allowed c k) (eqb k 6) _ _ (λ e h. parts (eqb-true k 6 e))
    (λ e. by_equal (λ (o : Option Reason). code_told o ≡ 0 → Allowed c k) (eqb k 7) _ _ (λ e h. members (eqb-true k 7 e) (deep_then c h)) (λ e h. absurd (omega arith))))

-- A part of a MultiPolygon.
pub allowed_part : (c : Cursor) (k : ℕ) → kind_fault Part c k ≡ 0 → (k ≡ 3) × (c.polygons < 64)
unfolding kind_fault
allowed_part c k = by_equal (λ (o : Option Reason). code_told o ≡ 0 → (k ≡ 3) × (c.polygons < 64)) (eqb k 3) _ _ (λ e h. (eqb-true k 3 e, crowded_then c h)) (λ e h. absurd (omega arith))
