-- What is to come at a place goes by its counts alone: behind places with the same counts the counts are the same.
-- The idea: each change of a place is a choice by tests of its counts, and each choice is made alike. Assumes nothing.
use mathlib.Core.Path.{◌≡◌, refl, sym, ◌∙◌, ap, subst}
use mathlib.Core.Bool.{Bool, true, false, cond, ◌&&◌}
use Prim.Native.Nat.{ℕ, zero, suc}
use lib.Dec.{ltb, eqb}
use Rattle.wkb.specs.declared.Cursor.{Cursor}
use Rattle.wkb.specs.Steps.{slot_of, complete, renewed, popped, fewer_parts}
use Rattle.sheet.specs.Behind.{counts, behind, behind_all, levels, Begins, Row, Finished}

alike : (b : Bool) (x y x' y' : Cursor) → counts x ≡ counts x' → counts y ≡ counts y' → counts (cond b x y) ≡ counts (cond b x' y')
alike true x y x' y' p q = p
alike false x y x' y' p q = q

renewed_counts : (c : Cursor) → counts (renewed c) ≡ counts (renewed (counts c))
unfolding renewed complete
renewed_counts c = alike (complete c && ltb 0 c.members) _ c _ (counts c) refl refl

popped_counts : (c : Cursor) → counts (popped c) ≡ counts (popped (counts c))
unfolding popped
popped_counts c = alike c.header _ _ _ _ refl (alike (ltb 0 c.fourth) _ _ _ _ refl (alike (ltb 0 c.third) _ _ _ _ refl refl))

-- ---- places with the same counts
pub same_renewed : (c d : Cursor) → counts c ≡ counts d → counts (renewed c) ≡ counts (renewed d)
same_renewed c d e = renewed_counts c ∙ ap (λ k. counts (renewed k)) e ∙ sym (renewed_counts d)

behind_counts : (c : Cursor) → counts (behind c) ≡ counts (behind (counts c))
unfolding behind fewer_parts
behind_counts c = same_renewed _ _ (alike (ltb 0 c.parts) (fewer_parts c) (popped c) (fewer_parts (counts c)) (popped (counts c)) refl (popped_counts c))

pub same_behind : (c d : Cursor) → counts c ≡ counts d → counts (behind c) ≡ counts (behind d)
same_behind c d e = behind_counts c ∙ ap (λ k. counts (behind k)) e ∙ sym (behind_counts d)

pub same_behind_all : (n : ℕ) (c d : Cursor) → counts c ≡ counts d → counts (behind_all n c) ≡ counts (behind_all n d)
unfolding behind_all
same_behind_all zero c d e = e
same_behind_all (suc n) c d e = same_behind_all n (behind c) (behind d) (same_behind c d e)

stands_counts : (depth : ℕ) (c : Cursor) → Begins depth c → Begins depth (counts c)
unfolding complete levels slot_of
stands_counts depth c h = record { no_rings = h.no_rings; no_points = h.no_points; more = h.more; alone = h.alone; deep = h.deep }

counts_stand : (depth : ℕ) (c : Cursor) → Begins depth (counts c) → Begins depth c
unfolding complete levels slot_of
counts_stand depth c h = record { no_rings = h.no_rings; no_points = h.no_points; more = h.more; alone = h.alone; deep = h.deep }

pub same_row : (n depth : ℕ) (c d : Cursor) → counts c ≡ counts d → Row n depth c → Row n depth d
same_row zero depth c d e h = tt
same_row (suc n) depth c d e h = (
  counts_stand depth d (subst (Begins depth) e (stands_counts depth c h.0)),
  ap (λ (k : Cursor). eqb k.member 0) (sym e) ∙ h.1,
  same_row n depth (behind c) (behind d) (same_behind c d e) h.2,
)

pub same_finished : (c d : Cursor) → counts c ≡ counts d → Finished c → Finished d
unfolding complete
same_finished c d e h = subst Finished e h
