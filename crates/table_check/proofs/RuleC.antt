-- Rule C by the comparison that judges a member. The idea: the set with every mark is the whole table, so that the counts are its shares
-- exactly if the table's sides have the boundary of the outline's pieces. Assumes nothing.
use mathlib.Core.Path.{◌≡◌, refl, sym, ◌∙◌, ap, subst}
use mathlib.Core.Bool.{Bool, true, false}
use mathlib.Core.List.{List, [], ◌∷◌}
use Prim.Native.Nat.{ℕ}
use native.Mathlib.Omega.{arith}
use lib.Dec.{T}
use lib.ListN.{length}
use Rattle.whole.specs.Tests.{Told}
use Rattle.whole.specs.Sums.{All}
use Rattle.plane.specs.Points.{Edge}
use Rattle.plane.specs.Cuts.{all_pieces}
use Rattle.plane.specs.Boundaries.{SameBoundary, agree, sides_of}
use Rattle.plane.specs.Keys.{pairs}
use Rattle.plane.proofs.Boundaries.{agree_is}
use Rattle.table.specs.Table.{corners}
use Rattle.table.specs.Sets.{SetOf, chosen}
use Rattle.table.specs.Sides.{triangles_of, Shares}
use Rattle.table_count.specs.Counting.{pieces_of, Tallied, Settled, Stray}
use Rattle.table_count.specs.Indexed.{Indexed}
use Rattle.table_labels.proofs.Compared.{pieces_are, stray_refuses, shares_from, shares_to}

-- With every mark all members are chosen.
pub every_chosen : {A : Type 0} (l : List A) (s : List Bool) → length s ≡ length l → All (λ b. b ≡ true) s → chosen l s ≡ l
every_chosen [] s e h = refl
every_chosen (a ∷ l) [] e h = absurd (omega arith)
every_chosen (a ∷ l) (true ∷ s) e h = ap (λ z. a ∷ z) (every_chosen l s (omega arith) h.1)
every_chosen (a ∷ l) (false ∷ s) e h = absurd (subst T (sym h.0) tt)

-- An answer that tells whether two lists have the same boundary is the test's.
pub agree_told : (l m : List Edge) (r : Bool) → Told r (SameBoundary l m) (SameBoundary l m → ⊥) → r ≡ agree l m
agree_told l m r h = go r (agree l m) h (agree_is l m).0 (agree_is l m).1
  where
    go : (r b : Bool) → Told r (SameBoundary l m) (SameBoundary l m → ⊥) → (T b → SameBoundary l m) → (SameBoundary l m → T b) → r ≡ b
    go true true h f g = refl
    go true false h f g = absurd (g h)
    go false true h f g = absurd (h (f tt))
    go false false h f g = refl

module _ (keys ordered index opposite : List ℕ) (indexed : Indexed keys ordered index opposite) (labels : List Bool) (fits : SetOf (triangles_of keys) labels) (full : All (λ b. b ≡ true) labels)
    (from to : List ℕ) where
  -- The pieces of the outline, as they are defined.
  abbrev outlined : List Edge
  outlined = all_pieces (corners (triangles_of keys)) (pairs from to)

  -- The marked set has the boundary of the pieces as the code finds them exactly if the table has that of the pieces as they are defined.
  compared : SameBoundary (sides_of (chosen (triangles_of keys) labels)) (pieces_of ordered from to) ≡ SameBoundary (sides_of (triangles_of keys)) outlined
  compared = ap (λ s. SameBoundary (sides_of s) (pieces_of ordered from to)) (every_chosen (triangles_of keys) labels fits full)
      ∙ ap (SameBoundary (sides_of (triangles_of keys))) (pieces_are keys ordered index opposite indexed from to (pairs from to) refl)

  -- A stray piece: the boundaries differ.
  pub stray_differs : Stray (sides_of (triangles_of keys)) (pieces_of ordered from to) → false ≡ agree (sides_of (triangles_of keys)) outlined
  stray_differs stray = agree_told (sides_of (triangles_of keys)) outlined false
      (λ h. stray_refuses keys ordered index opposite indexed (pieces_of ordered from to) labels fits stray (subst (λ T. T) (sym compared) h))

  -- Else the counts tell whether they are the same.
  pub shares_tell : (counts : List ℕ) → Tallied (sides_of (triangles_of keys)) (pieces_of ordered from to) counts → Settled (sides_of (triangles_of keys)) (pieces_of ordered from to) (pieces_of ordered from to)
      → (r : Bool) → Told r (Shares opposite counts labels) (Shares opposite counts labels → ⊥) → r ≡ agree (sides_of (triangles_of keys)) outlined
  shares_tell counts tallied settled r h = agree_told (sides_of (triangles_of keys)) outlined r (go r h)
    where
      go : (r : Bool) → Told r (Shares opposite counts labels) (Shares opposite counts labels → ⊥)
          → Told r (SameBoundary (sides_of (triangles_of keys)) outlined) (SameBoundary (sides_of (triangles_of keys)) outlined → ⊥)
      go true h = subst (λ T. T) compared (shares_to keys ordered index opposite indexed (pieces_of ordered from to) labels fits counts tallied settled h)
      go false h = λ b. h (shares_from keys ordered index opposite indexed (pieces_of ordered from to) labels fits counts tallied (subst (λ T. T) (sym compared) b))
