-- The index by the numbers of the reverses of the sides is the table's own. The idea: the first triangle with a side is that of the first such side. Assumes nothing.
use mathlib.Core.Path.{◌≡◌, refl, sym, ◌∙◌, ap, ap₂}
use mathlib.Core.Bool.{Bool, true, false, cond}
use mathlib.Core.List.{List, [], ◌∷◌, ◌++◌, map, flat_map}
use Prim.Native.Nat.{ℕ, zero, suc, ◌/◌}
use native.Mathlib.Omega.{arith}
use Rattle.plane.specs.Points.{Edge, Triangle, ◌⟶◌, flip, same_edge}
use Rattle.plane.specs.Boundaries.{sides_of}
use Rattle.table.specs.Opposites.{later, found_at, opposites}
use Rattle.table_neighbours.specs.Neighbours.{triangle_with, index_of, u16, own_index}
use Rattle.table_neighbours.specs.Held.{triangle_of, held_index}

-- Three sides further on is one triangle further on.
three_later : (x : ℕ) → later (triangle_of x) ≡ triangle_of (later (later (later x)))
three_later zero = refl
three_later (suc x) = let e : suc (suc (x / 3)) ≡ suc (suc (suc (suc x)) / 3) = omega arith in e

pub triangle_found : (e : Edge) (table : List Triangle) → triangle_with e table ≡ triangle_of (found_at e (sides_of table))
unfolding flat_map
triangle_found e [] = refl
triangle_found e (t ∷ l) = go (triangle_found e l) (same_edge (t.a ⟶ t.b) e) (same_edge (t.b ⟶ t.c) e) (same_edge (t.c ⟶ t.a) e)
  where
    rest : ℕ
    rest = found_at e (sides_of l)

    go : triangle_with e l ≡ triangle_of rest → (p q r : Bool) → cond (elim p [ true ↦ true | false ↦ elim q [ true ↦ true | false ↦ elim r [ true ↦ true | false ↦ false ] ] ]) 1 (later (triangle_with e l))
        ≡ triangle_of (cond p 1 (later (cond q 1 (later (cond r 1 (later rest))))))
    go h true q r = refl
    go h false true r = refl
    go h false false true = refl
    go h false false false = ap later h ∙ three_later rest

pub held_own : (table : List Triangle) → held_index (opposites (sides_of table)) ≡ own_index table
unfolding flat_map index_of opposites
held_own table = go (sides_of table)
  where
    go : (l : List Edge) → flat_map (λ o. u16 (triangle_of o)) (map (λ e. found_at (flip e) (sides_of table)) l) ≡ flat_map u16 (map (λ e. triangle_with (flip e) table) l)
    go [] = refl
    go (e ∷ l) = ap₂ ◌++◌ (ap u16 (sym (triangle_found (flip e) table))) (go l)
