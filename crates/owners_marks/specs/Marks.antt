-- The owners of a triangle: the numbers of the polygons that have it, in ascending order. There may be any number of polygons.
use Rattle.std.specs.Prelude.{Bool, cond, List, [], ◌∷◌, ℕ, suc, ◌+◌, ◌-◌, ◌^◌, replicate}
use Rattle.owners_marks.specs.declared.Standing.{Standing}
use Rattle.owners_marks.specs.declared.Standing.TheVariants.{Gap, Single, Overlap}

-- Polygon k, before all others, is an owner of each triangle that is marked.
abbrev pub with_owner : ℕ → List Bool → List (List ℕ) → List (List ℕ)
with_owner k [] l = []
with_owner k (b ∷ s) [] = []
with_owner k (b ∷ s) (o ∷ l) = cond b (k ∷ o) o ∷ with_owner k s l

-- The owners of each of n triangles, in table order, by the sets of the polygons in number order, the first being number k.
abbrev pub owners_from : ℕ → ℕ → List (List Bool) → List (List ℕ)
owners_from n k [] = replicate n []
owners_from n k (s ∷ l) = with_owner k s (owners_from n (suc k) l)

-- A triangle with no owner is a gap, with two or more an overlap; the smallest owner number goes with the answer.
abbrev pub standing_by : List ℕ → Standing
standing_by [] = Gap
standing_by (k ∷ []) = Single k
standing_by (k ∷ j ∷ l) = Overlap k

-- The owners as one number, whose bit k-1 stands for polygon k.
abbrev pub set_of : List ℕ → ℕ
set_of [] = 0
set_of (k ∷ l) = 2 ^ (k - 1) + set_of l
