-- The owners of a triangle as the code has them: one 64-bit set, a number whose bit k-1 stands for polygon k.
use Rattle.std.specs.Prelude.{Bool, cond, List, [], ◌∷◌, ℕ, zero, suc, ◌+◌, ◌*◌, ◌/◌, ◌%◌, ◌^◌, eqb, replicate}
use Rattle.whole.specs.Sums.{bit}
use Rattle.owners_marks.specs.declared.Standing.{Standing}
use Rattle.owners_marks.specs.Marks.{standing_by}

-- The marks of one more polygon, before all others: they become the lowest bits.
abbrev pub with_marks : List Bool → List ℕ → List ℕ
with_marks [] l = []
with_marks (b ∷ s) [] = []
with_marks (b ∷ s) (x ∷ l) = (bit b + 2 * x) ∷ with_marks s l

-- The owner set of each of n triangles, in table order, by the sets of the polygons in number order.
abbrev pub owner_sets : ℕ → List (List Bool) → List ℕ
owner_sets n [] = replicate n 0
owner_sets n (s ∷ l) = with_marks s (owner_sets n l)

-- The marks of one more polygon, behind the k there are: bit k. So the code makes the sets, the polygons in number order.
abbrev pub marked : ℕ → List Bool → List ℕ → List ℕ
marked k [] l = []
marked k (b ∷ s) [] = []
marked k (b ∷ s) (x ∷ l) = (x + bit b * 2 ^ k) ∷ marked k s l

-- The numbers of the polygons in a set, in ascending order: k + 1 for each bit k among the lowest n.
abbrev pub owners_in : ℕ → ℕ → ℕ → List ℕ
owners_in zero k set = []
owners_in (suc n) k set = cond (eqb (set % 2) 1) (suc k ∷ owners_in n (suc k) (set / 2)) (owners_in n (suc k) (set / 2))

-- The owners in a 64-bit set, and how the triangle stands.
unfoldable pub owners_of : ℕ → List ℕ
owners_of set = owners_in 64 0 set

unfoldable pub standing_of : ℕ → Standing
standing_of set = standing_by (owners_of set)
