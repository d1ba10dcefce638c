-- The writer takes the numbers form: the sheet that numbers make up, if they make up a whole sheet with no numbers left over.
use Rattle.std.specs.Prelude.{List, [], ◌∷◌, ℕ, zero, suc, ℤ, pos, negsuc}
use Rattle.std.proofs.Math.Option.{Option, none, some}
use Rattle.std.specs.Int.{w32}
use Rattle.std.proofs.Common.{to_z}
use Rattle.plane.specs.Points.{Point, Triangle}
use Rattle.plane.specs.Members.{Ring, Polygon, Member}
use Rattle.lent_little.specs.Ordered.{number}
use Rattle.sheet_form.specs.Numbers.{Sheet}

-- What stands at the front of numbers, with the numbers behind it; nothing where they are too few, or a count is negative.
abbrev pub Front : Type 0 → Type 0
Front A = Option (A × List ℤ)

-- First one thing, then with the numbers behind it another.
abbrev pub after : {A B : Type 0} → Front A → (A → List ℤ → Option B) → Option B
after none f = none
after (some (a, l)) f = f a l

abbrev pub point_in : List ℤ → Front Point
point_in [] = none
point_in (x ∷ []) = none
point_in (x ∷ y ∷ l) = some (record { x = x; y = y }, l)

abbrev pub triangle_in : List ℤ → Front Triangle
triangle_in l = after (point_in l) (λ a k. after (point_in k) (λ b m. after (point_in m) (λ c n. some (record { a = a; b = b; c = c }, n))))

-- So many things, one behind the other.
unfoldable pub many_in : {A : Type 0} → (List ℤ → Front A) → ℕ → List ℤ → Front (List A)
many_in f zero l = some ([], l)
many_in f (suc n) l = after (f l) (λ a k. after (many_in f n k) (λ r m. some (a ∷ r, m)))

-- A count, and so many things.
abbrev pub counted_in : {A : Type 0} → (List ℤ → Front A) → List ℤ → Front (List A)
counted_in f [] = none
counted_in f (pos n ∷ l) = many_in f n l
counted_in f (negsuc n ∷ l) = none

abbrev pub ring_in : List ℤ → Front Ring
ring_in = counted_in point_in

abbrev pub part_in : List ℤ → Front Polygon
part_in = counted_in ring_in

abbrev pub member_in : List ℤ → Front Member
member_in = counted_in part_in

-- The table and the polygons, and no numbers left over.
abbrev pub whole : Sheet → List ℤ → Option Sheet
whole n [] = some n
whole n (z ∷ l) = none

abbrev pub sheet_in : List ℤ → Option Sheet
sheet_in l = after (counted_in triangle_in l) (λ t k. after (counted_in member_in k) (λ p m. whole (record { table = t; polygons = p }) m))

-- The numbers that bytes are, four bytes each as a little-endian i32; bytes that are no four are left out.
unfoldable pub numbers_in : List ℕ → List ℤ
numbers_in [] = []
numbers_in (a ∷ []) = []
numbers_in (a ∷ b ∷ []) = []
numbers_in (a ∷ b ∷ c ∷ []) = []
numbers_in (a ∷ b ∷ c ∷ d ∷ l) = to_z w32 (number (a ∷ b ∷ c ∷ d ∷ [])) ∷ numbers_in l
