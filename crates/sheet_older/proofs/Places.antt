-- Numbers that stand at a place among held numbers: what is read there, and that exchanging two of them exchanges what they stand for. Assumes nothing.
use mathlib.Core.Path.{◌≡◌, refl, sym, ◌∙◌, ap, ap₂}
use mathlib.Core.List.{List, [], ◌∷◌, ◌++◌, map, append_assoc}
use Prim.Native.Nat.{ℕ, zero, suc, ◌+◌, ◌<◌}
use native.Mathlib.Omega.{arith}
use lib.IntN.{ℤ}
use lib.ListN.{length, get_or, set, drop, length-map, length-append, length-set, get_or-map}
use lib.Seq.{drop_at, get_or_at, set_at}
use Rattle.whole.specs.Sums.{All}
use Rattle.whole.proofs.Sums.{all_at}
use Rattle.plane.specs.Corners.{millimetres}
use Rattle.plane.specs.Keys.{Held}
use Rattle.sheet_form.specs.Numbers.{counted}
use Rattle.sheet_edges.proofs.Walk.{count_first}
use Rattle.sheet_older.specs.Standing.{Stands, Place, swapped}

-- ---- lists
map_drop : {A B : Type 0} (f : A → B) (n : ℕ) (l : List A) → map f (drop n l) ≡ drop n (map f l)
map_drop f zero l = refl
map_drop f (suc n) [] = refl
map_drop f (suc n) (a ∷ l) = map_drop f n l

map_set : {A B : Type 0} (f : A → B) (l : List A) (i : ℕ) (v : A) → map f (set l i v) ≡ set (map f l) i (f v)
map_set f [] i v = refl
map_set f (a ∷ l) zero v = refl
map_set f (a ∷ l) (suc i) v = ap (λ m. f a ∷ m) (map_set f l i v)

all_set : (P : ℕ → Type 0) (l : List ℕ) (i v : ℕ) → All P l → P v → All P (set l i v)
all_set P [] i v h k = tt
all_set P (a ∷ l) zero v h k = (k, h.1)
all_set P (a ∷ l) (suc i) v h k = (h.0, all_set P l i v h.1 k)

-- ---- what is read
module _ {numbers : List ℕ} {at : ℕ} {front z : List ℤ} (w : Stands numbers at front z) where
  pub stands_length : length numbers ≡ at + length z
  stands_length = omega (arith, length-map numbers millimetres, ap length w.is, length-append front z, w.place)

  pub stands_behind : map millimetres (drop at numbers) ≡ z
  stands_behind = map_drop millimetres at numbers ∙ ap (drop at) w.is ∙ drop_at front z at w.place

-- Standing, with what stands before and behind told otherwise.
pub stands_as : {numbers : List ℕ} {at : ℕ} {front front' z z' : List ℤ} → front ≡ front' → z ≡ z' → Stands numbers at front z → Stands numbers at front' z'
stands_as e f w = record { is = w.is ∙ ap₂ ◌++◌ e f; place = sym (ap length e) ∙ w.place }

-- The first of what stands behind is passed over.
pub stands_past : {numbers : List ℕ} {at next : ℕ} {front z : List ℤ} (k : List ℤ) → next ≡ at + length k → Stands numbers at front (k ++ z) → Stands numbers next (front ++ k) z
stands_past {front = front} {z = z} k e w = record { is = w.is ∙ sym (append_assoc front k z); place = omega (arith, length-append front k, w.place) }

-- Where a counted list stands, its count is read.
pub stands_count : {A : Type 0} (f : A → List ℤ) {numbers : List ℕ} {at : ℕ} {front : List ℤ} (l : List A) (rest : List ℤ) → Stands numbers at front (counted f l ++ rest)
    → (at < length numbers) × (get_or numbers at 0 ≡ length l + 10_000_000)
stands_count f {numbers} {at} l rest w = let c = count_first f numbers at l rest (stands_behind w) in (c.0, c.1)

pub place_count : {A : Type 0} (f : A → List ℤ) {Fit : List A → Type 0} {numbers : List ℕ} {at : ℕ} (p : Place (counted f) Fit numbers at)
    → (at < length numbers) × (get_or numbers at 0 ≡ length p.thing + 10_000_000)
place_count f p = stands_count f p.thing p.rest p.stands

-- ---- two numbers exchanged
pub swapped_length : (l : List ℕ) (i j : ℕ) → length (swapped l i j) ≡ length l
swapped_length l i j = length-set (set l i (get_or l j 0)) j (get_or l i 0) ∙ length-set l i (get_or l j 0)

pub swapped_held : (l : List ℕ) (i j : ℕ) → i < length l → j < length l → All Held l → All Held (swapped l i j)
swapped_held l i j h k w =
    all_set Held (set l i (get_or l j 0)) j (get_or l i 0) (all_set Held l i (get_or l j 0) w (all_at Held 0 l j w k)) (all_at Held 0 l i w h)

-- The number at a place, for what it stands for.
value_at : (numbers : List ℕ) (i : ℕ) (front : List ℤ) (a : ℤ) (z : List ℤ) → map millimetres numbers ≡ front ++ a ∷ z → length front ≡ i → millimetres (get_or numbers i 0) ≡ a
value_at numbers i front a z e h = sym (get_or-map millimetres numbers i 0) ∙ ap (λ l. get_or l i (millimetres 0)) e ∙ get_or_at front a z (millimetres 0) i h

pub swapped_is : (numbers : List ℕ) (i j : ℕ) (front : List ℤ) (a : ℤ) (k : List ℤ) (b : ℤ) (z : List ℤ) → map millimetres numbers ≡ front ++ a ∷ (k ++ b ∷ z)
    → length front ≡ i → i + 1 + length k ≡ j → map millimetres (swapped numbers i j) ≡ front ++ b ∷ (k ++ a ∷ z)
swapped_is numbers i j front a k b z e h l =
    map_set millimetres (set numbers i (get_or numbers j 0)) j (get_or numbers i 0)
    ∙ ap (λ m. set m j (millimetres (get_or numbers i 0))) (map_set millimetres numbers i (get_or numbers j 0))
    ∙ rw (value_at numbers i front a (k ++ b ∷ z) e h, value_at numbers j (front ++ a ∷ k) b z (e ∙ sym (append_assoc front (a ∷ k) (b ∷ z))) (far a), e) both
  where
    far : (x : ℤ) → length (front ++ x ∷ k) ≡ j
    far x = omega (arith, length-append front (x ∷ k))

    both : set (set (front ++ a ∷ (k ++ b ∷ z)) i b) j a ≡ front ++ b ∷ (k ++ a ∷ z)
    both =
        ap (λ m. set m j a) (set_at front a (k ++ b ∷ z) b i h ∙ sym (append_assoc front (b ∷ k) (b ∷ z)))
        ∙ set_at (front ++ b ∷ k) b z a j (far b)
        ∙ append_assoc front (b ∷ k) (a ∷ z)
