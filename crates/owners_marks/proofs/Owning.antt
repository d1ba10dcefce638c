-- The owner sets of polygons: the marks of one more polygon, in number order, become the next bit, and each bit tells whether the polygon
-- of its number has the triangle. Assumes nothing.
use mathlib.Core.Path.{◌≡◌, refl, ap, ap₂, ◌∙◌}
use mathlib.Core.Bool.{Bool, true, false}
use mathlib.Core.List.{List, [], ◌∷◌, ◌++◌}
use Prim.Native.Nat.{ℕ, zero, suc, ◌+◌, ◌*◌, ◌/◌, ◌%◌, ◌^◌, ◌<◌}
use native.Mathlib.Nat.{pow-suc}
use native.Mathlib.Omega.{arith}
use lib.ListN.{length, get_or, set, take, drop, replicate, get_or-replicate}
use Rattle.whole.specs.Sums.{All, bit}
use Rattle.owners_marks.specs.Sets.{with_marks, owner_sets, marked}
use Rattle.owners_marks.proofs.Bits.{digit_zero, digit_suc, digit_none, lowest, rest}
use Rattle.owners_marks.proofs.Owners.{length_owner_sets}

-- ---- the marks of one more polygon
-- What stands at place t where the first t sets have their marks, and the mark put on it.
pub next_set : (k t : ℕ) (s : List Bool) (l : List ℕ) → t < length s → t < length l → get_or (marked k (take t s) l ++ drop t l) t 0 ≡ get_or l t 0
next_set k t [] l h w = absurd (omega arith)
next_set k t (b ∷ s) [] h w = absurd (omega arith)
next_set k zero (b ∷ s) (x ∷ l) h w = refl
next_set k (suc t) (b ∷ s) (x ∷ l) h w = next_set k t s l (omega arith) (omega arith)

pub one_more : (k t : ℕ) (s : List Bool) (l : List ℕ) → t < length s → t < length l
    → set (marked k (take t s) l ++ drop t l) t (get_or l t 0 + bit (get_or s t false) * 2 ^ k) ≡ marked k (take (suc t) s) l ++ drop (suc t) l
one_more k t [] l h w = absurd (omega arith)
one_more k t (b ∷ s) [] h w = absurd (omega arith)
one_more k zero (b ∷ s) (x ∷ l) h w = refl
one_more k (suc t) (b ∷ s) (x ∷ l) h w = ap (λ (r : List ℕ). (x + bit b * 2 ^ k) ∷ r) (one_more k t s l (omega arith) (omega arith))

-- ---- the sets of all polygons
with_marks_none : (n : ℕ) (s : List Bool) → with_marks s (replicate n 0) ≡ marked 0 s (replicate n 0)
with_marks_none zero [] = refl
with_marks_none zero (b ∷ s) = refl
with_marks_none (suc n) [] = refl
with_marks_none (suc n) (b ∷ s) = let e : bit b + 2 * 0 ≡ 0 + bit b * 2 ^ 0 = omega arith in ap₂ (λ (x : ℕ) (r : List ℕ). x ∷ r) e (with_marks_none n s)

with_marks_marked : (k : ℕ) (r s : List Bool) (l : List ℕ) → with_marks r (marked k s l) ≡ marked (suc k) s (with_marks r l)
with_marks_marked k [] [] l = refl
with_marks_marked k [] (c ∷ s) l = refl
with_marks_marked k (b ∷ r) [] l = refl
with_marks_marked k (b ∷ r) (c ∷ s) [] = refl
with_marks_marked k (b ∷ r) (c ∷ s) (x ∷ l) =
    let p = pow-suc 2 k in
    let e : bit b + 2 * (x + bit c * 2 ^ k) ≡ bit b + 2 * x + bit c * 2 ^ suc k = rw p (omega arith) in ap₂ (λ (y : ℕ) (m : List ℕ). y ∷ m) e (with_marks_marked k r s l)

-- The marks of the polygon behind all others are the next bit: what a writer in number order does.
pub owner_sets_more : (n : ℕ) (l : List (List Bool)) (s : List Bool) → owner_sets n (l ++ s ∷ []) ≡ marked (length l) s (owner_sets n l)
owner_sets_more n [] s = with_marks_none n s
owner_sets_more n (r ∷ l) s = ap (with_marks r) (owner_sets_more n l s) ∙ with_marks_marked (length l) r s (owner_sets n l)

none_below : (n : ℕ) → All (λ x. x < 2 ^ 0) (replicate n 0)
none_below zero = tt
none_below (suc n) = (omega arith, none_below n)

with_marks_below : (k : ℕ) (s : List Bool) (l : List ℕ) → All (λ x. x < 2 ^ k) l → All (λ x. x < 2 ^ suc k) (with_marks s l)
with_marks_below k [] l h = tt
with_marks_below k (b ∷ s) [] h = tt
with_marks_below k (b ∷ s) (x ∷ l) h = (go b h.0, with_marks_below k s l h.1)
  where
    go : (b : Bool) → x < 2 ^ k → bit b + 2 * x < 2 ^ suc k
    go true h = let e = pow-suc 2 k in omega arith
    go false h = let e = pow-suc 2 k in omega arith

-- As many bits as polygons.
pub owner_sets_below : (n : ℕ) (l : List (List Bool)) → All (λ x. x < 2 ^ length l) (owner_sets n l)
owner_sets_below n [] = none_below n
owner_sets_below n (s ∷ l) = with_marks_below (length l) s (owner_sets n l) (owner_sets_below n l)

-- ---- what a bit says
at_with_marks : (t : ℕ) (s : List Bool) (l : List ℕ) → t < length s → t < length l → get_or (with_marks s l) t 0 ≡ bit (get_or s t false) + 2 * get_or l t 0
at_with_marks t [] l h w = absurd (omega arith)
at_with_marks t (b ∷ s) [] h w = absurd (omega arith)
at_with_marks zero (b ∷ s) (x ∷ l) h w = refl
at_with_marks (suc t) (b ∷ s) (x ∷ l) h w = at_with_marks t s l (omega arith) (omega arith)

-- Bit k, counted from 0, of a triangle's set tells whether the polygon of number k + 1 has the triangle; it is 0 where there is no such polygon.
pub bit_stands : (n : ℕ) (l : List (List Bool)) → All (λ s. length s ≡ n) l → (k t : ℕ) → t < n → get_or (owner_sets n l) t 0 / 2 ^ k % 2 ≡ bit (get_or (get_or l k []) t false)
bit_stands n [] h k t w = rw (get_or-replicate {A = ℕ} n t 0 0 w) (digit_none k)
bit_stands n (s ∷ l) h zero t w =
    let e = at_with_marks t s (owner_sets n l) (rw h.0 w) (rw (length_owner_sets n l h.1) w) in
    rw e (digit_zero (bit (get_or s t false) + 2 * get_or (owner_sets n l) t 0) ∙ lowest (get_or s t false) (get_or (owner_sets n l) t 0))
bit_stands n (s ∷ l) h (suc k) t w =
    let e = at_with_marks t s (owner_sets n l) (rw h.0 w) (rw (length_owner_sets n l h.1) w) in
    rw e (digit_suc (bit (get_or s t false) + 2 * get_or (owner_sets n l) t 0) k ∙ rw (rest (get_or s t false) (get_or (owner_sets n l) t 0)) (bit_stands n l h.1 k t w))
