-- What a count of ones and a count of trailing zeros say of a number's bits, and the list of the numbers in a set against its bits. Assumes nothing.
use mathlib.Core.Path.{◌≡◌, refl, sym, ap, ◌∙◌}
use mathlib.Core.Bool.{Bool, true, false}
use mathlib.Core.List.{List, [], ◌∷◌}
use Prim.Native.Nat.{ℕ, zero, suc, ◌+◌, ◌*◌, ◌/◌, ◌%◌, ◌^◌, ◌≤◌, ◌<◌}
use native.Mathlib.Nat.{div-one, div-div-eq-div-mul, pow-succ', pow-suc}
use native.Mathlib.Omega.{arith}
use borrow.Author.Tests.{eqb-true, eqb-false}
use lib.Count.{ones, count_trailing_zeros, under, ones_step}
use lib.Dec.{eqb}
use lib.ListN.{length, get_or}
use Rattle.whole.specs.Sums.{All, bit}
use Rattle.whole.proofs.Sums.{all_map}
use Rattle.whole.proofs.Tests.{by_equal}
use Rattle.owners_marks.specs.declared.Standing.TheVariants.{Gap, Single, Overlap}
use Rattle.owners_marks.specs.Marks.{standing_by}
use Rattle.owners_marks.specs.Sets.{owners_in, owners_of, standing_of}

-- Bit k of a number, counted from 0.
abbrev pub digit : ℕ → ℕ → ℕ
digit x k = x / 2 ^ k % 2

pub digit_zero : (n : ℕ) → digit n 0 ≡ n % 2
digit_zero n = ap (λ (x : ℕ). x % 2) (div-one n)

pub digit_suc : (n k : ℕ) → digit n (suc k) ≡ digit (n / 2) k
digit_suc n k = ap (λ (x : ℕ). x % 2) (ap (λ (x : ℕ). n / x) (pow-succ' 2 k) ∙ sym (div-div-eq-div-mul n 2 (2 ^ k)))

pub digit_none : (k : ℕ) → digit 0 k ≡ 0
digit_none zero = refl
digit_none (suc k) = digit_suc 0 k ∙ digit_none k

pub half : (w n : ℕ) → n < 2 ^ suc w → n / 2 < 2 ^ w
half w n h = let e = pow-suc 2 w in omega arith

pub even : (n : ℕ) → (n % 2 ≡ 1 → ⊥) → n % 2 ≡ 0
even n f = omega arith

-- A bit put before those of a number is its lowest, and the number stands behind it.
pub lowest : (b : Bool) (x : ℕ) → (bit b + 2 * x) % 2 ≡ bit b
lowest true x = omega arith
lowest false x = omega arith

pub rest : (b : Bool) (x : ℕ) → (bit b + 2 * x) / 2 ≡ x
rest true x = omega arith
rest false x = omega arith

-- ---- the counts
pub some : (w n : ℕ) → n < 2 ^ w → 0 < n → count_trailing_zeros w n < w
unfolding count_trailing_zeros
some zero n h p = absurd (omega arith)
some (suc w) n h p = go (some w (n / 2) (half w n h)) (n % 2) refl
  where
    go : (0 < n / 2 → count_trailing_zeros w (n / 2) < w) → (d : ℕ) → n % 2 ≡ d → under d (count_trailing_zeros w (n / 2)) < suc w
    go rest zero e = let r = rest (omega arith) in omega arith
    go rest (suc d) e = omega arith

ones_none : ones 0 ≡ 0
unfolding ones
ones_none = refl

pub positive : (n : ℕ) → 1 ≤ ones n → 0 < n
positive zero p = let z = ones_none in absurd (omega arith)
positive (suc n) p = omega arith

-- ---- the numbers in a set
owners_within : (n k set : ℕ) → All (λ x. x ≤ k + n) (owners_in n k set)
owners_within zero k set = tt
owners_within (suc n) k set = go (all_map (λ x. x ≤ suc k + n) (λ x. x ≤ k + suc n) (λ x h. omega arith) (owners_in n (suc k) (set / 2)) (owners_within n (suc k) (set / 2)))
  where
    go : All (λ x. x ≤ k + suc n) (owners_in n (suc k) (set / 2)) → All (λ x. x ≤ k + suc n) (owners_in (suc n) k set)
    go r = by_equal (λ l. All (λ x. x ≤ k + suc n) l) (eqb (set % 2) 1) (suc k ∷ owners_in n (suc k) (set / 2)) (owners_in n (suc k) (set / 2)) (λ e. (omega arith, r)) (λ e. r)

pub owners_small : (set : ℕ) → All (λ x. x ≤ 64) (owners_of set)
unfolding owners_of
owners_small set = owners_within 64 0 set

-- As many as there are ones.
pub length_owners : (n k set : ℕ) → set < 2 ^ n → length (owners_in n k set) ≡ ones set
length_owners zero k set h = let e : set ≡ 0 = omega arith in rw e (sym ones_none)
length_owners (suc n) k set h = go (length_owners n (suc k) (set / 2) (half n set h))
  where
    go : length (owners_in n (suc k) (set / 2)) ≡ ones (set / 2) → length (owners_in (suc n) k set) ≡ ones set
    go r =
        let s = ones_step set in
        by_equal (λ l. length l ≡ ones set) (eqb (set % 2) 1) (suc k ∷ owners_in n (suc k) (set / 2)) (owners_in n (suc k) (set / 2))
        (λ e. let o = eqb-true (set % 2) 1 e in omega arith)
        (λ e. let o = even set (eqb-false (set % 2) 1 e) in omega arith)

-- The first stands behind the trailing zeros.
pub first_owner : (n k set : ℕ) → count_trailing_zeros n set < n → get_or (owners_in n k set) 0 0 ≡ suc (k + count_trailing_zeros n set)
unfolding count_trailing_zeros
first_owner zero k set h = absurd (omega arith)
first_owner (suc n) k set h = go (first_owner n (suc k) (set / 2))
  where
    go : (count_trailing_zeros n (set / 2) < n → get_or (owners_in n (suc k) (set / 2)) 0 0 ≡ suc (suc k + count_trailing_zeros n (set / 2))) → get_or (owners_in (suc n) k set) 0 0 ≡ suc (k + count_trailing_zeros (suc n) set)
    go r =
        by_equal (λ l. get_or l 0 0 ≡ suc (k + count_trailing_zeros (suc n) set)) (eqb (set % 2) 1) (suc k ∷ owners_in n (suc k) (set / 2)) (owners_in n (suc k) (set / 2))
        (λ e. let o : under (set % 2) (count_trailing_zeros n (set / 2)) ≡ 0 = rw (eqb-true (set % 2) 1 e) refl in omega arith)
        (λ e. let o : under (set % 2) (count_trailing_zeros n (set / 2)) ≡ suc (count_trailing_zeros n (set / 2)) = rw (even set (eqb-false (set % 2) 1 e)) refl in
        let q = r (omega arith) in omega arith)

-- ---- how a triangle stands
by_none : (l : List ℕ) → length l ≡ 0 → standing_by l ≡ Gap
by_none [] h = refl
by_none (x ∷ l) h = absurd (omega arith)

by_one : (l : List ℕ) → length l ≡ 1 → standing_by l ≡ Single (get_or l 0 0)
by_one [] h = absurd (omega arith)
by_one (x ∷ []) h = refl
by_one (x ∷ y ∷ l) h = absurd (omega arith)

by_more : (l : List ℕ) → 2 ≤ length l → standing_by l ≡ Overlap (get_or l 0 0)
by_more [] h = absurd (omega arith)
by_more (x ∷ []) h = absurd (omega arith)
by_more (x ∷ y ∷ l) h = refl

smallest : (n set : ℕ) → set < 2 ^ n → 1 ≤ ones set → get_or (owners_in n 0 set) 0 0 ≡ count_trailing_zeros n set + 1
smallest n set h p = let e = first_owner n 0 set (some n set h (positive set p)) in omega arith

by_no_one : (n set : ℕ) → set < 2 ^ n → ones set ≡ 0 → standing_by (owners_in n 0 set) ≡ Gap
by_no_one n set h e = by_none (owners_in n 0 set) (length_owners n 0 set h ∙ e)

by_first : (n set : ℕ) → set < 2 ^ n → ones set ≡ 1 → standing_by (owners_in n 0 set) ≡ Single (count_trailing_zeros n set + 1)
by_first n set h e = by_one (owners_in n 0 set) (length_owners n 0 set h ∙ e) ∙ ap Single (smallest n set h (omega arith))

by_lowest : (n set : ℕ) → set < 2 ^ n → 2 ≤ ones set → standing_by (owners_in n 0 set) ≡ Overlap (count_trailing_zeros n set + 1)
by_lowest n set h e = by_more (owners_in n 0 set) (let o = length_owners n 0 set h in omega arith) ∙ ap Overlap (smallest n set h (omega arith))

-- No one: a gap.
pub none_stands : (set : ℕ) → set < 2 ^ 64 → ones set ≡ 0 → standing_of set ≡ Gap
unfolding standing_of owners_of
none_stands set h e = by_no_one 64 set h e

-- A single one: its number is the count of trailing zeros, counted from 1.
pub one_stands : (set : ℕ) → set < 2 ^ 64 → ones set ≡ 1 → standing_of set ≡ Single (count_trailing_zeros 64 set + 1)
unfolding standing_of owners_of
one_stands set h e = by_first 64 set h e

-- Two ones or more: an overlap, and the smallest number is that of the lowest one.
pub more_stand : (set : ℕ) → set < 2 ^ 64 → 2 ≤ ones set → standing_of set ≡ Overlap (count_trailing_zeros 64 set + 1)
unfolding standing_of owners_of
more_stand set h e = by_lowest 64 set h e
