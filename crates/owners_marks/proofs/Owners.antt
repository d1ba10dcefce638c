-- The owners of each triangle by the sets of the polygons: who is one, and their numbers against the bits of one set.
-- The idea: one more polygon stands before all others, as an owner and as the lowest bit, and those behind it have larger numbers. Assumes nothing.
use mathlib.Core.Path.{◌≡◌, refl, sym, ap, ap₂, ◌∙◌}
use mathlib.Core.Logic.{◌↔◌}
use mathlib.Core.Bool.{Bool, true, false, cond}
use mathlib.Core.List.{List, [], ◌∷◌, map}
use Prim.Native.Nat.{ℕ, zero, suc, ◌+◌, ◌-◌, ◌*◌, ◌/◌, ◌%◌, ◌^◌, ◌≤◌, ◌<◌}
use native.Mathlib.Nat.{pow-suc}
use native.Mathlib.Omega.{arith}
use borrow.Author.Tests.{eqb-true, eqb-false, eq-eqb, ne_eqb}
use lib.Dec.{eqb, eqb→eq, eqb_refl}
use lib.ListN.{length, get_or, replicate, length-map, length-replicate}
use lib.Pow.{pow_pos}
use Rattle.whole.specs.Sums.{All, Among, bit}
use Rattle.whole.proofs.Sums.{all_map, counted}
use Rattle.whole.proofs.Tests.{by_equal}
use Rattle.owners_marks.specs.Marks.{with_owner, owners_from, set_of}
use Rattle.owners_marks.specs.Listed.{Ascending, OwnersListed}
use Rattle.owners_marks.specs.Sets.{with_marks, owner_sets, owners_in, owners_of}
use Rattle.owners_marks.proofs.Bits.{half, even, lowest, rest}

-- ---- one more owner
length_with_owner : (n k : ℕ) (s : List Bool) (l : List (List ℕ)) → length s ≡ n → length l ≡ n → length (with_owner k s l) ≡ n
length_with_owner n k [] l h w = h
length_with_owner n k (b ∷ s) [] h w = w
length_with_owner zero k (b ∷ s) (o ∷ l) h w = absurd (omega arith)
length_with_owner (suc n) k (b ∷ s) (o ∷ l) h w = ap suc (length_with_owner n k s l (omega arith) (omega arith))

-- One list of owners for each triangle.
pub length_owners_from : (n k : ℕ) (l : List (List Bool)) → All (λ s. length s ≡ n) l → length (owners_from n k l) ≡ n
length_owners_from n k [] h = length-replicate n []
length_owners_from n k (s ∷ l) h = length_with_owner n k s (owners_from n (suc k) l) h.0 (length_owners_from n (suc k) l h.1)

at_with_owner : (k t : ℕ) (s : List Bool) (l : List (List ℕ)) → length s ≡ length l → get_or (with_owner k s l) t [] ≡ cond (get_or s t false) (k ∷ get_or l t []) (get_or l t [])
at_with_owner k t [] [] h = refl
at_with_owner k t [] (o ∷ l) h = absurd (omega arith)
at_with_owner k t (b ∷ s) [] h = absurd (omega arith)
at_with_owner k zero (b ∷ s) (o ∷ l) h = refl
at_with_owner k (suc t) (b ∷ s) (o ∷ l) h = at_with_owner k t s l (omega arith)

-- ---- in ascending order
with_owner_all : (k : ℕ) (P Q : List ℕ → Type 0) → ((o : List ℕ) → P o → Q o) → ((o : List ℕ) → P o → Q (k ∷ o)) → (s : List Bool) (l : List (List ℕ)) → All P l → All Q (with_owner k s l)
with_owner_all k P Q f g [] l h = tt
with_owner_all k P Q f g (b ∷ s) [] h = tt
with_owner_all k P Q f g (b ∷ s) (o ∷ l) h = (by_equal Q b (k ∷ o) o (λ e. g o h.0) (λ e. f o h.0), with_owner_all k P Q f g s l h.1)

-- Numbers from k on and below m, in ascending order.
abbrev Between : ℕ → ℕ → List ℕ → Type 0
Between k m o = All (λ x. (k ≤ x) × (x < m)) o × Ascending o

owners_between : (n k : ℕ) (l : List (List Bool)) → All (Between k (k + length l)) (owners_from n k l)
owners_between n k [] = none n
  where
    none : (n : ℕ) → All (Between k (k + 0)) (replicate n [])
    none zero = tt
    none (suc n) = ((tt, tt), none n)
owners_between n k (s ∷ l) =
    with_owner_all k (Between (suc k) (suc k + length l)) (Between k (k + suc (length l)))
    (λ o h. (wider o h.0, h.1))
    (λ o h. (((omega arith, omega arith), wider o h.0), (all_map (λ x. (suc k ≤ x) × (x < suc k + length l)) (λ x. k < x) (λ x w. w.0) o h.0, h.1)))
    s (owners_from n (suc k) l) (owners_between n (suc k) l)
  where
    wider : (o : List ℕ) → All (λ x. (suc k ≤ x) × (x < suc k + length l)) o → All (λ x. (k ≤ x) × (x < k + suc (length l))) o
    wider o h = all_map (λ x. (suc k ≤ x) × (x < suc k + length l)) (λ x. (k ≤ x) × (x < k + suc (length l))) (λ x w. (omega (arith, w.0), omega (arith, w.1))) o h

-- Each owner's number is that of a polygon there is,
pub owners_numbers : (n k : ℕ) (l : List (List Bool)) → All (All (λ x. (k ≤ x) × (x < k + length l))) (owners_from n k l)
owners_numbers n k l = all_map (Between k (k + length l)) (All (λ x. (k ≤ x) × (x < k + length l))) (λ o h. h.0) (owners_from n k l) (owners_between n k l)

-- and the owners are listed as they have to be.
pub owners_listed : (n : ℕ) (l : List (List Bool)) → OwnersListed (owners_from n 1 l)
owners_listed n l = record {
  numbered =
      all_map (All (λ x. (1 ≤ x) × (x < 1 + length l))) (All (λ x. 1 ≤ x)) (λ o. all_map (λ x. (1 ≤ x) × (x < 1 + length l)) (λ x. 1 ≤ x) (λ x w. w.0) o) (owners_from n 1 l)
      (owners_numbers n 1 l);
  ascending = all_map (Between 1 (1 + length l)) Ascending (λ o h. h.1) (owners_from n 1 l) (owners_between n 1 l);
}

-- ---- who is an owner
-- What the owners of each triangle have, and nobody has too, those at any place have.
pub all_there : (P : List ℕ → Type 0) → P [] → (l : List (List ℕ)) (t : ℕ) → All P l → P (get_or l t [])
all_there P z [] t h = z
all_there P z (o ∷ l) zero h = h.0
all_there P z (o ∷ l) (suc t) h = all_there P z l t h.1

-- Polygon number k + j is an owner of triangle t exactly if its set has the triangle.
pub owner_is : (n k : ℕ) (l : List (List Bool)) → All (λ s. length s ≡ n) l → (j t : ℕ) → Among eqb (k + j) (get_or (owners_from n k l) t []) ↔ (get_or (get_or l j []) t false ≡ true)
owner_is n k [] fit j t = rw (nobody n t) (λ a. absurd (omega arith), λ e. absurd (let z : ◌≡◌ {A = ℕ} 0 1 = cc e in omega arith))
  where
    nobody : (n t : ℕ) → get_or {A = List ℕ} (replicate n []) t [] ≡ []
    nobody zero t = refl
    nobody (suc n) zero = refl
    nobody (suc n) (suc t) = nobody n t
owner_is n k (s ∷ l) fit j t =
    rw (at_with_owner k t s (owners_from n (suc k) l) (fit.0 ∙ sym (length_owners_from n (suc k) l fit.1))) (go (λ j. owner_is n (suc k) l fit.1 j t) j)
  where
    behind : List ℕ
    behind = get_or (owners_from n (suc k) l) t []

    -- The first polygon stands nowhere behind itself,
    own : (b : Bool) → Among eqb (k + 0) (cond b (k ∷ behind) behind) ↔ (b ≡ true)
    own true = (λ a. refl, λ e. omega (arith, ap bit (eq-eqb k (k + 0) (omega arith))))
    own false = (
      λ a.
          let above = all_there (All (λ x. (suc k ≤ x) × (x < suc k + length l))) tt (owners_from n (suc k) l) t (owners_numbers n (suc k) l) in
          absurd (omega (arith, (counted eqb eqb→eq eqb_refl (λ x. (suc k ≤ x) × (x < suc k + length l)) (k + 0) behind a above).0)),
      λ e. absurd (let z : ◌≡◌ {A = ℕ} 0 1 = cc e in omega arith),
    )

    -- and is none of the others.
    other : (j : ℕ) (b : Bool) → Among eqb (k + suc j) (cond b (k ∷ behind) behind) ↔ Among eqb (suc k + j) behind
    other j b = let e : k + suc j ≡ suc k + j = omega arith in rw e (by b)
      where
        by : (b : Bool) → Among eqb (suc k + j) (cond b (k ∷ behind) behind) ↔ Among eqb (suc k + j) behind
        by true = let z = ap bit (ne_eqb k (suc k + j) (λ e. omega arith)) in (λ a. omega arith, λ a. omega arith)
        by false = (λ a. a, λ a. a)

    go : ((j : ℕ) → Among eqb (suc k + j) behind ↔ (get_or (get_or l j []) t false ≡ true))
        → (j : ℕ) → Among eqb (k + j) (cond (get_or s t false) (k ∷ behind) behind) ↔ (get_or (get_or (s ∷ l) j []) t false ≡ true)
    go r zero = own (get_or s t false)
    go r (suc j) = let o = other j (get_or s t false) in (λ a. (r j).0 (o.0 a), λ e. o.1 ((r j).1 e))

-- ---- the owners as one number
-- There is no owner exactly if the number is 0.
pub unowned : (o : List ℕ) → (set_of o ≡ 0) ↔ (o ≡ [])
unowned [] = (λ e. refl, λ e. refl)
unowned (k ∷ o) = (λ e. absurd (omega (arith, pow_pos (k - 1))), λ e. absurd (omega (arith, ap length e)))

with_owner_sets : (k : ℕ) (s : List Bool) (o : List (List ℕ)) (l : List ℕ) → map set_of o ≡ map (λ x. 2 ^ suc k * x) l → map set_of (with_owner (suc k) s o) ≡ map (λ x. 2 ^ k * x) (with_marks s l)
with_owner_sets k [] o l h = refl
with_owner_sets k (b ∷ s) [] [] h = refl
with_owner_sets k (b ∷ s) [] (x ∷ l) h = absurd (omega (arith, ap length h))
with_owner_sets k (b ∷ s) (o ∷ os) [] h = absurd (omega (arith, ap length h))
with_owner_sets k (b ∷ s) (o ∷ os) (x ∷ l) h =
    let e : set_of o ≡ 2 ^ suc k * x = cc h in
    let f : map set_of os ≡ map (λ x. 2 ^ suc k * x) l = cc h in
    ap₂ (λ (y : ℕ) (m : List ℕ). y ∷ m) (go b e) (with_owner_sets k s os l f)
  where
    go : (b : Bool) → set_of o ≡ 2 ^ suc k * x → set_of (cond b (suc k ∷ o) o) ≡ 2 ^ k * (bit b + 2 * x)
    go true e = let p = ap (λ y. y * x) (pow-suc 2 k) in let z : 2 ^ (suc k - 1) ≡ 2 ^ k = ap (λ j. 2 ^ j) (omega arith) in omega arith
    go false e = let p = ap (λ y. y * x) (pow-suc 2 k) in omega arith

sets_from : (n k : ℕ) (l : List (List Bool)) → map set_of (owners_from n (suc k) l) ≡ map (λ x. 2 ^ k * x) (owner_sets n l)
sets_from n k [] = none n
  where
    none : (n : ℕ) → map set_of (replicate n []) ≡ map (λ x. 2 ^ k * x) (replicate n 0)
    none zero = refl
    none (suc n) = ap₂ (λ (y : ℕ) (m : List ℕ). y ∷ m) (omega arith) (none n)
sets_from n k (s ∷ l) = with_owner_sets k s (owners_from n (suc (suc k)) l) (owner_sets n l) (sets_from n (suc k) l)

-- The owner sets are the owners as numbers, for any number of polygons.
pub sets_are : (n : ℕ) (l : List (List Bool)) → owner_sets n l ≡ map set_of (owners_from n 1 l)
sets_are n l = sym (sets_from n 0 l ∙ once (owner_sets n l))
  where
    once : (m : List ℕ) → map (λ x. 2 ^ 0 * x) m ≡ m
    once [] = refl
    once (x ∷ m) = ap₂ (λ (y : ℕ) (m : List ℕ). y ∷ m) (omega arith) (once m)

-- One set for each triangle.
pub length_owner_sets : (n : ℕ) (l : List (List Bool)) → All (λ s. length s ≡ n) l → length (owner_sets n l) ≡ n
length_owner_sets n l fit = ap length (sets_are n l) ∙ length-map (owners_from n 1 l) set_of ∙ length_owners_from n 1 l fit

-- ---- the owners in a 64-bit set
set_of_owners_in : (n k set : ℕ) → set < 2 ^ n → set_of (owners_in n k set) ≡ 2 ^ k * set
set_of_owners_in zero k set h = let e : set ≡ 0 = omega arith in rw e (omega arith)
set_of_owners_in (suc n) k set h = go (set_of_owners_in n (suc k) (set / 2) (half n set h))
  where
    z : 2 ^ (suc k - 1) ≡ 2 ^ k
    z = ap (λ j. 2 ^ j) (omega arith)

    go : set_of (owners_in n (suc k) (set / 2)) ≡ 2 ^ suc k * (set / 2) → set_of (owners_in (suc n) k set) ≡ 2 ^ k * set
    go r =
        let p = ap (λ y. y * (set / 2)) (pow-suc 2 k) in
        by_equal (λ l. set_of l ≡ 2 ^ k * set) (eqb (set % 2) 1) (suc k ∷ owners_in n (suc k) (set / 2)) (owners_in n (suc k) (set / 2))
        (λ e. let o = eqb-true (set % 2) 1 e in let q : 2 ^ k * set ≡ 2 ^ k * (1 + 2 * (set / 2)) = ap (λ x. 2 ^ k * x) (omega arith) in let w = z in omega arith)
        (λ e. let o = even set (eqb-false (set % 2) 1 e) in let q : 2 ^ k * set ≡ 2 ^ k * (2 * (set / 2)) = ap (λ x. 2 ^ k * x) (omega arith) in omega arith)

-- The owners in a set, as one number, are the set.
pub set_of_owners : (set : ℕ) → set < 2 ^ 64 → set_of (owners_of set) ≡ set
unfolding owners_of
set_of_owners set h = set_of_owners_in 64 0 set h ∙ omega arith

with_marks_owners : (m k : ℕ) (s : List Bool) (l : List ℕ) → map (owners_in (suc m) k) (with_marks s l) ≡ with_owner (suc k) s (map (owners_in m (suc k)) l)
with_marks_owners m k [] l = refl
with_marks_owners m k (b ∷ s) [] = refl
with_marks_owners m k (b ∷ s) (x ∷ l) = ap₂ (λ (o : List ℕ) (m : List (List ℕ)). o ∷ m) (rw (lowest b x, rest b x) (go b)) (with_marks_owners m k s l)
  where
    go : (b : Bool) → cond (eqb (bit b) 1) (suc k ∷ owners_in m (suc k) x) (owners_in m (suc k) x) ≡ cond b (suc k ∷ owners_in m (suc k) x) (owners_in m (suc k) x)
    go true = refl
    go false = refl

owners_in_sets : (m n k : ℕ) (l : List (List Bool)) → length l ≤ m → map (owners_in m k) (owner_sets n l) ≡ owners_from n (suc k) l
owners_in_sets m n k [] h = none n
  where
    nobody : (m k : ℕ) → owners_in m k 0 ≡ []
    nobody zero k = refl
    nobody (suc m) k = nobody m (suc k)

    none : (n : ℕ) → map (owners_in m k) (replicate n 0) ≡ replicate n []
    none zero = refl
    none (suc n) = ap₂ (λ (o : List ℕ) (m : List (List ℕ)). o ∷ m) (nobody m k) (none n)
owners_in_sets zero n k (s ∷ l) h = absurd (omega arith)
owners_in_sets (suc m) n k (s ∷ l) h = with_marks_owners m k s (owner_sets n l) ∙ ap (with_owner (suc k) s) (owners_in_sets m n (suc k) l (omega arith))

-- Of at most 64 polygons the sets have all the owners in them.
pub owners_are : (n : ℕ) (l : List (List Bool)) → length l ≤ 64 → map owners_of (owner_sets n l) ≡ owners_from n 1 l
unfolding owners_of
owners_are n l h = owners_in_sets 64 n 0 l h
