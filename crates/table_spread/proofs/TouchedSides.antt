-- The touched sides: the list has each side with a count other than none, and no other. Assumes nothing.
use mathlib.Core.Path.{◌≡◌, ap, subst}
use mathlib.Core.List.{List, [], ◌∷◌}
use Prim.Native.Nat.{ℕ, zero, suc, ◌+◌, ◌≤◌, ◌<◌}
use native.Mathlib.Omega.{arith}
use native.Mathlib.Decide.{ℕ_discrete}
use borrow.Author.Tests.{eq-eqb, ne_eqb}
use lib.ListN.{length, get_or, take}
use lib.Seq.{length-take-le}
use Rattle.whole.specs.Sums.{All}
use Rattle.whole.proofs.Sums.{all_map, all_at}
use Rattle.table.specs.Sides.{evenly}
use Rattle.table_spread.specs.Spreading.{touched_from, touched_sides}

-- ---- what stands in the list
-- Number j is that of a touched side, where the first side is number k.
abbrev Is : ℕ → List ℕ → ℕ → Type 0
Is k l j = (i : ℕ) × (j ≡ k + i) × (i < length l) × (get_or l i 0 ≡ evenly → ⊥)

-- Each number of the list is that of a touched side.
touched_from_lem : (k : ℕ) (l : List ℕ) → All (Is k l) (touched_from k l)
touched_from_lem k [] = tt
touched_from_lem k (c ∷ l) = go (ℕ_discrete c evenly) (all_map (Is (suc k) l) (Is k (c ∷ l)) (λ j h. (suc h.0, omega (arith, h.1), omega (arith, h.2), h.3)) (touched_from (suc k) l) (touched_from_lem (suc k) l))
  where
    go : Dec (c ≡ evenly) → All (Is k (c ∷ l)) (touched_from (suc k) l) → All (Is k (c ∷ l)) (touched_from k (c ∷ l))
    go (yes e) later = rw (eq-eqb c evenly e) later
    go (no n) later = rw (ne_eqb c evenly n) ((0, omega arith, omega arith, n), later)

pub touched_sides_lem : (counts : List ℕ) → All (λ k. (k < length counts) × (get_or counts k 0 ≡ evenly → ⊥)) (touched_sides counts)
touched_sides_lem counts =
    all_map (Is 0 counts) (λ k. (k < length counts) × (get_or counts k 0 ≡ evenly → ⊥))
    (λ k h. let e : h.0 ≡ k = omega (arith, h.1) in subst (λ i. (i < length counts) × (get_or counts i 0 ≡ evenly → ⊥)) e (h.2, h.3)) (touched_sides counts) (touched_from_lem 0 counts)

-- What holds of each number of the list holds of each touched side.
touched_at_from : (P : ℕ → Type 0) (j : ℕ) (l : List ℕ) → All P (touched_from j l) → (k : ℕ) → k < length l → (get_or l k 0 ≡ evenly → ⊥) → P (j + k)
touched_at_from P j [] a k h n = absurd (omega arith)
touched_at_from P j (c ∷ l) a zero h n = let e : j ≡ j + 0 = omega arith in subst P e (rw (ne_eqb c evenly n) at a).0
touched_at_from P j (c ∷ l) a (suc k) h n = let e : suc j + k ≡ j + suc k = omega arith in subst P e (touched_at_from P (suc j) l (go (ℕ_discrete c evenly)) k (omega arith) n)
  where
    go : Dec (c ≡ evenly) → All P (touched_from (suc j) l)
    go (yes e) = rw (eq-eqb c evenly e) at a
    go (no m) = (rw (ne_eqb c evenly m) at a).1

pub touched_at : (P : ℕ → Type 0) (counts : List ℕ) → All P (touched_sides counts) → (k : ℕ) → k < length counts → (get_or counts k 0 ≡ evenly → ⊥) → P k
touched_at P counts a k h n = let e : 0 + k ≡ k = omega arith in subst P e (touched_at_from P 0 counts a k h n)

-- Where the list is empty no side is touched.
pub none_touched : (counts : List ℕ) → touched_sides counts ≡ [] → (k : ℕ) → k < length counts → get_or counts k 0 ≡ evenly
none_touched counts e k h = go (ℕ_discrete (get_or counts k 0) evenly)
  where
    go : Dec (get_or counts k 0 ≡ evenly) → get_or counts k 0 ≡ evenly
    go (yes q) = q
    go (no n) = absurd (touched_at (λ j. ⊥) counts (rw e tt) k h n)

-- Where some are listed there is one.
pub some_touched : (counts sides : List ℕ) (n : ℕ) → take n sides ≡ touched_sides counts → n ≤ length sides → (n ≡ 0 → ⊥) → (k : ℕ) × (k < length counts) × (get_or counts k 0 ≡ evenly → ⊥)
some_touched counts sides n e h p =
    let w = all_at (λ k. (k < length counts) × (get_or counts k 0 ≡ evenly → ⊥)) 0 (touched_sides counts) 0 (touched_sides_lem counts) (omega (arith, ap length e, length-take-le n sides h)) in
    (get_or (touched_sides counts) 0 0, w.0, w.1)
