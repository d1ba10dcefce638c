-- The test whether two lists of bytes are the same, number by number of two bytes each. Assumes nothing.
use mathlib.Core.Path.{◌≡◌, refl, sym, ◌∙◌, ap, ap₂, subst}
use mathlib.Core.Logic.{◌↔◌}
use mathlib.Core.Bool.{Bool, true, false, ◌&&◌}
use mathlib.Core.List.{List, [], ◌∷◌, ◌++◌, flat_map}
use Prim.Native.Nat.{ℕ, ◌+◌, ◌*◌, ◌/◌, ◌%◌, ◌≤◌, ◌<◌}
use native.Mathlib.Omega.{arith}
use borrow.Author.Tests.{eq-eqb, ne_eqb}
use lib.Dec.{T, eqb, eqb→eq}
use lib.ListN.{length, get_or, drop, drop_of_length-le}
use Rattle.whole.proofs.Sums.{and_left, and_right, and_both}
use Rattle.lent_little.specs.Ordered.{bytes}
use Rattle.lent_little.proofs.Ordered.{length_bytes}
use Rattle.lent_little.proofs.Bytes.{all_length}
use Rattle.table.proofs.Faults.{drop_next}
use Rattle.table_neighbours.specs.Neighbours.{u16, same_bytes}
use Rattle.table_neighbours.specs.Held.{triangle_of, held_index}

-- The test says it exactly.
pub same_is : (l m : List ℕ) → T (same_bytes l m) ↔ (l ≡ m)
same_is l m = (to l m, from l m)
  where
    to : (l m : List ℕ) → T (same_bytes l m) → l ≡ m
    to [] [] t = refl
    to [] (b ∷ m) t = absurd t
    to (a ∷ l) [] t = absurd t
    to (a ∷ l) (b ∷ m) t = ap₂ {C = List ℕ} ◌∷◌ (eqb→eq a b (and_left (eqb a b) (same_bytes l m) t)) (to l m (and_right (eqb a b) (same_bytes l m) t))

    alike : (l : List ℕ) → T (same_bytes l l)
    alike [] = tt
    alike (a ∷ l) = and_both (eqb a a) (same_bytes l l) (subst T (sym (eq-eqb a a refl)) tt) (alike l)

    from : (l m : List ℕ) → l ≡ m → T (same_bytes l m)
    from l m e = subst (λ m. T (same_bytes l m)) e (alike l)

-- Lists of different lengths differ.
pub other_length : (l m : List ℕ) → (length l ≡ length m → ⊥) → same_bytes l m ≡ false
other_length l m n = go (same_bytes l m) refl
  where
    go : (b : Bool) → same_bytes l m ≡ b → b ≡ false
    go true e = absurd (n (ap length ((same_is l m).0 (subst T (sym e) tt))))
    go false e = refl

-- ---- two bytes
and_true : (b : Bool) → (b && true) ≡ b
and_true true = refl
and_true false = refl

and_both_ways : (a b c : Bool) → (a && (b && c)) ≡ ((a && (b && true)) && c)
and_both_ways true true c = refl
and_both_ways true false c = refl
and_both_ways false b c = refl

-- The first byte differs; or it doesn't, and the second tells.
pub first_other : (a b n : ℕ) → (a ≡ n % 256 → ⊥) → same_bytes (a ∷ b ∷ []) (u16 n) ≡ false
unfolding bytes
first_other a b n d = rw (ne_eqb a (n % 256) d) refl

pub second_tells : (a b n : ℕ) → a ≡ n % 256 → same_bytes (a ∷ b ∷ []) (u16 n) ≡ eqb b (n / 256 % 256)
unfolding bytes
second_tells a b n e = rw (eq-eqb a (n % 256) e) (and_true (eqb b (n / 256 % 256)))

-- Two bytes, and the rest.
two_and_rest : (a b n : ℕ) (l m : List ℕ) → same_bytes (a ∷ b ∷ l) (u16 n ++ m) ≡ (same_bytes (a ∷ b ∷ []) (u16 n) && same_bytes l m)
unfolding bytes
two_and_rest a b n l m = and_both_ways (eqb a (n % 256)) (eqb b (n / 256 % 256)) (same_bytes l m)

-- ---- the numbers of the index, two bytes each
abbrev pub number : ℕ → List ℕ
number o = u16 (triangle_of o)

pub two : (o : ℕ) → length (number o) ≡ 2
two o = length_bytes 2 (triangle_of o)

pub two_each : (opposite : List ℕ) → length (held_index opposite) ≡ 2 * length opposite
two_each = all_length 2 number two

-- ---- an index and the table's own, from a place on
abbrev pub from_on : List ℕ → List ℕ → ℕ → Bool
from_on index opposite i = same_bytes (drop (2 * i) index) (held_index (drop i opposite))

pub one_further : (index opposite : List ℕ) (i : ℕ) → length index ≡ 2 * length opposite → i < length opposite
    → from_on index opposite i ≡ (same_bytes (get_or index (2 * i) 0 ∷ get_or index (2 * i + 1) 0 ∷ []) (u16 (triangle_of (get_or opposite i 0))) && from_on index opposite (i + 1))
unfolding flat_map
one_further index opposite i e h =
    let a = drop_next index (2 * i) (2 * i + 1) (omega arith) (omega arith) in
    let b = drop_next index (2 * i + 1) (2 * (i + 1)) (omega arith) (omega arith) in
    let c = drop_next opposite i (i + 1) (omega arith) h in
    ap₂ (λ l m. same_bytes l (held_index m)) (a ∙ ap (λ l. get_or index (2 * i) 0 ∷ l) b) c
    ∙ two_and_rest (get_or index (2 * i) 0) (get_or index (2 * i + 1) 0) (triangle_of (get_or opposite i 0)) (drop (2 * (i + 1)) index) (held_index (drop (i + 1) opposite))

-- The same, by the answer of a comparison with the number n.
pub further : (index opposite : List ℕ) (i n : ℕ) {b : Bool} → length index ≡ 2 * length opposite → i < length opposite → n ≡ triangle_of (get_or opposite i 0)
    → b ≡ same_bytes (get_or index (2 * i) 0 ∷ get_or index (2 * i + 1) 0 ∷ []) (u16 n) → from_on index opposite i ≡ (b && from_on index opposite (i + 1))
further index opposite i n e h q p =
    one_further index opposite i e h
    ∙ ap (λ b. b && from_on index opposite (i + 1)) (ap (λ n. same_bytes (get_or index (2 * i) 0 ∷ get_or index (2 * i + 1) 0 ∷ []) (u16 n)) (sym q) ∙ sym p)

-- At the end nothing is left to compare.
pub at_end : (index opposite : List ℕ) (i : ℕ) → length index ≡ 2 * length opposite → length opposite ≤ i → from_on index opposite i ≡ true
unfolding flat_map
at_end index opposite i e h = ap₂ (λ l m. same_bytes l (held_index m)) (drop_of_length-le index {i = 2 * i} (omega arith)) (drop_of_length-le opposite {i = i} h)
