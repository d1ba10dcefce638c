-- Sides by their codes: two corners that stand among the ascending ones have one code, and their reverse the code turned, so that looking a
-- side up by its code finds the side. The idea: a number that stands in an ascending list stands at its place. Assumes nothing.
use mathlib.Core.Path.{◌≡◌, refl, sym, ◌∙◌, ap, ap₂, subst}
use mathlib.Core.Logic.{◌↔◌}
use mathlib.Core.Bool.{false, cond}
use mathlib.Core.List.{List, [], ◌∷◌, map}
use Prim.Native.Nat.{ℕ, zero, suc, ◌+◌, ◌*◌, ◌/◌, ◌%◌, ◌^◌, ◌≤◌, ◌<◌}
use native.Mathlib.Omega.{arith}
use lib.Dec.{T, eqb, eqb→eq, eqb_refl}
use lib.ListN.{length, get_or}
use Rattle.whole.specs.Sums.{All}
use Rattle.whole.proofs.Sums.{bool_iff, all_map, all_at, all_from}
use Rattle.plane.specs.Points.{Edge, flip, same_edge}
use Rattle.plane.specs.Keys.{pair, pairs}
use Rattle.plane.proofs.Points.{same_edge-eq, same_edge-refl}
use Rattle.plane.proofs.Keys.{point_at-injective}
use Rattle.table.specs.Sides.{tails_of}
use Rattle.table.specs.Opposites.{later, found_at, opposites}
use Rattle.whole_order.specs.Ascending.{Ascending, IsIn, place_of, ascending}
use Rattle.whole_order.proofs.Ascending.{ascending_is, ascending_has, length_ascending, place_found}
use Rattle.table_sides.specs.Codes.{code_of, turned, codes_of, turned_in}
use Rattle.table_sides.specs.Numbered.{number_in}

-- ---- pairs of numbers
-- Pairs with one edge are one.
pair_injective : (u v u' v' : ℕ) → pair u v ≡ pair u' v' → (u ≡ u') × (v ≡ v')
pair_injective u v u' v' e = (point_at-injective u u' (ap (λ d. d.from) e), point_at-injective v v' (ap (λ d. d.to) e))

-- ---- the corners at which sides end
pub tails_stand : (keys : List ℕ) → All (λ v. IsIn v keys) (tails_of keys)
tails_stand [] = tt
tails_stand (a ∷ []) = tt
tails_stand (a ∷ b ∷ []) = tt
tails_stand (a ∷ b ∷ c ∷ l) = (
  (1, omega arith, refl),
  ((2, omega arith, refl), ((0, omega arith, refl), all_map (λ v. IsIn v l) (λ v. IsIn v (a ∷ b ∷ c ∷ l)) (λ v s. (suc (suc (suc s.0)), omega (arith, s.1), s.2)) (tails_of l) (tails_stand l))),
)

-- ---- codes, by any ascending corners
module _ (corners : List ℕ) (order : Ascending corners) (few : length corners ≤ 4096) where
  place_few : (u : ℕ) → IsIn u corners → place_of u corners < 4096
  place_few u s = omega (arith, (place_found corners u order s).0)

  place_injective : (u v : ℕ) → IsIn u corners → IsIn v corners → place_of u corners ≡ place_of v corners → u ≡ v
  place_injective u v s t e = sym (place_found corners u order s).1 ∙ ap (λ p. get_or corners p 0) e ∙ (place_found corners v order t).1

  -- A code is of one pair of corners only,
  pub code_of-injective : (u v u' v' : ℕ) → IsIn u corners → IsIn v corners → IsIn u' corners → IsIn v' corners
      → code_of corners u v ≡ code_of corners u' v' → (u ≡ u') × (v ≡ v')
  code_of-injective u v u' v' s t s' t' e =
      let p = place_few v t in
      let p' = place_few v' t' in
      (place_injective u u' s s' (omega arith), place_injective v v' t t' (omega arith))

  -- is below 2^24,
  pub code_of-below : (u v : ℕ) → IsIn u corners → IsIn v corners → code_of corners u v < 2 ^ 24
  code_of-below u v s t = omega (arith, place_few u s, place_few v t)

  -- and turned it is the code of the reverse.
  pub turned_code : (u v : ℕ) → IsIn u corners → IsIn v corners → turned (code_of corners u v) ≡ code_of corners v u
  turned_code u v s t =
      let p = place_few u s in
      let q = place_few v t in
      let d : code_of corners u v / 4096 ≡ place_of u corners = omega arith in
      let m : code_of corners u v % 4096 ≡ place_of v corners = omega arith in
      ap₂ (λ m d. m * 4096 + d) m d

  same_code : (u v u' v' : ℕ) → IsIn u corners → IsIn v corners → IsIn u' corners → IsIn v' corners
      → eqb (code_of corners u v) (code_of corners u' v') ≡ same_edge (pair u v) (pair u' v')
  same_code u v u' v' s t s' t' = bool_iff (eqb (code_of corners u v) (code_of corners u' v')) (same_edge (pair u v) (pair u' v')) to from
    where
      to : T (eqb (code_of corners u v) (code_of corners u' v')) → T (same_edge (pair u v) (pair u' v'))
      to b =
          let e = code_of-injective u v u' v' s t s' t' (eqb→eq (code_of corners u v) (code_of corners u' v') b) in
          subst (λ d. T (same_edge (pair u v) d)) (ap₂ pair e.0 e.1) (same_edge-refl (pair u v))

      from : T (same_edge (pair u v) (pair u' v')) → T (eqb (code_of corners u v) (code_of corners u' v'))
      from b =
          let e = pair_injective u v u' v' (same_edge-eq (pair u v) (pair u' v') b) in
          subst (λ d. T (eqb (code_of corners u v) d)) (ap₂ (code_of corners) e.0 e.1) (eqb_refl (code_of corners u v))

  below : (k l : List ℕ) → All (λ u. IsIn u corners) k → All (λ v. IsIn v corners) l → All (λ c. c < 2 ^ 24) (codes_of corners k l)
  below [] l s t = tt
  below (u ∷ k) [] s t = tt
  below (u ∷ k) (v ∷ l) s t = (code_of-below u v s.0 t.0, below k l s.1 t.1)

  found : (k l : List ℕ) → All (λ u. IsIn u corners) k → All (λ v. IsIn v corners) l
      → (u v : ℕ) → IsIn u corners → IsIn v corners → number_in (code_of corners u v) (codes_of corners k l) ≡ found_at (pair u v) (pairs k l)
  found [] l s t u v p q = refl
  found (x ∷ k) [] s t u v p q = refl
  found (x ∷ k) (y ∷ l) s t u v p q = ap₂ (λ b n. cond b 1 (later n)) (same_code x y u v s.0 t.0 p q) (found k l s.1 t.1 u v p q)

  all_turned : (codes : List ℕ) (sides : List Edge) → ((u v : ℕ) → IsIn u corners → IsIn v corners → number_in (code_of corners u v) codes ≡ found_at (pair u v) sides)
      → (k l : List ℕ) → All (λ u. IsIn u corners) k → All (λ v. IsIn v corners) l
      → map (λ c. number_in (turned c) codes) (codes_of corners k l) ≡ map (λ e. found_at (flip e) sides) (pairs k l)
  all_turned codes sides f [] l s t = refl
  all_turned codes sides f (u ∷ k) [] s t = refl
  all_turned codes sides f (u ∷ k) (v ∷ l) s t =
      ap₂ {C = List ℕ} ◌∷◌ (ap (λ c. number_in c codes) (turned_code u v s.0 t.0) ∙ f v u t.0 s.0) (all_turned codes sides f k l s.1 t.1)

-- The code at a number is of the two corners there.
pub codes_at : (corners k l : List ℕ) (j : ℕ) → length l ≡ length k → j < length k → get_or (codes_of corners k l) j 0 ≡ code_of corners (get_or k j 0) (get_or l j 0)
codes_at corners [] l j e h = absurd (omega arith)
codes_at corners (u ∷ k) [] j e h = absurd (omega arith)
codes_at corners (u ∷ k) (v ∷ l) zero e h = refl
codes_at corners (u ∷ k) (v ∷ l) (suc j) e h = codes_at corners k l j (omega arith) (omega arith)

pub length_codes : (corners k l : List ℕ) → length l ≡ length k → length (codes_of corners k l) ≡ length k
length_codes corners [] l e = refl
length_codes corners (u ∷ k) [] e = absurd (omega arith)
length_codes corners (u ∷ k) (v ∷ l) e = ap suc (length_codes corners k l (omega arith))

-- ---- pairs that are not found
unlike : (x y u v : ℕ) → ((x ≡ u) × (y ≡ v) → ⊥) → same_edge (pair x y) (pair u v) ≡ false
unlike x y u v n = bool_iff (same_edge (pair x y) (pair u v)) false (λ t. n (pair_injective x y u v (same_edge-eq (pair x y) (pair u v) t))) (λ t. absurd t)

other_first : (k l : List ℕ) (u v : ℕ) → All (λ x. x ≡ u → ⊥) k → found_at (pair u v) (pairs k l) ≡ 0
other_first [] l u v n = refl
other_first (x ∷ k) [] u v n = refl
other_first (x ∷ k) (y ∷ l) u v n = ap₂ (λ b m. cond b 1 (later m)) (unlike x y u v (λ e. n.0 e.0)) (other_first k l u v n.1)

other_second : (k l : List ℕ) (u v : ℕ) → All (λ y. y ≡ v → ⊥) l → found_at (pair u v) (pairs k l) ≡ 0
other_second [] l u v n = refl
other_second (x ∷ k) [] u v n = refl
other_second (x ∷ k) (y ∷ l) u v n = ap₂ (λ b m. cond b 1 (later m)) (unlike x y u v (λ e. n.0 e.1)) (other_second k l u v n.1)

-- ---- the sides of a table, by its corners in ascending order
module _ (keys tails : List ℕ) (stand : All (λ v. IsIn v keys) tails) (few : length keys ≤ 3072) where
  in_order : (u : ℕ) → IsIn u keys → IsIn u (ascending keys)
  in_order u = (ascending_has keys u).1

  keys_stand : All (λ u. IsIn u (ascending keys)) keys
  keys_stand = all_from (λ u. IsIn u (ascending keys)) 0 keys (λ i h. in_order (get_or keys i 0) (i, h, refl))

  ends_stand : All (λ v. IsIn v (ascending keys)) tails
  ends_stand = all_map (λ v. IsIn v keys) (λ v. IsIn v (ascending keys)) in_order tails stand

  few_corners : length (ascending keys) ≤ 4096
  few_corners = omega (arith, length_ascending keys)

  pub codes_below : All (λ c. c < 2 ^ 24) (codes_of (ascending keys) keys tails)
  codes_below = below (ascending keys) (ascending_is keys) few_corners keys tails keys_stand ends_stand

  -- The code of two corners is found where their pair is.
  pub found_code : (u v : ℕ) → IsIn u (ascending keys) → IsIn v (ascending keys)
      → number_in (code_of (ascending keys) u v) (codes_of (ascending keys) keys tails) ≡ found_at (pair u v) (pairs keys tails)
  found_code = found (ascending keys) (ascending_is keys) few_corners keys tails keys_stand ends_stand

  -- A pair with a point that is not a corner is not found.
  pub not_found_from : (u v : ℕ) → (IsIn u keys → ⊥) → found_at (pair u v) (pairs keys tails) ≡ 0
  not_found_from u v n = other_first keys tails u v (all_from (λ x. x ≡ u → ⊥) 0 keys (λ i h e. n (i, h, e)))

  pub not_found_to : (u v : ℕ) → (IsIn v keys → ⊥) → found_at (pair u v) (pairs keys tails) ≡ 0
  not_found_to u v n = other_second keys tails u v (all_map (λ y. IsIn y keys) (λ y. y ≡ v → ⊥) (λ y s e. n (subst (λ x. IsIn x keys) e s)) tails stand)

  -- The code turned is found where the reverse of the side is.
  pub opposites_are : turned_in (codes_of (ascending keys) keys tails) ≡ opposites (pairs keys tails)
  unfolding opposites
  opposites_are = all_turned (ascending keys) (ascending_is keys) few_corners (codes_of (ascending keys) keys tails) (pairs keys tails) found_code keys tails keys_stand ends_stand

  -- Sides have one code exactly if they are one pair.
  pub codes_tell : length tails ≡ length keys → (j k : ℕ) → j < length keys → k < length keys
      → (get_or (codes_of (ascending keys) keys tails) j 0 ≡ get_or (codes_of (ascending keys) keys tails) k 0) ↔ (pair (get_or keys j 0) (get_or tails j 0) ≡ pair (get_or keys k 0) (get_or tails k 0))
  codes_tell same j k h g = (
    λ e.
        let i = code_of-injective (ascending keys) (ascending_is keys) few_corners (get_or keys j 0) (get_or tails j 0) (get_or keys k 0) (get_or tails k 0)
        (all_at (λ u. IsIn u (ascending keys)) 0 keys j keys_stand h) (all_at (λ v. IsIn v (ascending keys)) 0 tails j ends_stand (omega arith))
        (all_at (λ u. IsIn u (ascending keys)) 0 keys k keys_stand g) (all_at (λ v. IsIn v (ascending keys)) 0 tails k ends_stand (omega arith))
        (sym (codes_at (ascending keys) keys tails j same h) ∙ e ∙ codes_at (ascending keys) keys tails k same g) in
        ap₂ pair i.0 i.1,
    λ e.
        let i = pair_injective (get_or keys j 0) (get_or tails j 0) (get_or keys k 0) (get_or tails k 0) e in
        codes_at (ascending keys) keys tails j same h ∙ ap₂ (code_of (ascending keys)) i.0 i.1 ∙ sym (codes_at (ascending keys) keys tails k same g),
  )
