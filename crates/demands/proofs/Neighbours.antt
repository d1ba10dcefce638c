-- Request No. 6, the index: "for each triangle and side, the number of the triangle with the reversed side, .. 0 for none", for every table that keeps rule B.
-- The idea: by rule B a side is one triangle's only, so the first triangle with it is the only one. Assumes nothing.
use mathlib.Core.Path.{◌≡◌, refl, sym, ◌∙◌, ap, subst}
use mathlib.Core.Logic.{◌↔◌, ◌⊎◌, inl, inr}
use mathlib.Core.Bool.{Bool, true, false, cond}
use mathlib.Core.List.{List, [], ◌∷◌, map, flat_map}
use Prim.Native.Nat.{ℕ, zero, suc, ◌+◌, ◌-◌, ◌*◌, ◌≤◌, ◌<◌}
use native.Mathlib.Decide.{dec_le}
use native.Mathlib.Omega.{arith}
use lib.Dec.{T}
use lib.ListN.{length, get_or, length-map}
use Rattle.whole.specs.Sums.{All, Among, any, bit, count}
use Rattle.whole.proofs.Sums.{all_of, all_image}
use Rattle.plane.specs.Points.{Edge, Triangle, ◌⟶◌, flip, sides, same_edge}
use Rattle.plane.specs.Boundaries.{sides_of}
use Rattle.lent_little.specs.Ordered.{number}
use Rattle.lent_little.proofs.Ordered.{length_bytes, number_bytes}
use Rattle.lent_little.proofs.Bytes.{all_length}
use Rattle.table.specs.Table.{RuleB}
use Rattle.table.specs.Opposites.{later}
use Rattle.table.proofs.Shares.{at_counted, counted_at}
use Rattle.table_neighbours.specs.Neighbours.{triangle_with, index_of, u16, own_index}
use Rattle.sheet_written.specs.Fits.{origin}
use Rattle.outcomes.proofs.Sized.{sides_three}
use Rattle.demands.specs.Triangles.{triangle}
use Rattle.demands.specs.Index.{side_of, entry_for, HasSide}
use Rattle.demands.proofs.Table.{sided}

abbrev nowhere : Triangle
nowhere = record { a = origin; b = origin; c = origin }

abbrev Has : List Triangle → ℕ → Edge → Type 0
Has table t e = Among same_edge e (sides (get_or table t nowhere))

-- ---- the first triangle with a side
some_side : (e : Edge) (l : List Edge) → T (any (λ d. same_edge d e) l) ↔ Among same_edge e l
some_side e l = (to l, from l)
  where
    to : (l : List Edge) → T (any (λ d. same_edge d e) l) → Among same_edge e l
    to [] t = absurd t
    to (x ∷ l) t = go (same_edge x e) (to l) t
      where
        go : (b : Bool) → (T (any (λ d. same_edge d e) l) → Among same_edge e l) → T (elim b [ true ↦ true | false ↦ any (λ d. same_edge d e) l ]) → 1 ≤ bit b + count same_edge e l
        go true f t = omega arith
        go false f t = omega (arith, f t)

    from : (l : List Edge) → Among same_edge e l → T (any (λ d. same_edge d e) l)
    from [] h = absurd (omega arith)
    from (x ∷ l) h = go (same_edge x e) (from l) h
      where
        go : (b : Bool) → (Among same_edge e l → T (any (λ d. same_edge d e) l)) → 1 ≤ bit b + count same_edge e l → T (elim b [ true ↦ true | false ↦ any (λ d. same_edge d e) l ])
        go true f h = tt
        go false f h = f (omega arith)

-- It is a triangle with the side, or 0 where none has it.
abbrev With : Edge → List Triangle → ℕ → Type 0
With e table r = ((r ≡ 0) × ((t : ℕ) → t < length table → Has table t e → ⊥)) ⊎ ((t : ℕ) × (r ≡ suc t) × (t < length table) × Has table t e)

first_with : (e : Edge) (table : List Triangle) → With e table (triangle_with e table)
first_with e [] = inl (refl, λ t h m. omega arith)
first_with e (t ∷ l) = go (any (λ d. same_edge d e) (sides t)) (some_side e (sides t)) (first_with e l)
  where
    go : (b : Bool) → T b ↔ Among same_edge e (sides t) → With e l (triangle_with e l) → With e (t ∷ l) (cond b 1 (later (triangle_with e l)))
    go true f w = inr (0, refl, omega arith, f.0 tt)
    go false f (inl (z, n)) = inl (ap later z, λ k. elim k as (λ k. k < length (t ∷ l) → Has (t ∷ l) k e → ⊥) [ zero ↦ λ h m. f.1 m | (suc k) ↦ λ h m. n k (omega arith) m ])
    go false f (inr (k, z, h, m)) = inr (suc k, ap later z, omega arith, m)

-- ---- rule B
counted_once : (e : Edge) (table : List Triangle) (j : ℕ) → j < length table → Has table j e → 1 ≤ count same_edge e (sides_of table)
counted_once e [] j h m = absurd (omega arith)
counted_once e (t ∷ l) zero h m = omega (arith, sided e t l)
counted_once e (t ∷ l) (suc j) h m = omega (arith, sided e t l, counted_once e l j (omega arith) m)

counted_twice : (e : Edge) (table : List Triangle) (i j : ℕ) → i < j → j < length table → Has table i e → Has table j e → 2 ≤ count same_edge e (sides_of table)
counted_twice e [] i j k h m n = absurd (omega arith)
counted_twice e (t ∷ l) i zero k h m n = absurd (omega arith)
counted_twice e (t ∷ l) zero (suc j) k h m n = omega (arith, sided e t l, counted_once e l j (omega arith) n)
counted_twice e (t ∷ l) (suc i) (suc j) k h m n = omega (arith, sided e t l, counted_twice e l i j (omega arith) (omega arith) m n)

one_triangle : (e : Edge) (table : List Triangle) → RuleB table → (i j : ℕ) → i < length table → j < length table → Has table i e → Has table j e → i ≡ j
one_triangle e table once i j h k m n = go (dec_le (suc i) j) (dec_le (suc j) i)
  where
    go : Dec (suc i ≤ j) → Dec (suc j ≤ i) → i ≡ j
    go (yes a) d = absurd (omega (arith, once e, counted_twice e table i j a k m n))
    go (no a) (yes b) = absurd (omega (arith, once e, counted_twice e table j i b h n m))
    go (no a) (no b) = omega arith

-- ---- places in the index: three for each triangle
-- The index has 6 bytes for each triangle.
pub six_each : (table : List Triangle) → length (own_index table) ≡ 6 * length table
unfolding index_of
six_each table = omega (arith, all_length 2 u16 (length_bytes 2) (index_of table), length-map (sides_of table) (λ e. triangle_with (flip e) table), sides_three table)

at_side : (f : Edge → ℕ) (l : List Triangle) (k i : ℕ) → k < length l → i < 3 → get_or (map f (sides_of l)) (3 * k + i) 0 ≡ f (get_or (sides (get_or l k nowhere)) i (origin ⟶ origin))
unfolding flat_map
at_side f [] k i h j = absurd (omega arith)
at_side f (t ∷ l) zero zero h j = refl
at_side f (t ∷ l) zero (suc zero) h j = refl
at_side f (t ∷ l) zero (suc (suc zero)) h j = refl
at_side f (t ∷ l) zero (suc (suc (suc i))) h j = absurd (omega arith)
at_side f (t ∷ l) (suc k) i h j =
    let e : 3 * suc k + i ≡ suc (suc (suc (3 * k + i))) = omega arith in
    ap (λ n. get_or (map f (sides_of (t ∷ l))) n 0) e ∙ at_side f l k i (omega arith) j

module _ (table : List Triangle) (k i : ℕ) (low : 1 ≤ k) (high : k ≤ length table) (side : i < 3) where
  abbrev reversed : Edge
  reversed = flip (side_of table k i)

  entry_is : entry_for table k i ≡ triangle_with (flip (side_of table k i)) table
  unfolding index_of
  entry_is = at_side (λ e. triangle_with (flip e) table) table (k - 1) i (omega arith) side

  named : With (flip (side_of table k i)) table (entry_for table k i)
  named = subst (With reversed table) (sym entry_is) (first_with reversed table)

-- ---- what the index has for side i of triangle k, for a table that keeps rule B
module _ (table : List Triangle) (once : RuleB table) where
  -- "There is only one" triangle with a side.
  pub only_neighbour : (e : Edge) (t u : ℕ) → HasSide table t e → HasSide table u e → t ≡ u
  only_neighbour e t u h g = let same = one_triangle e table once (t - 1) (u - 1) (omega (arith, h.low, h.high)) (omega (arith, g.low, g.high)) h.there g.there in omega (arith, h.low, g.low)

  module _ (k i : ℕ) (low : 1 ≤ k) (high : k ≤ length table) (side : i < 3) where
    -- It is t exactly if triangle t has the reversed side,
    pub names_neighbour : (t : ℕ) → 1 ≤ t → (entry_for table k i ≡ t) ↔ HasSide table t (flip (side_of table k i))
    names_neighbour t some = (to (named table k i low high side), from (named table k i low high side))
      where
        to : With (flip (side_of table k i)) table (entry_for table k i) → entry_for table k i ≡ t → HasSide table t (flip (side_of table k i))
        to (inl (z, n)) e = absurd (omega arith)
        to (inr (u, z, h, m)) e = let j : u ≡ t - 1 = omega arith in record { low = some; high = omega arith; there = subst (λ u. Has table u (flip (side_of table k i))) j m }

        from : With (flip (side_of table k i)) table (entry_for table k i) → HasSide table t (flip (side_of table k i)) → entry_for table k i ≡ t
        from (inl (z, n)) g = absurd (n (t - 1) (omega (arith, g.low, g.high)) g.there)
        from (inr (u, z, h, m)) g =
            let same = one_triangle (flip (side_of table k i)) table once u (t - 1) h (omega (arith, g.low, g.high)) m g.there in
            omega (arith, g.low)

    -- 0 exactly if none has it,
    pub none_there : (entry_for table k i ≡ 0) ↔ ((t : ℕ) → HasSide table t (flip (side_of table k i)) → ⊥)
    none_there = (
      λ e t h. let z = (names_neighbour t h.low).1 h in omega (arith, h.low),
      from (named table k i low high side),
    )
      where
        from : With (flip (side_of table k i)) table (entry_for table k i) → ((t : ℕ) → HasSide table t (flip (side_of table k i)) → ⊥) → entry_for table k i ≡ 0
        from (inl (z, n)) f = z
        from (inr (u, z, h, m)) f = absurd (f (suc u) (record { low = omega arith; high = h; there = subst (λ j. Has table j (flip (side_of table k i))) (let j : u ≡ suc u - 1 = omega arith in j) m }))

  -- and it is symmetric: where it has t, the index has k for the side of triangle t that is the reverse.
  pub symmetric : (k i t : ℕ) → 1 ≤ k → k ≤ length table → i < 3 → 1 ≤ t → entry_for table k i ≡ t → (j : ℕ) × (j < 3) × (side_of table t j ≡ flip (side_of table k i)) × (entry_for table t j ≡ k)
  symmetric k i t low high side some e =
      let h = (names_neighbour k i low high side t some).0 e in
      let (j, s, q) = counted_at (flip (side_of table k i)) (sides (triangle table t)) (origin ⟶ origin) h.there in
      let back : Among same_edge (flip (side_of table t j)) (sides (triangle table k)) = subst (λ d. Among same_edge (flip d) (sides (triangle table k))) (sym q) (at_counted (sides (triangle table k)) (origin ⟶ origin) i side) in
      (j, s, q, (names_neighbour t j h.low h.high s k low).1 (record { low = low; high = high; there = back }))

-- Each number is told by its two bytes.
pub numbers_told : (table : List Triangle) → length table ≤ 1024 → All (λ n. number (u16 n) ≡ n) (index_of table)
unfolding index_of
numbers_told table few = all_image (λ e. triangle_with (flip e) table) (λ n. number (u16 n) ≡ n) (sides_of table) (all_of (λ e. number (u16 (triangle_with (flip e) table)) ≡ triangle_with (flip e) table) (λ e. told e (first_with (flip e) table)) (sides_of table))
  where
    told : (e : Edge) → With (flip e) table (triangle_with (flip e) table) → number (u16 (triangle_with (flip e) table)) ≡ triangle_with (flip e) table
    told e (inl (z, n)) = number_bytes 2 (triangle_with (flip e) table) (omega arith)
    told e (inr (t, z, h, m)) = number_bytes 2 (triangle_with (flip e) table) (omega arith)
