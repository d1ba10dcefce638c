-- In a table that passes rules A and C the triangle found for a grid point is the only one that it belongs to, and none is found exactly off the half-open frame; a
-- set of the table's triangles has it exactly if the edges with the set's boundary wind once round the point, and they wind round none otherwise than 0 or 1 times.
-- The idea: the number of triangles that the point belongs to, as a sum of bits, is 1 or 0. Assumes nothing.
use mathlib.Core.Path.{◌≡◌, refl, sym, ◌∙◌, ap}
use mathlib.Core.Bool.{Bool, true, false, true≢false}
use mathlib.Core.List.{List, [], ◌∷◌}
use mathlib.Core.Option.{Option, none, some}
use Prim.Native.Nat.{ℕ, zero, suc, ◌+◌, ◌<◌}
use native.Mathlib.Omega.{arith}
use lib.IntN.{pos, ◌+ℤ◌}
use lib.ListN.{length, get_or}
use lib.Signed.{◌<ℤ◌}
use Rattle.whole.specs.Sums.{bit}
use Rattle.whole.proofs.Int.{ints}
use Rattle.plane.specs.Points.{Point, Edge, Triangle, double}
use Rattle.plane_winding.specs.Winding.{belongs, coverage, winding}
use Rattle.table.specs.Table.{corners, frame_of, frame_edges, Bounds, RuleA, RuleC, first_fault}
use Rattle.table.specs.Sets.{SetOf, chosen}
use Rattle.table.proofs.Sets.{all_chosen}
use Rattle.table_points.specs.Points.{triangle_of, in_frame}
use Rattle.table_points.proofs.Covered.{covered}
use Rattle.table_points.proofs.Frames.{covered_once}

-- Triangle t, counted from 0, is the only one of the table that the point belongs to. (Past the end of the table stands some triangle d.)
pub record OnlyOne (z : Point) (d : Triangle) (table : List Triangle) (t : ℕ) : Type 0 where
  pub within : t < length table
  pub there : belongs z (get_or table t d) ≡ true
  pub only : (u : ℕ) → u < length table → belongs z (get_or table u d) ≡ true → u ≡ t

-- ---- the first triangle that the point belongs to
module _ (z : Point) (d : Triangle) where
  -- The point belongs to none of the first n triangles.
  abbrev pub NoneOf : List Triangle → ℕ → Type 0
  NoneOf l n = (u : ℕ) → u < n → belongs z (get_or l u d) ≡ false

  -- The number n, counted from behind b others, is that of the first triangle; there is none.
  abbrev pub FirstAt : ℕ → List Triangle → Option ℕ → Type 0
  FirstAt b l none = NoneOf l (length l)
  FirstAt b l (some n) = (u : ℕ) × (n ≡ suc (b + u)) × (u < length l) × (belongs z (get_or l u d) ≡ true) × NoneOf l u

  first_from : (before l : List Triangle) → FirstAt (length before) l (first_fault (λ before t. belongs z t) before l)
  first_from before [] = λ u h. absurd (omega arith)
  first_from before (t ∷ l) = go (belongs z t) refl (first_fault (λ before t. belongs z t) (t ∷ before) l) (first_from (t ∷ before) l)
    where
      more : (n : ℕ) → belongs z t ≡ false → NoneOf l n → NoneOf (t ∷ l) (suc n)
      more n f h zero w = f
      more n f h (suc u) w = h u (omega arith)

      go : (b : Bool) → belongs z t ≡ b → (r : Option ℕ) → FirstAt (suc (length before)) l r → FirstAt (length before) (t ∷ l) (elim b [ true ↦ some (suc (length before)) | false ↦ r ])
      go true e r h = (0, omega arith, omega arith, e, λ u w. absurd (omega arith))
      go false e none h = more (length l) e h
      go false e (some n) (u, p, w, y, h) = (suc u, omega arith, omega arith, y, more u e h)

  pub first_is : (l : List Triangle) → FirstAt 0 l (triangle_of z l)
  first_is l = first_from [] l

  -- The triangle at a place is found where it is the first,
  found_from : (before l : List Triangle) (t : ℕ) → t < length l → belongs z (get_or l t d) ≡ true → NoneOf l t → first_fault (λ before t. belongs z t) before l ≡ some (suc (length before + t))
  found_from before [] t w y h = absurd (omega arith)
  found_from before (a ∷ l) zero w y h =
      let n : suc (length before) ≡ suc (length before + 0) = omega arith in
      ap (λ b. elim b as (λ b. Option ℕ) [ true ↦ some (suc (length before)) | false ↦ first_fault (λ before t. belongs z t) (a ∷ before) l ]) y ∙ ap some n
  found_from before (a ∷ l) (suc t) w y h =
      let n : suc (suc (length before) + t) ≡ suc (length before + suc t) = omega arith in
      ap (λ b. elim b as (λ b. Option ℕ) [ true ↦ some (suc (length before)) | false ↦ first_fault (λ before t. belongs z t) (a ∷ before) l ]) (h 0 (omega arith))
      ∙ found_from (a ∷ before) l t (omega arith) y (λ u v. h (suc u) (omega arith)) ∙ ap some n

  pub found_at_lem : (l : List Triangle) (t : ℕ) → t < length l → belongs z (get_or l t d) ≡ true → NoneOf l t → triangle_of z l ≡ some (suc t)
  found_at_lem l t w y h = let n : 0 + t ≡ t = omega arith in found_from [] l t w y h ∙ ap (λ i. some (suc i)) n

  -- and none where the point belongs to none.
  nowhere_from : (before l : List Triangle) → NoneOf l (length l) → first_fault (λ before t. belongs z t) before l ≡ none
  nowhere_from before [] h = refl
  nowhere_from before (a ∷ l) h =
      ap (λ b. elim b as (λ b. Option ℕ) [ true ↦ some (suc (length before)) | false ↦ first_fault (λ before t. belongs z t) (a ∷ before) l ]) (h 0 (omega arith))
      ∙ nowhere_from (a ∷ before) l (λ u v. h (suc u) (omega arith))

  pub found_nowhere : (l : List Triangle) → NoneOf l (length l) → triangle_of z l ≡ none
  found_nowhere l h = nowhere_from [] l h

-- ---- how many triangles the point belongs to
many : Point → List Triangle → ℕ
many z [] = 0
many z (t ∷ l) = bit (belongs z t) + many z l

many_is : (z : Point) (l : List Triangle) → coverage z l ≡ pos (many z l)
unfolding many
many_is z [] = refl
many_is z (t ∷ l) = ap (λ w. pos (bit (belongs z t)) +ℤ w) (many_is z l)

pos_eq : (m n : ℕ) → pos m ≡ pos n → m ≡ n
pos_eq m n e = omega (arith, ints, e)

bit_true : (b : Bool) → b ≡ true → bit b ≡ 1
bit_true b e = ap bit e

bit_none : (b : Bool) → bit b ≡ 0 → b ≡ false
bit_none true e = absurd (omega arith)
bit_none false e = refl

untrue : (b : Bool) → (b ≡ true → ⊥) → b ≡ false
untrue true f = absurd (f refl)
untrue false f = refl

module _ (z : Point) (d : Triangle) where
  none_of : (l : List Triangle) → many z l ≡ 0 → NoneOf z d l (length l)
  unfolding many
  none_of [] e u h = absurd (omega arith)
  none_of (t ∷ l) e zero h = bit_none (belongs z t) (omega arith)
  none_of (t ∷ l) e (suc u) h = none_of l (omega arith) u (omega arith)

  one_of : (l : List Triangle) → many z l ≡ 1 → (t : ℕ) × OnlyOne z d l t
  unfolding many
  one_of [] e = absurd (omega arith)
  one_of (t ∷ l) e = go (belongs z t) refl (one_of l)
    where
      go : (b : Bool) → belongs z t ≡ b → (many z l ≡ 1 → (u : ℕ) × OnlyOne z d l u) → (u : ℕ) × OnlyOne z d (t ∷ l) u
      go true f next = (
        0,
        record {
          within = omega arith;
          there = f;
          only = λ u. elim u as (λ u. u < length (t ∷ l) → belongs z (get_or (t ∷ l) u d) ≡ true → u ≡ 0) [
            | zero ↦ λ h k. refl
            | suc v ↦ λ h k. absurd (true≢false (sym k ∙ none_of l (omega (arith, bit_true (belongs z t) f)) v (omega arith)))
          ];
        },
      )
      go false f next = let (v, r) = next (omega (arith, ap bit f)) in (
        suc v,
        record {
          within = omega (arith, r.within);
          there = r.there;
          only = λ u. elim u as (λ u. u < length (t ∷ l) → belongs z (get_or (t ∷ l) u d) ≡ true → u ≡ suc v) [
            | zero ↦ λ h k. absurd (true≢false (sym k ∙ f))
            | suc w ↦ λ h k. ap suc (r.only w (omega arith) k)
          ];
        },
      )

  -- ---- a table that passes rules A and C
  module _ (table : List Triangle) (area : RuleA table) (framed : RuleC (frame_edges table) table) where
    counted : (b : Bool) → in_frame z (frame_of (corners table)) ≡ b → many z table ≡ bit b
    counted b h = pos_eq (many z table) (bit b) (sym (many_is z table) ∙ covered_once z table area framed ∙ ap (λ b. pos (bit b)) h)

    -- Every grid point from the frame's least x and y up to but not including the greatest belongs to exactly one triangle, which is found,
    pub exactly_one : in_frame z (frame_of (corners table)) ≡ true → (t : ℕ) × OnlyOne z d table t
    exactly_one h = one_of table (counted true h)

    -- and grid points elsewhere to none.
    pub elsewhere_none : in_frame z (frame_of (corners table)) ≡ false → NoneOf z d table (length table)
    elsewhere_none h = none_of table (counted false h)

  -- The only triangle is the one found.
  pub only_found : (table : List Triangle) (t : ℕ) → OnlyOne z d table t → triangle_of z table ≡ some (suc t)
  only_found table t o = found_at_lem z d table t o.within o.there (λ u h. untrue (belongs z (get_or table u d)) (λ e. omega (arith, o.only u (omega (arith, o.within)) e)))

  -- ---- a set of the table's triangles
  none_chosen : (l : List Triangle) (s : List Bool) → NoneOf z d l (length l) → many z (chosen l s) ≡ 0
  unfolding many
  none_chosen [] s h = refl
  none_chosen (t ∷ l) [] h = refl
  none_chosen (t ∷ l) (true ∷ s) h = omega (arith, ap bit (h 0 (omega arith)), none_chosen l s (λ u v. h (suc u) (omega arith)))
  none_chosen (t ∷ l) (false ∷ s) h = none_chosen l s (λ u v. h (suc u) (omega arith))

  one_chosen : (l : List Triangle) (s : List Bool) → length s ≡ length l → (t : ℕ) → t < length l → belongs z (get_or l t d) ≡ true → ((u : ℕ) → u < length l → (u ≡ t → ⊥) → belongs z (get_or l u d) ≡ false)
      → many z (chosen l s) ≡ bit (get_or s t false)
  unfolding many
  one_chosen [] s e t w y h = absurd (omega arith)
  one_chosen (a ∷ l) [] e t w y h = absurd (omega arith)
  one_chosen (a ∷ l) (true ∷ s) e zero w y h = omega (arith, bit_true (belongs z a) y, none_chosen l s (λ u v. h (suc u) (omega arith) (λ e. omega arith)))
  one_chosen (a ∷ l) (false ∷ s) e zero w y h = none_chosen l s (λ u v. h (suc u) (omega arith) (λ e. omega arith))
  one_chosen (a ∷ l) (true ∷ s) e (suc t) w y h =
      omega (arith, ap bit (h 0 (omega arith) (λ e. omega arith)), one_chosen l s (omega arith) t (omega arith) y (λ u v n. h (suc u) (omega arith) (λ e. n (omega arith))))
  one_chosen (a ∷ l) (false ∷ s) e (suc t) w y h = one_chosen l s (omega arith) t (omega arith) y (λ u v n. h (suc u) (omega arith) (λ e. n (omega arith)))

  module _ (table : List Triangle) (area : RuleA table) (s : List Bool) (set : SetOf table s) (l : List Edge) (bounds : Bounds table l (chosen table s)) where
    winds : winding z l ≡ pos (many z (chosen table s))
    winds = sym (covered z table (chosen table s) l (all_chosen (λ t. pos 0 <ℤ double t) table s area) bounds) ∙ many_is z (chosen table s)

    -- The edges with a set's boundary wind once round the point if its triangle is in the set, and else never,
    pub winds_as_marked : (t : ℕ) → OnlyOne z d table t → winding z l ≡ pos (bit (get_or s t false))
    winds_as_marked t o = winds ∙ ap pos (one_chosen table s set t o.within o.there (λ u h n. untrue (belongs z (get_or table u d)) (λ e. n (o.only u h e))))

    -- and never round a point that belongs to no triangle.
    pub winds_not : NoneOf z d table (length table) → winding z l ≡ pos 0
    winds_not h = winds ∙ ap pos (none_chosen table s h)
