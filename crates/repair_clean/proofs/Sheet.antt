-- The sheet of all polygons that still own a triangle after repair is clean; where all do, each keeps its number.
-- The idea: of the numbers from 1 to n each stands once, and those that pass the test stand as before. Assumes nothing.
use mathlib.Core.Path.{◌≡◌, refl, sym, ◌∙◌, ap, ap₂, subst}
use mathlib.Core.Bool.{Bool, true, false, cond}
use mathlib.Core.List.{List, [], ◌∷◌, map}
use Prim.Native.Nat.{ℕ, zero, suc, ◌+◌, ◌≤◌, ◌<◌}
use native.Mathlib.Omega.{arith}
use native.Mathlib.Decide.{dec_le}
use lib.Dec.{T, leb, eqb, eqb→eq, eqb_refl, le→leb, leb→le}
use lib.ListN.{length}
use Rattle.whole.specs.Sums.{All, Among, bit, count, passing}
use Rattle.whole.proofs.Sums.{all_map, counted, all_counted, bit_no}
use Rattle.plane.specs.Points.{Triangle}
use Rattle.plane.specs.Members.{Member}
use Rattle.lent.specs.Stages.{value}
use Rattle.table.specs.Table.{frame_edges, RuleA, RuleB, RuleC}
use Rattle.table.specs.Opposites.{later}
use Rattle.table_sides.specs.Numbered.{number_in}
use Rattle.owners.specs.Owners.{judge_polygons}
use Rattle.repair_regions.specs.Regions.{from}
use Rattle.repair_clean.specs.Clean.{EachHasRings, still_owning}
use Rattle.repair_clean.proofs.Clean.{repaired_clean}

-- ---- numbers that pass a test
passing_all : (test : ℕ → Bool) (l : List ℕ) → All (λ p. T (test p)) (passing test l)
passing_all test [] = tt
passing_all test (x ∷ l) = go (test x) (λ t. t) (passing_all test l)
  where
    go : (b : Bool) → (T b → T (test x)) → All (λ p. T (test p)) (passing test l) → All (λ p. T (test p)) (cond b (x ∷ passing test l) (passing test l))
    go true f r = (f tt, r)
    go false f r = r

passing_count : (test : ℕ → Bool) (o : ℕ) → T (test o) → (l : List ℕ) → count eqb o (passing test l) ≡ count eqb o l
passing_count test o h [] = refl
passing_count test o h (x ∷ l) = go (test x) (eqb x o) refl (λ t. subst (λ z. T (test z)) (sym (eqb→eq x o t)) h) (passing_count test o h l)
  where
    go : (b c : Bool) → eqb x o ≡ c → (T c → T b) → count eqb o (passing test l) ≡ count eqb o l → count eqb o (cond b (x ∷ passing test l) (passing test l)) ≡ bit c + count eqb o l
    go true c e f r = omega (arith, ap bit e)
    go false true e f r = absurd (f tt)
    go false false e f r = omega arith

-- ---- the numbers from i on
from_below : (o i n : ℕ) → o < i → count eqb o (from i n) ≡ 0
from_below o i zero h = refl
from_below o i (suc n) h = omega (arith, bit_no (eqb i o) (λ t. omega (arith, eqb→eq i o t)), from_below o (suc i) n (omega arith))

later_is : (n : ℕ) → 1 ≤ n → later n ≡ suc n
later_is zero h = absurd (omega arith)
later_is (suc n) h = refl

-- Each of them stands once, at its place.
from_place : (o i n : ℕ) → i ≤ o → o < i + n → (count eqb o (from i n) ≡ 1) × (i + number_in o (from i n) ≡ suc o)
from_place o i zero h k = absurd (omega arith)
from_place o i (suc n) h k = go (eqb i o) (eqb→eq i o) (λ e. subst (λ z. T (eqb i z)) e (eqb_refl i)) (from_place o (suc i) n)
  where
    Place : ℕ → ℕ → Type 0
    Place counted number = (counted ≡ 1) × (i + number ≡ suc o)

    go : (b : Bool) → (T b → i ≡ o) → (i ≡ o → T b) → (suc i ≤ o → o < suc i + n → (count eqb o (from (suc i) n) ≡ 1) × (suc i + number_in o (from (suc i) n) ≡ suc o))
        → Place (bit b + count eqb o (from (suc i) n)) (cond b 1 (later (number_in o (from (suc i) n))))
    go true f g r = (omega (arith, f tt, from_below o (suc i) n (omega (arith, f tt))), omega (arith, f tt))
    go false f g r = beyond (dec_le (suc i) o)
      where
        beyond : Dec (suc i ≤ o) → Place (0 + count eqb o (from (suc i) n)) (later (number_in o (from (suc i) n)))
        beyond (yes p) = let (c, e) = r p (omega arith) in (omega arith, omega (arith, later_is (number_in o (from (suc i) n)) (omega arith)))
        beyond (no p) = absurd (g (omega arith))

module _ (table : List Triangle) (area : RuleA table) (once : RuleB table) (framed : RuleC (frame_edges table) table)
    (owners : List ℕ) (fit : length owners ≡ length table) (n : ℕ) (numbered : All (λ o. (1 ≤ o) × (o ≤ n)) owners) where
  listed_once : (o : ℕ) → Among eqb o owners → count eqb o (from 1 n) ≡ 1
  listed_once o h = let k = counted eqb eqb→eq eqb_refl (λ o. (1 ≤ o) × (o ≤ n)) o owners h numbered in (from_place o 1 n k.0 (omega (arith, k.1))).0

  -- The sheet of the polygons that still own a triangle.
  pub sheet_clean : (ms : List Member) → EachHasRings table owners (still_owning n owners) ms → judge_polygons table ms ≡ value (map (λ o. number_in o (still_owning n owners) ∷ []) owners)
  sheet_clean ms h = repaired_clean table area once framed owners fit (still_owning n owners) ms
      (all_map (λ p. T (leb 1 (count eqb p owners))) (λ p. Among eqb p owners) (λ p t. leb→le 1 (count eqb p owners) t) (still_owning n owners)
      (passing_all (λ p. leb 1 (count eqb p owners)) (from 1 n)))
      (all_map (λ o. Among eqb o owners) (λ o. count eqb o (still_owning n owners) ≡ 1)
      (λ o k. passing_count (λ p. leb 1 (count eqb p owners)) o (le→leb 1 (count eqb o owners) k) (from 1 n) ∙ listed_once o k) owners (all_counted eqb eqb→eq eqb_refl owners)) h

  -- Where each polygon owns one, they keep their numbers.
  pub numbers_kept : (ms : List Member) → All (λ p. Among eqb p owners) (from 1 n) → EachHasRings table owners (from 1 n) ms → judge_polygons table ms ≡ value (map (λ o. o ∷ []) owners)
  numbers_kept ms a h = repaired_clean table area once framed owners fit (from 1 n) ms a
      (all_map (λ o. Among eqb o owners) (λ o. count eqb o (from 1 n) ≡ 1) listed_once owners (all_counted eqb eqb→eq eqb_refl owners)) h ∙ ap value (own owners numbered)
    where
      own : (l : List ℕ) → All (λ o. (1 ≤ o) × (o ≤ n)) l → map (λ o. number_in o (from 1 n) ∷ []) l ≡ map (λ o. o ∷ []) l
      own [] k = refl
      own (o ∷ l) k = ap₂ (λ (i : ℕ) (r : List (List ℕ)). (i ∷ []) ∷ r) (omega (arith, (from_place o 1 n k.0.0 (omega (arith, k.0.1))).1)) (own l k.1)
