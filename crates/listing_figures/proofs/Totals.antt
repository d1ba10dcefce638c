-- The figures told of the table: the sum of the areas of the marked triangles is the sum of their double areas, and a polygon's marks are its triangles after
-- repair. Assumes nothing.
use mathlib.Core.Path.{◌≡◌, refl, ◌∙◌, ap, ap₂}
use mathlib.Core.Bool.{Bool, true, false}
use mathlib.Core.List.{List, [], ◌∷◌, map}
use Prim.Native.Nat.{ℕ, suc, ◌*◌, ◌≤◌, ◌<◌}
use native.Mathlib.Omega.{arith}
use lib.Dec.{eqb}
use lib.IntN.{pos, ◌+ℤ◌}
use lib.ListN.{length, get_or, drop, drop_of_length-le}
use lib.Seq.{drop-cons}
use Rattle.whole.specs.Sums.{All, sum}
use Rattle.plane.specs.Points.{Triangle, double}
use Rattle.table.specs.Sets.{chosen}
use Rattle.listing_figures.specs.declared.Figure.{Figure}
use Rattle.listing_figures.specs.declared.Figure.TheVariants.{After}
use Rattle.listing_figures.specs.Figures.{counts, marks_of, total}

-- ---- how many, and their double area
-- The sum of the areas of the marked triangles is the sum of their double areas.
pub total_area : (table : List Triangle) (areas : List ℕ) → map pos areas ≡ map double table → (s : List Bool) → pos (total (chosen areas s)) ≡ sum double (chosen table s)
total_area [] [] e s = refl
total_area [] (a ∷ areas) e s = absurd (omega (arith, ap length e))
total_area (t ∷ table) [] e s = absurd (omega (arith, ap length e))
total_area (t ∷ table) (a ∷ areas) e [] = refl
total_area (t ∷ table) (a ∷ areas) e (true ∷ s) = ap₂ ◌+ℤ◌ (ap (λ l. get_or l 0 (pos 0)) e) (total_area table areas (ap (drop 1) e) s)
total_area (t ∷ table) (a ∷ areas) e (false ∷ s) = total_area table areas (ap (drop 1) e) s

-- As many are marked in one list as in another of the same length.
pub chosen_many : {A B : Type 0} (l : List A) (m : List B) → length l ≡ length m → (s : List Bool) → length (chosen l s) ≡ length (chosen m s)
chosen_many [] [] e s = refl
chosen_many [] (b ∷ m) e s = absurd (omega arith)
chosen_many (a ∷ l) [] e s = absurd (omega arith)
chosen_many (a ∷ l) (b ∷ m) e [] = refl
chosen_many (a ∷ l) (b ∷ m) e (true ∷ s) = ap suc (chosen_many l m (omega arith) s)
chosen_many (a ∷ l) (b ∷ m) e (false ∷ s) = chosen_many l m (omega arith) s

-- A polygon's marks after repair: the triangles that it owns.
pub after_marks : (polygon : ℕ) (sets owners : List ℕ) → length sets ≡ length owners → marks_of (After polygon) sets owners ≡ map (λ owner. eqb owner polygon) owners
after_marks polygon [] [] e = refl
after_marks polygon [] (owner ∷ owners) e = absurd (omega arith)
after_marks polygon (set ∷ sets) [] e = refl
after_marks polygon (set ∷ sets) (owner ∷ owners) e = ap (λ l. eqb owner polygon ∷ l) (after_marks polygon sets owners (omega arith))

-- There are no more marked than there are.
pub chosen_fewer : {A : Type 0} (l : List A) (s : List Bool) → length (chosen l s) ≤ length l
chosen_fewer [] s = omega arith
chosen_fewer (a ∷ l) [] = omega arith
chosen_fewer (a ∷ l) (true ∷ s) = omega (arith, chosen_fewer l s)
chosen_fewer (a ∷ l) (false ∷ s) = omega (arith, chosen_fewer l s)

-- ---- the areas of the marked triangles
pub chosen_less : (l : List ℕ) (s : List Bool) → All (λ a. a ≤ 800_000_000_000_000) l → total (chosen l s) ≤ length l * 800_000_000_000_000
chosen_less [] s h = omega arith
chosen_less (a ∷ l) [] h = omega arith
chosen_less (a ∷ l) (true ∷ s) h = omega (arith, h.0, chosen_less l s h.1)
chosen_less (a ∷ l) (false ∷ s) h = omega (arith, chosen_less l s h.1)

module _ (figure : Figure) (sets owners areas : List ℕ) where
  -- Those from place t on.
  abbrev pub left : ℕ → List ℕ
  left t = chosen (drop t areas) (marks_of figure (drop t sets) (drop t owners))

  -- The one at place t by its mark, then those behind it.
  pub next : (t : ℕ) (b : Bool) → t < length areas → length sets ≡ length areas → length owners ≡ length areas → counts figure (get_or sets t 0) (get_or owners t 0) ≡ b
      → left t ≡ chosen (get_or areas t 0 ∷ drop (suc t) areas) (b ∷ marks_of figure (drop (suc t) sets) (drop (suc t) owners))
  next t b h e f y =
      (λ i. chosen (drop-cons areas t 0 h i) (marks_of figure (drop-cons sets t 0 (omega arith) i) (drop-cons owners t 0 (omega arith) i)))
      ∙ ap (λ b. chosen (get_or areas t 0 ∷ drop (suc t) areas) (b ∷ marks_of figure (drop (suc t) sets) (drop (suc t) owners))) y

  pub none_left : (t : ℕ) → length areas ≤ t → left t ≡ []
  none_left t h = ap (λ l. chosen l (marks_of figure (drop t sets) (drop t owners))) (drop_of_length-le areas {i = t} h)
