-- The figures of a judged sheet, told of its table and polygons. A polygon's double area is the sum of its triangles', and after repair the areas of its
-- marked triangles add up to that of the triangles it owns; the gaps and the overlaps are marked by their owners, and the sheet
-- is clean exactly if there is neither. The books balance: the polygons' double areas against the owners of each triangle, the frame's against
-- the triangles with a single owner, the gaps and the overlaps.
-- The idea: the owners are made of the set that carries each polygon, so that a polygon's bits are its set, whose double areas add up to
-- the polygon's; one more polygon adds 1 to the number of owners of each triangle of its set; and each triangle is of one of the three kinds.
-- Assumes nothing.
use mathlib.Core.Path.{◌≡◌, refl, sym, ◌∙◌, ap, ap₂}
use mathlib.Core.Bool.{Bool, true, false, cond}
use mathlib.Core.List.{List, [], ◌∷◌, map}
use Prim.Native.Nat.{ℕ, zero, suc, ◌+◌}
use native.Mathlib.Omega.{arith}
use borrow.Author.Tests.{ne_eqb}
use lib.Dec.{eqb}
use lib.IntN.{ℤ, pos, ◌+ℤ◌, ◌*ℤ◌, *ℤ-zero, pos-+ℤ-pos}
use lib.ListN.{length, replicate, length-map}
use mir.Syntax.{w64}
use mir.Val.{of_z}
use Rattle.whole.specs.Sums.{All, every, sum}
use Rattle.whole.specs.Polynomials.{con, ◌:+◌, ◌:*◌, ◌:=◌}
use Rattle.whole.proofs.Ring.{solve}
use Rattle.plane.specs.Points.{Triangle, double}
use Rattle.plane.specs.Members.{Member, double_area}
use Rattle.lent.specs.Stages.{value}
use Rattle.table.specs.Table.{corners, frame_of, rectangle, RuleA, RuleB}
use Rattle.table.specs.Sets.{chosen}
use Rattle.owners_marks.specs.declared.Standing.{Standing}
use Rattle.owners_marks.specs.declared.Standing.TheVariants.{Gap, Single, Overlap}
use Rattle.owners_marks.specs.Marks.{with_owner, owners_from, standing_by, set_of}
use Rattle.owners_marks.specs.Sets.{owners_of, standing_of}
use Rattle.owners_marks.proofs.Owners.{length_owners_from}
use Rattle.repair_regions.specs.Regions.{from}
use Rattle.repair_sides.specs.Sides.{triangles_owned}
use Rattle.repair_sides.proofs.Bounding.{frame_area}
use Rattle.listing_figures.specs.declared.Figure.{Figure}
use Rattle.listing_figures.specs.declared.Figure.TheVariants.{Gaps, Overlaps, After}
use Rattle.listing_figures.specs.Figures.{counts, marks_of, total}
use Rattle.listing_figures.specs.Standings.{is_gap, is_single, is_overlap, owing}
use Rattle.listing_figures.proofs.Totals.{total_area, chosen_many, after_marks}
use Rattle.owners.proofs.Carried.{answered}
use Rattle.owners.proofs.Polygons.{EachCarried, marks_fit}
use Rattle.judged.specs.Judged.{Judged}
use Rattle.judged.specs.Held.{judge_sheet}
use Rattle.judged.proofs.Repaired.{rules, made, owners_many}

-- ---- lists
-- What comes of each in two steps.
map_through : {A B C : Type 0} (f : B → C) (g : A → B) (h : A → C) → ((a : A) → h a ≡ f (g a)) → (l : List A) → map h l ≡ map f (map g l)
map_through f g h e [] = refl
map_through f g h e (a ∷ l) = ap₂ (λ c m. c ∷ m) (e a) (map_through f g h e l)

-- Double areas that are natural numbers are told by their bits.
bits_told : (l : List Member) (areas : List ℕ) → map double_area l ≡ map pos areas → map pos (map (λ (m : Member). of_z w64 (double_area m)) l) ≡ map double_area l
bits_told [] areas e = refl
bits_told (m ∷ l) [] e = absurd (omega (arith, ap length e))
bits_told (m ∷ l) (a ∷ areas) e = ap₂ (λ z k. z ∷ k) (let f : double_area m ≡ pos a = cc in ap (λ z. pos (of_z w64 z)) f ∙ sym f) (bits_told l areas (cc))

-- ---- the owners of each triangle
none_owing : (table : List Triangle) (n : ℕ) → owing table (replicate n []) ≡ pos 0
none_owing [] n = refl
none_owing (t ∷ table) zero = refl
none_owing (t ∷ table) (suc n) = ap₂ ◌+ℤ◌ (*ℤ-zero (double t)) (none_owing table n)

-- One more polygon adds the double areas of its set.
one_more_owing : (k : ℕ) (table : List Triangle) (s : List Bool) (l : List (List ℕ)) → length s ≡ length table → length l ≡ length table
    → owing table (with_owner k s l) ≡ sum double (chosen table s) +ℤ owing table l
one_more_owing k [] s l e f = refl
one_more_owing k (t ∷ table) [] l e f = absurd (omega arith)
one_more_owing k (t ∷ table) (b ∷ s) [] e f = absurd (omega arith)
one_more_owing k (t ∷ table) (b ∷ s) (o ∷ l) e f = go b (one_more_owing k table s l (omega arith) (omega arith))
  where
    go : (b : Bool) → owing table (with_owner k s l) ≡ sum double (chosen table s) +ℤ owing table l
        → double t *ℤ pos (length (cond b (k ∷ o) o)) +ℤ owing table (with_owner k s l) ≡ sum double (chosen (t ∷ table) (b ∷ s)) +ℤ (double t *ℤ pos (length o) +ℤ owing table l)
    go true r =
        let one : suc (length o) ≡ 1 + length o = omega arith in
        ap₂ (λ m z. double t *ℤ m +ℤ z) (ap pos one ∙ sym (pos-+ℤ-pos 1 (length o))) r
        ∙ solve 4 (λ d o s z. d :* (con (pos 1) :+ o) :+ (s :+ z) := (d :+ s) :+ (d :* o :+ z)) tt (double t) (pos (length o)) (sum double (chosen table s)) (owing table l)
    go false r =
        ap (λ z. double t *ℤ pos (length o) +ℤ z) r
        ∙ solve 4 (λ d o s z. d :* o :+ (s :+ z) := s :+ (d :* o :+ z)) tt (double t) (pos (length o)) (sum double (chosen table s)) (owing table l)

module _ (table : List Triangle) (area : RuleA table) (once : RuleB table) where
  -- The double areas of polygons, each carried by its set, are those of the sets' triangles,
  carried_areas : (polygons : List Member) (marks : List (List Bool)) → EachCarried table polygons marks → map double_area polygons ≡ map (λ s. sum double (chosen table s)) marks
  carried_areas [] [] h = refl
  carried_areas [] (s ∷ marks) h = absurd h
  carried_areas (m ∷ polygons) [] h = absurd h
  carried_areas (m ∷ polygons) (s ∷ marks) h = ap₂ (λ z l. z ∷ l) (sym (answered table m area once s h.0).area) (carried_areas polygons marks h.1)

  -- and add up to the double areas of the triangles, each as often as it has owners.
  carried_owing : (k : ℕ) (polygons : List Member) (marks : List (List Bool)) → EachCarried table polygons marks → sum double_area polygons ≡ owing table (owners_from (length table) k marks)
  carried_owing k [] [] h = sym (none_owing table (length table))
  carried_owing k [] (s ∷ marks) h = absurd h
  carried_owing k (m ∷ polygons) [] h = absurd h
  carried_owing k (m ∷ polygons) (s ∷ marks) h =
      let own = answered table m area once s h.0 in
      ap₂ ◌+ℤ◌ (sym own.area) (carried_owing (suc k) polygons marks h.1)
      ∙ sym (one_more_owing k table s (owners_from (length table) (suc k) marks) own.of_table (length_owners_from (length table) (suc k) marks (marks_fit table area once polygons marks h.1).1))

-- ---- the gaps and the overlaps
-- The marks of a figure that goes by the owners.
marks_by_owners : (figure : Figure) (test : List ℕ → Bool) → ((set owner : ℕ) → counts figure set owner ≡ test (owners_of set)) → (l owners : List ℕ) → length l ≡ length owners
    → marks_of figure l owners ≡ map test (map owners_of l)
marks_by_owners figure test h [] owners e = refl
marks_by_owners figure test h (set ∷ l) [] e = absurd (omega arith)
marks_by_owners figure test h (set ∷ l) (owner ∷ owners) e = ap₂ (λ b s. b ∷ s) (h set owner) (marks_by_owners figure test h l owners (omega arith))

pub gaps_are : (l owners : List ℕ) → length l ≡ length owners → marks_of Gaps l owners ≡ map (λ o. is_gap (standing_by o)) (map owners_of l)
unfolding standing_of
gaps_are = marks_by_owners Gaps (λ o. is_gap (standing_by o)) (λ set owner. refl)

pub overlaps_are : (l owners : List ℕ) → length l ≡ length owners → marks_of Overlaps l owners ≡ map (λ o. is_overlap (standing_by o)) (map owners_of l)
unfolding standing_of
overlaps_are = marks_by_owners Overlaps (λ o. is_overlap (standing_by o)) (λ set owner. refl)

-- Marked in the list of areas are as many as in the table, and their total is the double area of those triangles.
pub figure_lines : (table : List Triangle) (areas : List ℕ) → map pos areas ≡ map double table → (s : List Bool)
    → (length (chosen areas s) ≡ length (chosen table s)) × (pos (total (chosen areas s)) ≡ sum double (chosen table s))
figure_lines table areas are s = (chosen_many areas table (omega (arith, ap length are, length-map areas pos, length-map table double)) s, total_area table areas are s)

-- ---- the three kinds of triangles
-- Those of one kind.
abbrev kind : (Standing → Bool) → List (List ℕ) → List Bool
kind test = map (λ o. test (standing_by o))

-- There is neither a gap nor an overlap exactly if every triangle has a single owner.
pub verdict_is : (l : List (List ℕ)) (areas : List ℕ) → length areas ≡ length l
    → eqb (length (chosen areas (map (λ o. is_gap (standing_by o)) l)) + length (chosen areas (map (λ o. is_overlap (standing_by o)) l))) 0 ≡ every (λ o. is_single (standing_by o)) l
verdict_is [] [] e = refl
verdict_is [] (a ∷ areas) e = absurd (omega arith)
verdict_is (o ∷ l) [] e = absurd (omega arith)
verdict_is (o ∷ l) (a ∷ areas) e = go (standing_by o) (verdict_is l areas (omega arith))
  where
    go : (st : Standing) → eqb (length (chosen areas (kind is_gap l)) + length (chosen areas (kind is_overlap l))) 0 ≡ every (λ o. is_single (standing_by o)) l
        → eqb (length (chosen (a ∷ areas) (is_gap st ∷ kind is_gap l)) + length (chosen (a ∷ areas) (is_overlap st ∷ kind is_overlap l))) 0
        ≡ elim (is_single st) [ true ↦ every (λ o. is_single (standing_by o)) l | false ↦ false ]
    go Gap r = ne_eqb (suc (length (chosen areas (kind is_gap l))) + length (chosen areas (kind is_overlap l))) 0 (λ e. omega arith)
    go (Single k) r = r
    go (Overlap k) r = ne_eqb (length (chosen areas (kind is_gap l)) + suc (length (chosen areas (kind is_overlap l)))) 0 (λ e. omega arith)

-- The triangles, each of one of the three kinds by its owners.
three_kinds : (table : List Triangle) (l : List (List ℕ)) → length l ≡ length table
    → sum double table ≡ sum double (chosen table (kind is_single l)) +ℤ sum double (chosen table (kind is_gap l)) +ℤ sum double (chosen table (kind is_overlap l))
three_kinds [] l e = refl
three_kinds (t ∷ table) [] e = absurd (omega arith)
three_kinds (t ∷ table) (o ∷ l) e = go (standing_by o) (ap (λ w. double t +ℤ w) (three_kinds table l (omega arith)))
  where
    x : ℤ
    x = sum double (chosen table (kind is_single l))

    y : ℤ
    y = sum double (chosen table (kind is_gap l))

    z : ℤ
    z = sum double (chosen table (kind is_overlap l))

    go : (st : Standing) → double t +ℤ sum double table ≡ double t +ℤ (x +ℤ y +ℤ z)
        → double t +ℤ sum double table
        ≡ sum double (chosen (t ∷ table) (is_single st ∷ kind is_single l)) +ℤ sum double (chosen (t ∷ table) (is_gap st ∷ kind is_gap l))
        +ℤ sum double (chosen (t ∷ table) (is_overlap st ∷ kind is_overlap l))
    go Gap r = r ∙ solve 4 (λ t x y z. t :+ (x :+ y :+ z) := x :+ (t :+ y) :+ z) tt (double t) x y z
    go (Single k) r = r ∙ solve 4 (λ t x y z. t :+ (x :+ y :+ z) := t :+ x :+ y :+ z) tt (double t) x y z
    go (Overlap k) r = r ∙ solve 4 (λ t x y z. t :+ (x :+ y :+ z) := x :+ y :+ (t :+ z)) tt (double t) x y z

-- ---- a judged sheet
module _ {j : Judged} (e : judge_sheet j.sheet ≡ value j) where
  abbrev table : List Triangle
  table = j.sheet.table

  abbrev polygons : List Member
  polygons = j.sheet.polygons

  -- The set of each polygon.
  abbrev marks : List (List Bool)
  marks = (made e).marks

  fit : (length marks ≡ length polygons) × All (λ s. length s ≡ length table) marks
  fit = marks_fit table (rules e).0 (rules e).1 polygons marks (made e).each

  -- The double areas of all polygons add up to the double areas of the triangles, each as often as the triangle has owners.
  pub books_balance : sum double_area j.sheet.polygons ≡ owing j.sheet.table j.owners
  books_balance = carried_owing table (rules e).0 (rules e).1 1 polygons marks (made e).each ∙ ap (owing table) (made e).are

  -- The frame's double area is that of the triangles with a single owner, of the gaps and of the overlaps.
  pub frame_balance : double_area ((rectangle (frame_of (corners j.sheet.table)) ∷ []) ∷ [])
      ≡ sum double (chosen j.sheet.table (map (λ o. is_single (standing_by o)) j.owners)) +ℤ sum double (chosen j.sheet.table (map (λ o. is_gap (standing_by o)) j.owners))
      +ℤ sum double (chosen j.sheet.table (map (λ o. is_overlap (standing_by o)) j.owners))
  frame_balance = sym (frame_area table (rules e).2) ∙ three_kinds table j.owners (owners_many e)

  -- The double areas of the polygons are natural numbers, those of their sets: as the bits of an i64 they are these numbers.
  pub polygons_told : (areas : List ℕ) → map pos areas ≡ map double j.sheet.table → map pos (map (λ (m : Member). of_z w64 (double_area m)) j.sheet.polygons) ≡ map double_area j.sheet.polygons
  polygons_told areas are =
      bits_told polygons (map (λ s. total (chosen areas s)) marks)
      (carried_areas table (rules e).0 (rules e).1 polygons marks (made e).each ∙ map_through pos (λ s. total (chosen areas s)) _ (λ s. sym (total_area table areas are s)) marks)

  module _ (areas sets owners : List ℕ) (are : map pos areas ≡ map double table) (held : sets ≡ map set_of j.owners) (each : length owners ≡ length table) where
    -- After repair: the double area of the triangles that each polygon owns is the total of its figure.
    pub polygons_after : map (λ p. sum double (triangles_owned j.sheet.table owners p)) (from 1 (length j.sheet.polygons))
        ≡ map pos (map (λ k. total (chosen areas (marks_of (After k) sets owners))) (from 1 (length j.sheet.polygons)))
    polygons_after = map_through pos (λ k. total (chosen areas (marks_of (After k) sets owners))) _ of_polygon (from 1 (length polygons))
      where
        as_many : length sets ≡ length owners
        as_many = ap length held ∙ length-map j.owners set_of ∙ owners_many e ∙ sym each

        of_polygon : (p : ℕ) → sum double (triangles_owned table owners p) ≡ pos (total (chosen areas (marks_of (After p) sets owners)))
        of_polygon p = sym (ap (λ s. pos (total (chosen areas s))) (after_marks p sets owners as_many) ∙ total_area table areas are (map (λ owner. eqb owner p) owners))
