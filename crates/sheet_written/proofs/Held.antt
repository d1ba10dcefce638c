-- A sheet that is read is held within the limits. The idea: what is read is a sheet within the limits (read-written), so its counts are small
-- and its numbers in range, and a number in range is held by at most 20,000,000; a ring has no more edges than points, so neither has a
-- member. What reading answers follows from the faithful numbers form (form-is). Assumes nothing.
use mathlib.Core.Path.{◌≡◌, refl, sym, ◌∙◌, ap, subst}
use mathlib.Core.Bool.{Bool, true, false, cond, ◌&&◌}
use mathlib.Core.Logic.{◌↔◌}
use mathlib.Core.List.{List, [], ◌∷◌, map, flat_map}
use mathlib.Core.Option.{Option, none, some}
use Prim.Native.Nat.{ℕ, ◌+◌, ◌≤◌, ◌<◌}
use native.Mathlib.Omega.{arith}
use borrow.Author.Tests.{eqb-true, eq-eqb, ne_eqb}
use lib.Dec.{T, eqb, leb→le}
use lib.IntN.{ℤ, pos, negsuc, neg_ℤ, nat_abs}
use lib.ListN.{length, length-append}
use Rattle.whole.specs.Sums.{All, every}
use Rattle.whole.proofs.Int.{up, down, is_add}
use Rattle.whole.proofs.Sums.{and_left, and_right, all-++, all-flat_map, every_all}
use Rattle.plane.specs.Points.{Point, Triangle}
use Rattle.plane.specs.Members.{Ring, Polygon, Member, edges, member_edges}
use Rattle.plane.specs.Corners.{offset, millimetres}
use Rattle.plane.specs.Keys.{Held}
use Rattle.lent.specs.Stages.{value, refused}
use Rattle.sheet_form.specs.Numbers.{Sheet, point_numbers, triangle_numbers, counted, ring_numbers, part_numbers, member_numbers, numbers_of}
use Rattle.sheet.specs.Reading.{reading_of}
use Rattle.sheet_standard.specs.Limits.{ring_lengths, lengths, all_lengths}
use Rattle.sheet_standard.proofs.Standard.{Reads, reads_some}
use Rattle.sheet_written.specs.Fits.{in_range, point_fits, triangle_fits, ring_fits, part_fits, member_fits, sheet_fits}
use Rattle.sheet_form.specs.Form.{sheet_in}
use Rattle.sheet.specs.Held.{SheetHeld}
use Rattle.sheet.specs.Read.{made, read_sheet}
use Rattle.sheet_form.proofs.Form.{form_is}
use Rattle.sheet_written.proofs.Normal.{from_to_lem, ring_tests, part_tests, member_tests, tests}
use Rattle.sheet_written.proofs.Trip.{read_written}

-- ---- numbers in range
abbrev pub Small : ℤ → Type 0
Small z = nat_abs z ≤ 10_000_000

-- A list of things, not too many of them, whose numbers are small.
counted_small : {A : Type 0} (f : A → List ℤ) (p : A → Bool) → ((a : A) → T (p a) → All Small (f a)) → (l : List A) → length l ≤ 10_000_000 → T (every p l)
    → All Small (counted f l)
counted_small f p g l n t = (n, all-flat_map (λ a. T (p a)) Small f g l (every_all p (λ a. T (p a)) (λ a u. u) l t))

point_small : (p : Point) → T (point_fits p) → All Small (point_numbers p)
point_small p t =
    (leb→le (nat_abs p.x) 10_000_000 (and_left (in_range p.x) (in_range p.y) t), (leb→le (nat_abs p.y) 10_000_000 (and_right (in_range p.x) (in_range p.y) t), tt))

triangle_small : (t : Triangle) → T (triangle_fits t) → All Small (triangle_numbers t)
triangle_small t u =
    let a = point_fits t.a in
    let b = point_fits t.b in
    let c = point_fits t.c in
    let ab = and_left (a && b) c u in
    let x = point_small t.a (and_left a b ab) in
    let y = point_small t.b (and_right a b ab) in
    let z = point_small t.c (and_right (a && b) c u) in
    (x.0, (x.1.0, (y.0, (y.1.0, z))))

ring_small : (r : Ring) → T (ring_fits r) → All Small (ring_numbers r)
ring_small r t =
    let k = ring_tests r t in
    counted_small point_numbers point_fits point_small r (omega (arith, (from_to_lem 4 4096 (length r) k.0).1)) k.1

part_small : (p : Polygon) → T (part_fits p) → All Small (part_numbers p)
part_small p t =
    let k = part_tests p t in
    counted_small ring_numbers ring_fits ring_small p (omega (arith, (from_to_lem 1 64 (length p) k.0).1)) k.1

member_small : (m : Member) → T (member_fits m) → All Small (member_numbers m)
member_small m t =
    let k = member_tests m t in
    counted_small part_numbers part_fits part_small m (omega (arith, (from_to_lem 1 64 (length m) k.0).1)) k.1

pub numbers_small : (limit : ℕ) (n : Sheet) → limit ≤ offset → T (sheet_fits limit n) → All Small (numbers_of n)
numbers_small limit n l h =
    let k = tests limit n h in
    all-++ Small (counted triangle_numbers n.table) (counted member_numbers n.polygons)
    (counted_small triangle_numbers triangle_fits triangle_small n.table (omega (arith, (from_to_lem 2 1024 (length n.table) k.table).1)) k.pieces)
    (counted_small member_numbers member_fits member_small n.polygons (omega (arith, leb→le (length n.polygons + 1) limit k.number)) k.members)

-- ---- held numbers
small_held : (h : ℕ) → Small (millimetres h) → Held h
small_held h k = go (millimetres h) (is_add (pos h) (neg_ℤ (pos 10_000_000)) h 0 0 10_000_000 refl refl) k
  where
    go : (z : ℤ) → up z + (0 + 10_000_000) ≡ h + 0 + down z → Small z → h ≤ 20_000_000
    go (pos a) e l = omega arith
    go (negsuc a) e l = omega arith

all_held : (l : List ℕ) → All Small (map millimetres l) → All Held l
all_held [] h = tt
all_held (a ∷ l) h = (small_held a h.0, all_held l h.1)

-- ---- edges
ring_edges : (r : Ring) → length (edges r) ≤ length r
ring_edges [] = omega arith
ring_edges (p ∷ []) = omega arith
ring_edges (p ∷ q ∷ r) = omega (arith, ring_edges (q ∷ r))

part_edges : (p : Polygon) → length (flat_map edges p) ≤ ring_lengths p
unfolding flat_map
part_edges [] = omega arith
part_edges (r ∷ p) = omega (arith, length-append (edges r) (flat_map edges p), ring_edges r, part_edges p)

member_edges_lem : (m : Member) → length (member_edges m) ≤ lengths m
unfolding flat_map
member_edges_lem [] = omega arith
member_edges_lem (p ∷ m) = omega (arith, length-append (flat_map edges p) (member_edges m), part_edges p, member_edges_lem m)

few_edges : (l : List Member) → all_lengths l ≤ 4096 → All (λ m. length (member_edges m) ≤ 4096) l
few_edges [] h = tt
few_edges (m ∷ l) h = (omega (arith, member_edges_lem m), few_edges l (omega arith))

-- ---- the sheet
-- Held numbers of a sheet within the limits.
pub fits_held : (limit : ℕ) (n : Sheet) (numbers : List ℕ) → limit ≤ offset → T (sheet_fits limit n) → map millimetres numbers ≡ numbers_of n → SheetHeld limit n numbers
fits_held limit n numbers l h e =
    let k = tests limit n h in
    let table = from_to_lem 2 1024 (length n.table) k.table in
    record {
      is = e;
      held = all_held numbers (subst (All Small) (sym e) (numbers_small limit n l h));
      some = table.0;
      few = table.1;
      few_polygons = leb→le (length n.polygons + 1) limit k.number;
      few_edges = few_edges n.polygons (leb→le (all_lengths n.polygons) 4096 k.points);
    }

-- Reading answers the sheet n exactly if it ends with code 0 and n's numbers.
pub read_sheet_is : (limit : ℕ) (s : List ℕ) (n : Sheet) → (read_sheet limit s ≡ value n) ↔ Reads limit s n
unfolding read_sheet
read_sheet_is limit s n = (go (eqb (reading_of limit s).code 0) refl (sheet_in numbers) refl, from)
  where
    numbers : List ℤ
    numbers = map millimetres (reading_of limit s).numbers

    go : (b : Bool) → eqb (reading_of limit s).code 0 ≡ b → (o : Option Sheet) → sheet_in numbers ≡ o → cond b (made o) (refused (reading_of limit s).code (reading_of limit s).item) ≡ value n → Reads limit s n
    go true e none f q = absurd (let z : ◌≡◌ {A = ℕ} 0 1 = cc in omega arith)
    go true e (some m) f q = let p : m ≡ n = cc in (eqb-true (reading_of limit s).code 0 e, sym ((form_is numbers n).0 (f ∙ ap some p)))
    go false e o f q = absurd (let z : ◌≡◌ {A = ℕ} 0 1 = cc in omega arith)

    from : Reads limit s n → read_sheet limit s ≡ value n
    from r = rw (eq-eqb (reading_of limit s).code 0 r.0, (form_is numbers n).1 (sym r.1)) refl

-- Another code than 0 is the refusal.
pub read_refused : (limit : ℕ) (s : List ℕ) → ((reading_of limit s).code ≡ 0 → ⊥) → read_sheet limit s ≡ refused (reading_of limit s).code (reading_of limit s).item
unfolding read_sheet
read_refused limit s h = rw (ne_eqb (reading_of limit s).code 0 h) refl

-- ---- with a limit that can be held
module _ (limit : ℕ) (small : limit ≤ offset) where
  -- A sheet that is read from bytes is held within the limits, and it is what reading answers.
  pub reads_held : (s : List ℕ) → All (λ b. b < 256) s → (n : Sheet) → Reads limit s n → SheetHeld limit n (reading_of limit s).numbers × (read_sheet limit s ≡ value n)
  reads_held s bytes n r =
      (fits_held limit n (reading_of limit s).numbers small (read_written limit (omega arith) s bytes n r) r.1, (read_sheet_is limit s n).1 r)

  -- Bytes that are read with code 0 are read as a sheet, held within the limits.
  pub read_held : (s : List ℕ) → All (λ b. b < 256) s → (reading_of limit s).code ≡ 0 → (n : Sheet) × SheetHeld limit n (reading_of limit s).numbers × (read_sheet limit s ≡ value n)
  read_held s bytes code =
      let r = reads_some limit (omega arith) s bytes code in
      let h = reads_held s bytes r.0 r.1 in
      (r.0, h.0, h.1)
