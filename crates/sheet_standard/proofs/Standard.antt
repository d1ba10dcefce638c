-- Reading answers exactly the sheets that are encoded by the standard within the limits. The idea: after the headers of the sheet and of its
-- table, what is left stands at a place in the table as lists with the place's counts (Table, Left), and reading takes one
-- thing after the other off these lists: with lists there, reading ends with code 0 and their numbers; with code 0, there are such lists.
-- The sheet of the tree is the one answered, since its numbers form determines it (NumbersForm). Assumes nothing.
mod Entered
mod Fields
mod Holding
mod Induction
mod Left
mod Levels
mod Members
mod Opened
mod Pending
mod Points
mod Polygon
mod Renewed
mod Rings
mod Steps
mod Table
mod TableInduction
mod TablePieces
mod TablePoints
mod TableRings
use mathlib.Core.Path.{◌≡◌, refl, sym, ◌∙◌, ap, subst}
use mathlib.Core.Bool.{Bool, true, false}
use mathlib.Core.Logic.{◌↔◌}
use mathlib.Core.List.{List, [], ◌∷◌, ◌++◌, map, flat_map, append_assoc}
use Prim.Native.Nat.{ℕ, suc, ◌-◌, ◌^◌, ◌≤◌, ◌<◌}
use native.Mathlib.Omega.{arith}
use borrow.Author.Tests.{eqb-true}
use lib.Dec.{eqb}
use lib.ListN.{length, drop}
use Rattle.std.specs.Prelude.{Option}
use Rattle.whole.specs.Sums.{All}
use Rattle.whole.proofs.Tests.{by_equal}
use Rattle.plane.specs.Corners.{millimetres}
use Rattle.wkb.specs.declared.Cursor.{Cursor}
use Rattle.wkb_kinds.specs.declared.Slot.TheVariants.{Sheet as TheSheet, Table as TheTable}
use Rattle.wkb_kinds.specs.declared.Kind.{Kind}
use Rattle.wkb_kinds.specs.declared.Kind.TheVariants.{Collection, Tin}
use Rattle.wkb.specs.Standard.{Geometry, ringed, holding, Geometries, none, ◌then◌, count, encode, encode_all}
use Rattle.lent.specs.declared.Reason.{Reason}
use Rattle.wkb_kinds.specs.Types.{code_told}
use Rattle.wkb.specs.Steps.{start, slot_of, complete, kind_fault, count_fits, popped, with_parts, with_sheet, opened}
use Rattle.sheet_form.specs.Numbers.{Sheet, numbers_of}
use Rattle.sheet.specs.Reading.{Taken, nothing, held, opening, reading_of}
use Rattle.sheet.specs.Going.{reading}
use Rattle.sheet_standard.specs.Limits.{member_of, triangle_of, each, sheet_of, FromTo, PieceFits, Each, SheetFits, all_lengths}
use Rattle.sheet.proofs.Run.{reading_starts}
use Rattle.lent_fields.proofs.Fields.{Bytes}
use Rattle.sheet_standard.proofs.Standard.Fields.{heading, heading_is, heads}
use Rattle.sheet_standard.proofs.Standard.Steps.{AtGeometry, geometry_goes, geometry_back}
use Rattle.sheet_standard.proofs.Standard.Left.{Top, Ends, millimetres_count, no_list, no_polygon}
use Rattle.sheet_standard.proofs.Standard.Opened.{count_fits_lem, fits_count}
use Rattle.sheet_standard.proofs.Standard.Table.{InTable, TableStands, members_outcome, table_outcome}
use Rattle.sheet_standard.proofs.Standard.TableInduction.{table_through, table_back}
use Rattle.sheet_standard.proofs.NumbersForm.{numbers_of-injective}

-- Reading s as a sheet of at most so many members answers the sheet n: code 0, and the numbers are n's.
abbrev pub Reads : ℕ → List ℕ → Sheet → Type 0
Reads limit s n = ((reading_of limit s).code ≡ 0) × (map millimetres (reading_of limit s).numbers ≡ numbers_of n)

-- ---- the two headers
-- The place after the sheet's header, and after the table's; what was taken then.
abbrev table_place : ℕ → ℕ → Cursor
table_place limit n = record {
  at = 9;
  member = 1;
  members = n - 1;
  header = true;
  second = 0;
  third = 0;
  fourth = 0;
  parts = 0;
  rings = 0;
  little = false;
  points = 0;
  polygons = 0;
  total = 0;
  limit = limit;
}

abbrev pieces_place : ℕ → ℕ → ℕ → Cursor
pieces_place limit n m = record {
  at = 18;
  member = 1;
  members = n - 1;
  header = false;
  second = 0;
  third = 0;
  fourth = 0;
  parts = m;
  rings = 0;
  little = false;
  points = 0;
  polygons = 0;
  total = 0;
  limit = limit;
}

abbrev table_taken : ℕ → Taken
table_taken m = record { numbers = held m ∷ []; mark = 0; first = false; x = 0; y = 0 }

sheet_next : (limit : ℕ) → AtGeometry (start limit)
sheet_next limit = record { no_points = refl; no_rings = refl; more = refl }

table_next : (limit n : ℕ) → AtGeometry (table_place limit n)
unfolding complete
table_next limit n = record { no_points = refl; no_rings = refl; more = refl }

sheet_slot : (limit : ℕ) → slot_of (start limit) ≡ TheSheet
unfolding slot_of
sheet_slot limit = refl

table_slot : (limit n : ℕ) → slot_of (table_place limit n) ≡ TheTable
unfolding slot_of
table_slot limit n = refl

sheet_opened : (limit : ℕ) (little : Bool) (kind n : ℕ) → opened TheSheet (start limit) little kind n ≡ table_place limit n
unfolding opened with_sheet
sheet_opened limit little kind n = refl

table_opened : (limit n : ℕ) (little : Bool) (kind m : ℕ) → opened TheTable (table_place limit n) little kind m ≡ pieces_place limit n m
unfolding opened with_parts popped
table_opened limit n little kind m = refl

sheet_taken : (limit : ℕ) (c : Cursor) (kind n : ℕ) → opening TheSheet (start limit) c kind n nothing ≡ nothing
unfolding opening
sheet_taken limit c kind n = refl

table_taken_lem : (limit n : ℕ) (c : Cursor) (kind m : ℕ) → opening TheTable (table_place limit n) c kind m nothing ≡ table_taken m
unfolding opening
table_taken_lem limit n c kind m = refl

sheet_kind : (c : Cursor) → kind_fault TheSheet c 7 ≡ 0
unfolding kind_fault
sheet_kind c = refl

table_kind : (c : Cursor) → kind_fault TheTable c 16 ≡ 0
unfolding kind_fault
table_kind c = refl

kind_sheet : (c : Cursor) (k : ℕ) → kind_fault TheSheet c k ≡ 0 → k ≡ 7
unfolding kind_fault
kind_sheet c k = by_equal (λ (o : Option Reason). code_told o ≡ 0 → k ≡ 7) (eqb k 7) _ _ (λ e h. eqb-true k 7 e) (λ e h. absurd (omega arith))

kind_table : (c : Cursor) (k : ℕ) → kind_fault TheTable c k ≡ 0 → k ≡ 16
unfolding kind_fault
kind_table c k = by_equal (λ (o : Option Reason). code_told o ≡ 0 → k ≡ 16) (eqb k 16) _ _ (λ e h. eqb-true k 16 e) (λ e h. absurd (omega arith))

table_place_lem : (limit : ℕ) (s : List ℕ) (n m : ℕ) → FromTo 1 limit n → 18 ≤ length s → InTable s (pieces_place limit n m)
table_place_lem limit s n m f h = record { within = h; member = refl; no_header = refl; no_second = refl; no_third = refl; no_fourth = refl; total = omega arith; members = omega (arith, f.0, f.1) }

-- ---- from the tree to the reading
pub length_each : {A : Type 0} (f : Geometry → A) (gs : Geometries) → length (each f gs) ≡ count gs
length_each f none = refl
length_each f (g then gs) = ap suc (length_each f gs)

sheet_numbers : (l₁ l₂ : Bool) (gs ms : Geometries) → table_outcome (table_taken (count gs)) [] [] gs ms ≡ numbers_of (sheet_of (holding l₁ Collection (holding l₂ Tin gs then ms)))
unfolding table_outcome members_outcome flat_map sheet_of
sheet_numbers l₁ l₂ gs ms = rw (length_each triangle_of gs, length_each member_of ms, millimetres_count (count gs)) refl

headers_through : (limit : ℕ) (s : List ℕ) (l₁ l₂ : Bool) (gs ms : Geometries) → limit < 2 ^ 32 → suc (count ms) ≤ limit → FromTo 2 1024 (count gs) → Each PieceFits gs → Each Top ms → all_lengths (each member_of ms) ≤ 4096
    → encode (holding l₁ Collection (holding l₂ Tin gs then ms)) ≡ s → Ends (reading s (start limit) nothing) (numbers_of (sheet_of (holding l₁ Collection (holding l₂ Tin gs then ms))))
unfolding encode encode_all flat_map count_fits
headers_through limit s l₁ l₂ gs ms word many f pieces members total e =
    let n : ℕ = suc (count ms) in
    let m : ℕ = count gs in
    let n4 : n < 256 ^ 4 = omega arith in
    let m4 : m < 256 ^ 4 = omega (arith, f.1) in
    let e0 : drop 0 s ≡ heading l₁ 7 n ++ ((heading l₂ 16 m ++ encode_all gs) ++ encode_all ms) = sym (rw (heading_is l₁ Collection n, heading_is l₂ Tin m) at e) in
    let q = heads s 0 l₁ 7 n ((heading l₂ 16 m ++ encode_all gs) ++ encode_all ms) (omega arith) (omega arith) n4 e0 in
    let nine : 9 ≤ length s = q.nine in
    let r = heads s 9 l₂ 16 m (encode_all gs ++ encode_all ms) nine (omega arith) m4 (q.next ∙ append_assoc (heading l₂ 16 m) (encode_all gs) (encode_all ms)) in
    rw (
      geometry_goes s (start limit) nothing TheSheet l₁ 7 n _ (sheet_next limit) (sheet_slot limit) q (sheet_kind (start limit)) (count_fits_lem 1 limit n (omega arith, many)),
      sheet_opened limit l₁ 7 n,
      sheet_taken limit (table_place limit n) 7 n,
      geometry_goes s (table_place limit n) nothing TheTable l₂ 16 m _ (table_next limit n) (table_slot limit n) r (table_kind (table_place limit n)) (count_fits_lem 2 1024 m f),
      table_opened limit n l₂ 16 m,
      table_taken_lem limit n (pieces_place limit n m) 16 m,
      ← sheet_numbers l₁ l₂ gs ms,
    )
    (table_through (suc (length s)) s (pieces_place limit n m) (table_taken m) [] [] gs ms (omega arith) (table_place_lem limit s n m (omega arith, many) r.nine) (omega (arith, f.0)) (record {
      polygon = no_polygon refl refl r.next;
      below = record { pieces_are = (refl, pieces); members_are = (omega arith, members); total_fits = omega arith };
    }))

tree_through : (limit : ℕ) (s : List ℕ) (g : Geometry) → limit < 2 ^ 32 → SheetFits limit g → encode g ≡ s → Ends (reading s (start limit) nothing) (numbers_of (sheet_of g))
unfolding SheetFits
tree_through limit s (ringed little kind rs) word f e = absurd f
tree_through limit s (holding little kind none) word f e = absurd f
tree_through limit s (holding little kind (ringed l₂ k₂ rs then ms)) word f e = absurd f.2
tree_through limit s (holding l₁ k₁ (holding l₂ k₂ gs then ms)) word f e =
    subst (λ (k : Kind). encode (holding l₁ k (holding l₂ k₂ gs then ms)) ≡ s → Ends (reading s (start limit) nothing) (numbers_of (sheet_of (holding l₁ k (holding l₂ k₂ gs then ms))))) (sym f.0)
    (subst (λ (k : Kind). encode (holding l₁ Collection (holding l₂ k gs then ms)) ≡ s → Ends (reading s (start limit) nothing) (numbers_of (sheet_of (holding l₁ Collection (holding l₂ k gs then ms))))) (sym f.2.0)
    (headers_through limit s l₁ l₂ gs ms word f.1 f.2.1 f.2.2 f.3 f.4)) e

-- ---- from the reading to the tree
tree_stood : (limit : ℕ) (s : List ℕ) (l₁ l₂ : Bool) (n m : ℕ) (gs ms : Geometries) → FromTo 1 limit n → FromTo 2 1024 m → drop 0 s ≡ heading l₁ 7 n ++ drop 9 s → drop 9 s ≡ heading l₂ 16 m ++ drop 18 s
    → TableStands s (pieces_place limit n m) (table_taken m) [] [] gs ms → (g : Geometry) × SheetFits limit g × (encode g ≡ s)
unfolding SheetFits encode encode_all flat_map
tree_stood limit s l₁ l₂ n m gs ms f k e0 e9 h =
    let p : count gs ≡ m = h.below.pieces_are.0 in
    let q : suc (count ms) ≡ n = let z = h.below.members_are.0 in let l = f.0 in omega arith in
    let many : suc (count ms) ≤ limit = omega (arith, f.1) in
    let number : FromTo 2 1024 (count gs) = (omega (arith, k.0), omega (arith, k.1)) in
    let total : all_lengths (each member_of ms) ≤ 4096 = let z = h.below.total_fits in omega arith in
    let bytes : encode (holding l₁ Collection (holding l₂ Tin gs then ms)) ≡ s =
    rw (heading_is l₁ Collection (suc (count ms)), heading_is l₂ Tin (count gs), q, p)
    (sym (e0 ∙ ap (λ l. heading l₁ 7 n ++ l) (e9 ∙ ap (λ l. heading l₂ 16 m ++ l) h.polygon.bytes ∙ sym (append_assoc (heading l₂ 16 m) (encode_all gs) (encode_all ms))))) in
    (holding l₁ Collection (holding l₂ Tin gs then ms), (refl, many, (refl, number, h.below.pieces_are.1), h.below.members_are.1, total), bytes)

tree_back : (limit : ℕ) (s : List ℕ) → Bytes s → (reading s (start limit) nothing).code ≡ 0 → (g : Geometry) × SheetFits limit g × (encode g ≡ s)
unfolding count_fits
tree_back limit s bytes code =
    let a = geometry_back s (start limit) nothing bytes (sheet_next limit) code in
    let n = a.n in
    let f : FromTo 1 limit n = fits_count 1 limit n (rw (sheet_slot limit) at a.counts) in
    let a7 : a.kind ≡ 7 = kind_sheet (start limit) a.kind (rw (sheet_slot limit) at a.allowed) in
    let a-code : (reading s (table_place limit n) nothing).code ≡ 0 = rw (sheet_slot limit, sheet_opened limit a.little a.kind n, sheet_taken limit (table_place limit n) a.kind n) at a.on_with in
    let b = geometry_back s (table_place limit n) nothing bytes (table_next limit n) a-code in
    let m = b.n in
    let k : FromTo 2 1024 m = fits_count 2 1024 m (rw (table_slot limit n) at b.counts) in
    let b16 : b.kind ≡ 16 = kind_table (table_place limit n) b.kind (rw (table_slot limit n) at b.allowed) in
    let b-code : (reading s (pieces_place limit n m) (table_taken m)).code ≡ 0 = rw (table_slot limit n, table_opened limit n b.little b.kind m, table_taken_lem limit n (pieces_place limit n m) b.kind m) at b.on_with in
    let v = table_back (suc (length s)) s (pieces_place limit n m) (table_taken m) (omega arith) bytes (table_place_lem limit s n m f b.nine) (omega (arith, k.0)) b-code in
    tree_stood limit s a.little b.little n m v.2 v.3 f k (rw a7 at a.bytes) (rw b16 at b.bytes)
    (rw (no_list v.0 v.4.polygon.points_number, no_list v.1 v.4.polygon.rings_number) at v.4)

-- ---- the theorem
-- A count is a u32, and so is the limit.
module _ (limit : ℕ) (word : limit < 2 ^ 32) where
  pub reads_the_standard : (s : List ℕ) → All (λ b. b < 256) s → (n : Sheet) → Reads limit s n ↔ ((g : Geometry) × SheetFits limit g × (encode g ≡ s) × (sheet_of g ≡ n))
  reads_the_standard s bytes n = (to, from)
    where
      to : Reads limit s n → (g : Geometry) × SheetFits limit g × (encode g ≡ s) × (sheet_of g ≡ n)
      to h =
          let t = tree_back limit s bytes (rw (reading_starts limit s) at h.0) in
          let k = tree_through limit s t.0 word t.1 t.2 in
          (t.0, t.1, t.2, numbers_of-injective (sheet_of t.0) n (sym k.1 ∙ rw (reading_starts limit s) at h.1))

      from : (g : Geometry) × SheetFits limit g × (encode g ≡ s) × (sheet_of g ≡ n) → Reads limit s n
      from h = rw (reading_starts limit s, ← h.3) (tree_through limit s h.0 word h.1 h.2)

  -- Bytes that are read with code 0 are read as a sheet.
  pub reads_some : (s : List ℕ) → All (λ b. b < 256) s → (reading_of limit s).code ≡ 0 → (n : Sheet) × Reads limit s n
  reads_some s bytes code =
      let t = tree_back limit s bytes (rw (reading_starts limit s) at code) in
      (sheet_of t.0, rw (reading_starts limit s) (tree_through limit s t.0 word t.1 t.2))
