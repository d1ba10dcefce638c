-- The polygons of a sheet at the front of held numbers, one double area laid down for each: Laying is the invariant of the loop.
-- The idea: the double areas laid down and those of the polygons left are together those of all polygons. Assumes nothing.
use mathlib.Core.Path.{◌≡◌, refl, sym, ◌∙◌, ap}
use mathlib.Core.List.{List, [], ◌∷◌, ◌++◌, map, flat_map, append_assoc}
use Prim.Native.Nat.{ℕ, ◌+◌, ◌-◌, ◌*◌, ◌≤◌, ◌<◌}
use native.Mathlib.Omega.{arith}
use lib.IntN.{ℤ}
use lib.ListN.{length, get_or, take, drop, set, length-map, length-take, length-append, length-set, take-append-drop}
use mir.Syntax.{w64}
use mir.Val.{of_z}
use Rattle.whole.specs.Sums.{All}
use Rattle.whole.proofs.Sums.{map-++}
use Rattle.whole.proofs.Laid.{one_laid, all_laid}
use Rattle.plane.specs.Corners.{millimetres}
use Rattle.plane.specs.Keys.{Held}
use Rattle.plane.specs.Members.{Member, member_edges, double_area}
use Rattle.plane_rings.specs.Closed.{RingLimits}
use Rattle.sheet_form.specs.Numbers.{Sheet, triangle_numbers, member_numbers, counted}
use Rattle.sheet_edges.proofs.Walk.{count_first}
use Rattle.sheet.specs.Held.{SheetHeld}
use Rattle.sheet_turned.specs.Rings.{RingsFit}
use Rattle.sheet_older.specs.Standing.{Stands}
use Rattle.sheet_older.proofs.Places.{stands_behind, stands_count}
use Rattle.sheet_older.proofs.Sheets.{triangles_length}
use Rattle.sheet_areas.specs.declared.Summed.{Summed}
use Rattle.sheet_areas.specs.Standing.{Place, Sums}
use Rattle.sheet_areas.proofs.Walk.{all_fewer}

-- The double area of a polygon as the bits of an i64.
abbrev pub area_bits : Member → ℕ
area_bits m = of_z w64 (double_area m)

-- The first k double areas are laid down, and the polygons left stand here.
pub record Laying (n : Sheet) (size : ℕ) (numbers areas : List ℕ) (here k : ℕ) : Type 0 where
  pub todo : List Member
  pub rest : List ℤ
  pub laid : take k areas ++ map area_bits todo ≡ map area_bits n.polygons
  pub many : k + length todo ≡ length areas
  pub fits : All (All (All RingLimits)) todo
  pub few : All (λ m. length (member_edges m) ≤ 4096) todo
  pub numbers_at : map millimetres (drop here numbers) ≡ flat_map member_numbers todo ++ rest
  pub ends : here + length (flat_map member_numbers todo) ≤ size

module _ {limit : ℕ} {n : Sheet} (size : ℕ) (numbers : List ℕ) (h : SheetHeld limit n (take size numbers)) where
  abbrev behind : List ℤ
  behind = map millimetres (drop size numbers)

  -- All numbers: the table's, the polygons', and those behind the sheet.
  whole : map millimetres numbers ≡ counted triangle_numbers n.table ++ (counted member_numbers n.polygons ++ behind)
  whole =
      ap (map millimetres) (sym (take-append-drop size numbers))
      ∙ map-++ millimetres (take size numbers) (drop size numbers)
      ∙ ap (λ l. l ++ behind) h.is
      ∙ append_assoc (counted triangle_numbers n.table) (counted member_numbers n.polygons) behind

  -- The count of the table's pieces.
  pub table_count : (0 < length numbers) × (get_or numbers 0 0 ≡ length n.table + 10_000_000)
  table_count = stands_count triangle_numbers {numbers = numbers} {front = []} n.table (counted member_numbers n.polygons ++ behind) (record { is = whole; place = refl })

  long : length (counted triangle_numbers n.table) + length (counted member_numbers n.polygons) ≤ size
  long =
      omega (arith, length-take size numbers, length-map (take size numbers) millimetres, ap length h.is, length-append (counted triangle_numbers n.table) (counted member_numbers n.polygons))

  -- The count of the polygons, behind the table.
  pub polygons_count : let at = 1 + 6 * (get_or numbers 0 0 - 10_000_000) in (at < length numbers) × (get_or numbers at 0 ≡ length n.polygons + 10_000_000) × (length n.polygons + 1 ≤ limit)
  polygons_count =
      let t = triangles_length n.table in
      let e : 1 + 6 * (get_or numbers 0 0 - 10_000_000) ≡ length (counted triangle_numbers n.table) = omega (arith, table_count.1) in
      let c = stands_count member_numbers {numbers = numbers} {front = counted triangle_numbers n.table} n.polygons behind (record { is = whole; place = sym e }) in
      (c.0, c.1, h.few_polygons)

  -- Nothing is laid down.
  pub laying_begin : (areas : List ℕ) → RingsFit n → length n.polygons ≡ length areas → Laying n size numbers areas (2 + 6 * (get_or numbers 0 0 - 10_000_000)) 0
  laying_begin areas fits many =
      let t = triangles_length n.table in
      let s : Stands numbers (1 + 6 * length n.table) (counted triangle_numbers n.table) (counted member_numbers n.polygons ++ behind) = record { is = whole; place = omega arith } in
      let c = count_first member_numbers numbers (1 + 6 * length n.table) n.polygons behind (stands_behind s) in
      let e : 2 + 6 * (get_or numbers 0 0 - 10_000_000) ≡ 1 + 6 * length n.table + 1 = omega (arith, table_count.1) in
      record {
        todo = n.polygons;
        rest = behind;
        laid = refl;
        many = omega arith;
        fits = fits;
        few = h.few_edges;
        numbers_at = ap (λ k. map millimetres (drop k numbers)) e ∙ c.2;
        ends = omega (arith, long, table_count.1);
      }

module _ {n : Sheet} {size : ℕ} {numbers areas : List ℕ} {here k : ℕ} (w : Laying n size numbers areas here k) where
  -- The next of the polygons left stands here.
  pub laying_place : All Held (take size numbers) → k < length areas → Place member_numbers member_edges (All (All RingLimits)) numbers here
  unfolding flat_map
  laying_place held h = go w.todo w.many w.fits w.few w.numbers_at w.ends
    where
      go : (todo : List Member) → k + length todo ≡ length areas → All (All (All RingLimits)) todo → All (λ m. length (member_edges m) ≤ 4096) todo
          → map millimetres (drop here numbers) ≡ flat_map member_numbers todo ++ w.rest → here + length (flat_map member_numbers todo) ≤ size
          → Place member_numbers member_edges (All (All RingLimits)) numbers here
      go [] m f e s d = absurd (omega arith)
      go (p ∷ l) m f e s d =
          record {
            thing = p;
            rest = flat_map member_numbers l ++ w.rest;
            fits = f.0;
            few = e.0;
            numbers_at = s ∙ append_assoc (member_numbers p) (flat_map member_numbers l) w.rest;
            held = all_fewer Held (here + length (member_numbers p)) size numbers (omega (arith, length-append (member_numbers p) (flat_map member_numbers l))) held;
          }

  -- One double area more is laid down.
  pub laying_more : {r : Summed} → All Held (take size numbers) → k < length areas → Sums member_numbers member_edges (All (All RingLimits)) numbers here r
      → Laying n size numbers (set areas k (of_z w64 r.area)) r.next (k + 1)
  unfolding flat_map double_area
  laying_more {r} held h v = go w.todo w.laid w.many w.fits w.few w.numbers_at w.ends
    where
      go : (todo : List Member) → take k areas ++ map area_bits todo ≡ map area_bits n.polygons → k + length todo ≡ length areas → All (All (All RingLimits)) todo
          → All (λ m. length (member_edges m) ≤ 4096) todo → map millimetres (drop here numbers) ≡ flat_map member_numbers todo ++ w.rest → here + length (flat_map member_numbers todo) ≤ size
          → Laying n size numbers (set areas k (of_z w64 r.area)) r.next (k + 1)
      go [] g m f e s d = absurd (omega arith)
      go (p ∷ l) g m f e s d =
          let long = length-append (member_numbers p) (flat_map member_numbers l) in
          let y = v.reads p (flat_map member_numbers l ++ w.rest) f.0 (all_fewer Held (here + length (member_numbers p)) size numbers (omega arith) held) (s ∙ append_assoc (member_numbers p) (flat_map member_numbers l) w.rest) in
          record {
            todo = l;
            rest = w.rest;
            laid = one_laid areas (map area_bits l) k (of_z w64 r.area) h ∙ ap (λ z. take k areas ++ of_z w64 z ∷ map area_bits l) y.0 ∙ g;
            many = omega (arith, length-set areas k (of_z w64 r.area));
            fits = f.1;
            few = e.1;
            numbers_at = y.2;
            ends = omega (arith, y.3);
          }

  -- All double areas are laid down.
  pub laying_done : length areas ≤ k → areas ≡ map area_bits n.polygons
  laying_done h = go w.todo w.laid w.many
    where
      go : (todo : List Member) → take k areas ++ map area_bits todo ≡ map area_bits n.polygons → k + length todo ≡ length areas → areas ≡ map area_bits n.polygons
      go [] g m = sym (all_laid areas [] k h refl) ∙ g
      go (p ∷ l) g m = absurd (omega arith)
