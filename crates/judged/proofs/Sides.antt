-- The boundary sides of a polygon of a held sheet, as bytes, and the lengths of all sides: they are read off the held numbers by the numbers of the sides.
-- The idea: by rule B the boundary sides are those that bound the polygon by number. Side k runs from corner k to the next of its triangle,
-- and a corner's number is made of the two held numbers that stand for it, so that the bytes of both points are those of the held numbers.
-- Every place read is one of the table's, which stands at the front. Assumes nothing.
use mathlib.Core.Path.{◌≡◌, refl, sym, ◌∙◌, ap, ap₂, subst}
use mathlib.Core.List.{List, [], ◌∷◌, ◌++◌, map, flat_map}
use Prim.Native.Nat.{ℕ, zero, suc, ◌+◌, ◌*◌, ◌≤◌, ◌<◌}
use native.Mathlib.Omega.{arith}
use lib.ListN.{length, get_or, take, length-map}
use lib.Seq.{ext_get_or}
use Rattle.whole.specs.Sums.{All}
use Rattle.whole.proofs.Sums.{all_map}
use Rattle.plane.specs.Points.{Point, Edge, ◌⟶◌}
use Rattle.plane.specs.Corners.{millimetres}
use Rattle.plane.specs.Keys.{Held, key_of, point_at, pair}
use Rattle.plane.specs.Boundaries.{sides_of}
use Rattle.table.specs.Table.{RuleB}
use Rattle.table.specs.Sides.{triangles_of, side_at}
use Rattle.table.specs.Opposites.{opposites}
use Rattle.plane_lengths.specs.Lengths.{length_of, lengths_of}
use Rattle.table.proofs.Shares.{length_sides, length_opposites, side_at_lem}
use Rattle.repair_regions.proofs.Regions.{length_map_from}
use Rattle.repair_longest.specs.Held.{point_held, length_held, lengths_held}
use Rattle.repair_longest.proofs.Held.{length_at}
use Rattle.repair_sides.specs.Sides.{boundary_sides, triangles_owned}
use Rattle.repair_sides.specs.Numbered.{boundary_numbers}
use Rattle.repair_sides.proofs.Bounding.{by_number}
use Rattle.repair_sides.proofs.Laying.{bounding_below}
use Rattle.repair_sweep.proofs.Places.{tail_is}
use Rattle.sheet_form.specs.Numbers.{Sheet, member_numbers, counted}
use Rattle.lent_little.specs.Bytes.{point_bytes, side_bytes}
use Rattle.lent_little.specs.Held.{end_of, corner_held, side_held}
use Rattle.sheet.specs.Held.{SheetHeld}
use Rattle.sheet_edges.specs.Standing.{corner_at}
use Rattle.sheet_edges.proofs.Walk.{point_at_lem}
use Rattle.sheet_edges.proofs.Triangles.{table_room, held_keys}

-- ---- lists
flat_map-image : {A B C : Type 0} (f : B → List C) (g : A → B) (h : A → List C) (l : List A) → All (λ a. f (g a) ≡ h a) l → flat_map f (map g l) ≡ flat_map h l
unfolding flat_map
flat_map-image f g h [] e = refl
flat_map-image f g h (a ∷ l) e = ap₂ ◌++◌ e.0 (flat_map-image f g h l e.1)

-- A member of the front of a list is the list's.
front_at : (size : ℕ) (l : List ℕ) (i : ℕ) → i < length (take size l) → get_or (take size l) i 0 ≡ get_or l i 0
front_at zero l i h = absurd (omega arith)
front_at (suc size) [] i h = refl
front_at (suc size) (x ∷ l) zero h = refl
front_at (suc size) (x ∷ l) (suc i) h = front_at size l i (omega arith)

-- ---- for corners of n triangles, as they stand among held numbers at the front of a list
module _ (size : ℕ) (long : List ℕ) (held : All Held (take size long)) (keys : List ℕ) (n : ℕ) (whole : length keys ≡ 3 * n)
    (laid : (k : ℕ) → k < length keys → get_or keys k 0 ≡ key_of (corner_at (take size long) (1 + 2 * k))) (room : 1 + 6 * n ≤ length (take size long)) where
  -- A corner, and the bytes of a corner and of a side.
  pub point_held_lem : (k : ℕ) → k < length keys → point_at (get_or keys k 0) ≡ point_held long k
  point_held_lem k h =
      ap point_at (laid k h) ∙ point_at_lem (take size long) held (1 + 2 * k)
      ∙ ap₂ (λ x y. point_of x y) (at (1 + 2 * k) (2 * k + 1) (omega arith) (omega arith)) (at (1 + 2 * k + 1) (2 * k + 2) (omega arith) (omega arith))
    where
      point_of : ℕ → ℕ → Point
      point_of x y = record { x = millimetres x; y = millimetres y }

      at : (i j : ℕ) → i ≡ j → i < length (take size long) → get_or (take size long) i 0 ≡ get_or long j 0
      at i j e l = front_at size long i l ∙ ap (λ i. get_or long i 0) e

  corner_held_lem : (k : ℕ) → k < length keys → point_bytes (point_at (get_or keys k 0)) ≡ corner_held long k
  corner_held_lem k h = ap point_bytes (point_held_lem k h)

  side_held_lem : (k : ℕ) → k < length keys → side_bytes (side_at keys k) ≡ side_held long k
  side_held_lem k h = ap₂ ◌++◌ (corner_held_lem k h) (ap (λ v. point_bytes (point_at v)) (tail_is keys n whole k h) ∙ corner_held_lem (end_of k) (omega arith))

  -- The lengths of all sides.
  length_held_lem : (k : ℕ) → k < length keys → length_of (side_at keys k) ≡ length_held long k
  unfolding length_held
  length_held_lem k h = ap₂ (λ u v. length_of (u ⟶ v)) (point_held_lem k h) (ap point_at (tail_is keys n whole k h) ∙ point_held_lem (end_of k) (omega arith))

  keys_lengths : lengths_held long (length keys) ≡ lengths_of (triangles_of keys)
  keys_lengths =
      let sides = sides_of (triangles_of keys) in
      let many = length_map_from (length_held long) 0 (length keys) in
      let each = length-map sides length_of ∙ length_sides keys n whole in
      ext_get_or 0 (lengths_held long (length keys)) (lengths_of (triangles_of keys)) (many ∙ sym each) (λ k h.
      let l : k < length keys = omega (arith, many) in
      length_at long (length keys) k l ∙ sym (length_held_lem k l) ∙ sym (ap length_of (side_at_lem keys n whole k)) ∙ sym (map_at length_of sides k (omega (arith, length_sides keys n whole))))
    where
      map_at : (f : Edge → ℕ) (l : List Edge) (k : ℕ) → k < length l → get_or (map f l) k 0 ≡ f (get_or l k (pair 0 0))
      map_at f [] k h = absurd (omega arith)
      map_at f (e ∷ l) zero h = refl
      map_at f (e ∷ l) (suc k) h = map_at f l k (omega arith)

  -- The bytes of the sides that bound polygon p.
  keys_held : (owners : List ℕ) → length owners ≡ n → (p : ℕ) → RuleB (triangles_of keys) → flat_map side_bytes (boundary_sides (triangles_owned (triangles_of keys) owners p))
      ≡ flat_map (side_held long) (boundary_numbers (opposites (sides_of (triangles_of keys))) owners p)
  keys_held owners fits p once =
      ap (flat_map side_bytes) (by_number keys n whole once owners fits p)
      ∙ flat_map-image side_bytes (side_at keys) (side_held long) (boundary_numbers opposite owners p)
      (all_map (λ k. k < length opposite) (λ k. side_bytes (side_at keys k) ≡ side_held long k) (λ k h. side_held_lem k (omega (arith, length_opposites keys n whole)))
      (boundary_numbers opposite owners p) (bounding_below opposite owners p))
    where
      opposite : List ℕ
      opposite = opposites (sides_of (triangles_of keys))

-- ---- for a held sheet with rule B and an owner for each triangle
-- The bytes of a polygon's boundary sides are those of the held numbers, which may be the front of a longer list.
pub sides_held_lem : {limit : ℕ} {n : Sheet} (size : ℕ) (long : List ℕ) (h : SheetHeld limit n (take size long)) (once : RuleB n.table) (owners : List ℕ) (fits : length owners ≡ length n.table) (p : ℕ)
    → flat_map side_bytes (boundary_sides (triangles_owned n.table owners p)) ≡ flat_map (side_held long) (boundary_numbers (opposites (sides_of n.table)) owners p)
sides_held_lem {n = n} size long h once owners fits p =
    let rest = counted member_numbers n.polygons in
    let k = held_keys (take size long) h.held n.table rest h.is in
    subst (λ t. RuleB t → flat_map side_bytes (boundary_sides (triangles_owned t owners p)) ≡ flat_map (side_held long) (boundary_numbers (opposites (sides_of t)) owners p)) k.2
    (keys_held size long h.held k.0 (length n.table) k.1 k.3 (table_room (take size long) n.table rest h.is) owners fits p) once

-- There are as many as bound the polygon by number.
pub sides_as_many : {limit : ℕ} {n : Sheet} {numbers : List ℕ} (h : SheetHeld limit n numbers) (once : RuleB n.table) (owners : List ℕ) (fits : length owners ≡ length n.table) (p : ℕ)
    → length (boundary_sides (triangles_owned n.table owners p)) ≡ length (boundary_numbers (opposites (sides_of n.table)) owners p)
sides_as_many {n = n} {numbers = numbers} h once owners fits p =
    let k = held_keys numbers h.held n.table (counted member_numbers n.polygons) h.is in
    subst (λ t. RuleB t → length (boundary_sides (triangles_owned t owners p)) ≡ length (boundary_numbers (opposites (sides_of t)) owners p)) k.2
    (λ once. ap length (by_number k.0 (length n.table) k.1 once owners fits p) ∙ length-map (boundary_numbers (opposites (sides_of (triangles_of k.0))) owners p) (side_at k.0)) once

-- The lengths off the held numbers are those of the table's sides.
pub lengths_held_lem : {limit : ℕ} {n : Sheet} (size : ℕ) (long : List ℕ) (h : SheetHeld limit n (take size long)) → lengths_held long (length (opposites (sides_of n.table))) ≡ lengths_of n.table
lengths_held_lem {n = n} size long h =
    let rest = counted member_numbers n.polygons in
    let k = held_keys (take size long) h.held n.table rest h.is in
    subst (λ t. lengths_held long (length (opposites (sides_of t))) ≡ lengths_of t) k.2
    (ap (lengths_held long) (length_opposites k.0 (length n.table) k.1) ∙ keys_lengths size long h.held k.0 (length n.table) k.1 k.3 (table_room (take size long) n.table rest h.is))
