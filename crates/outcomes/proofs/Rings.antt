-- The closed lines of a polygon of a held sheet, as the code comes to them: by the numbers of the sides, off the held numbers.
-- The idea: the rings by number are the rings of the boundary sides, and a side runs from the corner of its number to the next of its triangle, whose points stand among
-- the held numbers. Assumes nothing.
use mathlib.Core.Path.{◌≡◌, sym, ◌∙◌, ap, subst}
use mathlib.Core.List.{List, map}
use Prim.Native.Nat.{ℕ, ◌+◌, ◌*◌, ◌≤◌, ◌<◌}
use native.Mathlib.Omega.{arith}
use lib.ListN.{length, get_or, take}
use Rattle.whole.specs.Sums.{All}
use Rattle.plane.specs.Keys.{Held, key_of, point_at}
use Rattle.plane.specs.Boundaries.{sides_of}
use Rattle.lent_little.specs.Held.{end_of}
use Rattle.table.specs.Table.{frame_edges, RuleA, RuleB, RuleC}
use Rattle.table.specs.Sides.{triangles_of, side_at}
use Rattle.table.specs.Opposites.{opposites}
use Rattle.repair_longest.specs.Held.{point_held}
use Rattle.repair_sides.specs.Sides.{boundary_sides, owned_by, triangles_owned}
use Rattle.repair_rings.specs.Rings.{points_of, lines}
use Rattle.repair_sweep.proofs.Rings.{Bounding, rings_bound, rings_by_number}
use Rattle.repair_sweep.proofs.Following.{owned_set}
use Rattle.repair_sweep.proofs.Places.{tail_is}
use Rattle.sheet_form.specs.Numbers.{Sheet, member_numbers, counted}
use Rattle.sheet.specs.Held.{SheetHeld}
use Rattle.sheet_edges.specs.Standing.{corner_at}
use Rattle.sheet_edges.proofs.Triangles.{table_room, held_keys}
use Rattle.sheet_ring_bytes.specs.Held.{line_held, polygon_rings}
use Rattle.sheet_ring_bytes.proofs.Sized
use Rattle.judged.proofs.Sides.{point_held_lem}

-- ---- for corners of n triangles
-- No ring is empty.
keys_begun : (keys : List ℕ) (n : ℕ) (whole : length keys ≡ 3 * n) (area : RuleA (triangles_of keys)) (once : RuleB (triangles_of keys)) (framed : RuleC (frame_edges (triangles_of keys)) (triangles_of keys))
    (owners : List ℕ) (fits : length owners ≡ n) (p : ℕ) → All (λ r. 1 ≤ length r) (polygon_rings (opposites (sides_of (triangles_of keys))) owners p)
keys_begun keys n whole area once framed owners fits p =
    Sized.begun (triangles_of keys) area once framed (owned_by p owners) (owned_set keys n whole owners fits p) (side_at keys) (polygon_rings (opposites (sides_of (triangles_of keys))) owners p) (rings_by_number keys n whole area once framed owners fits p)

-- As they stand among held numbers at the front of a list
module _ (size : ℕ) (long : List ℕ) (held : All Held (take size long)) (keys : List ℕ) (n : ℕ) (whole : length keys ≡ 3 * n)
    (laid : (k : ℕ) → k < length keys → get_or keys k 0 ≡ key_of (corner_at (take size long) (1 + 2 * k))) (room : 1 + 6 * n ≤ length (take size long)) where
  begins : (k : ℕ) → k < length keys → (side_at keys k).from ≡ point_held long k
  begins k h = point_held_lem size long held keys n whole laid room k h

  ends : (k : ℕ) → k < length keys → (side_at keys k).to ≡ point_held long (end_of k)
  ends k h = ap point_at (tail_is keys n whole k h) ∙ point_held_lem size long held keys n whole laid room (end_of k) (omega arith)

  keys_lines : (area : RuleA (triangles_of keys)) (once : RuleB (triangles_of keys)) (framed : RuleC (frame_edges (triangles_of keys)) (triangles_of keys)) (owners : List ℕ) (fits : length owners ≡ n) (p : ℕ)
      → map (line_held long) (polygon_rings (opposites (sides_of (triangles_of keys))) owners p) ≡ lines (boundary_sides (triangles_owned (triangles_of keys) owners p))
  keys_lines area once framed owners fits p =
      let bounding = Bounding keys n whole area once framed owners fits p in
      Sized.lines_held long (side_at keys) bounding (λ k h. (sym (begins k h.0), sym (ends k h.0))) (polygon_rings (opposites (sides_of (triangles_of keys))) owners p) (rings_bound keys n whole area once framed owners fits p)
      ∙ ap (map points_of) (rings_by_number keys n whole area once framed owners fits p)

-- For a held sheet with a table that passes the rules and an owner for each triangle, the closed lines of a polygon are those of the held numbers, which may be the
-- front of a longer list.
pub lines_held : {limit : ℕ} {n : Sheet} (size : ℕ) (long : List ℕ) (h : SheetHeld limit n (take size long)) (area : RuleA n.table) (once : RuleB n.table) (framed : RuleC (frame_edges n.table) n.table)
    (owners : List ℕ) (fits : length owners ≡ length n.table) (p : ℕ) → map (line_held long) (polygon_rings (opposites (sides_of n.table)) owners p) ≡ lines (boundary_sides (triangles_owned n.table owners p))
lines_held {n = n} size long h area once framed owners fits p =
    let rest = counted member_numbers n.polygons in
    let k = held_keys (take size long) h.held n.table rest h.is in
    subst (λ t. RuleA t → RuleB t → RuleC (frame_edges t) t → map (line_held long) (polygon_rings (opposites (sides_of t)) owners p) ≡ lines (boundary_sides (triangles_owned t owners p))) k.2
    (λ area once framed. keys_lines size long h.held k.0 (length n.table) k.1 k.3 (table_room (take size long) n.table rest h.is) area once framed owners fits p) area once framed

pub rings_begun : {limit : ℕ} {n : Sheet} (size : ℕ) (long : List ℕ) (h : SheetHeld limit n (take size long)) (area : RuleA n.table) (once : RuleB n.table) (framed : RuleC (frame_edges n.table) n.table)
    (owners : List ℕ) (fits : length owners ≡ length n.table) (p : ℕ) → All (λ r. 1 ≤ length r) (polygon_rings (opposites (sides_of n.table)) owners p)
rings_begun {n = n} size long h area once framed owners fits p =
    let rest = counted member_numbers n.polygons in
    let k = held_keys (take size long) h.held n.table rest h.is in
    subst (λ t. RuleA t → RuleB t → RuleC (frame_edges t) t → All (λ r. 1 ≤ length r) (polygon_rings (opposites (sides_of t)) owners p)) k.2
    (λ area once framed. keys_begun k.0 (length n.table) k.1 area once framed owners fits p) area once framed
