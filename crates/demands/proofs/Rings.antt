-- Request No. 3, closed rings out: what holds of the rings that the boundary sides of a polygon make up, in a table that passes the rules; and request No. 11, how many bytes
-- they have. The ideas stand in repair_rings: as many sides arrive at a corner as leave it, and no two are followed by the same. Assumes nothing.
use mathlib.Core.Path.{◌≡◌, refl, sym, ◌∙◌, ap}
use mathlib.Core.Bool.{true, not}
use mathlib.Core.List.{List, [], ◌∷◌, map}
use mathlib.Core.Option.{none}
use Prim.Native.Nat.{ℕ, suc, ◌*◌, ◌-◌, ◌≤◌, ◌<◌}
use native.Mathlib.Omega.{arith}
use lib.Dec.{T, T_not, eqb}
use lib.ListN.{length, get_or, length-map}
use Rattle.whole.specs.Sums.{All, Among, count}
use Rattle.whole.proofs.Sums.{all_map, all_counted, counted}
use Rattle.plane.specs.Points.{Point, Edge, Triangle, same_edge}
use Rattle.plane.proofs.Points.{same_edge-eq, same_edge-refl}
use Rattle.plane.proofs.Chains.{Chain}
use Rattle.plane_rings.specs.Closed.{origin, Closed}
use Rattle.plane_turning.specs.Turning.{sharper, following}
use Rattle.plane_turning.proofs.Following.{refuted}
use Rattle.table.specs.Sets.{SetOf}
use Rattle.repair_sides.specs.Sides.{boundary_sides, owned_by, triangles_owned}
use Rattle.repair_rings.specs.Rings.{rings, rings_over, joined, points_of, lines}
use Rattle.repair_rings.proofs.Injective.{next, one_follows}
use Rattle.repair_rings.proofs.Rings.{ClosedRing, line_edges, all_closed}
use Rattle.repair_rings.proofs.Rings as Laws
use Rattle.plane.specs.Members.{Member}
use Rattle.lent.specs.Stages.{value}
use Rattle.table_sides.specs.Numbered.{number_in}
use Rattle.owners.specs.Judging.{AreaOfOwnership}
use Rattle.repair_clean.specs.Clean.{HasRings, EachHasRings, still_owning}
use Rattle.repair_clean.proofs.Rings.{rings_carried}
use Rattle.repair_clean.proofs.Sheet.{sheet_clean}
use Rattle.sheet_form.specs.Numbers.{Sheet}
use Rattle.judged.specs.Judged.{Judged, judge_indexed, judged_sheet, repair_of}
use Rattle.judged.specs.Held.{judge_sheet}
use Rattle.judged.proofs.Stages.{judged_value, sheet_value}
use Rattle.judged.proofs.Repaired
use Rattle.wkb_lines.specs.Room.{room_of, most_room}
use Rattle.sheet_ring_bytes.specs.Lines.{line_bytes}
use Rattle.sheet_ring_bytes.proofs.Sized.{lines_room, lines_most}
use Rattle.demands.specs.Triangles.{Passes}
use Rattle.demands.specs.Rings.{Sharpest, ClosedWay}
use Rattle.demands.proofs.Stages.{read_limits}

-- ---- a chain of sides as points
ends_at : (p q : Point) (l : List Edge) → Chain p q l → get_or (p ∷ map (λ e. e.to) l) (length l) origin ≡ q
ends_at p q [] h = h
ends_at p q (e ∷ l) h = ends_at e.to q l h.1

closes : (r : List Edge) → ClosedRing r → Closed (points_of r)
closes [] h = refl
closes (e ∷ r) h =
    let n : suc (length (map (λ d. d.to) (e ∷ r))) - 1 ≡ length (e ∷ r) = omega (arith, length-map (e ∷ r) (λ d. d.to)) in
    ap (λ i. get_or (points_of (e ∷ r)) i origin) n ∙ ends_at e.from h.start (e ∷ r) (refl, h.closed.1) ∙ sym h.closed.0

-- ---- for the sides that bound what polygon p owns
module _ (table : List Triangle) (passes : Passes table) (owners : List ℕ) (each : length owners ≡ length table) (p : ℕ) where
  abbrev sides : List Edge
  sides = boundary_sides (triangles_owned table owners p)

  marks : SetOf table (owned_by p owners)
  marks = length-map owners (λ o. eqb o p) ∙ each

  -- "Where several sides leave a corner, take the sharpest turn to the right, measured from the arriving side": the side that follows is the sharpest of all that leave,
  pub follows_sharpest : (e : Edge) → Among same_edge e sides → Sharpest sides e (following sides e)
  follows_sharpest e h =
      let f = next table passes.0 passes.1 passes.2 (owned_by p owners) marks e h in
      record { listed = f.listed; leaves = f.joined; none_sharper = λ c k q t. T_not (sharper e.from e.to c.to (following sides e).to) (counted same_edge same_edge-eq same_edge-refl (λ x. x.from ≡ e.to → T (not (sharper e.from e.to x.to (following sides e).to))) c sides k f.sharp q) t }

  -- and there is no tie: no other is.
  pub no_tie : (e d : Edge) → Among same_edge e sides → Sharpest sides e d → d ≡ following sides e
  no_tie e d h s =
      one_follows table passes.0 passes.1 passes.2 (owned_by p owners) marks e d (following sides e) h
      (record { listed = s.listed; joined = s.leaves; sharp = all_map (λ c. Among same_edge c sides) _ (λ c k q. refuted (sharper e.from e.to c.to d.to) (s.none_sharper c k q)) sides (all_counted same_edge same_edge-eq same_edge-refl sides) })
      (next table passes.0 passes.1 passes.2 (owned_by p owners) marks e h)

  -- "Each boundary side occurs in exactly one ring, once": in all rings together it occurs as often as among the sides, which is once.
  pub each_side_once : (e : Edge) → count same_edge e (joined (rings sides)) ≡ count same_edge e sides
  each_side_once = Laws.each_once table passes.0 passes.1 passes.2 (owned_by p owners) marks

  -- The rings are closed ways of at least three sides.
  pub closed_ways : All ClosedWay (rings sides)
  closed_ways =
      all_map ClosedRing ClosedWay (λ r h. record { three = h.three; none_twice = h.single; joined = line_edges r h; closed = closes r h }) (rings sides) (all_closed table passes.0 passes.1 passes.2 (owned_by p owners) marks)

  -- One who begins a ring at each side in turn that no ring before has comes to the same rings.
  pub found_in_turn : rings_over sides [] sides ≡ rings sides
  found_in_turn = Laws.found_in_turn table passes.0 passes.1 passes.2 (owned_by p owners) marks

  -- The bytes are "9 + 16·S + 25 for each ring" (`room_of`),
  pub exact_room : length (line_bytes (lines sides)) ≡ room_of (length sides) (length (rings sides))
  exact_room = lines_room table passes.0 passes.1 passes.2 (owned_by p owners) marks

  -- there are at most a third as many rings as sides,
  pub a_third : 3 * length (rings sides) ≤ length sides
  a_third = Laws.a_third table passes.0 passes.1 passes.2 (owned_by p owners) marks

  -- and so they are "never .. more than 9 + 16·S + 25·(S / 3, rounded down) bytes" (`most_room`).
  pub most_room_lem : length (line_bytes (lines sides)) ≤ most_room (length sides)
  most_room_lem = lines_most table passes.0 passes.1 passes.2 (owned_by p owners) marks

-- ---- repair yields a clean sheet
-- Bytes come to a judged sheet, which is repaired in a way.
module _ (mode : ℕ) (s : List ℕ) (bytes : All (λ b. b < 256) s) (j : Judged) (e : judged_sheet mode s ≡ value j) (way : ℕ) (owners : List ℕ) (r : repair_of way j ≡ value owners) where
  comes : judge_sheet j.sheet ≡ value j
  comes = ((judged_value mode s j).0 e).1

  rules : Passes j.sheet.table
  rules = Repaired.rules comes

  many : length owners ≡ length j.sheet.table
  many = Repaired.after_many comes (read_limits mode s bytes j.sheet ((judged_value mode s j).0 e).0) way owners r

  -- The rings of a polygon that owns a triangle after repair, taken as a polygon in parts of whatever grouping, are carried by exactly the triangles that it owns then: that is the
  -- polygon's area of ownership, with its double area.
  pub carried_by_owned : (p : ℕ) (m : Member) → HasRings j.sheet.table owners p m → Among eqb p owners → AreaOfOwnership j.sheet.table m (owned_by p owners)
  carried_by_owned p m = rings_carried j.sheet.table rules.0 rules.1 rules.2 owners many p m

  -- So a sheet with the same table and the rings of the polygons that own a triangle after repair, in number order, is clean: it is judged, and each triangle has exactly one owner,
  -- the polygon that it has after repair, by its number among these.
  pub repaired_clean : (ms : List Member) → EachHasRings j.sheet.table owners (still_owning (length j.sheet.polygons) owners) ms
      → let n : Sheet = record { table = j.sheet.table; polygons = ms } in judge_indexed none true n ≡ value (record { sheet = n; owners = map (λ o. number_in o (still_owning (length j.sheet.polygons) owners) ∷ []) owners })
  repaired_clean ms h =
      (sheet_value (record { table = j.sheet.table; polygons = ms }) _).1 (
        refl,
        ((sheet_value j.sheet j).0 comes).1,
        sheet_clean j.sheet.table rules.0 rules.1 rules.2 owners many (length j.sheet.polygons) (Repaired.after_polygons comes (read_limits mode s bytes j.sheet ((judged_value mode s j).0 e).0) way owners r) ms h,
      )
