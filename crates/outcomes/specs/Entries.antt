-- What each entry comes to, by what is asked of it.
use Rattle.std.specs.Prelude.{Bool, true, false, ◌&&◌, ℕ, ◌+◌, ◌*◌, leb, ℤ, length}
use mathlib.Core.List.{List, [], ◌++◌, map, flat_map}
use Rattle.std.proofs.Math.Option.{Option, none, some}
use Rattle.std.specs.Int.{w64}
use Rattle.std.proofs.Common.{of_z}
use Rattle.plane.specs.Points.{Edge}
use Rattle.plane.specs.Members.{double_area}
use Rattle.lent.specs.Stages.{value, refused, and_then, needing}
use Rattle.lent.specs.Answered.{Outcome, bytes}
use Rattle.lent_little.specs.Ordered
use Rattle.lent_little.specs.Bytes.{i32, side_bytes}
use Rattle.lent_sets.specs.Sets.{each_outcome}
use Rattle.table_points.specs.Points.{triangle_of}
use Rattle.table_neighbours.specs.Neighbours.{own_index, lent_if}
use Rattle.owners_marks.specs.Marks.{set_of}
use Rattle.repair_sides.specs.Sides.{boundary_sides, triangles_owned}
use Rattle.repair_answers.specs.Answers.{numbers_after}
use Rattle.repair_point.specs.Point.{owner_there}
use Rattle.sheet_form.specs.Numbers.{Sheet, members, numbers_of}
use Rattle.sheet_blob.specs.declared.Opened.{Opened}
use Rattle.sheet_blob_written.specs.Given.{blob_given, write_blob}
use Rattle.sheet_modes.specs.Modes.{mode_of, header_by, read_by, framed, position_in}
use Rattle.sheet_written.specs.Given.{sheet_given, write_outcome}
use Rattle.sheet_ring_bytes.specs.Lines.{lines_after, room_after}
use Rattle.judged.specs.Judged.{Judged, matched, check_framed, judged_with, judged_sheet, repair_of}
use Rattle.listing.specs.Listing.{listing}
use Rattle.outcomes.specs.declared.Asked.{Asked}
use Rattle.outcomes.specs.declared.Wanted.{Wanted}
use Rattle.outcomes.specs.declared.Wanted.TheVariants.{OwnerSets, Owners, Boundary, Rings, RingRoom, At}

-- The numbers form of a sheet as bytes, each number as a little-endian i32; the item is their number.
abbrev pub form_of : Sheet → List ℕ
form_of n = flat_map i32 (numbers_of n)

-- The first of a blob's numbers is its reference-system number.
abbrev pub first_of : Option Opened → List ℕ
first_of none = []
first_of (some r) = Ordered.bytes 4 r.number

abbrev pub form_outcome : Option Opened → Sheet → Outcome
form_outcome o n = bytes (length (first_of o) + length (form_of n)) (first_of o ++ form_of n)

-- The road of the entries that judge nothing: the sheet is read, and an envelope that isn't the frame of its table is refused 52.
abbrev pub read_to : (Sheet → Outcome) → ℕ → List ℕ → Outcome
read_to next mode s =
    and_then (read_by members mode s) (λ n.
    and_then (matched (framed (header_by mode s) n)) (λ _.
    next n))

-- sheet_numbers_by, and sheet_numbers, the same in mode 0.
abbrev pub sheet_numbers_by : ℕ → List ℕ → Outcome
sheet_numbers_by mode s = read_to (form_outcome (header_by mode s)) mode s

abbrev pub sheet_numbers : List ℕ → Outcome
sheet_numbers = sheet_numbers_by 0

-- sheet_areas: the double area of each polygon, in number order, as a little-endian i64; the item is the number of polygons.
abbrev pub i64 : ℤ → List ℕ
i64 z = Ordered.bytes 8 (of_z w64 z)

abbrev pub areas_outcome : Sheet → Outcome
areas_outcome n = bytes (length n.polygons) (flat_map i64 (map double_area n.polygons))

abbrev pub sheet_areas : ℕ → List ℕ → Outcome
sheet_areas = read_to areas_outcome

-- ---- where in the file
-- The number that an entry answers where enough bytes are lent.
abbrev pub with_room : Outcome → ℕ
with_room (value w) = w.item * 256
with_room (refused code item) = item * 256 + code

-- An answer and a byte position, each as a little-endian u64; the item is the number of bytes.
abbrev pub u64 : ℕ → List ℕ
u64 n = Ordered.bytes 8 n

abbrev pub telling : ℕ → ℕ → Outcome
telling answer position = bytes 16 (u64 answer ++ u64 position)

-- sheet_position: the answer of the numbers entry in the mode with room enough, and the byte position of the field at fault, 0 where the sheet is read or the
-- refusal has a code above 8.
abbrev pub sheet_position : ℕ → List ℕ → Outcome
sheet_position mode s = telling (with_room (sheet_numbers_by mode s)) (position_in (mode_of mode) s)

-- ---- writing
-- sheet_write: the normal bytes of the sheet that the numbers give, else 42.
abbrev pub sheet_write : List ℕ → Outcome
sheet_write s = write_outcome (sheet_given members s)

-- sheet_write_blob: the normal bytes of the blob that the numbers give, its reference-system number first, else 42.
abbrev pub sheet_write_blob : List ℕ → Outcome
sheet_write_blob s = write_blob (blob_given members s)

-- ---- the entries that judge
-- The boundary sides of the triangles that a polygon owns after repair; the item is the number of sides.
abbrev pub owned_sides : Sheet → ℕ → List ℕ → List Edge
owned_sides n polygon owners = boundary_sides (triangles_owned n.table owners polygon)

abbrev pub sides_after : List Edge → Outcome
sides_after sides = bytes (length sides) (flat_map side_bytes sides)

-- The asked polygon is on the sheet.
abbrev pub on_sheet : ℕ → Sheet → Bool
on_sheet polygon n = leb 1 polygon && leb polygon (length n.polygons)

-- What a judged sheet goes on to, repaired in a way. The owner sets before repair; a refusal of repair, or the number of each triangle after it; 41 where the
-- asked polygon isn't on the sheet, then a refusal of repair, or the boundary sides, as they stand or joined into closed lines, or the room that these take; a refusal of repair, then 55 where the point belongs to no triangle, or the owner of
-- the triangle that it belongs to.
abbrev pub goes_on : ℕ → Wanted → Judged → Outcome
goes_on way OwnerSets j = each_outcome (map set_of j.owners)
goes_on way Owners j = and_then (repair_of way j) numbers_after
goes_on way (Boundary polygon) j = and_then (needing (on_sheet polygon j.sheet) 41 0) (λ _. and_then (repair_of way j) (λ owners. sides_after (owned_sides j.sheet polygon owners)))
goes_on way (Rings polygon) j = and_then (needing (on_sheet polygon j.sheet) 41 0) (λ _. and_then (repair_of way j) (λ owners. lines_after (owned_sides j.sheet polygon owners)))
goes_on way (RingRoom polygon) j = and_then (needing (on_sheet polygon j.sheet) 41 0) (λ _. and_then (repair_of way j) (λ owners. room_after (owned_sides j.sheet polygon owners)))
goes_on way (At x y) j = and_then (repair_of way j) (owner_there (triangle_of (record { x = x; y = y }) j.sheet.table))

-- The road of the entries that judge: the bytes come to a judged sheet, with the index that is lent or none, which goes on to what is wanted.
abbrev pub answer_to : Asked → List ℕ → List ℕ → Outcome
answer_to asked index s = and_then (judged_with (lent_if asked.indexed index) asked.mode s) (goes_on asked.way asked.wanted)

-- sheet_owner_sets_by, sheet_owners_by, and sheet_boundary_by for the polygon of the number.
abbrev pub sheet_owner_sets_by : ℕ → List ℕ → Outcome
sheet_owner_sets_by mode = answer_to (record { mode = mode; way = 0; wanted = OwnerSets; indexed = false }) []

abbrev pub sheet_owners_by : ℕ → ℕ → List ℕ → Outcome
sheet_owners_by mode way = answer_to (record { mode = mode; way = way; wanted = Owners; indexed = false }) []

abbrev pub sheet_boundary_by : ℕ → ℕ → ℕ → List ℕ → Outcome
sheet_boundary_by mode way polygon = answer_to (record { mode = mode; way = way; wanted = Boundary polygon; indexed = false }) []

-- sheet_rings for the polygon of the number.
abbrev pub sheet_rings : ℕ → ℕ → ℕ → List ℕ → Outcome
sheet_rings mode way polygon = answer_to (record { mode = mode; way = way; wanted = Rings polygon; indexed = false }) []

-- sheet_ring_room: the number of bytes that sheet_rings comes to, as the item. It writes no bytes.
abbrev pub sheet_ring_room : ℕ → ℕ → ℕ → List ℕ → Outcome
sheet_ring_room mode way polygon = answer_to (record { mode = mode; way = way; wanted = RingRoom polygon; indexed = false }) []

-- sheet_at: the owner after repair at the point (x, y) as the item. It writes no bytes.
abbrev pub sheet_at : ℕ → ℕ → ℤ → ℤ → List ℕ → Outcome
sheet_at mode way x y = answer_to (record { mode = mode; way = way; wanted = At x y; indexed = false }) []

-- sheet_owner_sets, sheet_owners and sheet_boundary are the same in mode 0 and way 0.
abbrev pub sheet_owner_sets : List ℕ → Outcome
sheet_owner_sets = sheet_owner_sets_by 0

abbrev pub sheet_owners : List ℕ → Outcome
sheet_owners = sheet_owners_by 0 0

abbrev pub sheet_boundary : ℕ → List ℕ → Outcome
sheet_boundary polygon = sheet_boundary_by 0 0 polygon

-- ---- the index, and the entries that take one
-- Bytes whose number is the item.
abbrev pub text_outcome : List ℕ → Outcome
text_outcome text = bytes (length text) text

-- The table of a sheet passes the rules, the envelope is its frame or there is none, and then the table's own index is told; the item is its length.
abbrev pub index_outcome : Bool → Sheet → Outcome
index_outcome whole n = and_then (check_framed whole n) (λ _. text_outcome (own_index n.table))

-- sheet_index.
abbrev pub sheet_index : ℕ → List ℕ → Outcome
sheet_index mode s = and_then (read_by members mode s) (λ n. index_outcome (framed (header_by mode s) n) n)

-- sheet_owner_sets_indexed, sheet_owners_indexed, sheet_boundary_indexed, sheet_rings_indexed.
abbrev pub sheet_owner_sets_indexed : ℕ → List ℕ → List ℕ → Outcome
sheet_owner_sets_indexed mode = answer_to (record { mode = mode; way = 0; wanted = OwnerSets; indexed = true })

abbrev pub sheet_owners_indexed : ℕ → ℕ → List ℕ → List ℕ → Outcome
sheet_owners_indexed mode way = answer_to (record { mode = mode; way = way; wanted = Owners; indexed = true })

abbrev pub sheet_boundary_indexed : ℕ → ℕ → ℕ → List ℕ → List ℕ → Outcome
sheet_boundary_indexed mode way polygon = answer_to (record { mode = mode; way = way; wanted = Boundary polygon; indexed = true })

abbrev pub sheet_rings_indexed : ℕ → ℕ → ℕ → List ℕ → List ℕ → Outcome
sheet_rings_indexed mode way polygon = answer_to (record { mode = mode; way = way; wanted = Rings polygon; indexed = true })

-- ---- the listing
-- sheet_listing_by: a refused sheet has a listing too, so that 40 is its only refusal. sheet_listing is the same in mode 0 and way 0.
abbrev pub sheet_listing_by : ℕ → ℕ → List ℕ → Outcome
sheet_listing_by mode way s = text_outcome (listing way (judged_sheet mode s))

abbrev pub sheet_listing : List ℕ → Outcome
sheet_listing = sheet_listing_by 0 0
