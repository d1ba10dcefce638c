-- A reading place with one part of it changed, and the rest as it was.
use Rattle.std.specs.Prelude.{Bool, ℕ, ◌+◌}
use Rattle.wkb.specs.declared.Cursor.{Cursor}

-- So many bytes further on.
abbrev pub moved : ℕ → Cursor → Cursor
moved n c = record {
  at = c.at + n;
  member = c.member;
  members = c.members;
  header = c.header;
  second = c.second;
  third = c.third;
  fourth = c.fourth;
  parts = c.parts;
  rings = c.rings;
  little = c.little;
  points = c.points;
  polygons = c.polygons;
  total = c.total;
  limit = c.limit;
}

-- Naming this member of the sheet, with so many members after it.
abbrev pub naming : ℕ → ℕ → Cursor → Cursor
naming member members c = record {
  at = c.at;
  member = member;
  members = members;
  header = c.header;
  second = c.second;
  third = c.third;
  fourth = c.fourth;
  parts = c.parts;
  rings = c.rings;
  little = c.little;
  points = c.points;
  polygons = c.polygons;
  total = c.total;
  limit = c.limit;
}

-- ---- geometries to come under the member
-- Its own header to come or not, so many members of the open collections at depth 2, 3 and 4, so many pieces or parts.
abbrev pub geometries_to_come : Bool → ℕ → ℕ → ℕ → ℕ → Cursor → Cursor
geometries_to_come header second third fourth parts c = record {
  at = c.at;
  member = c.member;
  members = c.members;
  header = header;
  second = second;
  third = third;
  fourth = fourth;
  parts = parts;
  rings = c.rings;
  little = c.little;
  points = c.points;
  polygons = c.polygons;
  total = c.total;
  limit = c.limit;
}

-- The member's own header to come or not.
abbrev pub header_to_come : Bool → Cursor → Cursor
header_to_come header c = geometries_to_come header c.second c.third c.fourth c.parts c

-- So many members to come of the open collection at depth 2, at depth 3, at depth 4.
abbrev pub second_to_come : ℕ → Cursor → Cursor
second_to_come n c = geometries_to_come c.header n c.third c.fourth c.parts c

abbrev pub third_to_come : ℕ → Cursor → Cursor
third_to_come n c = geometries_to_come c.header c.second n c.fourth c.parts c

abbrev pub fourth_to_come : ℕ → Cursor → Cursor
fourth_to_come n c = geometries_to_come c.header c.second c.third n c.parts c

-- So many pieces of the table, or parts of the open MultiPolygon, to come.
abbrev pub parts_to_come : ℕ → Cursor → Cursor
parts_to_come n c = geometries_to_come c.header c.second c.third c.fourth n c

-- ---- the open polygon
-- So many rings of it to come, in this byte order, and so many points of its open ring.
abbrev pub polygon_to_come : ℕ → Bool → ℕ → Cursor → Cursor
polygon_to_come rings little points c = record {
  at = c.at;
  member = c.member;
  members = c.members;
  header = c.header;
  second = c.second;
  third = c.third;
  fourth = c.fourth;
  parts = c.parts;
  rings = rings;
  little = little;
  points = points;
  polygons = c.polygons;
  total = c.total;
  limit = c.limit;
}

-- So many rings of it to come.
abbrev pub rings_to_come : ℕ → Cursor → Cursor
rings_to_come n c = polygon_to_come n c.little c.points c

-- In this byte order.
abbrev pub ordered : Bool → Cursor → Cursor
ordered little c = polygon_to_come c.rings little c.points c

-- So many points of its open ring to come.
abbrev pub points_to_come : ℕ → Cursor → Cursor
points_to_come n c = polygon_to_come c.rings c.little n c

-- ---- what was counted
-- So many polygons begun under the member, and so many points of polygons in the sheet.
abbrev pub counted : ℕ → ℕ → Cursor → Cursor
counted polygons total c = record {
  at = c.at;
  member = c.member;
  members = c.members;
  header = c.header;
  second = c.second;
  third = c.third;
  fourth = c.fourth;
  parts = c.parts;
  rings = c.rings;
  little = c.little;
  points = c.points;
  polygons = polygons;
  total = total;
  limit = c.limit;
}

-- So many polygons begun under the member.
abbrev pub polygons_begun : ℕ → Cursor → Cursor
polygons_begun n c = counted n c.total c

-- So many points of polygons in the sheet.
abbrev pub points_counted : ℕ → Cursor → Cursor
points_counted n c = counted c.polygons n c
