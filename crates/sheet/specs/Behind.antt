-- What is to come behind a geometry that is read whole, and how many levels of geometries it can hold.
use Rattle.std.specs.Prelude.{◌≡◌, Result, Ok, Err, Bool, true, false, not, cond, ◌&&◌, ◌||◌, ℕ, zero, suc, ◌+◌, ◌≤◌, T, ltb, eqb}
use Rattle.wkb_kinds.specs.declared.Slot.{Slot}
use Rattle.wkb_kinds.specs.declared.Slot.TheVariants.{Sheet, Table, Piece, Part, Member}
use Rattle.wkb.specs.declared.Cursor.{Cursor}
use Rattle.wkb.specs.Places.{naming, geometries_to_come, polygon_to_come}
use Rattle.wkb.specs.Steps.{start, slot_of, complete, renewed, popped, fewer_parts}
use Rattle.lent.specs.declared.Fault.{Fault}
use Rattle.sheet.specs.declared.Reached.{Reached}

-- The counts of a place: the member that it names, the most members and what is to come, wherever the place stands and whatever was counted before.
abbrev pub counts : Cursor → Cursor
counts c = polygon_to_come c.rings false c.points (geometries_to_come c.header c.second c.third c.fourth c.parts (naming c.member c.members (start c.limit)))

-- The open polygon read to its end.
unfoldable pub closed : Cursor → Cursor
closed c = renewed (polygon_to_come 0 c.little 0 c)

-- The geometry that stands at c read to its end: a piece or part fewer is to come while any is, else a geometry fewer of the member or of its
-- innermost open collection.
unfoldable pub behind : Cursor → Cursor
behind c = renewed (cond (ltb 0 c.parts) (fewer_parts c) (popped c))

-- So many geometries from c on read to their end.
unfoldable pub behind_all : ℕ → Cursor → Cursor
behind_all zero c = c
behind_all (suc n) c = behind_all n (behind c)

-- How many levels of geometries can be inside the one that stands at c: the sheet holds the table and the members, a member or a collection at
-- depth 2 and 3 holds collections, one at depth 4 MultiPolygons, and these and the table hold polygons.
abbrev pub levels_at : Slot → Bool → ℕ → ℕ → ℕ
levels_at Sheet header third fourth = 5
levels_at Table header third fourth = 1
levels_at Piece header third fourth = 0
levels_at Part header third fourth = 0
levels_at Member header third fourth = cond header 4 (cond (ltb 0 fourth) 1 (cond (ltb 0 third) 2 3))

unfoldable pub levels : Cursor → ℕ
levels c = levels_at (slot_of c) c.header c.third c.fourth

-- A geometry stands at c with so many levels inside at most: no ring and no point is to come, but something is. Where it is the sheet, or a
-- member's own geometry, it stands alone.
pub record Begins (depth : ℕ) (c : Cursor) : Type 0 where
  pub no_rings : c.rings ≡ 0
  pub no_points : c.points ≡ 0
  pub more : (not (eqb c.member 0) && complete c) ≡ false
  pub alone : T (eqb c.member 0 || c.header) → c.second + c.third + c.fourth + c.parts ≡ 0
  pub deep : levels c ≤ depth

-- So many geometries of a sheet stand from c on, each behind the one before it.
abbrev pub Row : ℕ → ℕ → Cursor → Type 0
Row zero depth c = Unit {0}
Row (suc n) depth c = Begins depth c × (eqb c.member 0 ≡ false) × Row n depth (behind c)

-- Nothing of the sheet is to come.
abbrev pub Finished : Cursor → Type 0
Finished d = ((not (eqb d.member 0) && complete d) ≡ true) × (d.members ≡ 0)

-- d is behind the geometry that stands at c, which is the sheet or not.
abbrev pub After : Bool → Cursor → Cursor → Type 0
After true c d = Finished d
After false c d = counts d ≡ counts (behind c)

-- Where reading goes on, it goes on with the counts of d; it goes on behind the geometry at c.
abbrev pub To : Cursor → Result Reached Fault → Type 0
To d (Ok q) = counts q.place ≡ counts d
To d (Err f) = Unit {0}

abbrev pub Past : Cursor → Result Reached Fault → Type 0
Past c (Ok q) = After (eqb c.member 0) c q.place
Past c (Err f) = Unit {0}
