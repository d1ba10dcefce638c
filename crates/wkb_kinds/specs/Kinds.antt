-- The type numbers belong to the geometry kind. Which geometry stands at a place goes by the member that it names and the parts to come.
use Rattle.std.specs.Prelude.{cond, ℕ, ltb, eqb}
use Rattle.wkb_kinds.specs.declared.Kind.{Kind}
use Rattle.wkb_kinds.specs.declared.Kind.TheVariants.{Polygon, MultiPolygon, Collection, Tin, Triangle}
use Rattle.wkb_kinds.specs.declared.Slot.{Slot}
use Rattle.wkb_kinds.specs.declared.Slot.TheVariants.{Sheet, Table, Piece, Part, Member}

-- Document 01's type number of each kind.
abbrev pub type_of : Kind → ℕ
type_of Polygon = 3
type_of MultiPolygon = 6
type_of Collection = 7
type_of Tin = 16
type_of Triangle = 17

-- In the sheet's own header the sheet; under the table's member a piece of it while any is to come, else the table; under any other a part of
-- the open MultiPolygon while any is to come, else a member.
abbrev pub slot_at : ℕ → ℕ → Slot
slot_at member parts = cond (eqb member 0) Sheet (cond (eqb member 1) (cond (ltb 0 parts) Piece Table) (cond (ltb 0 parts) Part Member))
