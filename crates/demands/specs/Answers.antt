-- What the entries go by: the owners that a sheet's triangles have, as lists and as bits, and the refusals that stand before them.
use Rattle.std.specs.Prelude.{◌≡◌, ◌⊎◌, Bool, Some, List, [], ℕ, ◌-◌, ◌^◌, ◌≤◌, ◌<◌, length, get_or}
use Rattle.std.proofs.Math.Option.{some}
use Rattle.whole.specs.Sums.{All}
use Rattle.plane.specs.Boundaries.{sides_of}
use Rattle.plane_lengths.specs.Lengths.{lengths_of}
use Rattle.lent.specs.Stages.{value, refused}
use Rattle.table.specs.Table.{frame_edges, RuleA, RuleB, RuleC}
use Rattle.table.specs.Opposites.{opposites}
use Rattle.owners_marks.specs.Marks.{owners_from}
use Rattle.owners.specs.Judging.{Groundless, AreaOfOwnership}
use Rattle.repair.specs.OneOwner.{OneOwner, ChosenThere}
use Rattle.sheet_form.specs.Numbers.{Sheet, members}
use Rattle.sheet_envelope.specs.declared.Envelope.{Envelope}
use Rattle.sheet_envelope.specs.Envelope.{Same}
use Rattle.sheet_framed.specs.Framed.{frame_on}
use Rattle.sheet_blob.specs.declared.Opened.{Opened}
use Rattle.sheet_modes.specs.Modes.{header_by, read_by}
use Rattle.demands.specs.Polygons.{NoSet, polygon, FirstFaulty, BitsAre}
use Rattle.demands.specs.Triangles.{Passes, NoArea, RepeatsSide, First}

-- The header around the sheet has an envelope that isn't the frame of the table: not each of its doubles equals its bound.
pub record OtherEnvelope (mode : ℕ) (s : List ℕ) (n : Sheet) : Type 0 where
  pub header : Opened
  pub around : header_by mode s ≡ some header
  pub envelope : Envelope
  pub there : header.envelope ≡ Some envelope
  pub differs : Same envelope (frame_on n) → ⊥

-- The bytes are read in the mode as the sheet n, its table passes the rules, no envelope around it is another than the frame, each polygon is carried by its set,
-- the only one, and `owners` has for each triangle, in table order, the numbers of the polygons whose set has it.
pub record HasOwners (mode : ℕ) (s : List ℕ) (n : Sheet) (owners : List (List ℕ)) : Type 0 where
  pub read : read_by members mode s ≡ value n
  pub passes : Passes n.table
  pub framed : OtherEnvelope mode s n → ⊥
  pub sets : List (List Bool)
  pub as_many : length sets ≡ length n.polygons
  pub of_polygon : (k : ℕ) → 1 ≤ k → k ≤ length n.polygons → AreaOfOwnership n.table (polygon n.polygons k) (get_or sets (k - 1) [])
  pub owners_are : owners ≡ owners_from (length n.table) 1 sets

-- The bytes are read in the mode as the sheet n, its table passes the rules, no envelope around it is another than the frame, and `sets` has for each triangle,
-- in table order, its owners: bit k-1 is 1 exactly if the triangle is in the set of triangles that carries polygon k, the only one, and there are no other bits.
pub record HasSets (mode : ℕ) (s : List ℕ) (n : Sheet) (sets : List ℕ) : Type 0 where
  pub read : read_by members mode s ≡ value n
  pub passes : Passes n.table
  pub framed : OtherEnvelope mode s n → ⊥
  pub each : length sets ≡ length n.table
  pub bits : (k : ℕ) → 1 ≤ k → k ≤ length n.polygons → (marks : List Bool) × AreaOfOwnership n.table (polygon n.polygons k) marks × BitsAre sets k marks
  pub no_others : All (λ set. set < 2 ^ length n.polygons) sets

-- The bytes are refused before any owner is known, with the first of these codes: that of reading in the mode; then, of the sheet n that is read, 10 with the
-- first triangle of no area, 11 with the first that has a side of an earlier one, 12, 52 for an envelope that isn't the frame, and 20 or 21 with the first polygon
-- that is not carried or has no ground.
pub data Refused (mode : ℕ) (s : List ℕ) : ℕ → ℕ → Type 0 where
  unread : {code item : ℕ} → read_by members mode s ≡ refused code item → Refused mode s code item
  breaks_a : {k : ℕ} (n : Sheet) → read_by members mode s ≡ value n → First NoArea n.table k → Refused mode s 10 k
  breaks_b : {k : ℕ} (n : Sheet) → read_by members mode s ≡ value n → RuleA n.table → First RepeatsSide n.table k → Refused mode s 11 k
  breaks_c : (n : Sheet) → read_by members mode s ≡ value n → RuleA n.table → RuleB n.table → (RuleC (frame_edges n.table) n.table → ⊥) → Refused mode s 12 0
  unframed : (n : Sheet) → read_by members mode s ≡ value n → Passes n.table → OtherEnvelope mode s n → Refused mode s 52 0
  not_carried : {k : ℕ} (n : Sheet) → read_by members mode s ≡ value n → Passes n.table → (OtherEnvelope mode s n → ⊥) → FirstFaulty NoSet n.table n.polygons k → Refused mode s 20 k
  no_ground : {k : ℕ} (n : Sheet) → read_by members mode s ≡ value n → Passes n.table → (OtherEnvelope mode s n → ⊥) → FirstFaulty Groundless n.table n.polygons k → Refused mode s 21 k

-- No triangle has an owner.
abbrev pub NoOwner : List (List ℕ) → Type 0
NoOwner owners = All (λ o. o ≡ []) owners

-- The owner numbers of the triangles after repair in a way, one for each: OneOwner says how each is found, ChosenThere which number a gap region goes to.
abbrev pub Repaired : ℕ → Sheet → List (List ℕ) → List ℕ → Type 0
Repaired way n owners l = OneOwner (opposites (sides_of n.table)) owners l × ChosenThere way (lengths_of n.table) (opposites (sides_of n.table)) owners l

-- The way to fill gaps is known: it is 0, document 01's, or 1, the longest shared boundary.
abbrev pub KnownWay : ℕ → Type 0
KnownWay way = way ≤ 1

-- The polygon of the number is on the sheet.
abbrev pub OnSheet : Sheet → ℕ → Type 0
OnSheet n polygon = (1 ≤ polygon) × (polygon ≤ length n.polygons)

-- The refusals of an entry that is asked for a polygon after repair: as the set entry is refused, then 41 where the "asked member isn't on the sheet", then 54, then 30.
abbrev pub PolygonRefused : (mode : ℕ) (s : List ℕ) (way polygon code item : ℕ) → Type 0
PolygonRefused mode s way polygon code item =
    Refused mode s code item
    ⊎ ((code ≡ 41) × (item ≡ 0) × (n : Sheet) × (sets : List (List ℕ)) × HasOwners mode s n sets × (OnSheet n polygon → ⊥))
    ⊎ ((code ≡ 54) × (item ≡ 0) × (n : Sheet) × (sets : List (List ℕ)) × HasOwners mode s n sets × OnSheet n polygon × (KnownWay way → ⊥))
    ⊎ ((code ≡ 30) × (item ≡ 0) × (n : Sheet) × (sets : List (List ℕ)) × HasOwners mode s n sets × OnSheet n polygon × KnownWay way × NoOwner sets)
