-- A judged sheet as the code holds it: the sheet in numbers, its owner sets, and the side across each side.
use Rattle.std.specs.Prelude.{◌≡◌, Bool, true, List, Result, Ok, Err, map, ℕ, ◌*◌, ◌/◌, ◌≤◌, min, length, take}
use Rattle.std.proofs.Math.Option.{Option, none}
use Rattle.plane.specs.Boundaries.{sides_of}
use Rattle.lent.specs.Stages.{Answer, value}
use Rattle.lent.specs.Refusals.{refused_as}
use Rattle.lent.specs.declared.Refusal.{Refusal}
use Rattle.table.specs.Opposites.{opposites}
use Rattle.owners_marks.specs.Marks.{set_of}
use Rattle.owners_marks.specs.Sets.{owners_of}
use Rattle.sheet_form.specs.Numbers.{Sheet, members}
use Rattle.sheet.specs.Held.{SheetHeld}
use Rattle.sheet_turned.specs.Rings.{RingsFit}
use Rattle.sheet_modes.specs.Held.{Room}
use Rattle.judged.specs.Judged.{Judged, judge_indexed, judged_with}

-- What a sheet comes to with no index.
abbrev pub judge_framed : Bool → Sheet → Answer Judged
judge_framed = judge_indexed none

-- What a sheet by itself comes to: with no envelope, or one that is the frame.
abbrev pub judge_sheet : Sheet → Answer Judged
judge_sheet n = judge_framed true n

-- The judged sheet j: it stands at the front of `numbers`, its rings are closed and within the limits, its owner sets are `sets`, each the 64-bit form of a triangle's owners, and `opposite` has
-- for each side of its table the number of its reverse.
pub record JudgedHeld (j : Judged) (numbers opposite sets : List ℕ) : Type 0 where
  pub size : ℕ
  pub held : SheetHeld members j.sheet (take size numbers)
  pub rings : RingsFit j.sheet
  pub comes : judge_sheet j.sheet ≡ value j
  pub crossed : opposite ≡ opposites (sides_of j.sheet.table)
  pub sets_are : sets ≡ map set_of j.owners
  pub owners_are : map owners_of sets ≡ j.owners

-- The three lists have room for what any sheet of these bytes comes to: for the largest sheet, or for a number to four bytes and six numbers to a triangle.
abbrev pub Rooms : List ℕ → List ℕ → List ℕ → List ℕ → Type 0
Rooms s numbers opposite sets = Room s numbers × (min 3072 (length s / 8) ≤ length opposite) × (min 1024 (length s / 24) ≤ length sets)

-- The answer with its three lists is what the bytes come to in the mode, with an index or none: a judged sheet of t triangles, held at the fronts of the lists, or the
-- refusal.
abbrev pub JudgedAs : Option (List ℕ) → ℕ → List ℕ → Result ℕ Refusal → List ℕ → List ℕ → List ℕ → Type 0
JudgedAs index mode s (Ok t) numbers opposite l = (j : Judged) × (judged_with index mode s ≡ value j) × (length j.sheet.table ≡ t) × JudgedHeld j numbers (take (3 * t) opposite) (take t l)
JudgedAs index mode s (Err r) numbers opposite l = judged_with index mode s ≡ refused_as r
