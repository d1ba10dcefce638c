-- Demand 2: "Sheets are read .. as OGC Simple Features lays down its binary form."
-- Assumes nothing.
use mathlib.Core.Path.{◌≡◌, refl, ap}
use mathlib.Core.Logic.{◌↔◌}
use mathlib.Core.List.{List}
use Prim.Native.Nat.{ℕ, ◌≤◌, ◌<◌}
use native.Mathlib.Omega.{arith}
use lib.Ieee.{Float}
use lib.IntN.{ℤ}
use lib.ListN.{length}
use Rattle.whole.specs.Numbers.{Within}
use Rattle.whole.specs.Sums.{All}
use Rattle.sheet_coordinate.specs.Coordinate.{Equals, held_of, coordinate_of}
use Rattle.std.specs.Prelude.{Some}
use Rattle.sheet_coordinate.proofs.Meaning
use Rattle.lent.specs.declared.Reason.{Reason}
use Rattle.lent.specs.declared.Reason.TheVariants.{Short}
use Rattle.wkb.specs.declared.Cursor.{Cursor}
use Rattle.wkb.specs.declared.Step.TheVariants.{End, Refused}
use Rattle.wkb.specs.Standard.{Geometry, encode}
use Rattle.wkb.specs.Steps.{step_at}
use Rattle.wkb.proofs.Again
use Rattle.lent.specs.Stages.{Answer, value, refused}
use Rattle.sheet_form.specs.Numbers.{Sheet, members}
use Rattle.sheet_standard.specs.Limits.{SheetFits, sheet_of}
use Rattle.sheet_standard.proofs.Standard.{reads_the_standard as by_steps}
use Rattle.sheet.specs.Read.{read_sheet}
use Rattle.sheet_written.proofs.Held.{read_sheet_is}
use Rattle.sheet_written.proofs.Sized.{read_small}

-- Reading bytes answers the sheet n exactly if some tree of the standard's geometries within the limits has these bytes and unfolds to n.
pub reads_the_standard : (s : List ℕ) → All (λ b. b < 256) s → (n : Sheet) → (read_sheet members s ≡ value n) ↔ ((g : Geometry) × SheetFits members g × (encode g ≡ s) × (sheet_of g ≡ n))
reads_the_standard s bytes n =
    let r = read_sheet_is members s n in
    let t = by_steps members (omega arith) s bytes n in
    (λ e. t.0 (r.0 e), λ g. r.1 (t.1 g))

-- Bytes that no such tree has are refused, with a code and an item.
pub refuses_the_rest : (s : List ℕ) → All (λ b. b < 256) s → ((g : Geometry) → SheetFits members g → encode g ≡ s → ⊥) → (code : ℕ) × (item : ℕ) × (read_sheet members s ≡ refused code item)
refuses_the_rest s bytes no-tree = go (read_sheet members s) refl
  where
    go : (r : Answer Sheet) → read_sheet members s ≡ r → (code : ℕ) × (item : ℕ) × (r ≡ refused code item)
    go (value n) e = absurd (let g = (reads_the_standard s bytes n).0 e in no-tree g.0 g.1 g.2)
    go (refused code item) e = (code, item, refl)

-- Bytes that are read as a sheet are at most 185,938.
pub longest : (s : List ℕ) → All (λ b. b < 256) s → (n : Sheet) → read_sheet members s ≡ value n → length s ≤ 185_938
longest s bytes n e = let (g, fits, is, unfolds) = (reads_the_standard s bytes n).0 e in omega (arith, ap length is, read_small members g fits)

-- ---- "Reading goes by steps .. Each step takes the reading place and hands back the next one."
-- "After the end or a refusal it answers the same again";
pub end_again : (s : List ℕ) (c d : Cursor) → step_at s c ≡ End d → step_at s d ≡ End d
end_again = Again.end_again

pub refused_again : (s : List ℕ) (c d : Cursor) (reason : Reason) (item field : ℕ) → step_at s c ≡ Refused reason item field d → step_at s d ≡ Refused reason item field d
refused_again = Again.refused_again

-- "a place past the bytes answers 1, with the member that the place names."
pub past : (s : List ℕ) (c : Cursor) → length s < c.at → step_at s c ≡ Refused Short c.member c.at c
past = Again.past

-- "A double is a coordinate if it is a whole number from -10,000,000 to 10,000,000 (millimetres) .. The whole number then equals the double exactly."
pub coordinate_is : (x : Float) (n : ℤ) → Within 10_000_000 n → (coordinate_of x ≡ Some (held_of n)) ↔ Equals x n
coordinate_is = Meaning.coordinate_is
