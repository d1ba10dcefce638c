-- Request No. 10: "the first ring of each polygon is turned round if its double area is negative, every later ring if positive. The caller names it or the present
-- mode." What holds in every mode is said with the mode in the other files: of demand 3 "the polygon" is there the polygon of the sheet read in the mode. Assumes nothing.
use mathlib.Core.Path.{◌≡◌, refl, sym, ◌∙◌, ap}
use mathlib.Core.Logic.{◌↔◌, inl}
use mathlib.Core.List.{List, [], ◌∷◌, reverse}
use mathlib.Core.Option.{none}
use Prim.Native.Nat.{ℕ, ◌<◌}
use native.Mathlib.Omega.{arith}
use lib.Dec.{T}
use lib.IntN.{pos, neg_ℤ}
use lib.ListN.{get_or}
use lib.Signed.{lt_z}
use Rattle.whole.specs.Sums.{All}
use Rattle.plane.specs.Points.{cross}
use Rattle.plane.specs.Members.{Ring, Polygon}
use Rattle.plane_rings.specs.Rings.{ring_area}
use Rattle.plane_rings.specs.Turning.{outward, inward, turn_polygon, turn_member}
use Rattle.plane_rings.specs.Directed.{Directed}
use Rattle.plane_rings.proofs.Areas
use Rattle.plane_rings.proofs.Turning as turning
use Rattle.lent.specs.Stages.{value, refused}
use Rattle.owners.specs.Examples.{at, ring, polygon, carried_by, sound, rectangle, answer}
use Rattle.owners.proofs.Examples.{starred}
use Rattle.sheet_form.specs.Numbers.{Sheet, members}
use Rattle.sheet.specs.Read.{read_sheet}
use Rattle.sheet_written.specs.Fits.{sheet_fits}
use Rattle.sheet_written.specs.Normal.{written}
use Rattle.sheet_turned.specs.Turned.{turned}
use Rattle.sheet_turned.proofs.Turned as sheets
use Rattle.sheet_turned.proofs.Trip.{turned_trip}
use Rattle.sheet_modes.specs.Modes.{older, plain, read_by}
use Rattle.sheet_modes.proofs.Modes.{by_refused, in_mode_value, in_mode_refused, by_present, by_fits, mode_unknown}

-- ---- turning
-- The double area of a ring with its points in reverse order is the negative;
pub area_reversed : (r : Ring) → ring_area (reverse r) ≡ neg_ℤ (ring_area r)
area_reversed = Areas.area_reverse

-- after turning no first ring has a negative double area, and no later ring a positive one; a polygon of which that holds stays as it is, a ring of double
-- area 0 with it;
pub rings_directed : (p : Polygon) → Directed (turn_polygon p)
rings_directed = turning.turned_directed

pub directed_stays : (p : Polygon) → Directed p → turn_polygon p ≡ p
directed_stays = turning.directed_stays

-- and turning twice is turning once.
pub turned_once : (n : Sheet) → turned (turned n) ≡ turned n
turned_once = sheets.turned_once

-- ---- reading
module _ (s : List ℕ) where
  -- Mode 0 is reading as document 01 has it; an unknown mode is refused 57, before everything else.
  pub mode_0 : read_by members 0 s ≡ read_sheet members s
  mode_0 = by_present members s

  pub mode_unread : (mode : ℕ) → 3 < mode → read_by members mode s ≡ refused 57 0
  mode_unread mode h = (by_refused members s mode 57 0).1 (inl (mode_unknown mode h))

  -- Mode 1 is the turning of what mode 0 reads, and is refused as mode 0 is.
  pub mode_1 : (n : Sheet) → (read_by members 1 s ≡ value n) ↔ ((m : Sheet) × (read_sheet members s ≡ value m) × (turned m ≡ n))
  mode_1 n = in_mode_value members s 1 (record { form = plain; edition = older }) none refl refl n

  pub mode_1_refused : (code item : ℕ) → (read_by members 1 s ≡ refused code item) ↔ (read_sheet members s ≡ refused code item)
  mode_1_refused code item = in_mode_refused members s 1 (record { form = plain; edition = older }) none refl refl code item

  -- What is read in any mode is within the limits.
  pub within_limits : All (λ b. b < 256) s → (mode : ℕ) (n : Sheet) → read_by members mode s ≡ value n → T (sheet_fits members n)
  within_limits all = by_fits members s (omega arith) all

-- "A sheet read in the older mode is written with its rings as turned, and both modes read that writing alike."
pub written_alike : (s : List ℕ) → All (λ b. b < 256) s → (n : Sheet) → read_by members 1 s ≡ value n → (read_by members 0 (written n) ≡ value n) × (read_by members 1 (written n) ≡ value n)
written_alike s all n e =
    let (m, r, t) = (mode_1 s n).0 e in
    let (p, q) = turned_trip members (omega arith) m (rw t (within_limits s all 1 n e)) in
    let back : read_sheet members (written n) ≡ value n = rw (← t) p in
    (mode_0 (written n) ∙ back, (mode_1 (written n) n).1 (n, back, rw (← t) q))

-- "Example 2 is carried there with 32."
clockwise_turned : turn_member (ring (at 0 0 ∷ at 0 4 ∷ at 4 4 ∷ at 4 0 ∷ [])) ≡ rectangle
unfolding outward ring_area cross
clockwise_turned = refl

pub example_2 : answer (polygon (turn_member (ring (at 0 0 ∷ at 0 4 ∷ at 4 4 ∷ at 4 0 ∷ [])))) ≡ value (carried_by 4 (pos 32))
example_2 = ap (λ m. answer (polygon m)) clockwise_turned ∙ ap (λ l. get_or l 1 (value sound)) starred
