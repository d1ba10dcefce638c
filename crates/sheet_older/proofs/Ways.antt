-- A ring that goes the wrong way is turned, another stays: by its double area, and by whether it is a first ring. Assumes nothing.
use mathlib.Core.Path.{◌≡◌, refl, sym, ◌∙◌, ap, subst}
use mathlib.Core.Bool.{Bool, true, false, cond}
use mathlib.Core.List.{List, [], ◌∷◌, ◌++◌, map, reverse}
use Prim.Native.Nat.{ℕ, ◌+◌, ◌-◌, ◌*◌}
use native.Mathlib.Omega.{arith}
use lib.IntN.{ℤ, pos}
use lib.ListN.{length, get_or}
use lib.Signed.{lt_z}
use Rattle.whole.specs.Sums.{All}
use Rattle.whole.proofs.Sums.{all_take}
use Rattle.plane.specs.Members.{Ring}
use Rattle.plane.specs.Keys.{Held}
use Rattle.plane_rings.specs.Rings.{ring_area}
use Rattle.plane_rings.specs.Closed.{RingLimits}
use Rattle.plane_rings.specs.Turning.{negative, positive, outward, inward, turn_polygon}
use Rattle.sheet_form.specs.Numbers.{point_numbers, ring_numbers}
use Rattle.sheet_sums.specs.Standing.{RingAt}
use Rattle.sheet_sums.proofs.Summing.{points_length}
use Rattle.sheet_older.specs.Standing.{Stands, Turns, turn_ring}
use Rattle.sheet_older.proofs.Places.{stands_behind, stands_count, stands_past}

-- The rings left, as they are turned: with a first ring among them, or all later ones.
abbrev pub onward : Bool → List Ring → List Ring
onward first l = cond first (turn_polygon l) (map inward l)

pub onward_one : (first : Bool) (r : Ring) (l : List Ring) → onward first (r ∷ l) ≡ turn_ring first r ∷ onward false l
onward_one true r l = refl
onward_one false r l = refl

pub onward_none : (first : Bool) → onward first [] ≡ []
onward_none true = refl
onward_none false = refl

-- What the test says of the ring.
pub turned_yes : (first : Bool) (r : Ring) → cond first (negative r) (positive r) ≡ true → turn_ring first r ≡ reverse r
unfolding outward inward
turned_yes true r e = ap (λ b. cond b (reverse r) r) e
turned_yes false r e = ap (λ b. cond b (reverse r) r) e

pub turned_no : (first : Bool) (r : Ring) → cond first (negative r) (positive r) ≡ false → turn_ring first r ≡ r
unfolding outward inward
turned_no true r e = ap (λ b. cond b (reverse r) r) e
turned_no false r e = ap (λ b. cond b (reverse r) r) e

-- The ring stands at the place for the sum of its double area.
pub ring_at : {numbers : List ℕ} {at : ℕ} {front : List ℤ} (r : Ring) (rest : List ℤ)
    → All Held numbers → RingLimits r → Stands numbers at front (ring_numbers r ++ rest) → RingAt numbers at r rest
ring_at {numbers} {at} r rest held fits s = record { held = all_take Held (at + 1 + 2 * length r) numbers held; numbers_at = stands_behind s; limits = fits }

module _ (first : Bool) {numbers : List ℕ} {at : ℕ} {area : ℤ} (held : All Held numbers)
    (sum : (r : Ring) (rest : List ℤ) → RingAt numbers at r rest → area ≡ ring_area r) where
  same_test : {front : List ℤ} (r : Ring) (rest : List ℤ) → RingLimits r → Stands numbers at front (ring_numbers r ++ rest)
      → cond first (lt_z area (pos 0)) (lt_z (pos 0) area) ≡ cond first (negative r) (positive r)
  same_test r rest fits s = ap (λ z. cond first (lt_z z (pos 0)) (lt_z (pos 0) z)) (sum r rest (ring_at r rest held fits s))

  pub way_turned : {numbers' : List ℕ} {next : ℕ} → cond first (lt_z area (pos 0)) (lt_z (pos 0) area) ≡ true → Turns ring_numbers reverse RingLimits numbers at numbers' next
      → Turns ring_numbers (turn_ring first) RingLimits numbers at numbers' next
  way_turned {numbers'} {next} e w =
      record {
        held = w.held;
        long = w.long;
        reads = λ front r rest fits s. subst (λ q. Stands numbers' next (front ++ ring_numbers q) rest)
            (sym (turned_yes first r (sym (same_test r rest fits s) ∙ e))) (w.reads front r rest fits s);
      }

  pub way_stays : cond first (lt_z area (pos 0)) (lt_z (pos 0) area) ≡ false
      → Turns ring_numbers (turn_ring first) RingLimits numbers at numbers (at + 1 + 2 * (get_or numbers at 0 - 10_000_000))
  way_stays e =
      record {
        held = held;
        long = refl;
        reads = λ front r rest fits s. let c = stands_count point_numbers r rest s in
            subst (λ q. Stands numbers (at + 1 + 2 * (get_or numbers at 0 - 10_000_000)) (front ++ ring_numbers q) rest) (sym (turned_no first r (sym (same_test r rest fits s) ∙ e)))
            (stands_past (ring_numbers r) (omega (arith, points_length r, c.1)) s);
      }
