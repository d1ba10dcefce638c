-- The table's corners off the bytes of the numbers form that gives a sheet, and its frame from the last corner to the first. The idea: the numbers form
-- begins with the triangle count and the coordinates of the corners, each in range; one corner more widens the frame. Assumes nothing.
use mathlib.Core.Path.{◌≡◌, sym, ◌∙◌, ap, subst}
use mathlib.Core.Bool.{true}
use mathlib.Core.List.{List, ◌∷◌, ◌++◌, flat_map}
use mathlib.Core.Option.{some}
use mir.Syntax.{w32}
use mir.Val.{to_z}
use Prim.Native.Nat.{ℕ, suc, ◌+◌, ◌-◌, ◌*◌, ◌/◌, ◌^◌, ◌≤◌, ◌<◌}
use native.Mathlib.Omega.{arith}
use lib.IntN.{ℤ, pos, negsuc}
use lib.ListN.{length, get_or}
use Rattle.whole.specs.Numbers.{Within}
use Rattle.whole.specs.Sums.{All}
use Rattle.whole.proofs.Sums.{all_at}
use Rattle.lent_little.specs.Ordered.{word_at}
use Rattle.table.specs.Table.{corners}
use Rattle.sheet_form.specs.Numbers.{Sheet, members, point_numbers, member_numbers, counted}
use Rattle.sheet_form.specs.Form.{numbers_in}
use Rattle.sheet_written.specs.Fits.{origin}
use Rattle.sheet_written.specs.Given.{sheet_given}
use Rattle.sheet_written.proofs.Given.{given_is}
use Rattle.sheet_written.proofs.Held.{Small, numbers_small}
use Rattle.sheet_written.proofs.Normal.{from_to_lem, tests}
use Rattle.sheet_writer.proofs.Numbers.{numbers_length, number_behind, by_order, signed_low, signed_high}
use Rattle.sheet_framed.proofs.Corners.{corner_numbers, corner_count, Stands, stands}
use Rattle.sheet_blob_writer.specs.Corners.{point_in, CornerIn}

-- Bits that are a count.
count_is : (w t : ℕ) → w < 2 ^ 32 → to_z w32 w ≡ pos t → w ≡ t
count_is w t h e = by_order w 2_147_483_648 (λ l. let q : pos w ≡ pos t = sym (signed_low w l) ∙ e in cc q) (λ l. let q : negsuc (4_294_967_296 - suc w) ≡ pos t = sym (signed_high w l) ∙ e in let z : ◌≡◌ {A = ℕ} 0 1 = cc q in absurd (omega arith))

-- ---- the sheet that is given
module _ (s : List ℕ) (n : Sheet) (e : sheet_given members s ≡ some n) where
  abbrev rest : List ℤ
  rest = counted member_numbers n.polygons

  few : (2 ≤ length n.table) × (length n.table ≤ 1024)
  few = from_to_lem 2 1024 (length n.table) (tests members n ((given_is members s n).0 e).1).table

  form : numbers_in s ≡ pos (length n.table) ∷ flat_map point_numbers (corners n.table) ++ rest
  form = sym ((given_is members s n).0 e).2 ∙ ap (λ l. pos (length n.table) ∷ l ++ rest) (corner_numbers n.table)

  small : All Small (numbers_in s)
  small = rw (← ((given_is members s n).0 e).2) (numbers_small members n (omega arith) ((given_is members s n).0 e).1)

  -- The triangle count stands first.
  pub four : 4 ≤ length s
  four = omega (arith, numbers_length s, ap length form)

  pub counts : (w : ℕ) → w < 2 ^ 32 → w ≡ word_at true s 0 → (w ≡ length n.table) × (2 ≤ w) × (w ≤ 1024)
  counts w h q =
      let l : 0 < length s / 4 = omega (arith, numbers_length s, ap length form) in
      let c : w ≡ length n.table = count_is w (length n.table) h (ap (to_z w32) q ∙ sym (number_behind s 0 0 l) ∙ ap (λ m. get_or m 0 (pos 0)) form) in
      (c, omega (arith, few.0), omega (arith, few.1))

  -- Then the corners, in range.
  module _ (i : ℕ) (h : i < 3 * length n.table) where
    corner_stands : Stands (corners n.table) rest i
    corner_stands = stands (corners n.table) rest i (omega (arith, corner_count n.table))

    long : 2 * i + 3 ≤ length (numbers_in s)
    long = omega (arith, ap length form, corner_stands.there)

    -- A number of it, by its place among the numbers and among the bytes.
    number_at : (k at : ℕ) → k < length (numbers_in s) → 4 * k ≡ at → (get_or (numbers_in s) k (pos 0) ≡ to_z w32 (word_at true s at)) × Within 10_000_000 (to_z w32 (word_at true s at))
    number_at k at l e =
        let z : 0 + k < length s / 4 = omega (arith, numbers_length s) in
        let f : 4 * (0 + k) ≡ at = omega arith in
        let g = number_behind s 0 k z ∙ ap (λ a. to_z w32 (word_at true s a)) f in
        (g, record { size = subst Small g (all_at Small (pos 0) (numbers_in s) k small l) })

    first : (get_or (numbers_in s) (suc (2 * i)) (pos 0) ≡ (point_in s i).x) × Within 10_000_000 (point_in s i).x
    first = number_at (suc (2 * i)) (8 * i + 4) (omega (arith, long)) (omega arith)

    second : (get_or (numbers_in s) (suc (2 * i + 1)) (pos 0) ≡ (point_in s i).y) × Within 10_000_000 (point_in s i).y
    second = number_at (suc (2 * i + 1)) (8 * i + 8) (omega (arith, long)) (omega arith)

    pub corner_in : CornerIn s i
    corner_in = record { there = omega (arith, long, numbers_length s); x = first.1; y = second.1 }

    pub corner_is : point_in s i ≡ get_or (corners n.table) i origin
    corner_is =
        let x = sym first.0 ∙ ap (λ m. get_or m (suc (2 * i)) (pos 0)) form ∙ corner_stands.x in
        let y = sym second.0 ∙ ap (λ m. get_or m (suc (2 * i + 1)) (pos 0)) form ∙ corner_stands.y in
        λ j. record { x = x j; y = y j }
