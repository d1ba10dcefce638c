-- How long an answer is at most: a listing has 6,600 bytes, and a polygon no more boundary sides than the table has sides. The idea: a line has a
-- word, a number of at most 20 digits and one of at most 20 with a sign, and a sheet has at most 64 polygons, with two lines each; boundary sides
-- are some of the sides of some of the triangles. Assumes nothing.
use mathlib.Core.Path.{◌≡◌}
use mathlib.Core.Bool.{Bool}
use mathlib.Core.List.{List, [], ◌∷◌, ◌++◌, map, flat_map}
use Prim.Native.Nat.{ℕ, zero, suc, ◌+◌, ◌*◌, ◌/◌, ◌%◌, ◌≤◌}
use native.Mathlib.Nat.{mul-suc}
use native.Mathlib.Omega.{arith}
use lib.Dec.{leb}
use lib.IntN.{ℤ, pos, negsuc}
use lib.ListN.{length, length-append, length-map}
use Rattle.whole.specs.Sums.{every, sum, passing}
use Rattle.whole.proofs.Tests.{by_cond}
use Rattle.plane.specs.Points.{Triangle, sides, double}
use Rattle.plane.specs.Boundaries.{sides_of}
use Rattle.plane.specs.Members.{double_area}
use Rattle.lent.specs.Stages.{Answer, value, refused}
use Rattle.owners_marks.specs.Marks.{standing_by}
use Rattle.repair_regions.specs.Regions.{from}
use Rattle.repair_regions.proofs.Regions.{length_map_from}
use Rattle.repair_sides.specs.Sides.{unmatched, boundary_sides, owned_by, triangles_owned}
use Rattle.listing_figures.proofs.Totals.{chosen_fewer}
use Rattle.sheet_form.specs.Numbers.{Sheet}
use Rattle.judged.specs.Judged.{Judged, repair_of}
use Rattle.lent_text.specs.Text.{digits, decimal, decimal_of, line_of}
use Rattle.listing_lines.specs.Lines.{sheet_word, polygon_word, gap_word, overlap_word, after_word, refused_word, clean_line, repair_line, numbered}
use Rattle.listing.specs.Listing.{figure_line, gaps_of, overlaps_of, verdict_line, after_lines, head_of, listing_of}
use Rattle.listing_figures.specs.Standings.{is_single}
use Rattle.outcomes.specs.Entries.{owned_sides}

-- ---- lines
digits_most : (most n : ℕ) → length (digits most n) ≤ most
digits_most zero n = omega arith
digits_most (suc most) n =
    by_cond (λ l. length l ≤ suc most) (leb n 9) ((48 + n) ∷ []) (digits most (n / 10) ++ (48 + n % 10) ∷ []) (λ t. omega arith)
    (omega (arith, length-append (digits most (n / 10)) ((48 + n % 10) ∷ []), digits_most most (n / 10)))

decimal_most : (n : ℕ) → length (decimal n) ≤ 20
unfolding decimal
decimal_most n = digits_most 20 n

signed_most : (z : ℤ) → length (decimal_of z) ≤ 21
signed_most (pos n) = omega (arith, decimal_most n)
signed_most (negsuc n) = omega (arith, decimal_most (suc n))

module _ (word : List ℕ) where
  pub line_most : (a : ℕ) (b : ℤ) → length (line_of word (pos a) b) ≤ length word + 44
  line_most a b =
      omega (arith, length-append (word ++ 32 ∷ decimal a ++ 32 ∷ decimal_of b) (10 ∷ []), length-append (word ++ 32 ∷ decimal a) (32 ∷ decimal_of b), length-append word (32 ∷ decimal a), decimal_most a, signed_most b)

  numbered_most : (k : ℕ) (l : List ℤ) → length (numbered word k l) ≤ (length word + 44) * length l
  numbered_most k [] = omega arith
  numbered_most k (b ∷ l) =
      omega (arith, length-append (line_of word (pos k) b) (numbered word (suc k) l), line_most k b, numbered_most (suc k) l, mul-suc (length word + 44) (length l))

-- ---- the listing of a judged sheet
verdict_most : (owners : List (List ℕ)) → length (verdict_line owners) ≤ 15
verdict_most owners = by_cond (λ l. length l ≤ 15) (every (λ o. is_single (standing_by o)) owners) clean_line repair_line (λ t. omega arith) (omega arith)

module _ (n : Sheet) (few : length n.polygons ≤ 64) where
  head_most : (owners : List (List ℕ)) → length (head_of n owners) ≤ 3426
  head_most owners =
      let first = line_of sheet_word (pos (length n.table)) (pos (length n.polygons)) in
      let lines = numbered polygon_word 1 (map double_area n.polygons) in
      let gap = figure_line gap_word (gaps_of n.table owners) in
      let overlap = figure_line overlap_word (overlaps_of n.table owners) in
      omega (
        arith,
        length-append (first ++ lines ++ gap ++ overlap) (verdict_line owners),
        length-append (first ++ lines ++ gap) overlap,
        length-append (first ++ lines) gap,
        length-append first lines,
        line_most sheet_word (length n.table) (pos (length n.polygons)),
        numbered_most polygon_word 1 (map double_area n.polygons),
        length-map n.polygons double_area,
        line_most gap_word (length (gaps_of n.table owners)) (sum double (gaps_of n.table owners)),
        line_most overlap_word (length (overlaps_of n.table owners)) (sum double (overlaps_of n.table owners)),
        verdict_most owners,
      )

  after_most : (owners : Answer (List ℕ)) → length (after_lines n owners) ≤ 3136
  after_most (refused code item) = omega (arith, line_most refused_word code (pos item))
  after_most (value owners) =
      let area : ℕ → ℤ = λ polygon. sum double (triangles_owned n.table owners polygon) in
      omega (arith, numbered_most after_word 1 (map area (from 1 (length n.polygons))), length_map_from area 1 (length n.polygons))

pub listing_most : (way : ℕ) (j : Judged) → length j.sheet.polygons ≤ 64 → length (listing_of way j) ≤ 6600
listing_most way j few =
    omega (arith, length-append (head_of j.sheet j.owners) (after_lines j.sheet (repair_of way j)), head_most j.sheet few j.owners, after_most j.sheet few (repair_of way j))

-- ---- boundary sides
passing_fewer : {A : Type 0} (test : A → Bool) (l : List A) → length (passing test l) ≤ length l
passing_fewer test [] = omega arith
passing_fewer test (a ∷ l) =
    by_cond (λ m. length m ≤ suc (length l)) (test a) (a ∷ passing test l) (passing test l) (λ t. omega (arith, passing_fewer test l)) (omega (arith, passing_fewer test l))

pub sides_three : (l : List Triangle) → length (sides_of l) ≡ 3 * length l
unfolding flat_map
sides_three [] = omega arith
sides_three (t ∷ l) = omega (arith, length-append (sides t) (flat_map sides l), sides_three l)

pub sides_most : (n : Sheet) (polygon : ℕ) (owners : List ℕ) → length (owned_sides n polygon owners) ≤ 3 * length n.table
unfolding boundary_sides
sides_most n polygon owners =
    let owned = triangles_owned n.table owners polygon in
    omega (arith, passing_fewer (unmatched (sides_of owned)) (sides_of owned), sides_three owned, chosen_fewer n.table (owned_by polygon owners))
