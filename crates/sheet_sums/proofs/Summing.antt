-- Summing up along a ring that stands among held numbers: Summing is the invariant of the loop.
-- The idea: what is summed up so far, and what the points left give, are together the double area; x is counted from where it is held from, which a closed
-- ring's sum does not show. Assumes nothing.
use mathlib.Core.Path.{◌≡◌, refl, sym, ◌∙◌, ap, ap₂, subst}
use mathlib.Core.List.{List, [], ◌∷◌, ◌++◌, map, flat_map}
use Prim.Native.Nat.{ℕ, zero, suc, ◌+◌, ◌-◌, ◌*◌, ◌^◌, ◌≤◌, ◌<◌}
use native.Mathlib.Omega.{arith}
use lib.IntN.{ℤ, pos, ◌+ℤ◌, ◌-ℤ◌, ◌*ℤ◌}
use lib.ListN.{length, get_or, take, drop, length-take}
use lib.Seq.{get_or-take}
use mir.Syntax.{w64}
use lib.Signed.{mag}
use mir.Val.{SFits, to_z, of_z}
use mir.Facts.{to_z-of_z}
use Rattle.whole.specs.Numbers.{Within}
use Rattle.whole.specs.Polynomials.{con, ◌:+◌, ◌:-◌, ◌:*◌, ◌:=◌}
use Rattle.whole.proofs.Ring.{solve}
use Rattle.whole.proofs.Bound.{within_add, within_fits, returned}
use Rattle.whole.proofs.Sums.{all_at}
use Rattle.plane.specs.Points.{Point}
use Rattle.plane.specs.Members.{Ring, edges}
use Rattle.plane.specs.Corners.{millimetres}
use Rattle.plane.specs.Keys.{Held}
use Rattle.plane_rings.specs.Rings.{ring_area}
use Rattle.plane_rings.specs.Closed.{origin}
use Rattle.plane_rings.proofs.Areas.{along_by, moved_sum, edges_length}
use Rattle.sheet_form.specs.Numbers.{point_numbers}
use Rattle.sheet_edges.proofs.Walk.{count_first, point_first}
use Rattle.sheet_sums.specs.Standing.{RingAt}

-- What x is counted from.
abbrev shift : ℤ
shift = pos 10_000_000

-- The points to come, the closing point among them, stand from here on, up to the closing point; the y before them is held as `before`.
-- So many corners are summed up, and what they give and what is to come are together the double area.
pub record Summing (numbers : List ℕ) (r : Ring) (rest : List ℤ) (closing before here : ℕ) (total : ℤ) : Type 0 where
  pub from : Point
  pub todo : Ring
  pub corners : ℕ
  pub from_is : millimetres before ≡ from.y
  pub numbers_at : map millimetres (drop here numbers) ≡ flat_map point_numbers todo ++ rest
  pub ends : here + 2 * length todo ≡ closing + 2
  pub some : 1 ≤ length todo
  pub many : corners + length todo ≡ length r
  pub few : length r ≤ 4096
  pub small : Within (400_000_000_000_000 * corners) total
  pub sum_is : total +ℤ along_by shift (from ∷ todo) ≡ ring_area r

-- A point is two numbers.
pub points_length : (l : Ring) → length (flat_map point_numbers l) ≡ 2 * length l
unfolding flat_map
points_length [] = refl
points_length (p ∷ l) = omega (arith, points_length l)

-- The point of a number stands at its place.
point_stands : (numbers : List ℕ) (here : ℕ) (l : Ring) (rest : List ℤ) (i : ℕ)
    → map millimetres (drop here numbers) ≡ flat_map point_numbers l ++ rest → i < length l
    → (here + 2 * i + 1 < length numbers) × (millimetres (get_or numbers (here + 2 * i + 1) 0) ≡ (get_or l i origin).y)
unfolding flat_map
point_stands numbers here [] rest i s h = absurd (omega arith)
point_stands numbers here (p ∷ l) rest zero s h =
    let w = point_first numbers here p (flat_map point_numbers l ++ rest) s in
    let e : here + 2 * 0 + 1 ≡ here + 1 = omega arith in (omega arith, ap (λ k. millimetres (get_or numbers k 0)) e ∙ ap (λ q. q.y) w.1)
point_stands numbers here (p ∷ l) rest (suc i) s h =
    let w = point_first numbers here p (flat_map point_numbers l ++ rest) s in
    let v = point_stands numbers (here + 2) l rest i w.2 (omega arith) in
    let e : here + 2 * suc i + 1 ≡ here + 2 + 2 * i + 1 = omega arith in (omega arith, ap (λ k. millimetres (get_or numbers k 0)) e ∙ v.1)

module _ {numbers : List ℕ} {at : ℕ} {r : Ring} {rest : List ℤ} (w : RingAt numbers at r rest) where
  -- A number of the ring is one of a coordinate.
  pub ring_held : (i : ℕ) → i < at + 1 + 2 * length r → i < length numbers → Held (get_or numbers i 0)
  ring_held i h k =
      subst Held (get_or-take (at + 1 + 2 * length r) numbers i 0 h)
      (all_at Held 0 (take (at + 1 + 2 * length r) numbers) i w.held (omega (arith, length-take (at + 1 + 2 * length r) numbers)))

  -- The count of the ring's points, its closing point, and the y of the last but one.
  pub ring_first : (at < length numbers) × (get_or numbers at 0 ≡ length r + 10_000_000) × (at + 2 * length r < length numbers)
  ring_first =
      let c = count_first point_numbers numbers at r rest w.numbers_at in
      let l = w.limits.low in
      let p = point_stands numbers (at + 1) r rest (length r - 1) c.2 (omega arith) in
      (c.0, c.1, omega (arith, p.0))

  -- Nothing is summed up.
  pub summing_begin : (corners here : ℕ) → corners ≡ get_or numbers at 0 - 10_000_000 - 1 → here ≡ at + 1
      → Summing numbers r rest (at + 2 * corners + 1) (get_or numbers (at + 2 * corners) 0) here (pos 0)
  summing_begin corners here e f =
      let c = count_first point_numbers numbers at r rest w.numbers_at in
      let l = w.limits.low in
      let h = w.limits.high in
      let p = point_stands numbers (at + 1) r rest (length r - 2) c.2 (omega arith) in
      let k : at + 2 * corners ≡ at + 1 + 2 * (length r - 2) + 1 = omega arith in
      record {
        from = get_or r (length r - 2) origin;
        todo = r;
        corners = 0;
        from_is = ap (λ i. millimetres (get_or numbers i 0)) k ∙ p.1;
        numbers_at = rw f c.2;
        ends = omega arith;
        some = omega arith;
        many = omega arith;
        few = h;
        small = record { size = omega arith };
        sum_is = solve 1 (λ z. con (pos 0) :+ z := z) tt (along_by shift (get_or r (length r - 2) origin ∷ r)) ∙ moved_sum shift r w.limits.closed;
      }

-- The same place, counted otherwise.
pub summing_as : {numbers : List ℕ} {r : Ring} {rest : List ℤ} {closing before here here' : ℕ} {total : ℤ} → Summing numbers r rest closing before here total → here ≡ here'
    → Summing numbers r rest closing before here' total
summing_as w e = rw e at w

-- A product of held numbers is that of the coordinates, x moved.
product_is : (x before after : ℕ) → pos x *ℤ (pos after -ℤ pos before) ≡ (millimetres x +ℤ shift) *ℤ (millimetres after -ℤ millimetres before)
product_is x before after = solve 4 (λ x b a k. x :* (a :- b) := ((x :- k) :+ k) :* ((a :- k) :- (b :- k))) tt (pos x) (pos before) (pos after) shift

module _ {numbers : List ℕ} {r : Ring} {rest : List ℤ} {closing before here : ℕ} {total : ℤ} (w : Summing numbers r rest closing before here total) where
  -- Before the closing point a corner stands, and a point behind it, no farther than the closing point.
  pub summing_two : here < closing → (here + 3 < length numbers) × (here + 2 ≤ closing)
  unfolding flat_map
  summing_two h = go w.todo w.numbers_at w.ends
    where
      go : (todo : Ring) → map millimetres (drop here numbers) ≡ flat_map point_numbers todo ++ rest → here + 2 * length todo ≡ closing + 2 → (here + 3 < length numbers) × (here + 2 ≤ closing)
      go [] s e = absurd (omega arith)
      go (q ∷ []) s e = absurd (omega arith)
      go (q ∷ t ∷ l) s e =
          let u = point_first numbers here q (point_numbers t ++ flat_map point_numbers l ++ rest) s in
          let v = point_first numbers (here + 2) t (flat_map point_numbers l ++ rest) u.2 in
          (omega (arith, v.0), omega arith)

  -- What is summed up fits.
  pub summing_fits : SFits w64 total
  summing_fits = within_fits (400_000_000_000_000 * w.corners) total (omega (arith, w.many, w.few)) w.small

  -- One corner more.
  pub summing_more : here < closing → (z : ℤ) → z ≡ pos (get_or numbers here 0) *ℤ (pos (get_or numbers (here + 3) 0) -ℤ pos before) → Within 400_000_000_000_000 z
      → Summing numbers r rest closing (get_or numbers (here + 1) 0) (here + 2) (total +ℤ z)
  unfolding flat_map
  summing_more h z e k = go w.todo w.numbers_at w.ends w.many w.sum_is
    where
      go : (todo : Ring) → map millimetres (drop here numbers) ≡ flat_map point_numbers todo ++ rest → here + 2 * length todo ≡ closing + 2 → w.corners + length todo ≡ length r
          → total +ℤ along_by shift (w.from ∷ todo) ≡ ring_area r → Summing numbers r rest closing (get_or numbers (here + 1) 0) (here + 2) (total +ℤ z)
      go [] s d f g = absurd (omega arith)
      go (q ∷ []) s d f g = absurd (omega arith)
      go (q ∷ t ∷ l) s d f g =
          let u = point_first numbers here q (point_numbers t ++ flat_map point_numbers l ++ rest) s in
          let v = point_first numbers (here + 2) t (flat_map point_numbers l ++ rest) u.2 in
          let y : here + 2 + 1 ≡ here + 3 = omega arith in
          let more : 400_000_000_000_000 * w.corners + 400_000_000_000_000 ≡ 400_000_000_000_000 * (w.corners + 1) = omega arith in
          let share : z ≡ (q.x +ℤ shift) *ℤ (t.y -ℤ w.from.y) =
          e ∙ product_is (get_or numbers here 0) before (get_or numbers (here + 3) 0)
          ∙ ap₂ (λ a b. (a +ℤ shift) *ℤ b) (ap (λ p. p.x) u.1) (ap₂ ◌-ℤ◌ (ap (λ i. millimetres (get_or numbers i 0)) (sym y) ∙ ap (λ p. p.y) v.1) w.from_is) in
          record {
            from = q;
            todo = t ∷ l;
            corners = w.corners + 1;
            from_is = ap (λ p. p.y) u.1;
            numbers_at = u.2;
            ends = omega arith;
            some = omega arith;
            many = omega arith;
            few = w.few;
            small = subst (λ n. Within n (total +ℤ z)) more (within_add (400_000_000_000_000 * w.corners) 400_000_000_000_000 total z w.small k);
            sum_is =
                solve 3 (λ u z a. u :+ z :+ a := u :+ (z :+ a)) tt total z (along_by shift (q ∷ t ∷ l)) ∙ ap (λ y. total +ℤ (y +ℤ along_by shift (q ∷ t ∷ l))) share ∙ g;
          }

  -- At the closing point nothing is left, and there was one corner for each edge.
  pub summing_done : closing ≤ here → (total ≡ ring_area r) × Within (400_000_000_000_000 * length (edges r)) total
  summing_done h = (
    go w.todo w.ends w.sum_is,
    let e : w.corners ≡ length (edges r) = omega (arith, w.ends, w.some, w.many, edges_length r) in subst (λ n. Within (400_000_000_000_000 * n) total) e w.small,
  )
    where
      none : total +ℤ pos 0 ≡ ring_area r → total ≡ ring_area r
      none g = solve 1 (λ u. u := u :+ con (pos 0)) tt total ∙ g

      go : (todo : Ring) → here + 2 * length todo ≡ closing + 2 → total +ℤ along_by shift (w.from ∷ todo) ≡ ring_area r → total ≡ ring_area r
      go [] d g = none g
      go (q ∷ []) d g = none g
      go (q ∷ t ∷ l) d g = absurd (omega arith)

-- One corner more, as the code adds it.
pub summing_added : {numbers : List ℕ} {r : Ring} {rest : List ℤ} {closing before here : ℕ} {total : ℤ} → Summing numbers r rest closing before here total → here < closing
    → (z : ℤ) → mag z < 2 ^ 63 → z ≡ pos (get_or numbers here 0) *ℤ (pos (get_or numbers (here + 3) 0) -ℤ pos before) → Within 400_000_000_000_000 z
    → SFits w64 (total +ℤ to_z w64 (of_z w64 z))
    × Summing numbers r rest closing (get_or numbers (here + 1) 0) (here + 2) (to_z w64 (of_z w64 (total +ℤ to_z w64 (of_z w64 z))))
summing_added w h z f e k =
    let s = summing_more w h z e k in
    rw (returned z f) (summing_fits s, rw (to_z-of_z {w = w64} (summing_fits s)) s)
