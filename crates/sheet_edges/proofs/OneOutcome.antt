-- Two outcomes that the contract of `polygon`, or that of `corners`, allows are equal: every number handed back and every number of the lists afterwards.
-- The idea: a corner's number is told by its point, so edges and triangles tell the lists they were laid down in. Assumes nothing.
use mathlib.Core.Path.{◌≡◌, refl, sym, ◌∙◌, ap, ap₂}
use mathlib.Core.List.{List, [], ◌∷◌, ◌++◌, map}
use Prim.Native.Nat.{ℕ, ◌+◌, ◌*◌}
use native.Mathlib.Omega.{arith}
use lib.ListN.{length, take, drop, length-map, length-drop, take-append-drop}
use lib.Seq.{length-take-le}
use Rattle.plane.specs.Points.{Triangle}
use Rattle.plane.specs.Members.{member_edges}
use Rattle.plane.specs.Corners.{millimetres}
use Rattle.plane.specs.Keys.{point_at, pairs, points_at}
use Rattle.plane.proofs.Keys.{point_at-injective}
use Rattle.table.specs.Table.{corners}
use Rattle.table.specs.Sides.{triangles_of}
use Rattle.table.proofs.Bounds.{corners_points}
use Rattle.sheet_form.specs.Numbers.{member_numbers}
use Rattle.sheet_edges.specs.declared.Laid.{Laid}
use Rattle.sheet_edges.specs.Standing.{Room, LaysDown}

-- Corners at the same points are the same numbers.
same_corners : (a b : List ℕ) → points_at a ≡ points_at b → a ≡ b
same_corners [] [] e = refl
same_corners [] (v ∷ b) e = absurd (let z = ap length e in omega arith)
same_corners (u ∷ a) [] e = absurd (let z = ap length e in omega arith)
same_corners (u ∷ a) (v ∷ b) e = ap₂ {C = List ℕ} ◌∷◌ (point_at-injective u v (cc)) (same_corners a b (cc))

-- The points where edges begin, and where they end.
starts_of : (a b : List ℕ) → length b ≡ length a → map (λ e. e.from) (pairs a b) ≡ points_at a
starts_of [] b h = refl
starts_of (u ∷ a) [] h = absurd (omega arith)
starts_of (u ∷ a) (v ∷ b) h = ap (λ l. point_at u ∷ l) (starts_of a b (omega arith))

ends_of : (a b : List ℕ) → length b ≡ length a → map (λ e. e.to) (pairs a b) ≡ points_at b
ends_of [] [] h = refl
ends_of [] (v ∷ b) h = absurd (omega arith)
ends_of (u ∷ a) [] h = absurd (omega arith)
ends_of (u ∷ a) (v ∷ b) h = ap (λ l. point_at v ∷ l) (ends_of a b (omega arith))

-- `corners`: the table's corners are told by the table.
pub one_table : (table : List Triangle) (a b : List ℕ) → length a ≡ 3 * length table → length b ≡ 3 * length table → triangles_of a ≡ table → triangles_of b ≡ table → a ≡ b
one_table table a b h k e f =
    same_corners a b (sym (corners_points (length table) a h) ∙ ap corners (e ∙ sym f) ∙ corners_points (length table) b k)

-- `polygon`: the polygon that stands at the place tells both lists, the number of its edges, and the place behind it.
module _ {numbers from₀ to₀ : List ℕ} {at : ℕ} (room : Room member_numbers member_edges numbers at 0 from₀ to₀) where
  module _ {from to : List ℕ} {r : Laid} (p : LaysDown numbers at from₀ to₀ from to r) where
    fill_is : r.fill ≡ length (member_edges room.thing)
    fill_is = p.many room.thing room.rest room.numbers_at

    place_is : length numbers ≡ r.at + length room.rest
    place_is =
        let e = ap length (p.behind room.thing room.rest room.numbers_at) in
        omega (arith, e, length-map (drop r.at numbers) millimetres, length-drop r.at numbers, p.within room.thing room.rest room.numbers_at)

    from_long : length (take r.fill from) ≡ r.fill
    from_long = length-take-le r.fill from (omega (arith, fill_is, p.from_length, room.from_room))

    to_long : length (take r.fill to) ≡ r.fill
    to_long = length-take-le r.fill to (omega (arith, fill_is, p.to_length, room.to_room))

    starts_are : points_at (take r.fill from) ≡ map (λ e. e.from) (member_edges room.thing)
    starts_are = sym (starts_of (take r.fill from) (take r.fill to) (to_long ∙ sym from_long)) ∙ ap (map (λ e. e.from)) (p.edges room.thing room.rest room.numbers_at)

    ends_are : points_at (take r.fill to) ≡ map (λ e. e.to) (member_edges room.thing)
    ends_are = sym (ends_of (take r.fill from) (take r.fill to) (to_long ∙ sym from_long)) ∙ ap (map (λ e. e.to)) (p.edges room.thing room.rest room.numbers_at)

  -- Lists with one front, and behind it what stood there before.
  whole : (l a b : List ℕ) (n k : ℕ) → n ≡ k → take n a ≡ take k b → drop n a ≡ drop n l → drop k b ≡ drop k l → a ≡ b
  whole l a b n k e f g h =
      sym (take-append-drop n a) ∙ ap₂ ◌++◌ f (g ∙ ap (λ i. drop i l) e ∙ sym h) ∙ take-append-drop k b

  pub one_outcome : {from to from' to' : List ℕ} {r r' : Laid} → LaysDown numbers at from₀ to₀ from to r → LaysDown numbers at from₀ to₀ from' to' r' → (r ≡ r') × (from ≡ from') × (to ≡ to')
  one_outcome {from} {to} {from'} {to'} {r} {r'} p q =
      let n : r.fill ≡ r'.fill = fill_is p ∙ sym (fill_is q) in
      let k : r.at ≡ r'.at = omega (arith, place_is p, place_is q) in (
        ap₂ {C = Laid} (λ at fill. record { at = at; fill = fill }) k n,
        whole from₀ from from' r.fill r'.fill n (same_corners (take r.fill from) (take r'.fill from') (starts_are p ∙ sym (starts_are q))) p.from_behind q.from_behind,
        whole to₀ to to' r.fill r'.fill n (same_corners (take r.fill to) (take r'.fill to') (ends_are p ∙ sym (ends_are q))) p.to_behind q.to_behind,
      )
