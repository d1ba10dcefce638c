-- The numbers form of a sheet with its rings turned is as long as that of the sheet. The idea: a ring has as many points as before. Assumes nothing.
use mathlib.Core.Path.{◌≡◌, refl, ◌∙◌, ap}
use mathlib.Core.List.{List, [], ◌∷◌, ◌++◌, map, flat_map}
use Prim.Native.Nat.{ℕ, suc, ◌*◌}
use native.Mathlib.Omega.{arith}
use lib.IntN.{ℤ}
use lib.ListN.{length, length-append}
use Rattle.plane.specs.Points.{Point}
use Rattle.plane.specs.Members.{Ring, Polygon, Member}
use Rattle.plane_rings.specs.Turning.{outward, inward, turn_polygon, turn_member}
use Rattle.plane_rings.proofs.Turning.{outward_length, inward_length}
use Rattle.sheet_form.specs.Numbers.{Sheet, point_numbers, triangle_numbers, counted, ring_numbers, part_numbers, member_numbers, numbers_of}
use Rattle.sheet_turned.specs.Turned.{turned}

-- Things each changed for one with as many numbers.
same_flat : {A : Type 0} (f : A → List ℤ) (g : A → A) → ((a : A) → length (f (g a)) ≡ length (f a)) → (l : List A) → length (flat_map f (map g l)) ≡ length (flat_map f l)
unfolding flat_map
same_flat f g h [] = refl
same_flat f g h (a ∷ l) = omega (arith, length-append (f (g a)) (flat_map f (map g l)), length-append (f a) (flat_map f l), h a, same_flat f g h l)

two_each : (r : Ring) → length (flat_map point_numbers r) ≡ 2 * length r
unfolding flat_map
two_each [] = refl
two_each (p ∷ r) = omega (arith, length-append (point_numbers p) (flat_map point_numbers r), two_each r)

ring_same : (r s : Ring) → length r ≡ length s → length (ring_numbers r) ≡ length (ring_numbers s)
ring_same r s e = ap suc (omega (arith, two_each r, two_each s))

part_same : (p : Polygon) → length (part_numbers (turn_polygon p)) ≡ length (part_numbers p)
unfolding flat_map
part_same [] = refl
part_same (r ∷ rs) =
    ap suc
    (omega (
      arith,
      length-append (ring_numbers (outward r)) (flat_map ring_numbers (map inward rs)),
      length-append (ring_numbers r) (flat_map ring_numbers rs),
      ring_same (outward r) r (outward_length r),
      same_flat ring_numbers inward (λ s. ring_same (inward s) s (inward_length s)) rs,
    ))

member_same : (m : Member) → length (member_numbers (turn_member m)) ≡ length (member_numbers m)
member_same m = ap suc (same_flat part_numbers turn_polygon part_same m)

pub turned_length : (n : Sheet) → length (numbers_of (turned n)) ≡ length (numbers_of n)
turned_length n =
    omega (
      arith,
      length-append (counted triangle_numbers n.table) (counted member_numbers (map turn_member n.polygons)),
      length-append (counted triangle_numbers n.table) (counted member_numbers n.polygons),
      same_flat member_numbers turn_member member_same n.polygons,
    )
