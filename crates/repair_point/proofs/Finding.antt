-- The triangle that a point belongs to, off the held numbers: it is found at the first place where the point belongs to the triangle there. Assumes nothing.
use mathlib.Core.Path.{◌≡◌, sym, ◌∙◌, ap, ap₂, subst}
use mathlib.Core.Bool.{true, false}
use mathlib.Core.List.{List}
use mathlib.Core.Option.{Option, none, some}
use Prim.Native.Nat.{ℕ, suc, ◌+◌, ◌*◌, ◌<◌}
use native.Mathlib.Omega.{arith}
use lib.IntN.{ℤ}
use lib.ListN.{length, get_or}
use mir.Syntax.{w32}
use mir.Val.{SFits, to_z, of_z}
use mir.Facts.{to_z-of_z}
use Rattle.plane.specs.Points.{Point, Triangle}
use Rattle.plane.specs.Corners.{millimetres}
use Rattle.plane_winding.specs.Winding.{belongs}
use Rattle.table_points.specs.Points.{triangle_of}
use Rattle.table_points.proofs.Points.{found_at_lem, found_nowhere}
use Rattle.repair_regions.proofs.Regions.{map_from_at, length_map_from}
use Rattle.repair_point.specs.Held.{triangle_held, triangles_held}

-- The point whose numbers are read back from their 32 bits is the point.
abbrev pub bits : ℤ → ℤ → Point
bits x y = record { x = to_z w32 (of_z w32 x); y = to_z w32 (of_z w32 y) }

pub read_back : (x y : ℤ) → SFits w32 x → SFits w32 y → bits x y ≡ record { x = x; y = y }
read_back x y h k = ap₂ (λ x y. record { x = x; y = y }) (to_z-of_z {w = w32} h) (to_z-of_z {w = w32} k)

-- What was found for it was found for the point.
pub found_point : (x y : ℤ) → SFits w32 x → SFits w32 y → (table : List ℕ) (n : ℕ) {r : Option ℕ} → r ≡ triangle_of (bits x y) (triangles_held table n) → r ≡ triangle_of (record { x = x; y = y }) (triangles_held table n)
found_point x y h k table n {r} e = subst (λ z. r ≡ triangle_of z (triangles_held table n)) (read_back x y h k) e

-- The six numbers of triangle t stand behind the first number and those of the triangles before it.
abbrev pub six_from : List ℕ → ℕ → Triangle
six_from table i = record {
  a = record { x = millimetres (get_or table (i + 1) 0); y = millimetres (get_or table (i + 2) 0) };
  b = record { x = millimetres (get_or table (i + 3) 0); y = millimetres (get_or table (i + 4) 0) };
  c = record { x = millimetres (get_or table (i + 5) 0); y = millimetres (get_or table (i + 6) 0) };
}

pub six_held : (table : List ℕ) (t : ℕ) → six_from table (6 * t) ≡ triangle_held table t
six_held table t =
    let p : 6 * t + 1 ≡ 2 * (3 * t) + 1 = omega arith in
    let q : 6 * t + 2 ≡ 2 * (3 * t) + 2 = omega arith in
    let r : 6 * t + 3 ≡ 2 * (3 * t + 1) + 1 = omega arith in
    let s : 6 * t + 4 ≡ 2 * (3 * t + 1) + 2 = omega arith in
    let u : 6 * t + 5 ≡ 2 * (3 * t + 2) + 1 = omega arith in
    let v : 6 * t + 6 ≡ 2 * (3 * t + 2) + 2 = omega arith in
    λ i. record {
      a = record { x = millimetres (get_or table (p i) 0); y = millimetres (get_or table (q i) 0) };
      b = record { x = millimetres (get_or table (r i) 0); y = millimetres (get_or table (s i) 0) };
      c = record { x = millimetres (get_or table (u i) 0); y = millimetres (get_or table (v i) 0) };
    }

module _ (z : Point) (table : List ℕ) where
  -- The point belongs to none of the first t triangles.
  abbrev pub NoneBefore : ℕ → Type 0
  NoneBefore t = (u : ℕ) → u < t → belongs z (triangle_held table u) ≡ false

  place : (n u : ℕ) → u < n → belongs z (get_or (triangles_held table n) u (triangle_held table 0)) ≡ belongs z (triangle_held table u)
  place n u h = ap (belongs z) (map_from_at (triangle_held table) n u (triangle_held table 0) h)

  many : (n : ℕ) → length (triangles_held table n) ≡ n
  many n = length_map_from (triangle_held table) 0 n

  pub found : (n t : ℕ) → t < n → belongs z (triangle_held table t) ≡ true → NoneBefore t → some (suc t) ≡ triangle_of z (triangles_held table n)
  found n t h e before =
      sym (found_at_lem z (triangle_held table 0) (triangles_held table n) t (omega (arith, many n)) (place n t h ∙ e) (λ u w. place n u (omega arith) ∙ before u w))

  pub nowhere : (n : ℕ) → NoneBefore n → none ≡ triangle_of z (triangles_held table n)
  nowhere n before = sym (found_nowhere z (triangle_held table 0) (triangles_held table n) (λ u w. let h : u < n = omega (arith, many n) in place n u h ∙ before u h))
