-- Points, ordered pairs of points, triangles; double areas; "strictly between p and q on the straight line".
use Rattle.std.specs.Prelude.{Bool, ◌&&◌, List, [], ◌∷◌, ℤ, pos, ◌+ℤ◌, ◌-ℤ◌, ◌*ℤ◌}
use Rattle.std.specs.Int.Signed.{lt_z}
use Rattle.whole.specs.Numbers.{eq_z}

-- A point has two whole numbers, in millimetres.
pub record Point : Type 0 where
  pub x : ℤ
  pub y : ℤ

-- An ordered pair of points, (u, v) or uv: a side of a triangle, an edge of a ring, a piece of an edge.
pub record Edge : Type 0 where
  pub from : Point
  pub to : Point

infix 20 ◌⟶◌
abbrev pub ◌⟶◌ : Point → Point → Edge
u ⟶ v = record { from = u; to = v }

-- The pair vu of the pair uv.
abbrev pub flip : Edge → Edge
flip e = e.to ⟶ e.from

-- Three corners, in their order.
pub record Triangle : Type 0 where
  pub a : Point
  pub b : Point
  pub c : Point

-- A triangle's sides are the ordered pairs ab, bc, ca.
abbrev pub sides : Triangle → List Edge
sides t = (t.a ⟶ t.b) ∷ (t.b ⟶ t.c) ∷ (t.c ⟶ t.a) ∷ []

-- Two points are the same, two ordered pairs are the same.
abbrev pub same_point : Point → Point → Bool
same_point p q = eq_z p.x q.x && eq_z p.y q.y

abbrev pub same_edge : Edge → Edge → Bool
same_edge d e = same_point d.from e.from && same_point d.to e.to

-- (bx-ax)(cy-ay) - (cx-ax)(by-ay): above 0 where the way from a by b to c turns left, 0 where the three lie on a straight line.
unfoldable pub turn : Point → Point → Point → ℤ
turn a b c = (b.x -ℤ a.x) *ℤ (c.y -ℤ a.y) -ℤ (c.x -ℤ a.x) *ℤ (b.y -ℤ a.y)

-- The double area of a triangle (a, b, c).
abbrev pub double : Triangle → ℤ
double t = turn t.a t.b t.c

-- px·qy - qx·py, an edge's share in the double area of a member.
unfoldable pub cross : Edge → ℤ
cross e = e.from.x *ℤ e.to.y -ℤ e.to.x *ℤ e.from.y

-- The way from p to c and the way from c to q, multiplied as vectors: for three points on a straight line above 0 exactly if c
-- comes after p and before q, or the other way round.
unfoldable pub onward : Point → Point → Point → ℤ
onward p c q = (c.x -ℤ p.x) *ℤ (q.x -ℤ c.x) +ℤ (c.y -ℤ p.y) *ℤ (q.y -ℤ c.y)

-- c is strictly between the ends of the edge, on the straight line.
unfoldable pub between : Point → Edge → Bool
between c e = eq_z (turn e.from c e.to) (pos 0) && lt_z (pos 0) (onward e.from c e.to)
