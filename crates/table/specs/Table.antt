-- The triangle table: corners, frame, and the three table rules.
use Rattle.std.specs.Prelude.{Bool, true, false, not, ℕ, suc, ◌≤◌, ℤ, pos, length, ◌<ℤ◌}
use mathlib.Core.List.{List, [], ◌∷◌, flat_map}
use Rattle.std.proofs.Math.Option.{Option, none, some}
use Rattle.std.specs.Int.Signed.{lt_z}
use Rattle.whole.specs.Numbers.{smaller, greater}
use Rattle.whole.specs.Sums.{All, any, count}
use Rattle.plane.specs.Points.{Point, Edge, Triangle, sides, same_edge, double}
use Rattle.plane.specs.Cuts.{all_pieces}
use Rattle.plane.specs.Boundaries.{SameBoundary, agree, sides_of}
use Rattle.plane.specs.Members.{Ring, edges}
use Rattle.lent.specs.Stages.{Answer, and_then, needing, faultless}

-- The corners of all triangles of the table.
abbrev pub corners : List Triangle → List Point
corners = flat_map (λ t. t.a ∷ t.b ∷ t.c ∷ [])

-- The least and the greatest value of a coordinate over a first point and further ones.
unfoldable pub least : (Point → ℤ) → Point → List Point → ℤ
least k p [] = k p
least k p (q ∷ l) = smaller (k p) (least k q l)

unfoldable pub greatest : (Point → ℤ) → Point → List Point → ℤ
greatest k p [] = k p
greatest k p (q ∷ l) = greater (k p) (greatest k q l)

-- The frame is the smallest upright rectangle that holds all the points, by its four bounds. (Of no points it is a rectangle of no extent.)
pub record Frame : Type 0 where
  pub left : ℤ
  pub low : ℤ
  pub right : ℤ
  pub high : ℤ

unfoldable pub frame_of : List Point → Frame
frame_of [] = record { left = pos 0; low = pos 0; right = pos 0; high = pos 0 }
frame_of (p ∷ l) = record { left = least (λ q. q.x) p l; low = least (λ q. q.y) p l; right = greatest (λ q. q.x) p l; high = greatest (λ q. q.y) p l }

-- The frame as a ring, from (left, low) anticlockwise, the closing point included.
abbrev pub rectangle : Frame → Ring
rectangle f =
    record { x = f.left; y = f.low } ∷ record { x = f.right; y = f.low } ∷ record { x = f.right; y = f.high } ∷ record { x = f.left; y = f.high } ∷ record { x = f.left; y = f.low } ∷ []

-- The frame's four edges, anticlockwise.
abbrev pub outline_of : Frame → List Edge
outline_of f = edges (rectangle f)

-- The edges of the frame of the table's corners.
abbrev pub frame_edges : List Triangle → List Edge
frame_edges table = outline_of (frame_of (corners table))

-- The edges l, cut at the table's corners, have the same boundary as the triangles s.
abbrev pub Bounds : List Triangle → List Edge → List Triangle → Type 0
Bounds table l s = SameBoundary (sides_of s) (all_pieces (corners table) l)

-- Rule A. Every triangle has a double area above 0.
abbrev pub RuleA : List Triangle → Type 0
RuleA = All (λ t. pos 0 <ℤ double t)

-- Rule B. No ordered pair is a side of two triangles: among all sides of the table each stands once at most.
-- (One triangle has a side twice only if its corners are one point, and that breaks rule A.)
abbrev pub RuleB : List Triangle → Type 0
RuleB table = (e : Edge) → count same_edge e (sides_of table) ≤ 1

-- Rule C. The set of all triangles has the outline as its boundary: document 01's is the anticlockwise frame.
abbrev pub RuleC : List Edge → List Triangle → Type 0
RuleC outline table = Bounds table outline table

-- The number, counted from 1, of the first member that fails a test. The test also sees the members before it, the nearest first.
abbrev pub first_fault : {A : Type 0} → (List A → A → Bool) → List A → List A → Option ℕ
first_fault bad before [] = none
first_fault bad before (a ∷ l) = elim (bad before a) [ true ↦ some (suc (length before)) | false ↦ first_fault bad (a ∷ before) l ]

-- The double area of the triangle is not above 0.
abbrev pub flat : List Triangle → Triangle → Bool
flat before t = not (lt_z (pos 0) (double t))

-- The triangle has a side of an earlier one.
abbrev pub repeats : List Triangle → Triangle → Bool
repeats before t = any (λ e. any (same_edge e) (sides_of before)) (sides t)

-- The table rules in their order: 10 over all triangles, then 11, then 12.
unfoldable pub check_table : List Edge → List Triangle → Answer (Unit {0})
check_table outline table =
    and_then (faultless 10 (first_fault flat [] table)) (λ _.
    and_then (faultless 11 (first_fault repeats [] table)) (λ _.
    needing (agree (sides_of table) (all_pieces (corners table) outline)) 12 0))
