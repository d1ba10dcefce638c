-- How the code's answers show what the polygons of a sheet come to: one polygon judged, all polygons judged, the owner sets.
use Rattle.std.specs.Prelude.{◌≡◌, Bool, List, Result, Ok, Err, map, ℕ, ◌*◌, ◌≤◌, ℤ, length, take, drop}
use Rattle.whole.specs.Sums.{All}
use Rattle.plane.specs.Points.{Triangle}
use Rattle.plane.specs.Members.{Member, member_edges}
use Rattle.plane.specs.Corners.{millimetres}
use Rattle.lent.specs.Stages.{Answer, value, and_then}
use Rattle.lent.specs.Refusals.{refused_as}
use Rattle.lent.specs.declared.Refusal.{Refusal}
use Rattle.sheet_form.specs.Numbers.{counted, member_numbers}
use Rattle.sheet_edges.specs.Standing.{NumbersAt}
use Rattle.owners_marks.specs.Sets.{owner_sets}
use Rattle.owners.specs.Judging.{judge}
use Rattle.owners.specs.Owners.{stage_of, judge_from}

-- A polygon stands at the place, with at most 4,096 edges.
pub record PolygonAt (numbers : List ℕ) (at : ℕ) (m : Member) (rest : List ℤ) : Type 0 where
  pub numbers_at : NumbersAt member_numbers numbers at m rest
  pub few : length (member_edges m) ≤ 4096

-- The answer for one polygon with the labels: carried by the labelled set, or the refusal.
abbrev pub turn_as : Result ℕ Refusal → List Bool → Answer (List Bool)
turn_as (Ok at) labels = value labels
turn_as (Err r) labels = refused_as r

-- The polygon of number k was judged so, with these labels, and where it is carried the rest stands at the place behind it.
pub record TurnOf (table : List Triangle) (numbers : List ℕ) (k : ℕ) (m : Member) (rest : List ℤ) (r : Result ℕ Refusal) (labels : List Bool) : Type 0 where
  pub judged : turn_as r labels ≡ stage_of k (judge table m)
  pub behind : (at : ℕ) → r ≡ Ok at → map millimetres (drop at numbers) ≡ rest

-- The polygons stand at the place, each with at most 4,096 edges, and there are at most 64.
pub record PolygonsAt (numbers : List ℕ) (at : ℕ) (ms : List Member) (rest : List ℤ) : Type 0 where
  pub stand : NumbersAt (counted member_numbers) numbers at ms rest
  pub many : length ms ≤ 64
  pub few : All (λ m. length (member_edges m) ≤ 4096) ms

-- A list has room for the edges of each polygon that can stand among the numbers: at most 4,096, and at most half as many as the numbers.
abbrev pub EdgeRoom : List ℕ → List ℕ → Type 0
EdgeRoom numbers l = (k : ℕ) → k ≤ 4096 → 2 * k ≤ length numbers → k ≤ length l

-- The polygons judged in number order, the owners of each triangle as the 64-bit set that the code makes of them.
abbrev pub held_sets : List Triangle → List Member → Answer (List ℕ)
held_sets table polygons = and_then (judge_from table 1 polygons) (λ sets. value (owner_sets (length table) sets))

-- The answer with the lent numbers: the owner sets of so many triangles, or the refusal.
abbrev pub owned_as : Result ℕ Refusal → List ℕ → Answer (List ℕ)
owned_as (Ok n) l = value (take n l)
owned_as (Err r) l = refused_as r

-- Owner sets are told of one for each of m triangles.
abbrev pub OneEach : Result ℕ Refusal → ℕ → Type 0
OneEach (Ok n) m = n ≡ m
OneEach (Err r) m = Unit {0}
