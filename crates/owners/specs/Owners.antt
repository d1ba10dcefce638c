-- The judging of all polygons of a sheet in number order, and the owners of each triangle.
use Rattle.std.specs.Prelude.{Bool, List, [], ◌∷◌, ℕ, suc, length}
use Rattle.plane.specs.Points.{Triangle}
use Rattle.plane.specs.Members.{Member}
use Rattle.lent.specs.Stages.{Answer, value, refused, and_then}
use Rattle.owners_marks.specs.Marks.{owners_from}
use Rattle.owners.specs.Judging.{Judged, carried, not_carried, no_ground, code, judge}

-- The judging of polygon k as a stage: the set that carries it, or its refusal with the polygon's number.
abbrev pub stage_of : ℕ → Judged → Answer (List Bool)
stage_of k (carried s) = value s
stage_of k not_carried = refused (code not_carried) k
stage_of k no_ground = refused (code no_ground) k

-- Each polygon is judged by itself, the first one being number k: the set of each, or the refusal of the first that is refused.
abbrev pub judge_from : List Triangle → ℕ → List Member → Answer (List (List Bool))
judge_from table k [] = value []
judge_from table k (m ∷ l) = and_then (stage_of k (judge table m)) (λ s. and_then (judge_from table (suc k) l) (λ sets. value (s ∷ sets)))

-- The polygons in number order: the owners of each triangle before repair, or the refusal of the first polygon that is refused.
unfoldable pub judge_polygons : List Triangle → List Member → Answer (List (List ℕ))
judge_polygons table polygons = and_then (judge_from table 1 polygons) (λ sets. value (owners_from (length table) 1 sets))
