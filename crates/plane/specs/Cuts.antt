-- A ring's edge is cut at every table corner strictly between its ends.
use Rattle.std.specs.Prelude.{cond}
use mathlib.Core.List.{List, [], ◌∷◌, flat_map}
use Rattle.plane.specs.Points.{Point, Edge, ◌⟶◌, same_point, between}

-- An edge cut at one corner: in two where the corner is strictly between its ends, else whole.
unfoldable pub halves : Point → Edge → List Edge
halves c e = cond (between c e) ((e.from ⟶ c) ∷ (c ⟶ e.to) ∷ []) (e ∷ [])

-- An edge cut at each corner of a list: what one corner leaves is cut at the next.
unfoldable pub cut : List Point → Edge → List Edge
cut [] e = e ∷ []
cut (c ∷ cs) e = flat_map (halves c) (cut cs e)

-- The pieces of an edge, in order from its first point to its last. An edge of no length gives nothing.
unfoldable pub pieces : List Point → Edge → List Edge
pieces cs e = cond (same_point e.from e.to) [] (cut cs e)

-- The pieces of a list of edges.
abbrev pub all_pieces : List Point → List Edge → List Edge
all_pieces cs = flat_map (pieces cs)
