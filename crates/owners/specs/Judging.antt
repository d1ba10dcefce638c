-- The judging of one member: the set of triangles that carries it, not carried, or no ground.
use Rattle.std.specs.Prelude.{◌≡◌, Bool, true, false, not, cond, List, [], ◌∷◌, ℕ, pos}
use Rattle.std.proofs.Math.Option.{Option, none, some}
use Rattle.whole.specs.Sums.{sum}
use Rattle.plane.specs.Points.{Edge, Triangle, double}
use Rattle.plane.specs.Cuts.{all_pieces}
use Rattle.plane.specs.Boundaries.{boundary, agree, sides_of}
use Rattle.plane.specs.Members.{Member, member_edges, double_area}
use Rattle.table.specs.Table.{corners, Bounds}
use Rattle.table.specs.Sets.{SetOf, chosen, all_sets}

-- The set s of triangles carries the member: it has the same boundary at every ordered pair as the member's ring edges, cut at the
-- table's corners. Such a set is the member's area of ownership.
abbrev pub Carries : List Triangle → List Bool → Member → Type 0
Carries table s m = Bounds table (member_edges m) (chosen table s)

-- The member has no ground: its boundary, that of its ring edges cut at the table's corners, is zero at every ordered pair.
abbrev pub Groundless : List Triangle → Member → Type 0
Groundless table m = (e : Edge) → boundary (all_pieces (corners table) (member_edges m)) e ≡ pos 0

-- What the judging of a member answers: the set that carries it, that none does, or that it has no ground.
pub data Judged : Type 0 where
  carried : List Bool → Judged
  not_carried : Judged
  no_ground : Judged

-- The number for the answer: 20 is "not carried", 21 "no ground".
abbrev pub code : Judged → ℕ
code (carried s) = 0
code not_carried = 20
code no_ground = 21

-- The first of the sets that passes the test.
abbrev pub search : (List Bool → Bool) → List (List Bool) → Option (List Bool)
search p [] = none
search p (s ∷ l) = elim (p s) [ true ↦ some s | false ↦ search p l ]

-- Not carried where no set was found; then no ground where there is none; else carried by the set.
abbrev pub judged_by : Bool → Option (List Bool) → Judged
judged_by ground none = not_carried
judged_by ground (some s) = cond ground (carried s) no_ground

-- The first set, in the list of all sets of triangles, whose boundary is the member's; where there is none it is not carried. Then the member needs
-- ground: its boundary is not that of no edges.
unfoldable pub judge : List Triangle → Member → Judged
judge table m =
    let pieces : List Edge = all_pieces (corners table) (member_edges m) in
    judged_by (not (agree [] pieces)) (search (λ s. agree (sides_of (chosen table s)) pieces) (all_sets table))

-- "That set is its area of ownership": a set of the table's triangles that carries it, the only one, with the member's double area; and the member
-- has ground.
pub record AreaOfOwnership (table : List Triangle) (m : Member) (s : List Bool) : Type 0 where
  pub of_table : SetOf table s
  pub carries : Carries table s m
  pub only : (t : List Bool) → SetOf table t → Carries table t m → t ≡ s
  pub area : sum double (chosen table s) ≡ double_area m
  pub ground : Groundless table m → ⊥
