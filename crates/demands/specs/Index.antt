-- What the promises on the index speak of: the sides of a triangle by number, what the index has for each, and the entries that take an index without it.
use Rattle.std.specs.Prelude.{ℕ, ◌+◌, ◌-◌, ◌*◌, ◌≤◌, List, length, get_or}
use Rattle.whole.specs.Sums.{Among}
use Rattle.plane.specs.Points.{Edge, Triangle, ◌⟶◌, sides, same_edge}
use Rattle.table_neighbours.specs.Neighbours.{index_of}
use Rattle.sheet_written.specs.Fits.{origin}
use Rattle.outcomes.specs.declared.Wanted.{Wanted}
use Rattle.outcomes.specs.declared.Wanted.TheVariants.{OwnerSets, Owners, Boundary, Rings, RingRoom, At}
use Rattle.demands.specs.Triangles.{triangle}
use Rattle.demands.specs.Entries.{Entry, owner_sets, owners, boundary, rings, ring_room, owner_at}

-- Side i of triangle k: ab is side 0, bc side 1, ca side 2.
abbrev pub side_of : List Triangle → ℕ → ℕ → Edge
side_of table k i = get_or (sides (triangle table k)) i (origin ⟶ origin)

-- The number that the index has for side i of triangle k.
abbrev pub entry_for : List Triangle → ℕ → ℕ → ℕ
entry_for table k i = get_or (index_of table) (3 * (k - 1) + i) 0

-- Triangle t is on the table and has the side e.
pub record HasSide (table : List Triangle) (t : ℕ) (e : Edge) : Type 0 where
  pub low : 1 ≤ t
  pub high : t ≤ length table
  pub there : Among same_edge e (sides (triangle table t))

-- The entry that is asked for the same with no index.
abbrev pub without : ℕ → ℕ → Wanted → Entry
without mode way OwnerSets = owner_sets mode
without mode way Owners = owners mode way
without mode way (Boundary polygon) = boundary mode way polygon
without mode way (Rings polygon) = rings mode way polygon
without mode way (RingRoom polygon) = ring_room mode way polygon
without mode way (At x y) = owner_at mode way x y
