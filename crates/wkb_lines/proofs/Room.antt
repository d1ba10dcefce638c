-- Closed lines have as many bytes as `room_of` says, and never more than `most_room`, if each has three sides. The idea: a closed line has a point for each side and one more.
-- Assumes nothing.
use mathlib.Core.Path.{◌≡◌}
use mathlib.Core.List.{List, flat_map}
use Prim.Native.Nat.{ℕ, ◌+◌, ◌*◌, ◌≤◌}
use native.Mathlib.Omega.{arith}
use lib.ListN.{length}
use Rattle.wkb.specs.Standard.{Pair}
use Rattle.wkb_lines.specs.Lines.{encode_lines}
use Rattle.wkb_lines.specs.Room.{room_of, most_room}
use Rattle.wkb_lines.proofs.Lengths.{lines_length}

-- Lines of so many sides in all, each closed.
module _ (ls : List (List Pair)) (sides : ℕ) (closed : length (flat_map (λ l. l) ls) ≡ sides + length ls) where
  pub closed_room : length (encode_lines ls) ≡ room_of sides (length ls)
  closed_room = omega (arith, lines_length ls)

-- A third as many rings as sides take at most so much room, and just as much where no side is left over.
pub third_most : (sides rings : ℕ) → 3 * rings ≤ sides → room_of sides rings ≤ most_room sides
third_most sides rings h = omega arith

pub third_reached : (rings : ℕ) → room_of (3 * rings) rings ≡ most_room (3 * rings)
third_reached rings = omega arith
