-- The lines of the first k double areas are put behind the first `at` bytes.
use Rattle.std.proofs.Common.{◌≡◌, ◌+◌, ◌*◌, ◌≤◌, map, pos, length, take}
use Rattle.lent_text.specs.Putting.{Put}
use Rattle.listing_lines.specs.Lines.{numbered}
use Rattle.listing_lines.proofs.put_polygons.Given as goal

abbrev pub invariant-loop-k : goal.invariant-loop-k
invariant-loop-k l = record {
  place : l.here ≤ l.at + 50 * l.k;
  put : Put l.at (numbered l.word 1 (map pos (take l.k l.doubles))) l.fn.text l.here l.text;
}
