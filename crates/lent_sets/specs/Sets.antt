-- Numbers of 64 bits as an answer.
use mathlib.Core.List.{List, flat_map}
use Rattle.std.specs.Prelude.{ℕ, length}
use Rattle.lent.specs.Answered.{Outcome, bytes}
use Rattle.lent_little.specs.Bytes.{set_bytes}

-- Numbers, each as a little-endian u64; the item is how many there are.
abbrev pub each_outcome : List ℕ → Outcome
each_outcome l = bytes (length l) (flat_map set_bytes l)
