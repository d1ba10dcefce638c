-- The bytes of an envelope, as the code writes them.
use Rattle.std.specs.Prelude.{List, ◌++◌, ℕ, Float}
use Rattle.std.specs.Float.{binary64}
use Rattle.std.specs.Float.Ieee.{to_bits}
use Rattle.lent_little.specs.Ordered.{bytes}
use Rattle.sheet_envelope.specs.declared.Envelope.{Envelope}

-- The pattern of a double as little-endian bytes, and those of the four doubles.
abbrev pub double_bytes : Float → List ℕ
double_bytes x = bytes 8 (to_bits binary64 x)

unfoldable pub envelope_bytes : Envelope → List ℕ
envelope_bytes e = double_bytes e.left ++ double_bytes e.right ++ double_bytes e.low ++ double_bytes e.high
