-- The geometry blob of OGC 12-128 by itself: a header with its byte order, the 32 bits of a reference-system number and an envelope or none, each of its
-- doubles with its 8-byte pattern; then the WKB sheet.
use Rattle.std.specs.Prelude.{Bool, List, [], ◌∷◌, ◌++◌, ℕ, ◌+◌, ◌*◌, ◌^◌, ◌<◌}
use Rattle.std.proofs.Math.Option.{Option, none, some}
use Rattle.lent_little.specs.Ordered.{bytes_of}
use Rattle.wkb.specs.Standard.{order}

-- The patterns of an envelope's four doubles: least x, greatest x, least y, greatest y.
pub record Patterns : Type 0 where
  pub left : ℕ
  pub right : ℕ
  pub low : ℕ
  pub high : ℕ

-- A header: its byte order, the number's 32 bits, and the patterns of its envelope or none.
pub record Header : Type 0 where
  pub little : Bool
  pub number : ℕ
  pub envelope : Option Patterns

-- The envelope kind: 0 for none, 1 for four doubles.
abbrev pub kind_of : Option Patterns → ℕ
kind_of none = 0
kind_of (some p) = 1

-- The flags: bit 0 is the byte order (1 little-endian), bits 1 to 3 are the envelope kind, and the others are 0.
abbrev pub flags_of : Header → ℕ
flags_of h = order h.little + 2 * kind_of h.envelope

-- The envelope's bytes: four patterns, one behind the other.
abbrev pub encode_envelope : Bool → Option Patterns → List ℕ
encode_envelope little none = []
encode_envelope little (some p) = bytes_of little 8 p.left ++ bytes_of little 8 p.right ++ bytes_of little 8 p.low ++ bytes_of little 8 p.high

-- `GP`, version 0, the flags, the number, the envelope.
unfoldable pub encode_header : Header → List ℕ
encode_header h = 71 ∷ 80 ∷ 0 ∷ flags_of h ∷ bytes_of h.little 4 h.number ++ encode_envelope h.little h.envelope

-- The blob: the header, and then the bytes of the sheet.
abbrev pub blob_of : Header → List ℕ → List ℕ
blob_of h sheet = encode_header h ++ sheet

-- The number has 32 bits, and each pattern 64.
abbrev pub PatternsFit : Option Patterns → Type 0
PatternsFit none = Unit {0}
PatternsFit (some p) = (p.left < 2 ^ 64) × (p.right < 2 ^ 64) × (p.low < 2 ^ 64) × (p.high < 2 ^ 64)

pub record HeaderFits (h : Header) : Type 0 where
  pub number : h.number < 2 ^ 32
  pub envelope : PatternsFit h.envelope
