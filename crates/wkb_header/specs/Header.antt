-- The header of a geometry in the binary form of OGC 06-103r4, little-endian.
use Rattle.std.specs.Prelude.{true, List, ◌∷◌, ◌++◌, ℕ}
use Rattle.lent_little.specs.Ordered.{bytes_of}

-- The byte order 1, a u32 type, a u32 count.
abbrev pub headed : (kind n : ℕ) → List ℕ
headed kind n = 1 ∷ bytes_of true 4 kind ++ bytes_of true 4 n
