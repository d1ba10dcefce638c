-- A coordinate is held as an unsigned number, itself plus 10,000,000.
use Rattle.std.specs.Prelude.{ℕ, ℤ, pos, ◌-ℤ◌}

-- What a number is held with besides itself.
abbrev pub offset : ℕ
offset = 10_000_000

-- The coordinate, in millimetres, that a held number stands for.
abbrev pub millimetres : ℕ → ℤ
millimetres n = pos n -ℤ pos offset
