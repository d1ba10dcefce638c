-- Where each byte of a number stands, in either byte order.
use Rattle.std.specs.Prelude.{Bool, true, false, ℕ, ◌+◌, ◌-◌}

-- Where the byte of the weight 256 ^ (n - 1 - k) of n bytes stands.
abbrev pub place_of : Bool → ℕ → ℕ → ℕ → ℕ
place_of false at n k = at + k
place_of true at n k = at + (n - 1 - k)
