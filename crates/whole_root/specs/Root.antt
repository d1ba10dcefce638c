-- The whole root of a number: the largest whole number whose square is at most the number.
use Rattle.std.specs.Prelude.{cond, ℕ, zero, suc, ◌*◌, leb}

-- The largest whole number up to m whose square is at most n.
abbrev pub root_up_to : ℕ → ℕ → ℕ
root_up_to zero n = 0
root_up_to (suc m) n = cond (leb (suc m * suc m) n) (suc m) (root_up_to m n)

-- No number above n has a square of n at most.
unfoldable pub root : ℕ → ℕ
root n = root_up_to n n
