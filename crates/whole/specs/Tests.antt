-- What the answer of a test tells.
use Rattle.std.specs.Prelude.{Bool, true, false}

-- What holds where the answer of a test is yes, and where it is no.
abbrev pub Told : Bool → Type 0 → Type 0 → Type 0
Told true A B = A
Told false A B = B
