-- The number that is answered, by what the code comes to.
use Rattle.std.specs.Prelude.{Result, Ok, Err, ℕ, ◌+◌, ◌*◌}
use Rattle.lent.specs.declared.Refusal.{Refusal}
use Rattle.lent.specs.Refusals.{code_of}

-- The number answered: the item of success, or of the refusal, × 256, and the code.
abbrev pub number_of : Result ℕ Refusal → ℕ
number_of (Ok item) = item * 256
number_of (Err r) = r.item * 256 + code_of r.reason
