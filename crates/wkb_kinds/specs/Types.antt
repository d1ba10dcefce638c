-- Which types may stand where a geometry stands.
use Rattle.std.specs.Prelude.{Option, Some, None, cond, ◌||◌, ℕ, ltb, eqb}
use Rattle.lent.specs.declared.Reason.{Reason}
use Rattle.lent.specs.declared.Reason.TheVariants.{Kind, Count, Deep}
use Rattle.lent.specs.Refusals.{code_of}
use Rattle.wkb_kinds.specs.declared.Slot.{Slot}
use Rattle.wkb_kinds.specs.declared.Slot.TheVariants.{Sheet, Table, Piece, Part, Member}

-- What is wrong with a polygon where so many are begun under the member, and with a collection where so many members are to come at depth 4.
abbrev pub crowded_at : ℕ → Option Reason
crowded_at polygons = cond (ltb polygons 64) None (Some Count)

abbrev pub deep_at : ℕ → Option Reason
deep_at fourth = cond (eqb fourth 0) None (Some Deep)

-- What is wrong with a type: nothing where it is allowed. A type that can't stand there, 3, comes before 8 and 4.
abbrev pub fault_at : Slot → Option Reason → Option Reason → ℕ → Option Reason
fault_at Sheet crowded deep kind = cond (eqb kind 7) None (Some Kind)
fault_at Table crowded deep kind = cond (eqb kind 16) None (Some Kind)
fault_at Piece crowded deep kind = cond (eqb kind 17 || eqb kind 3) None (Some Kind)
fault_at Part crowded deep kind = cond (eqb kind 3) crowded (Some Kind)
fault_at Member crowded deep kind = cond (eqb kind 3) crowded (cond (eqb kind 6) None (cond (eqb kind 7) deep (Some Kind)))

-- The fault's code: 0 where there is none.
abbrev pub code_told : Option Reason → ℕ
code_told None = 0
code_told (Some reason) = code_of reason
