-- `table_index::note` meets its contract: what is strictly inside a side is strictly inside its reverse. Assumes nothing.
use mathlib.Core.Path.{refl, ap}
use mathlib.Core.Logic.{inl, inr}
use mathlib.Core.Bool.{not}
use mathlib.Core.List.{List}
use Prim.Native.Nat.{ℕ, ◌/◌, ◌%◌}
use borrow.Author.Rules.{rules}
use lib.ListN.{get_or}
use Rattle.whole.proofs.Tests.{told_yes}
use Rattle.plane.specs.Keys.{pair}
use Rattle.plane.proofs.Ways.{between_flip}
use Rattle.table_count.specs.Counting.{ClearOf}
use Rattle.table_index.proofs.note.Statement.{statement}
use Rattle.table_index.proofs.note.Tie as tie

clear_flip : (corners : List ℕ) (u v : ℕ) → ClearOf corners u v → ClearOf corners v u
clear_flip corners u v f p a t = f p a (between_flip p (pair v u) t)

returns : tie.Need-returns-then-is_clear
returns c = inr (refl, told_yes _ _ c.is_clear.result (ap not c.if-is_clear.true) c.is_clear.ensures)

returns_2 : tie.Need-returns-then-is_clear-2
returns_2 c =
    let s = c in
    let l = s.args.corners.now in
    inr (refl, clear_flip l (get_or l (s.args.code % 4096) 0) (get_or l (s.args.code / 4096) 0) (told_yes _ _ c.is_clear-then-b-a.result (ap not c.if-is_clear-2.true) c.is_clear-then-b-a.ensures))

pub note_spec : {M : Type 1} → statement M
note_spec =
    tie.close
    (tie.spec
    (λ c κs. search rules)
    returns
    (λ c κs. search rules)
    returns_2
    (λ c. inl refl))
