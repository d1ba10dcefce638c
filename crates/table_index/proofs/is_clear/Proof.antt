-- `table_index::is_clear` meets its contract: the next stop is none exactly if no corner is strictly between. Assumes nothing.
use mathlib.Core.Path.{◌≡◌, refl, subst}
use mathlib.Core.Bool.{Bool, true, false}
use mathlib.Core.List.{List}
use Prim.Native.Nat.{ℕ, ◌<◌}
use native.Mathlib.Omega.{arith}
use borrow.Author.Rules.{rules}
use borrow.Author.Tests.{leb-true, leb-false}
use lib.Dec.{leb}
use lib.ListN.{length, get_or}
use Rattle.whole.specs.Tests.{Told}
use Rattle.whole.proofs.Sums.{all_at}
use Rattle.plane.specs.Keys.{Key}
use Rattle.whole_order.specs.Ascending.{Ascending}
use Rattle.whole_order.proofs.Ascending.{ascending_below, place_of_lem}
use Rattle.table_count.specs.Counting.{NextStop, ClearOf}
use Rattle.table_count.proofs.Walked.{none_before, NoneBefore, end_clear, corner_among}
use Rattle.table_index.proofs.is_clear.Statement.{statement}
use Rattle.table_index.proofs.is_clear.Tie as tie

-- What the next stop tells.
stopped : (corners : List ℕ) → Ascending corners → (a b r : ℕ) → a < b → b < length corners → NextStop corners a (get_or corners a 0) (get_or corners b 0) r → (t : Bool) → leb (length corners) r ≡ t
    → Told t (ClearOf corners (get_or corners a 0) (get_or corners b 0)) (ClearOf corners (get_or corners a 0) (get_or corners b 0) → ⊥)
stopped corners order a b r h g s true e =
    let way = ascending_below corners a b order h g in
    let none = subst (λ z. NoneBefore corners z (get_or corners a 0) (get_or corners b 0)) (place_of_lem corners a order (omega arith)) (none_before corners order (get_or corners a 0) (get_or corners b 0) way) in
    end_clear corners order (get_or corners a 0) (get_or corners b 0) way a r none s (leb-true (length corners) r e)
stopped corners order a b r h g s false e = λ clear. clear _ (corner_among corners r (leb-false (length corners) r e)) (s.stop (leb-false (length corners) r e))

next_stop_requires : tie.Need-next_stop-requires
next_stop_requires c κs =
    let s = c in
    let l = s.args.corners.now in
    (s.requires.0, s.requires.1, all_at Key 0 l s.args.a s.requires.1 (omega arith), all_at Key 0 l s.args.b s.requires.1 (omega arith), ascending_below l s.args.a s.args.b s.requires.0 s.requires.2 s.requires.3, omega arith)

returns : tie.Need-returns
returns c =
    let s = c in
    stopped s.args.corners.now s.requires.0 s.args.a s.args.b c.next_stop.result s.requires.2 s.requires.3 c.next_stop.ensures (leb (length s.args.corners.now) c.next_stop.result) refl

pub is_clear_spec : {M : Type 1} → statement M
is_clear_spec =
    tie.close
    (tie.spec
    (λ c. search rules)
    (λ c. search rules)
    (λ c. search rules)
    (λ c. search rules)
    next_stop_requires
    returns)
