-- `table_sides::side_of` meets its contract. The invariant: r is the number of a side that begins at the corner, or 0, and no side from r on has the code. Assumes nothing.
use mathlib.Core.Path.{◌≡◌, sym, ◌∙◌, ap, subst}
use Prim.Native.Nat.{ℕ, suc, ◌/◌, ◌-◌, ◌≤◌, ◌<◌}
use native.Mathlib.Omega.{arith}
use lib.ListN.{length, get_or}
use Rattle.table_sides.specs.Chains.{next_in, code_in, begin_in, Last}
use Rattle.table_sides.proofs.Chains.{step_on}
use Rattle.table_sides.proofs.side_of.Statement.{statement}
use Rattle.table_sides.proofs.side_of.Tie as tie

abbrev invariant_loop : tie.invariant-loop-r
invariant_loop index code at r₀ r = (r ≤ length index) × ((j : ℕ) → r ≡ suc j → begin_in (get_or index j 0) ≡ code / 4096) × ((j : ℕ) → r ≤ j → j < length index → code_in (get_or index j 0) ≡ code → ⊥)

abbrev decreases_loop : tie.decreases-loop-r
decreases_loop index code at r₀ r = r

-- ---- places: the loop of a turn, and the entry of the function
abbrev turn : tie.After-code_in invariant_loop decreases_loop → tie.At-loop-r invariant_loop decreases_loop
turn c = c.before.before.before

abbrev start : tie.At-loop-r invariant_loop decreases_loop → tie.Start invariant_loop decreases_loop
start c = c.before.before.before.before

-- The chain begins with the last side that begins at the corner.
loop_holds : tie.Need-loop-r-init invariant_loop decreases_loop
loop_holds c =
    let s = c in
    let l = s.requires.0.heads (s.args.code / 4096) s.requires.1 in
    let e = c.head-r.ensures in
    (omega (arith, l.within), λ j q. l.there j (sym e ∙ q), λ j h k q. l.none j (omega arith) k (ap (λ x. x / 4096) q))

returns : tie.Need-returns-then-code_in-code invariant_loop decreases_loop
returns c =
    let l = (turn c.before).loop-r in
    record {
      within = l.invariant.0;
      there = λ j e. let q : l.r - 1 ≡ j = omega arith in subst (λ i. code_in (get_or (start (turn c.before)).args.index.now i 0) ≡ (start (turn c.before)).args.code) q (sym c.code_in.ensures ∙ c.if-code_in-code.true);
      none = l.invariant.2;
    }

-- The side before it in the chain.
earlier : (c : tie.After-next-r invariant_loop decreases_loop) → let l = turn c.before.before.before in
    Last (λ j. begin_in (get_or (start l).args.index.now j 0) ≡ begin_in (get_or (start l).args.index.now (l.loop-r.r - 1) 0)) (l.loop-r.r - 1) (next_in (get_or (start l).args.index.now (l.loop-r.r - 1) 0))
earlier c = let l = turn c.before.before.before in (start l).requires.0.nexts (l.loop-r.r - 1) (omega (arith, l.loop-r.invariant.0))

loop_less : tie.Need-loop-r-smaller invariant_loop decreases_loop
loop_less c = omega (arith, c.next-r.ensures, (earlier c).within)

loop_again : tie.Need-loop-r-preserved invariant_loop decreases_loop
loop_again c =
    let l = turn c.before.before.before in
    let index = (start l).args.index.now in
    let here = l.loop-r.invariant.1 (l.loop-r.r - 1) (omega arith) in
    let e = c.next-r.ensures in (
      omega (arith, (earlier c).within, l.loop-r.invariant.0),
      λ j q. (earlier c).there j (sym e ∙ q) ∙ here,
      λ j h k q.
          step_on (λ i. begin_in (get_or index i 0) ≡ begin_in (get_or index (l.loop-r.r - 1) 0)) (λ i. code_in (get_or index i 0) ≡ (start l).args.code) (length index) l.loop-r.r (next_in (get_or index (l.loop-r.r - 1) 0))
          (λ i p. ap (λ x. x / 4096) p ∙ sym here) (earlier c) (λ p. c.if-code_in-code.false (c.code_in.ensures ∙ p)) l.loop-r.invariant.2 j (omega arith) k q,
    )

returns_2 : tie.Need-returns invariant_loop decreases_loop
returns_2 c =
    let l = c.loop-r in
    record { within = omega arith; there = λ j e. absurd (omega arith); none = λ j h k q. l.invariant.2 j (omega arith) k q }

pub side_of_spec : {M : Type 1} → statement M
side_of_spec =
    tie.close
    (tie.spec
    invariant_loop
    decreases_loop
    (λ c. omega arith)
    (λ c. omega arith)
    (λ c κs. tt)
    loop_holds
    (λ c. omega arith)
    (λ c. omega arith)
    (λ c. omega (arith, c.loop-r.invariant.0))
    (λ c κs. tt)
    returns
    (λ c. omega arith)
    (λ c. omega arith)
    (λ c. omega (arith, (turn c.before.before).loop-r.invariant.0))
    (λ c κs. tt)
    loop_less
    loop_again
    returns_2)
