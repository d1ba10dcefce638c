-- `table_chains::reverse` meets its contract: where no code stands twice, a side with the code is the only one, wherever it was looked for. Assumes nothing.
use mathlib.Core.Path.{◌≡◌, refl, sym, ◌∙◌, subst}
use mathlib.Core.List.{List}
use Prim.Native.Nat.{ℕ, zero, suc, ◌<◌}
use native.Mathlib.Omega.{arith}
use borrow.Author.Rules.{rules}
use lib.ListN.{length, get_or}
use Rattle.whole_order.specs.Ascending.{Distinct}
use Rattle.table_sides.specs.Numbered.{number_in}
use Rattle.table_sides.specs.Chains.{ChainedTo}
use Rattle.table_sides.proofs.Chains.{last_number}
use Rattle.table_chains.proofs.Linking.{linked_last}
use Rattle.table_chains.proofs.reverse.Statement.{statement}
use Rattle.table_chains.proofs.reverse.Tie as tie

-- A side found is the last one with its code, where no code stands twice.
only : (codes : List ℕ) (c r : ℕ) → (r ≡ 0 → ⊥) → ((o : ℕ) → r ≡ suc o → (o < length codes) × (get_or codes o 0 ≡ c)) → Distinct codes → r ≡ number_in c codes
only codes c zero n f d = absurd (n refl)
only codes c (suc o) n f d =
    let (h, e) = f o refl in
    last_number codes c (suc o) d (record {
      within = omega arith;
      there = λ j q. let i : o ≡ j = omega arith in subst (λ k. get_or codes k 0 ≡ c) i e;
      none = λ j low k p. let i : o ≡ j = d o j h k (e ∙ sym p) in omega arith;
    })

-- ---- places: the entry of the function
abbrev start : tie.After-side_in-r → tie.Start
start c = c.before.before.before.before.before

returns : tie.Need-returns-then-r-ne0
returns c = let d = c.before in let a = (start d).args in only a.codes.now a.code d.side_in-r.result c.if-r-ne0.true d.side_in-r.ensures

side_of_requires : tie.Need-side_of-requires
side_of_requires c κs =
    let s = start c.before in
    let w = s.requires.2 in
    let l = s.requires.3 in
    (subst (ChainedTo s.args.index.now) (sym l.number) l.chained, omega (arith, w.0, l.number))

returns_2 : tie.Need-returns
returns_2 c = λ d.
    let s = start c.before.before in
    let codes = s.args.codes.now in
    last_number codes s.args.code c.side_of.result d (linked_last codes s.args.index.now s.args.code c.side_of.result s.requires.3 c.side_of.ensures)

pub reverse_spec : {M : Type 1} → statement M
reverse_spec = tie.close (tie.spec (λ c κs. search rules) (λ c κs. search rules) returns side_of_requires returns_2)
