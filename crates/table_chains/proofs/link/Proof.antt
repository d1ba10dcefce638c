-- `table_chains::link` meets its contract, by the two stores (Linking). Assumes nothing.
use mathlib.Core.Path.{sym, subst}
use Prim.Native.Nat.{◌+◌, ◌*◌, ◌%◌}
use native.Mathlib.Omega.{arith}
use borrow.Author.Rules.{rules}
use lib.ListN.{get_or, set}
use Rattle.table_chains.specs.Linking.{Hung}
use Rattle.table_chains.proofs.Linking.{hung}
use Rattle.table_chains.proofs.link.Statement.{statement}
use Rattle.table_chains.proofs.link.Tie as tie

-- ---- places: the entry of the function
abbrev start : tie.After-head → tie.Start
start c = c.before.before.before

add_index : tie.Need-overflow_add-index
add_index c = let s = start c.before in omega (arith, c.head.ensures, s.requires.4 s.args.k s.requires.1)

returns : tie.Need-returns
returns c =
    let s = start c.before.before in
    let x = s.args.index.now in
    subst (λ h. Hung x (set (set x s.args.k (get_or x s.args.k 0 + h)) s.args.c (get_or (set x s.args.k (get_or x s.args.k 0 + h)) s.args.c 0 % 68_719_476_736 + (s.args.k + 1) * 68_719_476_736)) s.args.c s.args.k)
    (sym c.head.ensures) (hung x s.args.c s.args.k s.requires.0 s.requires.1 s.requires.2 s.requires.3 s.requires.4)

pub link_spec : {M : Type 1} → statement M
link_spec =
    tie.close
    (tie.spec
    (λ c. search rules)
    (λ c. search rules)
    (λ c κs. search rules)
    (λ c. search rules)
    (λ c. search rules)
    add_index
    (λ c. search rules)
    (λ c. search rules)
    (λ c. search rules)
    (λ c. search rules)
    (λ c. search rules)
    (λ c. search rules)
    (λ c. search rules)
    (λ c. search rules)
    (λ c. search rules)
    returns)
