-- `table_count::side_at` meets its contract: the code of two places is the pair's. Assumes nothing.
use mathlib.Core.Path.{◌≡◌, refl, subst}
use native.Mathlib.Omega.{arith}
use lib.ListN.{length, get_or}
use Rattle.whole_order.proofs.Ascending.{place_of_lem}
use Rattle.table_sides.specs.Codes.{code_of}
use Rattle.table_sides.specs.Chains.{code_in, Last}
use Rattle.table_count.proofs.side_at.Statement.{statement}
use Rattle.table_count.proofs.side_at.Tie as tie

code_requires : tie.Need-code-requires
code_requires c κs =
    let s = c in
    (omega (arith, s.requires.1, s.requires.0.1.few), omega (arith, s.requires.2, s.requires.0.1.few))

side_of_requires : tie.Need-side_of-requires
side_of_requires c κs =
    let s = c in
    (s.requires.0.1.chained, omega (arith, c.code.ensures, s.requires.1, s.requires.2, s.requires.0.1.few, s.requires.0.1.room))

returns : tie.Need-returns
returns c = λ sides l.
    let s = c in
    let a = s.args in
    let u = get_or a.corners.now a.a 0 in
    let v = get_or a.corners.now a.b 0 in
    let k : c.code.result ≡ code_of a.corners.now u v = omega (arith, c.code.ensures, place_of_lem a.corners.now a.a l.ascending s.requires.1, place_of_lem a.corners.now a.b l.ascending s.requires.2) in
    l.found u v c.side_of.result (a.a, s.requires.1, refl) (a.b, s.requires.2, refl) (subst (λ z. Last (λ j. code_in (get_or a.index.now j 0) ≡ z) (length a.index.now) c.side_of.result) k c.side_of.ensures)

pub side_at_spec : {M : Type 1} → statement M
side_at_spec = tie.close (tie.spec code_requires side_of_requires returns)
