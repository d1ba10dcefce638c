-- `sheet_writer::count_fits` meets its contract: each way is the limits of its level. Assumes nothing.
use mathlib.Core.Path.{refl}
use borrow.Author.Tests.{eq-eqb, ne_eqb, le-leb, lt-leb}
use lib.Dec.{leb-zero}
use Rattle.sheet_writer.proofs.count_fits.Statement.{statement}
use Rattle.sheet_writer.proofs.count_fits.Tie as tie

pub count_fits_spec : {M : Type 1} → statement M
count_fits_spec =
    tie.close
    (tie.spec
    (λ c. rw (eq-eqb _ _ c.if-level-eq1.true, le-leb _ _ c.if-n-ge4.true) refl)
    (λ c. rw (eq-eqb _ _ c.if-level-eq1.true, lt-leb _ _ c.if-n-ge4.false) refl)
    (λ c. rw (ne_eqb _ _ c.if-level-eq1.false, eq-eqb _ _ c.if-level-eq4.true, leb-zero c.args.n) refl)
    (λ c. let e = c.before in rw (ne_eqb _ _ e.if-level-eq1.false, ne_eqb _ _ e.if-level-eq4.false, le-leb _ _ c.if-n-ge1.true) refl)
    (λ c. let e = c.before in rw (ne_eqb _ _ e.if-level-eq1.false, ne_eqb _ _ e.if-level-eq4.false, lt-leb _ _ c.if-n-ge1.false) refl))
