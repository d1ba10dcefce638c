-- `table_check::compared` meets its contract: a stray piece leaves the boundaries apart; else the last comparison tells whether the table has
-- the boundary of the outline's pieces. Assumes nothing.
use mathlib.Core.Path.{◌≡◌, sym, ◌∙◌, ap}
use mathlib.Core.Bool.{true, not}
use mathlib.Core.List.{List}
use Prim.Native.Nat.{ℕ}
use lib.ListN.{length}
use Rattle.whole.specs.Tests.{Told}
use Rattle.whole.proofs.Tests.{told_no, told_yes}
use Rattle.plane.specs.Points.{Edge}
use Rattle.plane.specs.Boundaries.{sides_of}
use Rattle.table.specs.Sides.{triangles_of}
use Rattle.table.proofs.Shares.{length_sides}
use Rattle.table_count.specs.Counting.{pieces_of, Tallied, Settled, Stray}
use Rattle.table_labels.proofs.Compared.{sided, tallied_room}
use Rattle.table_check.proofs.RuleC.{stray_differs, shares_tell}
use borrow.Author.Rules.{rules}
use Rattle.table_check.proofs.compared.Statement.{statement}
use Rattle.table_check.proofs.compared.Tie as tie

-- ---- places: the entry of the function, and the call of `tally`
abbrev entry : tie.After-tally-arg-1 → tie.Start
entry c = c.before.before.before.before.before.before.before.before.before

abbrev start : tie.After-tally → tie.Start
start c = entry c.before

abbrev tally_call : tie.Else-not-tally → tie.After-tally
tally_call c = c.before.before.before

-- The sides of the table; the outline's pieces, and the counts of these at the sides.
abbrev sides : tie.Start → List Edge
sides o = sides_of (triangles_of o.args.keys.now)

abbrev pieces : tie.Start → List Edge
pieces o = pieces_of o.args.ordered.now o.args.from.now o.args.to.now

abbrev counts : tie.After-tally → List ℕ
counts c = c.tally.new.counts

-- A count for each side.
each_side : (o : tie.Start) → length o.args.counts.now ≡ length (sides o)
each_side o = let w = o.requires.0 in o.requires.2 ∙ sym (length_sides o.args.keys.now w.n w.three)

-- What `tally` tells, and the counts behind it.
told : (c : tie.After-tally) → let o = start c in Told c.tally.result (Tallied (sides o) (pieces o) (counts c) × Settled (sides o) (pieces o) (pieces o)) (Stray (sides o) (pieces o))
told c = let o = start c in c.tally.ensures (sides o) o.requires.0.looked (each_side o)

counted : (c : tie.After-tally) → c.tally.result ≡ true → let o = start c in Tallied (sides o) (pieces o) (counts c) × Settled (sides o) (pieces o) (pieces o)
counted c e = told_yes _ _ c.tally.result (ap not e) (told c)

tally_requires : tie.Need-tally-requires
tally_requires c κs = let o = entry c in ((sides o, o.requires.0.looked, each_side o), o.requires.1)

returns : tie.Need-returns-then-not-tally
returns c =
    let t = c.before.before.before in
    let a = (start t).args in
    let p = (start t).requires in
    stray_differs a.keys.now _ _ _ p.0 a.labels.now p.3 p.4 a.from.now a.to.now (told_no _ _ t.tally.result (ap not c.if-not-tally.true) (told t))

agree_requires : tie.Need-agree-requires
agree_requires c κs =
    let t = tally_call c in
    let a = (start t).args in
    let p = (start t).requires in
    sided a.keys.now _ _ _ p.0 (pieces (start t)) (counts t) (length a.labels.now) (t.tally.auto.counts ∙ p.2) p.3
    (tallied_room (sides (start t)) a.ordered.now a.from.now a.to.now (counts t) p.1 (counted t c.if-not-tally.false).0)

returns_2 : tie.Need-returns
returns_2 c =
    let d = c.before in
    let t = tally_call d in
    let a = (start t).args in
    let p = (start t).requires in
    let n = counted t d.if-not-tally.false in
    shares_tell a.keys.now _ _ _ p.0 a.labels.now p.3 p.4 a.from.now a.to.now (counts t) n.0 n.1 c.agree.result c.agree.ensures

pub compared_spec : {M : Type 1} → statement M
compared_spec =
    tie.close
    (tie.spec
    tally_requires
    (λ c. search rules)
    returns
    agree_requires
    (λ c. search rules)
    returns_2)
