-- `owners_judge::judge` meets its contract: a stray piece, or counts that no set has for its boundary, leave no set that carries the member; where no side is
-- touched it has no ground; else the labelled set carries it. Assumes nothing.
use mathlib.Core.Path.{◌≡◌, sym, ◌∙◌, ap}
use mathlib.Core.Bool.{Bool, not}
use mathlib.Core.List.{List}
use Prim.Native.Nat.{ℕ}
use native.Mathlib.Omega.{arith}
use lib.ListN.{length, take}
use lib.Seq.{length-take-le}
use Rattle.whole.specs.Tests.{Told}
use Rattle.whole.proofs.Tests.{told_no, told_yes}
use Rattle.plane.specs.Points.{Edge}
use Rattle.plane.specs.Boundaries.{sides_of}
use Rattle.table.specs.Sides.{triangles_of}
use Rattle.table.proofs.Shares.{length_sides}
use Rattle.table_count.specs.Counting.{pieces_of, Tallied, Settled, Stray}
use Rattle.table_spread.specs.Spreading.{touched_sides, Spreadable}
use Rattle.table_spread.proofs.TouchedSides.{none_touched, some_touched}
use Rattle.owners_judge.specs.Preparing.{Prepared, WorkLists}
use Rattle.owners_judge.proofs.Judged.{judge_stray, spreadable, judge_none, judge_bare, judge_carried}
use borrow.Author.Rules.{rules}
use Rattle.owners_judge.proofs.judge.Statement.{statement}
use Rattle.owners_judge.proofs.judge.Tie as tie

-- ---- places: the entry of the function, the calls of `tally`, `touched` and `spread`, and the way on behind each
abbrev start : tie.After-tally-arg-1 → tie.Start
start c = c.before.before.before.before.before.before.before.before.before.before

abbrev tally_call : tie.Else-not-tally → tie.After-tally
tally_call c = c.before.before.before

abbrev tallied : tie.After-touched-n → tie.Else-not-tally
tallied c = c.before.before

abbrev touched_call : tie.Else-n-eq0 → tie.After-touched-n
touched_call c = c.before.before.before

abbrev listed : tie.After-spread → tie.Else-n-eq0
listed c = c.before.before.before

abbrev spread_call : tie.After-slice_known-8-1 → tie.After-spread
spread_call c = c.before.before.before.before

abbrev entry : tie.Else-not-tally → tie.Start
entry c = start (tally_call c).before

-- The pieces of the polygon, their counts at the sides of the table, the list of the touched sides, and the labels that have spread.
abbrev pieces : tie.Start → List Edge
pieces o = pieces_of o.args.ordered.now o.args.from.now o.args.to.now

abbrev counts : tie.After-tally → List ℕ
counts c = c.tally.new.counts

abbrev touched : tie.After-touched-n → List ℕ
touched c = c.touched-n.new.sides

abbrev labels : tie.After-spread → List Bool
labels c = c.spread.new.labels

-- What is found once for the table of these corners, and the work lists for it.
abbrev Found : tie.Start → List ℕ → Type 0
Found o keys = Prepared keys o.args.ordered.now o.args.index.now o.args.opposite.now

abbrev Lists : tie.Start → List ℕ → Type 0
Lists o keys = WorkLists keys o.args.counts.now o.args.touched.now o.args.labels.now o.args.group.now

-- ---- what stands there
-- A count for each side.
each_side : (o : tie.Start) {keys : List ℕ} → Found o keys → Lists o keys → length o.args.counts.now ≡ length (sides_of (triangles_of keys))
each_side o {keys} w q = q.each_count ∙ sym (length_sides keys w.indexed.n w.indexed.three)

-- What `tally` tells, and the counts behind it.
told : (c : tie.After-tally) {keys : List ℕ} → let o = start c.before in Found o keys → Lists o keys → Told c.tally.result
    (Tallied (sides_of (triangles_of keys)) (pieces o) (counts c) × Settled (sides_of (triangles_of keys)) (pieces o) (pieces o)) (Stray (sides_of (triangles_of keys)) (pieces o))
told c {keys} w q = let o = start c.before in c.tally.ensures (sides_of (triangles_of keys)) w.indexed.looked (each_side o w q)

counted : (c : tie.Else-not-tally) {keys : List ℕ} → Found (entry c) keys → Lists (entry c) keys
    → Tallied (sides_of (triangles_of keys)) (pieces (entry c)) (counts (tally_call c)) × Settled (sides_of (triangles_of keys)) (pieces (entry c)) (pieces (entry c))
counted c w q = told_yes _ _ (tally_call c).tally.result (ap not c.if-not-tally.false) (told (tally_call c) w q)

many : (c : tie.Else-not-tally) {keys : List ℕ} → Found (entry c) keys → Lists (entry c) keys → length (counts (tally_call c)) ≡ length keys
many c w q = (tally_call c).tally.auto.counts ∙ q.each_count

spreading : (c : tie.Else-not-tally) {keys : List ℕ} → Found (entry c) keys → Lists (entry c) keys → Spreadable (entry c).args.opposite.now (counts (tally_call c)) (length (entry c).args.labels.now)
spreading c {keys} w q =
    let a = (entry c).args in
    spreadable keys _ _ _ w a.from.now a.to.now (counts (tally_call c)) (entry c).requires.1 (counted c w q).0 (length a.labels.now) q.each_label (many c w q)

tally_requires : tie.Need-tally-requires
tally_requires c κs =
    let o = start c in
    let p = o.requires.0 in
    ((sides_of (triangles_of p.0), p.1.indexed.looked, each_side o p.1 p.2), o.requires.1)

touched_requires : tie.Need-touched-n-requires
touched_requires c κs = let d = c.before in let p = (entry d).requires.0 in p.2.each_side ∙ sym (many d p.1 p.2)

spread_requires : tie.Need-spread-requires
spread_requires c κs =
    let t = touched_call c.before.before in
    let d = tallied t in
    let p = (entry d).requires.0 in
    (spreading d p.1 p.2, t.touched-n.ensures.0, p.2.each_place ∙ sym p.2.each_label)

returns : tie.Need-returns-then-not-tally
returns c = λ keys m w q e.
    let d = c.before.before.before in
    let a = (start d.before).args in
    sym (judge_stray keys _ _ _ w a.from.now a.to.now m e (told_no _ _ d.tally.result (ap not c.if-not-tally.true) (told d w q)))

returns_2 : tie.Need-returns-then-n-eq0
returns_2 c = λ keys m w q e.
    let t = c.before.before.before in
    let d = tallied t in
    let a = (entry d).args in
    let k = counted d w q in
    let none : touched_sides (counts (tally_call d)) ≡ _ = sym t.touched-n.ensures.0 ∙ ap (λ n. take n (touched t)) c.if-n-eq0.true in
    sym (judge_bare keys _ _ _ w a.from.now a.to.now m e (counts (tally_call d)) k.0 k.1
    (λ j h. none_touched (counts (tally_call d)) none j (omega (arith, (spreading d w q).sided.number))))

returns_3 : tie.Need-returns-then-not-spread
returns_3 c = λ keys m w q e.
    let s = spread_call c.before in
    let d = tallied (touched_call (listed s)) in
    let a = (entry d).args in
    let no = told_no _ _ s.spread.result (ap not c.if-not-spread.true) s.spread.ensures.1 in
    sym (judge_none keys _ _ _ w a.from.now a.to.now m e (counts (tally_call d)) (counted d w q).0 (λ z l. no z (l ∙ sym q.each_label)))

returns_4 : tie.Need-returns
returns_4 c = λ keys m w q e.
    let s = spread_call c.before in
    let t = touched_call (listed s) in
    let d = tallied t in
    let a = (entry d).args in
    let k = counted d w q in
    let one = some_touched (counts (tally_call d)) (touched t) t.touched-n.result t.touched-n.ensures.0 t.touched-n.ensures.1 (listed s).if-n-eq0.false in
    let yes = told_yes _ _ s.spread.result (ap not c.if-not-spread.false) s.spread.ensures.1 in
    sym (judge_carried keys _ _ _ w a.from.now a.to.now m e (counts (tally_call d)) k.0 k.1 (labels s) (s.spread.ensures.0 ∙ q.each_label) yes
    one.0 (omega (arith, one.1, (spreading d w q).sided.number)) one.2)

pub judge_spec : {M : Type 1} → statement M
judge_spec =
    tie.close
    (tie.spec
    tally_requires
    (λ c. search rules)
    returns
    touched_requires
    (λ c. search rules)
    (λ c. search rules)
    returns_2
    (λ c. search rules)
    (λ c. let t = touched_call c in sym (length-take-le t.touched-n.result (touched t) t.touched-n.ensures.1))
    spread_requires
    (λ c. search rules)
    (λ c. search rules)
    (λ c. search rules)
    (λ c. search rules)
    returns_3
    (λ c. search rules)
    (λ c. search rules)
    (λ c. search rules)
    (λ c. search rules)
    returns_4)
