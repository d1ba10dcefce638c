-- `table_runs::meet` meets its contract: an even sum is settled, another is set at the side and at its reverse. Assumes nothing.
use mathlib.Core.Path.{◌∙◌, ap, ap₂}
use Prim.Native.Nat.{◌≤◌, ◌<◌}
use native.Mathlib.Omega.{arith}
use borrow.Author.Rules.{rules}
use lib.ListN.{length, get_or}
use Rattle.plane.specs.Keys.{pair}
use Rattle.table_lines.proofs.Follows.{begun_few, ended_few}
use Rattle.table_count.proofs.Found.{found_within}
use Rattle.table_runs.specs.Runs.{placed}
use Rattle.table_runs.proofs.Runs.{met_even, met_stray, met_put}
use Rattle.table_runs.proofs.meet.Statement.{statement}
use Rattle.table_runs.proofs.meet.Tie as tie

-- ---- places: the entry of the function, and the two sides that are looked up
abbrev start : tie.After-side_at-o → tie.Start
start c = c.before.before.before.before.before.before.before.before

-- ---- what stands there
few : (s : tie.Start) → (s.args.more ≤ 4096) × (s.args.less ≤ 4096)
few s =
    let a = s.args in (
      omega (arith, s.requires.1.few, s.requires.4, begun_few a.corners.now a.a a.b a.from.now a.to.now a.k),
      omega (arith, s.requires.1.few, s.requires.5, ended_few a.corners.now a.a a.b a.from.now a.to.now a.k),
    )

last_there : (s : tie.Start) → s.args.last < length s.args.corners.now
last_there s = omega (arith, s.requires.2, s.requires.3)

there : (c : tie.After-side_at-o) → c.side_at-s.result ≤ length (start c).args.counts.now
there c =
    let s = start c in
    let a = s.args in
    omega (arith, s.requires.0.2, c.side_at-s.ensures s.requires.0.0 s.requires.0.1, found_within (pair (get_or a.corners.now a.last 0) (get_or a.corners.now a.k 0)) s.requires.0.0)

back : (c : tie.After-side_at-o) → c.side_at-o.result ≤ length (start c).args.counts.now
back c =
    let s = start c in
    let a = s.args in
    omega (arith, s.requires.0.2, c.side_at-o.ensures s.requires.0.0 s.requires.0.1, found_within (pair (get_or a.corners.now a.k 0) (get_or a.corners.now a.last 0)) s.requires.0.0)

-- ---- the needs
returns : tie.Need-returns-then-more-less
returns c = λ sides looked still apart on ready.
    let s = c in
    let a = s.args in
    met_even sides a.corners.now a.index.now a.from.now a.to.now looked s.requires.1 a.a a.b apart a.k s.requires.2 on a.counts.now still a.more a.less s.requires.4 s.requires.5 c.if-more-less.true

side_at_requires : tie.Need-side_at-s-requires
side_at_requires c κs = let s = c.before.before.before.before.before.before in ((s.requires.0.0, s.requires.0.1), last_there s, s.requires.2)

side_at_requires_2 : tie.Need-side_at-o-requires
side_at_requires_2 c κs = let s = c.before.before.before.before.before.before.before in ((s.requires.0.0, s.requires.0.1), s.requires.2, last_there s)

add_if2 : tie.Need-overflow_add-s
add_if2 c = omega (arith, there c, back c)

returns_2 : tie.Need-returns-then-s-o-eq0
returns_2 c = λ sides looked still apart on ready.
    let s = start c.before in
    let a = s.args in
    let x = c.side_at-s.ensures sides looked in
    let y = c.side_at-o.ensures sides looked in
    met_stray sides a.corners.now a.index.now a.from.now a.to.now looked s.requires.1 a.a a.b apart a.k s.requires.2 on a.counts.now still a.more a.less s.requires.4 s.requires.5 (get_or a.corners.now a.last 0) ready c.if-more-less.false (omega (arith, c.if-s-o-eq0.true)) (omega (arith, c.if-s-o-eq0.true))

put_requires : tie.Need-put-requires
put_requires c κs = let f = few (start c.before.before) in (there c.before.before, f.0, f.1)

put_requires_2 : tie.Need-put-requires-2
put_requires_2 c κs = let f = few (start c.before.before.before.before.before.before) in (omega (arith, c.put.auto.counts, back c.before.before.before.before.before.before), f.1, f.0)

returns_3 : tie.Need-returns
returns_3 c = λ sides looked still apart on ready.
    let d = c.before.before.before.before.before.before.before.before.before in
    let s = start d in
    let a = s.args in
    let x = d.side_at-s.ensures sides looked in
    let y = d.side_at-o.ensures sides looked in
    met_put sides a.corners.now a.index.now a.from.now a.to.now looked s.requires.1 a.a a.b apart a.k s.requires.2 on a.counts.now still a.more a.less s.requires.4 s.requires.5 (get_or a.corners.now a.last 0) ready d.if-more-less.false (few s) (λ z. c.if-s-o-eq0.false (omega arith)) c.put-2.new.counts
    (c.put-2.ensures ∙ ap₂ (λ l o. placed l o a.less a.more) (c.put.ensures ∙ ap (λ z. placed a.counts.now z a.more a.less) x) y)

pub meet_spec : {M : Type 1} → statement M
meet_spec = tie.close (tie.spec returns side_at_requires side_at_requires_2 add_if2 returns_2 put_requires put_requires_2 (λ c. search rules) returns_3)
