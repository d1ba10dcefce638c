-- At a corner the sums are what has begun and what has ended before it, so a corner of the line is met as its contract says, and the others are passed over.
use Rattle.std.proofs.Common.{refl, sym, subst, ap, ◌∙◌, inl, not, T, List, suc, ◌+◌, add-one, ◌≤◌, ◌<◌, length, get_or, arith}
use Rattle.whole.proofs.Tests.{told_yes}
use Rattle.plane.specs.Points.{Edge}
use Rattle.table_lines.proofs.Follows.{begun_more, ended_more, begun_few, ended_few}
use Rattle.table_count.specs.Counting.{Looked, pieces_of}
use Rattle.table_runs.specs.Runs.{Open, Ready, Walked}
use Rattle.table_runs.proofs.Walks.{walked_low, walked_stop, begun_low, ended_low, walked_met, walked_off, walked_even, ready_on, ready_off}
use Rattle.table_runs.proofs.walk.Goals as goal
use Rattle.table_runs.proofs.walk.Goals.{then-not-quiet+then-on_line+else-not-meet, else-not-quiet, else-not-quiet-via-then-not-quiet+else-on_line, else-not-quiet-via-else-not-quiet}

pub loop-k-init : goal.loop-k-init
loop-k-init c =
    let a = c.args in
    let r = c.requires in
    record {
      begun = sym (begun_low r.0.0 a.corners.now a.index.now a.from.now a.to.now r.0.1 r.1 a.a a.b r.4 a.low a.stop r.8 a.low (omega arith));
      ended = sym (ended_low r.0.0 a.corners.now a.index.now a.from.now a.to.now r.0.1 r.1 a.a a.b r.4 a.low a.stop r.8 a.low (omega arith));
      ready = inl refl;
      walked = λ sides looked opened. walked_low sides a.corners.now a.index.now a.from.now a.to.now looked r.1 a.a a.b r.4 a.low a.stop r.8 a.counts.now opened;
      before = omega arith;
    }

pub overflow_add-more : goal.overflow_add-more
overflow_add-more c =
    let a = c.args in
    let k = c.loop-k.k in
    omega (arith, c.loop-k.invariant.begun, c.requires.1.few, c.requires.5.each k (omega arith), begun_more a.corners.now a.a a.b a.from.now a.to.now k, begun_few a.corners.now a.a a.b a.from.now a.to.now (suc k))

pub overflow_add-less : goal.overflow_add-less
overflow_add-less c =
    let a = c.args in
    let k = c.loop-k.k in
    omega (arith, c.loop-k.invariant.ended, c.requires.1.few, c.requires.6.each k (omega arith), ended_more a.corners.now a.a a.b a.from.now a.to.now k, ended_few a.corners.now a.a a.b a.from.now a.to.now (suc k))

pub loop-k-preserved : goal.loop-k-preserved
loop-k-preserved c =
    let a = c.args in
    let r = c.requires in
    let l = c.loop-k in
    let m = l.invariant in
    let h : l.k < length a.corners.now = omega arith in
    let begin = get_or a.begins.now l.k 0 in
    let end = get_or a.ends.now l.k 0 in
    let passed : Ready a.corners.now a.a a.b (l.k + 1) (get_or a.corners.now c.if-not-quiet.last 0) (l.more + begin) (l.less + end)
    × ((sides : List Edge) → Looked sides a.corners.now a.index.now → Open sides (pieces_of a.corners.now a.from.now a.to.now) a.counts.now
    → Walked sides a.corners.now a.from.now a.to.now a.a a.b a.counts.now c.if-not-quiet.counts (l.k + 1))
    × (c.if-not-quiet.last ≤ l.k + 1) = elim c.if-not-quiet.branch [
      | then-not-quiet+then-on_line+else-not-meet w ↦
          let on = sym w.on_line.ensures ∙ w.if-on_line.true in (
            subst (λ z. Ready a.corners.now a.a a.b (l.k + 1) (get_or a.corners.now z 0) (l.more + begin) (l.less + end)) (sym w.last-is) (ready_on a.corners.now a.from.now a.to.now r.1 a.a a.b l.k h (l.more + begin) (l.less + end) on),
            λ sides looked opened.
                let walked = m.walked sides looked opened in
                subst (λ z. Walked sides a.corners.now a.from.now a.to.now a.a a.b a.counts.now z (l.k + 1)) (sym w.counts-is)
                (walked_met sides a.corners.now a.index.now a.from.now a.to.now looked r.1 a.a a.b r.4 l.k h a.counts.now l.counts walked w.meet.new.counts (told_yes _ _ w.meet.result (ap not w.if-not-meet.false) (w.meet.ensures sides looked walked.still r.4 (subst T (sym on) tt) m.ready))),
            omega (arith, w.last-is),
          )
      | else-not-quiet w ↦ elim w.else-not-quiet.branch [
        | else-not-quiet-via-then-not-quiet+else-on_line o ↦
            let off = sym o.on_line.ensures ∙ o.if-on_line.false in (
              subst (λ z. Ready a.corners.now a.a a.b (l.k + 1) (get_or a.corners.now z 0) (l.more + begin) (l.less + end)) (sym w.last-is)
                  (ready_off a.corners.now a.from.now a.to.now r.1 a.a a.b l.k h (get_or a.corners.now l.last 0) l.more l.less begin end (r.5.each l.k h) (r.6.each l.k h) off m.ready),
              λ sides looked opened. subst (λ z. Walked sides a.corners.now a.from.now a.to.now a.a a.b a.counts.now z (l.k + 1)) (sym w.counts-is)
                  (walked_off sides a.corners.now a.index.now a.from.now a.to.now looked r.1 a.a a.b r.4 l.k h a.counts.now l.counts (m.walked sides looked opened) off),
              omega (arith, w.last-is, m.before),
            )
        | else-not-quiet-via-else-not-quiet o ↦
            let even = c.quiet.ensures o.if-not-quiet.false in (
              inl (omega (arith, even)),
              λ sides looked opened. subst (λ z. Walked sides a.corners.now a.from.now a.to.now a.a a.b a.counts.now z (l.k + 1)) (sym w.counts-is)
                  (walked_even sides a.corners.now a.index.now a.from.now a.to.now looked r.1 a.a a.b r.4 l.k h a.counts.now l.counts (m.walked sides looked opened) l.more l.less m.begun m.ended even.0),
              omega (arith, w.last-is, m.before),
            )
      ]
    ] in record {
      begun = rw add-one (omega (arith, m.begun, r.5.each l.k h, begun_more a.corners.now a.a a.b a.from.now a.to.now l.k));
      ended = rw add-one (omega (arith, m.ended, r.6.each l.k h, ended_more a.corners.now a.a a.b a.from.now a.to.now l.k));
      ready = passed.0;
      walked = passed.1;
      before = passed.2;
    }

pub returns : goal.returns
returns c = λ sides looked opened.
    let a = c.args in
    let r = c.requires in
    let l = c.loop-k in
    walked_stop sides a.corners.now a.index.now a.from.now a.to.now looked r.1 a.a a.b r.4 a.low a.stop r.8 a.counts.now l.counts l.k (omega arith) (l.invariant.walked sides looked opened)
