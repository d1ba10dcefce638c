-- An edge that is done or not on the line changes nothing, another is marked at its two corners.
use Rattle.std.proofs.Common.{◌≡◌, true, false, cond, sym, ◌∙◌, ap, List, ℕ, Bool, ◌+◌, ◌<◌, length, get_or, set, take, arith}
use Rattle.whole.proofs.Sums.{all_at}
use Rattle.whole_order.specs.Ascending.{IsIn, place_of}
use Rattle.whole_order.proofs.Ascending.{place_found}
use Rattle.table_lines.specs.Lines.{lie, Cornered, Begins, Ends, Spans}
use Rattle.table_lines.proofs.Marked.{begins_off, ends_off, begins_on, ends_on, begins_room, ends_room, spans_off, spans_on, not_so}
use Rattle.table_lines.proofs.mark_edge.Goals as goal

-- The two ends of edge j are corners, with places.
module _ (corners from to : List ℕ) (cornered : Cornered corners from to) (j : ℕ) (h : j < length from) where
  there : j < length to
  there = omega (arith, cornered.as_many)

  from_stands : IsIn (get_or from j 0) corners
  from_stands = all_at (λ p. IsIn p corners) 0 from j cornered.from_stand h

  to_stands : IsIn (get_or to j 0) corners
  to_stands = all_at (λ q. IsIn q corners) 0 to j cornered.to_stand there

  from_place : place_of (get_or from j 0) corners < length corners
  from_place = (place_found corners (get_or from j 0) cornered.ascending from_stands).0

  to_place : place_of (get_or to j 0) corners < length corners
  to_place = (place_found corners (get_or to j 0) cornered.ascending to_stands).0

  -- An edge that is not on the line changes nothing.
  nothing : (a b low stop : ℕ) (begins ends : List ℕ) (done : List Bool) → lie a b (get_or from j 0) (get_or to j 0) ≡ false
      → Begins corners a b (take j from) (take j to) begins → Ends corners a b (take j from) (take j to) ends → Spans corners a b from to j low stop
      → Begins corners a b (take (j + 1) from) (take (j + 1) to) begins × Ends corners a b (take (j + 1) from) (take (j + 1) to) ends
      × (done ≡ cond (lie a b (get_or from j 0) (get_or to j 0)) (set done j true) done) × Spans corners a b from to (j + 1) low stop
  nothing a b low stop begins ends done e m n s = (
    begins_off corners a b from to j h there begins e m,
    ends_off corners a b from to j h there ends e n,
    sym (ap (λ x. cond x (set done j true) done) e),
    spans_off corners a b from to j low stop e s,
  )

pub returns-then-done-j : goal.returns-then-done-j
returns-then-done-j c =
    let a = c.args in
    let r = c.requires in
    let n = nothing a.corners.now a.from.now a.to.now r.0 a.j r.3 a.a a.b a.span.low a.span.stop a.begins.now a.ends.now a.done.now (not_so (lie a.a a.b (get_or a.from.now a.j 0) (get_or a.to.now a.j 0)) (r.5 c.if-done-j.true)) r.6 r.7 r.9 in
    (n.0, n.1, n.2, r.8, n.3)

pub returns-then-not-both_on : goal.returns-then-not-both_on
returns-then-not-both_on c =
    let a = c.args in
    let r = c.requires in
    let n = nothing a.corners.now a.from.now a.to.now r.0 a.j r.3 a.a a.b a.span.low a.span.stop a.begins.now a.ends.now a.done.now (sym c.both_on.ensures ∙ c.if-not-both_on.true) r.6 r.7 r.9 in
    (n.0, n.1, n.2, r.8, n.3)

pub note-x-requires : goal.note-x-requires
note-x-requires c =
    let a = c.args in
    let r = c.requires in
    (r.0.ascending, from_stands a.corners.now a.from.now a.to.now r.0 a.j r.3, r.6.number, begins_room a.corners.now a.a a.b a.from.now a.to.now a.j (place_of (get_or a.from.now a.j 0) a.corners.now) a.begins.now r.0.few (from_place a.corners.now a.from.now a.to.now r.0 a.j r.3) r.6)

pub note-y-requires : goal.note-y-requires
note-y-requires c =
    let a = c.args in
    let r = c.requires in
    (r.0.ascending, to_stands a.corners.now a.from.now a.to.now r.0 a.j r.3, r.7.number, ends_room a.corners.now a.a a.b a.from.now a.to.now a.j (place_of (get_or a.to.now a.j 0) a.corners.now) a.ends.now r.0.few (to_place a.corners.now a.from.now a.to.now r.0 a.j r.3) r.7)

pub widened-requires : goal.widened-requires
widened-requires c =
    let a = c.args in
    let r = c.requires in
    (omega (arith, c.note-x.ensures.0, from_place a.corners.now a.from.now a.to.now r.0 a.j r.3, r.0.few_corners), omega (arith, c.note-y.ensures.0, to_place a.corners.now a.from.now a.to.now r.0 a.j r.3, r.0.few_corners))

pub returns : goal.returns
returns c =
    let a = c.args in
    let r = c.requires in
    let t = there a.corners.now a.from.now a.to.now r.0 a.j r.3 in
    let x = c.note-x in
    let y = c.note-y in
    let w = c.widened.ensures in
    let on = sym c.both_on.ensures ∙ c.if-not-both_on.false in (
      begins_on a.corners.now a.a a.b a.from.now a.to.now a.j r.3 t a.begins.now x.new.marks x.ensures.1 on r.6,
      ends_on a.corners.now a.a a.b a.from.now a.to.now a.j r.3 t a.ends.now y.new.marks y.ensures.1 on r.7,
      sym (ap (λ x. cond x (set a.done.now a.j true) a.done.now) on),
      w.no_more (length a.corners.now) r.8 (omega (arith, x.ensures.0, from_place a.corners.now a.from.now a.to.now r.0 a.j r.3)) (omega (arith, y.ensures.0, to_place a.corners.now a.from.now a.to.now r.0 a.j r.3)),
      spans_on a.corners.now a.a a.b a.from.now a.to.now a.j a.span.low a.span.stop c.widened.result.low c.widened.result.stop x.result y.result x.ensures.0 y.ensures.0 w r.9,
    )
