-- At first no edge is marked, in the end all are.
use Rattle.std.proofs.Common.{◌≡◌, ◌≤◌, ◌<◌, ℕ, T, length, get_or, inl, subst, arith}
use Rattle.table_lines.specs.Lines.{lie, DoneBy}
use Rattle.table_lines.proofs.Marked.{begins_first, ends_first, begins_all, ends_all, done_first, spans_first}
use Rattle.table_lines.proofs.mark.Goals as goal

pub loop-j-init : goal.loop-j-init
loop-j-init c =
    let a = c.args in
    let r = c.requires in
    let i : a.i ≤ length a.to.now = omega (arith, r.3, r.0.as_many) in
    let u : (k : ℕ) → k < a.i → T (lie a.a a.b (get_or a.from.now k 0) (get_or a.to.now k 0)) → ⊥ = λ k h. r.4 k (omega (arith, r.3)) (inl h) in
    record {
      begins = begins_first a.corners.now a.a a.b a.from.now a.to.now a.begins.now a.i r.3 i u r.6 r.8;
      ends = ends_first a.corners.now a.a a.b a.from.now a.to.now a.ends.now a.i r.3 i u r.7 r.9;
      done = done_first a.corners.now a.a a.b a.from.now a.to.now a.done.now a.i u;
      stop = omega arith;
      spans = spans_first a.corners.now a.a a.b a.from.now a.to.now a.i (length a.corners.now) 0 u;
    }

pub returns : goal.returns
returns c =
    let a = c.args in
    let l = c.loop-j in
    let m = l.invariant in
    let h : length a.from.now ≤ l.j = omega arith in
    let k : length a.to.now ≤ l.j = omega (arith, c.requires.0.as_many) in
    let q : l.j ≡ length a.from.now = omega (arith, c.requires.3) in (
      m.stop,
      λ i g. m.spans i (omega arith),
      begins_all a.corners.now a.a a.b a.from.now a.to.now l.begins l.j h k m.begins,
      ends_all a.corners.now a.a a.b a.from.now a.to.now l.ends l.j h k m.ends,
      subst (λ n. DoneBy a.a a.b a.from.now a.to.now n a.done.now l.done) q m.done,
    )
