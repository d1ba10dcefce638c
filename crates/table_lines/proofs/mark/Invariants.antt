-- What is kept: the first j edges are marked, and their places are in the span.
use Rattle.std.proofs.Common.{◌≤◌, length, take}
use Rattle.table_lines.specs.Lines.{Begins, Ends, DoneBy, Spans}
use Rattle.table_lines.proofs.mark.Given as goal

abbrev pub invariant-loop-j : goal.invariant-loop-j
invariant-loop-j l =
    record {
      begins : Begins l.corners l.a l.b (take l.j l.from) (take l.j l.to) l.begins;
      ends : Ends l.corners l.a l.b (take l.j l.from) (take l.j l.to) l.ends;
      done : DoneBy l.a l.b l.from l.to l.j l.initial.done l.done;
      stop : l.span.stop ≤ length l.corners;
      spans : Spans l.corners l.a l.b l.from l.to l.j l.span.low l.span.stop;
    }
