-- What is kept: the edges gone through are trimmed, and the others are still to come.
use Rattle.std.proofs.Common.{◌≡◌, ◌*◌, ◌≤◌, length, take, drop}
use Rattle.plane.specs.Keys.{pairs}
use Rattle.table_trim.specs.Trimming.{Trimmed}
use Rattle.table_trim.proofs.trim_all.Given as goal

abbrev pub invariant-loop-p : goal.invariant-loop-p
invariant-loop-p l =
    let i = length l.yielded in
    record {
      rest_from : l.p-iterator.a.rest.now ≡ drop i l.from;
      rest_to : l.p-iterator.b.rest.now ≡ drop i l.to;
      within : i ≤ length l.from;
      few : l.m ≤ i;
      few_open : l.n ≤ 2 * i;
      trimmed : Trimmed l.corners l.from l.to i (take l.m l.fs) (take l.m l.ts) (pairs (take l.n l.us) (take l.n l.vs));
    }
