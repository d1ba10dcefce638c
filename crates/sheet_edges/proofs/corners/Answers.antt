-- The table's corners stand behind its count, and each is laid down in turn.
use Rattle.std.proofs.Common.{length, length-set, arith, refl, sym, ap, subst, ◌∙◌}
use Rattle.whole.specs.Sums.{All}
use Rattle.plane.specs.Keys.{Key}
use Rattle.table.specs.Sides.{triangles_of}
use Rattle.sheet_edges.proofs.Triangles.{table_room, keys_from, laying_none, laying_more, laid_all, keys_are, keys_table}
use Rattle.sheet_edges.proofs.corners.Goals as goal

pub loop-i-init : goal.loop-i-init
loop-i-init c = (refl, laying_none c.args.numbers.now c.args.keys.now)

pub point-requires : goal.point-requires
point-requires c = let h = table_room c.args.numbers.now c.requires.1.0 c.requires.1.1 c.requires.1.2 in omega (arith, c.requires.1.3)

pub loop-i-preserved : goal.loop-i-preserved
loop-i-preserved c = (
  simp length-set c.loop-i.invariant.0,
  rw c.point.ensures (laying_more c.args.numbers.now c.loop-i.keys c.loop-i.i (omega arith) c.loop-i.invariant.1),
)

pub returns : goal.returns
returns c =
    let n = c.args.numbers.now in
    let l = c.loop-i in
    let w = laid_all n l.keys l.i (omega arith) l.invariant.1 in
    (λ table rest s h. ap triangles_of (w ∙ ap (keys_from n 1) (l.invariant.0 ∙ h)) ∙ keys_table n c.requires.0 table rest s, subst (All Key) (sym w) (keys_are n c.requires.0 1 (length l.keys)), l.invariant.0)
