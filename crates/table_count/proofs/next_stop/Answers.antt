-- From a corner that is not below v on none is strictly between, as what is strictly between is below v.
use Rattle.std.proofs.Common.{◌≡◌, Bool, true, false, List, ℕ, ◌≤◌, ◌<◌, T, eqb, ltb, refl, ap, length, get_or, arith, ltb-true, ltb-false, eqb-true}
use Rattle.std.proofs.lemmas.Bool.{eqb-false}
use Rattle.plane.proofs.Keys.{between_order}
use Rattle.plane.specs.Points.{between}
use Rattle.plane.specs.Keys.{point_at, pair}
use Rattle.whole_order.proofs.Ascending.{ascending_below}
use Rattle.whole_order.specs.Ascending.{Ascending}
use Rattle.table_count.proofs.next_stop.Goals as goal

-- No corner from one on that is not below v is strictly between.
past : (corners : List ℕ) (at i j u v : ℕ) → Ascending corners → u < v → v ≤ get_or corners i 0
    → ((j : ℕ) → at ≤ j → j < i → T (between (point_at (get_or corners j 0)) (pair u v)) → ⊥) → at ≤ j → j < length corners → T (between (point_at (get_or corners j 0)) (pair u v)) → ⊥
past corners at i j u v a up h none k l t = go (ltb j i) refl (eqb j i) refl
  where
    go : (b : Bool) → ltb j i ≡ b → (d : Bool) → eqb j i ≡ d → ⊥
    go true e d f = none j k (ltb-true j i e) t
    go false e true f = omega (arith, (between_order (get_or corners j 0) u v up t).1, ap (λ m. get_or corners m 0) (eqb-true j i f))
    go false e false f = let n = eqb-false j i f in omega (arith, (between_order (get_or corners j 0) u v up t).1, ascending_below corners i j a (omega (arith, ltb-false j i e)) l)

pub returns-then-v-corners : goal.returns-then-v-corners
returns-then-v-corners c =
    let p = c.requires in
    let a = c.args in
    record {
      within = omega arith;
      onward = omega arith;
      stop = λ h. absurd (omega arith);
      first = λ j h k t. past a.corners.now a.at c.loop-i.i j a.u a.v p.0 p.4 c.if-v-corners.true c.loop-i.invariant h k t;
    }
