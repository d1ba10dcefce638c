-- `table_check::check_table` meets its contract: the rules in their order, by the faults found. Assumes nothing.
use Rattle.std.proofs.Common.{◌≡◌, sym, ◌∙◌, subst, true, false, [], List, ℕ, ◌≤◌, length, take, arith}
use Rattle.plane.specs.Keys.{pairs}
use Rattle.table.specs.Table.{flat, repeats}
use Rattle.table.specs.Sides.{triangles_of}
use Rattle.table.proofs.Shares.{length_triangles}
use Rattle.whole_order.proofs.Ascending.{length_ascending}
use Rattle.table_count.specs.Indexed.{Indexed}
use Rattle.table_check.specs.Checking.{Tableable}
use Rattle.table_check.proofs.Faults.{fault_within, sides_once, check_flat, check_repeated, check_outlined}
use Rattle.table_check.proofs.check_table.Goals as goal

-- The table has at most 1,024 triangles.
sized : {keys : List ℕ} {n : ℕ} → Tableable keys n → length (triangles_of keys) ≤ 1024
sized {keys} {n} p = omega (arith, p.few, length_triangles keys n p.three)

pub overflow_cast-result : goal.overflow_cast-result
overflow_cast-result c = omega (arith, fault_within flat [] (triangles_of c.args.keys.now) (sym c.in-Some.ensures), sized c.requires.0.1)

pub returns-in-Some : goal.returns-in-Some
returns-in-Some c = let a = c.args in record { is = check_flat (pairs a.from.now a.to.now) (triangles_of a.keys.now) (sym c.in-Some.ensures); indexed = λ n e. absurd (cc e) }

pub overflow_cast-result-in-Some-index_sides : goal.overflow_cast-result-in-Some-index_sides
overflow_cast-result-in-Some-index_sides c = omega (arith, fault_within repeats [] (triangles_of c.args.keys.now) (sym c.in-Some-index_sides.ensures.0), sized c.requires.0.1)

pub returns-in-Some-index_sides : goal.returns-in-Some-index_sides
returns-in-Some-index_sides c =
    let a = c.args in
    record { is = check_repeated (pairs a.from.now a.to.now) (triangles_of a.keys.now) (sym c.in_default.ensures) (sym c.in-Some-index_sides.ensures.0); indexed = λ n e. absurd (cc e) }

pub outlined-requires : goal.outlined-requires
outlined-requires c =
    let a = c.args in
    let once = sides_once (pairs a.from.now a.to.now) (triangles_of a.keys.now) (sym c.in_default.ensures) (sym c.in_default-index_sides.ensures.0) in
    (c.index_sides.ensures.1 once, c.requires.1, omega arith)

pub returns-then-not-outlined : goal.returns-then-not-outlined
returns-then-not-outlined c =
    let a = c.args in
    record {
      is = check_outlined (pairs a.from.now a.to.now) (triangles_of a.keys.now) (sym c.in_default.ensures) (sym c.in_default-index_sides.ensures.0) false (sym c.if-not-outlined.true ∙ c.outlined.ensures);
      indexed = λ n e. absurd (cc e);
    }

pub returns : goal.returns
returns c =
    let a = c.args in
    let outline = pairs a.from.now a.to.now in
    let table = triangles_of a.keys.now in
    let none_flat = sym c.in_default.ensures in
    let none_repeated = sym c.in_default-index_sides.ensures.0 in
    let room : c.sort-n.result ≤ length c.sort-n.new.to = omega (arith, c.sort-n.auto.to, c.sort-n.ensures.0, length_ascending a.keys.now, c.requires.2) in
    record {
      is = check_outlined outline table none_flat none_repeated true (sym c.if-not-outlined.false ∙ c.outlined.ensures);
      indexed = λ n e.
          let same : c.sort-n.result ≡ n = cc e in
          subst (λ m. (m ≤ length c.sort-n.new.to) × Indexed a.keys.now (take m c.sort-n.new.to) c.index_sides.new.index c.index_sides.new.opposite) same
          (room, c.index_sides.ensures.1 (sides_once outline table none_flat none_repeated));
    }
