-- The two tests are the range, y is the double of the number that x is cut to, and the cast of y gives that number back.
use Rattle.std.proofs.Common.{◌≡◌, ℤ, pos, negsuc, sym, ap, ◌∙◌, arith, to_z-of_z, w32, w64, SFits, to_z, of_z}
use Rattle.std.specs.Prelude.{Some}
use mathlib.Core.Bool.{false≢true}
use lib.Ieee.{Float, binary64, of_int, to_signed, of_bits, neg}
use Rattle.whole.specs.Numbers.{Within}
use Rattle.sheet_coordinate.specs.Coordinate.{held_of}
use Rattle.sheet_coordinate.proofs.Doubles.{Small, tested, small_cut, small_low, small_high, equal_small, cut_low, cut_high, back}
use Rattle.sheet_coordinate.proofs.Meaning.{answered, refused}
use Rattle.sheet_coordinate.proofs.judge.Goals as goal
use Rattle.sheet_coordinate.proofs.judge.Goals.{else-x-via-then-x+else-x-2, else-x-via-else-x}

-- y is the double of the number that x is cut to.
made : (x y : Float) (n : ℤ) → SFits w64 n → y ≡ of_int binary64 (to_z w64 (of_z w64 n)) → n ≡ to_signed 63 x → y ≡ of_int binary64 (to_signed 63 x)
made x y n f e k = e ∙ ap (of_int binary64) (to_z-of_z {w = w64} f ∙ k)

in_word : (n : ℤ) → Within 10_000_000 n → SFits w32 n
in_word (pos k) h = record { sfits = omega arith }
in_word (negsuc k) h = record { sfits = omega arith }

-- The cast of that double gives the number back, where x is small.
cast : (x y : Float) → Small x → y ≡ of_int binary64 (to_signed 63 x) → to_z w32 (of_z w32 (to_signed 31 y)) ≡ to_signed 63 x
cast x y s e = rw (e, (back (to_signed 63 x) (small_cut x s)).1) (to_z-of_z (in_word (to_signed 63 x) (small_cut x s)))

pub truncating_f64_to_i64-requires-clause-lower_bound : goal.truncating_f64_to_i64-requires-clause-lower_bound
unfolding of_bits neg
truncating_f64_to_i64-requires-clause-lower_bound c = cut_low _ (tested c.args.x c.if-x.true c.if-x-2.true)

pub truncating_f64_to_i64-requires-clause-upper_bound : goal.truncating_f64_to_i64-requires-clause-upper_bound
unfolding of_bits neg
truncating_f64_to_i64-requires-clause-upper_bound c = cut_high _ (tested c.args.x c.if-x.true c.if-x-2.true)

pub float_to_int-y : goal.float_to_int-y
unfolding of_bits neg
float_to_int-y c =
    let s = tested c.args.x c.if-x.true c.if-x-2.true in
    let t = c.truncating_f64_to_i64 in
    rw (made c.args.x c.nearest_i64_to_f64-y.result t.result (record { sfits = t.type_inv }) c.nearest_i64_to_f64-y.ensures t.ensures) (back (to_signed 63 c.args.x) (small_cut c.args.x s)).0

pub held-requires : goal.held-requires
unfolding of_bits neg
held-requires c =
    let s = tested c.args.x c.if-x.true c.if-x-2.true in
    let t = c.truncating_f64_to_i64 in
    rw (cast c.args.x c.nearest_i64_to_f64-y.result s (made _ _ t.result (record { sfits = t.type_inv }) c.nearest_i64_to_f64-y.ensures t.ensures)) (small_cut c.args.x s)

pub returns-then-x-y : goal.returns-then-x-y
unfolding of_bits neg
returns-then-x-y c =
    let s = tested c.args.x c.if-x.true c.if-x-2.true in
    let t = c.truncating_f64_to_i64 in
    let m = made c.args.x c.nearest_i64_to_f64-y.result t.result (record { sfits = t.type_inv }) c.nearest_i64_to_f64-y.ensures t.ensures in
    ap Some (c.held.ensures ∙ ap held_of (cast _ _ s m)) ∙ sym (answered _ (small_cut _ s, rw (← m) c.if-x-y.true))

pub returns-else-x-y : goal.returns-else-x-y
returns-else-x-y c =
    let t = c.truncating_f64_to_i64 in
    sym (refused _ (λ h. false≢true (sym c.if-x-y.false ∙ rw (made c.args.x c.nearest_i64_to_f64-y.result t.result (record { sfits = t.type_inv }) c.nearest_i64_to_f64-y.ensures t.ensures) h.1)))

pub returns-else-x : goal.returns-else-x
unfolding of_bits neg
returns-else-x c =
    sym (refused _ (λ h.
    elim c.else-x.branch [
      | else-x-via-then-x+else-x-2 w ↦ false≢true (sym w.if-x-2.false ∙ small_high _ (equal_small _ _ h.0 h.1))
      | else-x-via-else-x w ↦ false≢true (sym w.if-x.false ∙ small_low _ (equal_small _ _ h.0 h.1))
    ]))
