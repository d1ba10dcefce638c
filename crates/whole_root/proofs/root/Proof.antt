-- `whole_root::root` meets its contract. The invariant: n is below the square of r + 1, which with the test that ends the loop makes r the root, and r is at most 2 ^ 31, so
-- that its square fits. Assumes nothing.
use mathlib.Core.Path.{◌≡◌, sym, ◌∙◌, subst}
use Prim.Native.Nat.{ℕ, ◌+◌, ◌-◌, ◌*◌, ◌/◌, ◌%◌, ◌^◌, ◌≤◌, ◌<◌}
use native.Mathlib.Omega.{arith}
use native.Mathlib.Nat.{mul-le-mul, one-mul, lt_of_not-le, not-le_of_lt, div-le_self}
use borrow.Author.Rules.{rules}
use lib.Count.{count_leading_zeros, leading_le, leading_length}
use lib.Pow.{pow_mono, shl_exact}
use Rattle.whole_root.proofs.Newton.{step_above, square_some, step_below, square_above, half_length}
use Rattle.whole_root.proofs.OnlyRoot.{only_root}
use Rattle.whole_root.proofs.root.Statement.{statement}
use Rattle.whole_root.proofs.root.Tie as tie

-- r + 1 squared is above n, and r is at most 2 ^ 31.
abbrev Near : ℕ → ℕ → Type 0
Near n r = (n < (r + 1) * (r + 1)) × (r ≤ 2 ^ 31)

abbrev invariant_loop : tie.invariant-loop-r
invariant_loop n r₀ r = Near n r

abbrev decreases_loop : tie.decreases-loop-r
decreases_loop n r₀ r = r

-- ---- the first guess
-- Half of the number of bits of n, rounded up, is at most 31.
half : (n : ℕ) → n < 2 ^ 62 → (m : ℕ) × (65 - count_leading_zeros 64 n ≡ m + 1) × (n < 2 ^ m) × (m ≤ 62)
half n h =
    let (m, e, below, most) = leading_length 64 n (omega arith) in
    let fewer : m < 63 = lt_of_not-le (λ g. not-le_of_lt (let w : 2 ^ m < 2 ^ 63 = omega arith in w) (pow_mono g)) in
    (m, omega arith, below, omega arith)

exponent : (n : ℕ) → n < 2 ^ 62 → (65 - count_leading_zeros 64 n) / 2 ≤ 31
exponent n h = let (m, e, below, most) = half n h in omega arith

first : (n : ℕ) → n < 2 ^ 62 → Near n (1 * 2 ^ ((65 - count_leading_zeros 64 n) / 2) % 2 ^ 64)
first n h =
    let (m, e, below, most) = half n h in
    let s = (65 - count_leading_zeros 64 n) / 2 in
    let power : 1 * 2 ^ s % 2 ^ 64 ≡ 2 ^ s = shl_exact {a = 1} 1 s 64 (omega arith) (omega (arith, exponent n h)) ∙ one-mul (2 ^ s) in
    subst (Near n) (sym power) (square_above n (2 ^ s) (subst (λ k. n < 2 ^ (k / 2) * 2 ^ (k / 2)) (sym e) (half_length n m below)), pow_mono (exponent n h))

-- ---- a guess
square_fits : (r : ℕ) → r ≤ 2 ^ 31 → r * r ≤ 2 ^ 62
square_fits r h = let p : r * r ≤ 2 ^ 31 * 2 ^ 31 = mul-le-mul h h in omega (arith, p)

-- ---- the needs
loop_holds : tie.Need-loop-r-init invariant_loop decreases_loop
loop_holds c = first c.args.n c.requires

mul_loop : tie.Need-overflow_mul-r invariant_loop decreases_loop
mul_loop c = record { fits = let p = square_fits _ c.loop-r.invariant.1 in omega arith }

div_r : tie.Need-nonzero_div-r-in-loop-r invariant_loop decreases_loop
div_r c = square_some _ _ c.loop-r-test.true

add_r : tie.Need-overflow_add-r invariant_loop decreases_loop
add_r c = let l = c in record { fits = let p = div-le_self l.args.n l.loop-r.r in omega (arith, l.requires, l.loop-r.invariant.1) }

loop_less : tie.Need-loop-r-smaller invariant_loop decreases_loop
loop_less c = step_below _ _ c.loop-r-test.true

loop_again : tie.Need-loop-r-preserved invariant_loop decreases_loop
loop_again c =
    let h = c.loop-r-test.true in
    (step_above _ _ (square_some _ _ h), let p = step_below _ _ h in omega (arith, c.loop-r.invariant.1))

returns : tie.Need-returns invariant_loop decreases_loop
returns c = only_root _ _ (omega (arith, c.loop-r-test.false)) c.loop-r.invariant.0

pub root_spec : {M : Type 1} → statement M
root_spec =
    tie.close
    (tie.spec
    invariant_loop
    decreases_loop
    (λ c. let p = leading_le 64 c.args.n in omega arith)
    (λ c. search rules)
    (λ c. omega (arith, exponent c.args.n c.requires))
    loop_holds
    mul_loop
    div_r
    add_r
    loop_less
    loop_again
    returns)
