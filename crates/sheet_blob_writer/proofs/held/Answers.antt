-- Bits from 0 to 10,000,000 stand for themselves, and those of a negative number in range are less than 2^32 by its size.
use Rattle.std.proofs.Common.{◌≡◌, ◌+◌, ◌-◌, ◌%◌, ◌^◌, ◌<◌, ℕ, suc, negsuc, refl, sym, ◌∙◌, ap, subst, arith, to_z}
use Rattle.std.specs.Int.{w32}
use borrow.Author.Tests.{le-ltb}
use Rattle.whole.specs.Numbers.{Within}
use Rattle.sheet_coordinate.specs.Coordinate.{held_of}
use Rattle.sheet_writer.proofs.Numbers.{by_order, signed_low, signed_high}
use Rattle.sheet_blob_writer.proofs.held.Goals as goal

held_is : (b : ℕ) → b < 2 ^ 32 → Within 10_000_000 (to_z w32 b) → (b + 10_000_000) % 2 ^ 32 ≡ held_of (to_z w32 b)
held_is b k w =
    by_order b 2_147_483_648
    (λ l. let z = (subst (Within 10_000_000) (signed_low b l) w).size in let e : (b + 10_000_000) % 2 ^ 32 ≡ b + 10_000_000 = omega arith in e ∙ sym (ap held_of (signed_low b l)))
    (λ l.
    let z = (subst (Within 10_000_000) (signed_high b l) w).size in
    let m = 4_294_967_296 - suc b in
    let e : held_of (negsuc m) ≡ 10_000_000 - suc m = rw (le-ltb 10_000_000 (suc m) (omega arith)) refl in
    let f : (b + 10_000_000) % 2 ^ 32 ≡ 10_000_000 - suc m = omega arith in
    f ∙ sym e ∙ sym (ap held_of (signed_high b l)))

pub returns : goal.returns
returns c = held_is c.args.b (omega arith) c.requires
