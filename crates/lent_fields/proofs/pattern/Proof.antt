-- `lent_fields::pattern` meets its contract: only the NaN differs from itself, and its pattern is the one that the text writes. Assumes nothing.
use borrow.Author.Rules.{rules}
use mathlib.Core.Path.{◌≡◌, sym, ap, subst}
use mathlib.Core.Bool.{Bool, true, false, not, false≢true}
use lib.Dec.{T}
use lib.Ieee.{Float, nan, inf, fin, binary64, eq, ne, is_nan, to_bits}
use lib.Ieee.Compare.{differs_from_itself}
use Rattle.lent_fields.proofs.pattern.Statement.{statement}
use Rattle.lent_fields.proofs.pattern.Tie as tie

same_number : (x : Float) → eq x x ≡ true → T (not (is_nan x))
unfolding eq is_nan
same_number nan h = absurd (false≢true h)
same_number (inf s) h = tt
same_number (fin s m e) h = tt

not_same : (x : Float) → eq x x ≡ false → x ≡ nan
unfolding ne
not_same x h = differs_from_itself x (subst (λ (b : Bool). T (not b)) (sym h) tt)

the_nan : (x : Float) → x ≡ nan → 0x7ff8_0000_0000_0000 ≡ to_bits binary64 x
unfolding to_bits
the_nan x e = sym (ap (to_bits binary64) e)

pub pattern_spec : {M : Type 1} → statement M
pattern_spec =
    tie.close
    (tie.spec
    (λ c. same_number c.args.x c.if-x.true)
    (λ c. search rules)
    (λ c. the_nan c.args.x (not_same c.args.x c.if-x.false)))
