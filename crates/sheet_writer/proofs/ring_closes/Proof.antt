-- `sheet_writer::ring_closes` meets its contract: the numbers at two places are the same where their bits are. Assumes nothing.
use mathlib.Core.Path.{◌≡◌, refl, ◌∙◌}
use mathlib.Core.Bool.{true}
use mathlib.Core.List.{List}
use Prim.Native.Nat.{ℕ, ◌+◌, ◌-◌, ◌*◌, ◌/◌, ◌<◌}
use native.Mathlib.Omega.{arith}
use borrow.Author.Rules.{rules}
use borrow.Author.Tests.{le-leb, lt-leb, eq-eqb, ne_eqb}
use lib.Dec.{eqb}
use lib.IntN.{pos}
use lib.ListN.{length, drop, get_or, length-drop}
use Rattle.whole.specs.Numbers.{eq_z}
use Rattle.lent_little.specs.Ordered.{word_at}
use Rattle.sheet_form.specs.Form.{numbers_in}
use Rattle.sheet_writer.proofs.Numbers.{numbers_length, number_behind, signed_same}
use Rattle.sheet_writer.proofs.ring_closes.Statement.{statement}
use Rattle.sheet_writer.proofs.ring_closes.Tie as tie

left : (s : List ℕ) (at : ℕ) → length (drop at (numbers_in s)) ≡ length s / 4 - at
left s at = length-drop at (numbers_in s) ∙ (rw (numbers_length s) refl)

-- The numbers j and k behind a place are the same where the bits at the places h and i are.
same_bits : (s : List ℕ) (at j k h i a b : ℕ) → h ≡ at + j → i ≡ at + k → h < length s / 4 → i < length s / 4
    → a ≡ word_at true s (4 * h) → b ≡ word_at true s (4 * i) → a < 4_294_967_296 → b < 4_294_967_296
    → eq_z (get_or (drop at (numbers_in s)) j (pos 0)) (get_or (drop at (numbers_in s)) k (pos 0)) ≡ eqb a b
same_bits s at j k h i a b p q u v e f x y =
    rw (number_behind s at j (omega arith), number_behind s at k (omega arith), ← p, ← q, ← e, ← f) (signed_same a b x y)

-- ---- places: the entry, the ring's numbers, the bits of the first two
abbrev start : tie.Else-numbers-at → tie.Start
start c = c.before.before

abbrev there : tie.After-bits-2 → tie.Else-numbers-at
there c = c.before.before

-- What stands there: whether the first numbers of the ring's last and first points are the same.
firsts : (c : tie.After-bits-2) → let a = (start (there c)).args in let l = drop a.at (numbers_in a.numbers.now) in eq_z (get_or l (2 * a.n - 2) (pos 0)) (get_or l 0 (pos 0)) ≡ eqb c.bits.result c.bits-2.result
firsts c =
    let a = (start (there c)).args in
    same_bits a.numbers.now a.at (2 * a.n - 2) 0 _ _ _ _ (omega arith) (omega arith) (omega arith) (omega arith) c.bits.ensures c.bits-2.ensures (omega arith) (omega arith)

-- ---- the needs
returns_3 : tie.Need-returns
returns_3 c =
    let b = c.before.before.before in
    let a = (start (there b)).args in
    let second = same_bits a.numbers.now a.at (2 * a.n - 1) 1 _ _ _ _ (omega arith) refl (omega arith) (omega arith) c.bits-3.ensures c.bits-4.ensures (omega arith) (omega arith) in
    rw (left _ _, le-leb _ _ (there b).if-numbers-at.false, firsts b, eq-eqb _ _ c.if-bits.false, second) refl

pub ring_closes_spec : {M : Type 1} → statement M
ring_closes_spec =
    tie.close
    (tie.spec
    (λ c. search rules)
    (λ c. omega (arith, numbers_length c.args.numbers.now))
    (λ c. rw (left _ _, lt-leb _ _ c.if-numbers-at.true) refl)
    (λ c. search rules)
    (λ c. search rules)
    (λ c κs. search rules)
    (λ c κs. search rules)
    (λ c. let b = c.before in rw (left _ _, le-leb _ _ (there b).if-numbers-at.false, firsts b, ne_eqb _ _ c.if-bits.true) refl)
    (λ c. search rules)
    (λ c. search rules)
    (λ c κs. search rules)
    (λ c. search rules)
    (λ c κs. search rules)
    returns_3)
