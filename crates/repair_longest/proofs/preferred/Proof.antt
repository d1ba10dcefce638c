-- `repair_longest::preferred` meets its contract, test by test. Assumes nothing.
use mathlib.Core.Path.{◌≡◌, sym, ◌∙◌, ap, ap₂}
use mathlib.Core.Bool.{cond}
use mathlib.Core.List.{List}
use Prim.Native.Nat.{ℕ, ◌≤◌, ◌<◌}
use native.Mathlib.Omega.{arith}
use borrow.Author.Rules.{rules}
use borrow.Author.Tests.{lt-ltb, le-ltb, le-leb, lt-leb}
use lib.Dec.{ltb}
use lib.ListN.{get_or}
use Rattle.repair_choices.specs.Choices.{greater}
use Rattle.repair_choices.specs.Adding.{preferred}
use Rattle.repair_longest.proofs.preferred.Statement.{statement}
use Rattle.repair_longest.proofs.preferred.Tie as tie

module _ (sums : List ℕ) (m n : ℕ) where
  abbrev x : ℕ
  x = get_or sums m 0

  abbrev y : ℕ
  y = get_or sums n 0

  first : y < x → m ≡ preferred sums m n
  first h = sym (ap (λ b. cond b m (cond (ltb x y) n (greater m n))) (lt-ltb y x h))

  second : x ≤ y → x < y → n ≡ preferred sums m n
  second h k = sym (ap₂ (λ b c. cond b m (cond c n (greater m n))) (le-ltb y x h) (lt-ltb x y k))

  equal : x ≤ y → y ≤ x → greater m n ≡ preferred sums m n
  equal h k = sym (ap₂ (λ b c. cond b m (cond c n (greater m n))) (le-ltb y x h) (le-ltb x y k))

-- ---- the needs
returns : tie.Need-returns-then-sums-m
returns c = let a = c.args in first a.sums.now a.best a.m c.if-sums-m.true

returns_2 : tie.Need-returns-then-sums-best
returns_2 c =
    let e = c in
    let a = e.args in
    second a.sums.now a.best a.m (omega (arith, e.if-sums-m.false)) c.if-sums-best.true

-- Where the sums are equal.
same_sums : (c : tie.Else-sums-best) → let a = c.args in greater a.best a.m ≡ preferred a.sums.now a.best a.m
same_sums c =
    let e = c in
    let a = e.args in
    equal a.sums.now a.best a.m (omega (arith, e.if-sums-m.false)) (omega (arith, c.if-sums-best.false))

returns_3 : tie.Need-returns-then-best-m
returns_3 c = let a = c.args in sym (ap (λ b. cond b a.m a.best) (le-leb a.best a.m c.if-best-m.true)) ∙ same_sums c.before

returns_4 : tie.Need-returns
returns_4 c = let a = c.args in sym (ap (λ b. cond b a.m a.best) (lt-leb a.best a.m (omega (arith, c.if-best-m.false)))) ∙ same_sums c.before

pub preferred_spec : {M : Type 1} → statement M
preferred_spec =
    tie.close
    (tie.spec
    (λ c. search rules)
    (λ c. search rules)
    (λ c. search rules)
    (λ c. search rules)
    returns
    (λ c. search rules)
    (λ c. search rules)
    (λ c. search rules)
    (λ c. search rules)
    returns_2
    returns_3
    returns_4)
