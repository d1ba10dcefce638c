-- `sheet_envelope::put` meets its contract: the patterns of four doubles, one behind the other. Assumes nothing.
use mathlib.Core.Path.{◌≡◌, ◌∙◌}
use mathlib.Core.List.{List, ◌++◌}
use Prim.Native.Nat.{ℕ, ◌+◌}
use native.Mathlib.Omega.{arith}
use borrow.Author.Rules.{rules}
use lib.Ieee.{binary64, to_bits}
use lib.Seq.{sets}
use Rattle.lent_little.specs.Ordered.{bytes}
use Rattle.lent_little.proofs.Bytes.{set_length}
use Rattle.lent_little.proofs.Stored.{sets_behind}
use Rattle.sheet_envelope.specs.declared.Envelope.{Envelope}
use Rattle.sheet_envelope.specs.Written.{double_bytes, envelope_bytes}
use Rattle.sheet_envelope.proofs.put.Statement.{statement}
use Rattle.sheet_envelope.proofs.put.Tie as tie

-- Bytes of four patterns stored one behind the other.
four : (e : Envelope) (o p q r last : List ℕ) (to : ℕ) (k l m n : ℕ) → k ≡ to_bits binary64 e.left → l ≡ to_bits binary64 e.right → m ≡ to_bits binary64 e.low → n ≡ to_bits binary64 e.high
    → p ≡ sets o to (bytes 8 k) → q ≡ sets p (to + 8) (bytes 8 l) → r ≡ sets q (to + 16) (bytes 8 m) → last ≡ sets r (to + 24) (bytes 8 n) → last ≡ sets o to (envelope_bytes e)
unfolding envelope_bytes bytes
four e o p q r last to k l m n ek el em en ep eq er es =
    let a = double_bytes e.left in
    let b = double_bytes e.right in
    let c = double_bytes e.low in
    let d = double_bytes e.high in
    let ez : last ≡ sets (sets (sets (sets o to a) (to + 8) b) (to + 16) c) (to + 24) d = rw (es, er, eq, ep, ek, el, em, en) in
    ez
    ∙ sets_behind (sets (sets o to a) (to + 8) b) c d (to + 16) (to + 24) (omega (arith, set_length (to_bits binary64 e.low)))
    ∙ sets_behind (sets o to a) b (c ++ d) (to + 8) (to + 16) (omega (arith, set_length (to_bits binary64 e.right)))
    ∙ sets_behind o a (b ++ c ++ d) to (to + 8) (omega (arith, set_length (to_bits binary64 e.left)))

-- ---- places: behind each store, and the entry
abbrev third : tie.After-put-4 → tie.After-put-3
third c = c.before.before.before.before.before

abbrev second : tie.After-put-3 → tie.After-put-2
second c = c.before.before.before.before.before

abbrev first : tie.After-put-2 → tie.After-put
first c = c.before.before.before.before.before

returns : tie.Need-returns
returns c =
    let d4 = c.before.before in
    let d3 = third d4 in
    let d2 = second d3 in
    let d1 = first d2 in
    four _ _ _ _ _ _ _ _ _ _ _ d1.pattern.ensures d2.pattern-2.ensures d3.pattern-3.ensures d4.pattern-4.ensures
    d1.put.ensures d2.put-2.ensures d3.put-3.ensures d4.put-4.ensures

pub put_spec : {M : Type 1} → statement M
put_spec =
    tie.close
    (tie.spec
    (λ c κs. search rules)
    (λ c κs. search rules)
    (λ c. search rules)
    (λ c κs. search rules)
    (λ c κs. search rules)
    (λ c. search rules)
    (λ c κs. search rules)
    (λ c κs. search rules)
    (λ c. search rules)
    (λ c κs. search rules)
    (λ c κs. search rules)
    (λ c. search rules)
    returns)
