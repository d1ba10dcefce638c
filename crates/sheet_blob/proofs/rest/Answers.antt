-- Each return is a case of `rest_of`, the flags being the byte at 3.
use Rattle.std.proofs.Common.{◌≡◌, ℕ, ◌/◌, ◌%◌, ◌≤◌, List, length, Ok, Err, None, Some, sym, ap, ◌∙◌, arith, eqb}
use Rattle.lent_little.specs.Ordered.{word_at}
use Rattle.sheet_envelope.specs.declared.Envelope.{Envelope}
use Rattle.sheet_envelope.specs.Envelope.{envelope_at}
use Rattle.sheet_blob.specs.Opening.{flags_at, rest_of}
use Rattle.sheet_blob.proofs.Refusals.{rest_cut, rest_short, rest_bare, rest_enveloped}
use Rattle.sheet_blob.proofs.rest.Goals as goal

-- A header read, with what the code was given and found.
module _ (s : List ℕ) (flags : ℕ) (q : flags ≡ flags_at s) where
  bare : (n : ℕ) → 8 ≤ length s → flags / 2 % 8 ≡ 0 → n ≡ word_at (eqb (flags % 2) 1) s 4 → Ok (record { number = n; at = 8; envelope = None }) ≡ rest_of s
  bare n eight k e = rw (e, q) (sym (rest_bare s eight (rw q at k)))

  enveloped : (n : ℕ) (e : Envelope) → 40 ≤ length s → (flags / 2 % 8 ≡ 0 → ⊥) → n ≡ word_at (eqb (flags % 2) 1) s 4 → e ≡ envelope_at (eqb (flags % 2) 1) s 8
      → Ok (record { number = n; at = 40; envelope = Some e }) ≡ rest_of s
  enveloped n e forty k a b = rw (a, b, q) (sym (rest_enveloped s forty (λ z. k (rw q z))))

pub returns-then-s-lt8 : goal.returns-then-s-lt8
returns-then-s-lt8 c = ap Err c.fault.ensures ∙ sym (rest_cut _ c.if-s-lt8.true)

pub returns-then-flags-eq0 : goal.returns-then-flags-eq0
returns-then-flags-eq0 c = bare _ _ c.requires _ (omega arith) c.if-flags-eq0.true c.word-number.ensures

pub returns-then-s-lt40 : goal.returns-then-s-lt40
returns-then-s-lt40 c =
    ap Err c.fault-then-s-lt40.ensures
    ∙ sym (rest_short _ (omega arith) (λ z. c.if-flags-eq0.false (rw c.requires z)) c.if-s-lt40.true)

pub returns : goal.returns
returns c = enveloped _ _ c.requires _ _ c.if-s-lt40.false c.if-flags-eq0.false c.word-number.ensures c.read.ensures
