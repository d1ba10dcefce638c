-- What reading a header can come to, case by case, so that a law is said of each case and the tests are gone through once. Assumes nothing.
use mathlib.Core.Path.{◌≡◌, sym}
use mathlib.Core.Bool.{true, false, ◌&&◌, and-eq-true_iff, false≢true}
use mathlib.Core.List.{List}
use Prim.Native.Nat.{ℕ, ◌≤◌}
use native.Mathlib.Omega.{arith}
use borrow.Author.Tests.{ltb-true, ltb-false, leb-true, leb-false, eqb-true, eqb-false, eq-eqb}
use lib.Dec.{ltb, eqb}
use lib.ListN.{length, get_or}
use Rattle.whole.proofs.Tests.{by_equal}
use Rattle.lent.specs.declared.Reason.{Reason}
use Rattle.lent.specs.declared.Reason.TheVariants.{Short, NoBlob, EnvelopeKind}
use Rattle.lent.specs.Refusals.{code_of}
use Rattle.lent_little.specs.Ordered.{remains}
use Rattle.sheet_envelope.specs.Envelope.{envelope_at}
use Rattle.sheet_blob.specs.Opening.{Opening, fault, little_in, kind_in, others_in, opened, rest_of, opening_of}
use Rattle.sheet_blob.specs.Faults.{Lettered, Versioned, Flagged, Fault, letters_cut, letters, version_cut, version, flags_cut, flags, kind, number_cut, envelope_cut}
use Rattle.std.specs.Prelude.{None, Some, Err}

-- What holds of each: a refusal for what is at fault, a header without an envelope, and one with it.
pub record Cases (P : Opening → Type 0) (s : List ℕ) : Type 0 where
  pub refused : (reason : Reason) (position : ℕ) → Fault s (code_of reason) position → P (Err (fault reason position))
  pub bare : Flagged s → 8 ≤ length s → kind_in s ≡ 0 → P (opened s 8 None)
  pub enveloped : Flagged s → 40 ≤ length s → kind_in s ≡ 1 → P (opened s 40 (Some (envelope_at (little_in s) s 8)))

module _ (P : Opening → Type 0) (s : List ℕ) (h : Cases P s) where
  rest_case : Flagged s → P (rest_of s)
  unfolding rest_of
  rest_case f =
      by_equal P (remains s 4 4) _ _ (λ eight.
      by_equal P (eqb (kind_in s) 0) _ _ (λ z. h.bare f (leb-true 8 (length s) eight) (eqb-true (kind_in s) 0 z)) (λ z.
      let one : kind_in s ≡ 1 = let y = eqb-false (kind_in s) 0 z in let x = f.3 in omega arith in
      by_equal P (remains s 8 32) _ _ (λ forty. h.enveloped f (leb-true 40 (length s) forty) one)
      (λ e. h.refused Short 8 (envelope_cut f (leb-true 8 (length s) eight) one (leb-false 40 (length s) e)))))
      (λ e. h.refused Short 4 (number_cut f (leb-false 8 (length s) e)))

  lettered : remains s 0 2 ≡ true → (eqb (get_or s 0 0) 71 && eqb (get_or s 1 0) 80) ≡ true → Lettered s
  lettered two e = let (g, p) = (and-eq-true_iff (eqb (get_or s 0 0) 71) (eqb (get_or s 1 0) 80)).0 e in (leb-true 2 (length s) two, eqb-true (get_or s 0 0) 71 g, eqb-true (get_or s 1 0) 80 p)

  unlettered : (eqb (get_or s 0 0) 71 && eqb (get_or s 1 0) 80) ≡ false → (get_or s 0 0 ≡ 71) × (get_or s 1 0 ≡ 80) → ⊥
  unlettered e (g, p) = false≢true (sym (rw (eq-eqb (get_or s 0 0) 71 g, eq-eqb (get_or s 1 0) 80 p) at e))

  pub by_case : P (opening_of s)
  unfolding opening_of
  by_case =
      by_equal P (remains s 0 2) _ _ (λ two.
      by_equal P (eqb (get_or s 0 0) 71 && eqb (get_or s 1 0) 80) _ _ (λ gp.
      by_equal P (remains s 2 1) _ _ (λ three.
      by_equal P (eqb (get_or s 2 0) 0) _ _ (λ zero.
      by_equal P (remains s 3 1) _ _ (λ four.
      by_equal P (eqb (others_in s) 0) _ _ (λ none.
      by_equal P (ltb (kind_in s) 2) _ _ (λ low.
      rest_case (versioned two gp three zero, leb-true 4 (length s) four, eqb-true (others_in s) 0 none, ltb-true (kind_in s) 2 low))
      (λ e. h.refused EnvelopeKind 0 (kind (versioned two gp three zero) (leb-true 4 (length s) four) (eqb-true (others_in s) 0 none) (ltb-false (kind_in s) 2 e))))
      (λ e. h.refused NoBlob 0 (flags (versioned two gp three zero) (leb-true 4 (length s) four) (eqb-false (others_in s) 0 e))))
      (λ e. h.refused Short 3 (flags_cut (versioned two gp three zero) (leb-false 4 (length s) e))))
      (λ e. h.refused NoBlob 0 (version (lettered two gp) (leb-true 3 (length s) three) (eqb-false (get_or s 2 0) 0 e))))
      (λ e. h.refused Short 2 (version_cut (lettered two gp) (leb-false 3 (length s) e))))
      (λ e. h.refused NoBlob 0 (letters (leb-true 2 (length s) two) (unlettered e))))
      (λ e. h.refused Short 0 (letters_cut (leb-false 2 (length s) e)))
    where
      versioned : remains s 0 2 ≡ true → (eqb (get_or s 0 0) 71 && eqb (get_or s 1 0) 80) ≡ true → remains s 2 1 ≡ true → eqb (get_or s 2 0) 0 ≡ true → Versioned s
      versioned two gp three zero = (lettered two gp, leb-true 3 (length s) three, eqb-true (get_or s 2 0) 0 zero)
