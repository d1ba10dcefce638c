-- A header is refused exactly where something is at fault, with its code and position, which is no later than the length; and where it is read, the sheet
-- begins within the bytes. The idea: the cases of the tests, and each fault makes its tests come out so. Assumes nothing.
use mathlib.Core.Path.{◌≡◌, refl, sym, ap, ◌∙◌, subst}
use mathlib.Core.Logic.{◌↔◌, ◌⊎◌, inl, inr}
use mathlib.Core.Bool.{Bool, true, false, ◌&&◌}
use mathlib.Core.List.{List}
use Prim.Native.Nat.{ℕ, ◌≤◌, ◌<◌}
use native.Mathlib.Omega.{arith}
use borrow.Author.Tests.{lt-ltb, le-ltb, le-leb, lt-leb, eq-eqb, ne_eqb, eqb-true}
use lib.Dec.{eqb}
use lib.ListN.{length, get_or}
use Rattle.sheet_envelope.specs.Envelope.{envelope_at}
use Rattle.sheet_blob.specs.declared.Opened.{Opened}
use Rattle.sheet_blob.specs.Opening.{Opening, fault, little_in, kind_in, others_in, opened, rest_of, opening_of}
use Rattle.sheet_blob.specs.Faults.{Flagged, Fault, letters_cut, letters, version_cut, version, flags_cut, flags, kind, number_cut, envelope_cut}
use Rattle.sheet_blob.proofs.Cases.{by_case}
use Rattle.std.specs.Prelude.{None, Some, Ok, Err}
use Rattle.lent.specs.declared.Fault.{Fault as Told}
use Rattle.lent.specs.declared.Reason.{Reason}
use Rattle.lent.specs.declared.Reason.TheVariants.{Short, NoBlob, EnvelopeKind}
use Rattle.lent.specs.Refusals.{code_of}
use Rattle.lent.proofs.Refusals.{same_reason}

-- ---- what is at fault is refused
module _ (s : List ℕ) where
  not_letters : ((get_or s 0 0 ≡ 71) × (get_or s 1 0 ≡ 80) → ⊥) → (eqb (get_or s 0 0) 71 && eqb (get_or s 1 0) 80) ≡ false
  not_letters h = go (eqb (get_or s 0 0) 71) (eqb (get_or s 1 0) 80) refl refl
    where
      go : (p q : Bool) → eqb (get_or s 0 0) 71 ≡ p → eqb (get_or s 1 0) 80 ≡ q → (p && q) ≡ false
      go true true e f = absurd (h (eqb-true (get_or s 0 0) 71 e, eqb-true (get_or s 1 0) 80 f))
      go true false e f = refl
      go false q e f = refl

  -- What follows the fields that nothing is wrong with.
  pub flagged : Flagged s → opening_of s ≡ rest_of s
  unfolding opening_of
  flagged (((two, g, p), three, z), four, none, low) =
      simp (
        le-leb 2 (length s) two,
        eq-eqb (get_or s 0 0) 71 g,
        eq-eqb (get_or s 1 0) 80 p,
        le-leb 3 (length s) three,
        eq-eqb (get_or s 2 0) 0 z,
        le-leb 4 (length s) four,
        eq-eqb (others_in s) 0 none,
        lt-ltb (kind_in s) 2 low,
      )

  -- The number, and then the envelope of kind 1.
  pub rest_bare : 8 ≤ length s → kind_in s ≡ 0 → rest_of s ≡ opened s 8 None
  unfolding rest_of
  rest_bare eight z = simp (le-leb 8 (length s) eight, eq-eqb (kind_in s) 0 z)

  pub rest_enveloped : 40 ≤ length s → (kind_in s ≡ 0 → ⊥) → rest_of s ≡ opened s 40 (Some (envelope_at (little_in s) s 8))
  unfolding rest_of
  rest_enveloped forty n = let eight : 8 ≤ length s = omega arith in simp (le-leb 8 (length s) eight, ne_eqb (kind_in s) 0 n, le-leb 40 (length s) forty)

  pub rest_cut : length s < 8 → rest_of s ≡ Err (fault Short 4)
  unfolding rest_of
  rest_cut h = simp (lt-leb 8 (length s) h)

  pub rest_short : 8 ≤ length s → (kind_in s ≡ 0 → ⊥) → length s < 40 → rest_of s ≡ Err (fault Short 8)
  unfolding rest_of
  rest_short eight n h = simp (le-leb 8 (length s) eight, ne_eqb (kind_in s) 0 n, lt-leb 40 (length s) h)

  -- Refused at a position for a reason with this code.
  abbrev pub RefusedAs : ℕ → ℕ → Type 0
  RefusedAs code position = (reason : Reason) × (code_of reason ≡ code) × (opening_of s ≡ Err (fault reason position))

  pub fault_refused : {code position : ℕ} → Fault s code position → RefusedAs code position
  unfolding opening_of
  fault_refused (letters_cut h) = (Short, refl, simp (lt-leb 2 (length s) h))
  fault_refused (letters two h) = (NoBlob, refl, simp (le-leb 2 (length s) two, not_letters h))
  fault_refused (version_cut (two, g, p) h) = (Short, refl, simp (le-leb 2 (length s) two, eq-eqb (get_or s 0 0) 71 g, eq-eqb (get_or s 1 0) 80 p, lt-leb 3 (length s) h))
  fault_refused (version (two, g, p) three h) =
      (NoBlob, refl, simp (le-leb 2 (length s) two, eq-eqb (get_or s 0 0) 71 g, eq-eqb (get_or s 1 0) 80 p, le-leb 3 (length s) three, ne_eqb (get_or s 2 0) 0 h))
  fault_refused (flags_cut ((two, g, p), three, z) h) =
      (Short, refl, simp (le-leb 2 (length s) two, eq-eqb (get_or s 0 0) 71 g, eq-eqb (get_or s 1 0) 80 p, le-leb 3 (length s) three, eq-eqb (get_or s 2 0) 0 z, lt-leb 4 (length s) h))
  fault_refused (flags ((two, g, p), three, z) four h) =
      (NoBlob, refl, simp (le-leb 2 (length s) two, eq-eqb (get_or s 0 0) 71 g, eq-eqb (get_or s 1 0) 80 p, le-leb 3 (length s) three, eq-eqb (get_or s 2 0) 0 z, le-leb 4 (length s) four, ne_eqb (others_in s) 0 h))
  fault_refused (kind ((two, g, p), three, z) four none h) = (
    EnvelopeKind,
    refl,
    simp (
      le-leb 2 (length s) two,
      eq-eqb (get_or s 0 0) 71 g,
      eq-eqb (get_or s 1 0) 80 p,
      le-leb 3 (length s) three,
      eq-eqb (get_or s 2 0) 0 z,
      le-leb 4 (length s) four,
      eq-eqb (others_in s) 0 none,
      le-ltb (kind_in s) 2 h,
    ),
  )
  fault_refused (number_cut f h) = (Short, refl, flagged f ∙ rest_cut h)
  fault_refused (envelope_cut f eight one h) = (Short, refl, flagged f ∙ rest_short eight (λ z. omega arith) h)

  -- What is at fault by the code of a reason is refused for that reason.
  pub refused_for : (reason : Reason) {position : ℕ} → Fault s (code_of reason) position → opening_of s ≡ Err (fault reason position)
  refused_for reason {position} f = let (r, w, e) = fault_refused f in let q : r ≡ reason = same_reason w in e ∙ ap (λ (r : Reason). Err (fault r position)) q

  -- Refused exactly where something is at fault.
  pub refused_exactly : (code position : ℕ) → RefusedAs code position ↔ Fault s code position
  refused_exactly code position = (λ r. subst (λ c. Fault s c position) r.1 (is_fault r.0 position r.2), fault_refused)
    where
      is_fault : (reason : Reason) (position : ℕ) → opening_of s ≡ Err (fault reason position) → Fault s (code_of reason) position
      is_fault reason position =
          by_case (λ o. o ≡ Err (fault reason position) → Fault s (code_of reason) position) s
          (record { refused = λ c p f e. same c p f (cc e); bare = λ f l z e. never e; enveloped = λ f l z e. never e })
        where
          same : (c : Reason) (p : ℕ) → Fault s (code_of c) p → fault c p ≡ fault reason position → Fault s (code_of reason) position
          same c p f e = let x : c ≡ reason = ap (λ (f : Told). f.refusal.reason) e in let y : p ≡ position = ap (λ (f : Told). f.position) e in rw (← x, ← y) f

          never : {r : Opened} → Ok r ≡ Err (fault reason position) → Fault s (code_of reason) position
          never e = absurd (cc e)

  -- A refusal has item 0.
  pub refused_as_fault : (f : Told) → opening_of s ≡ Err f → f ≡ fault f.refusal.reason f.position
  refused_as_fault f =
      by_case (λ o. o ≡ Err f → f ≡ fault f.refusal.reason f.position) s
      (record { refused = λ c p u e. same c p (cc e); bare = λ k l z e. absurd (cc e); enveloped = λ k l z e. absurd (cc e) })
    where
      same : (c : Reason) (p : ℕ) → fault c p ≡ f → f ≡ fault f.refusal.reason f.position
      same c p e = rw (← e) refl

  -- The codes and the positions that there are.
  pub refused_known : (code position : ℕ) → RefusedAs code position → ((code ≡ 1) × (position ≤ length s)) ⊎ (((code ≡ 50) ⊎ (code ≡ 51)) × (position ≡ 0))
  refused_known code position e = go ((refused_exactly code position).0 e)
    where
      go : {code position : ℕ} → Fault s code position → ((code ≡ 1) × (position ≤ length s)) ⊎ (((code ≡ 50) ⊎ (code ≡ 51)) × (position ≡ 0))
      go (letters_cut h) = inl (refl, omega arith)
      go (letters two h) = inr (inl refl, refl)
      go (version_cut l h) = inl (refl, l.0)
      go (version l three h) = inr (inl refl, refl)
      go (flags_cut v h) = inl (refl, v.1)
      go (flags v four h) = inr (inl refl, refl)
      go (kind v four none h) = inr (inr refl, refl)
      go (number_cut f h) = inl (refl, f.1)
      go (envelope_cut f eight one h) = inl (refl, eight)

  -- Where a header is read the sheet begins behind it, within the bytes.
  pub begins_within : (r : Opened) → opening_of s ≡ Ok r → ((r.at ≡ 8) ⊎ (r.at ≡ 40)) × (r.at ≤ length s)
  begins_within r =
      by_case (λ o. o ≡ Ok r → ((r.at ≡ 8) ⊎ (r.at ≡ 40)) × (r.at ≤ length s)) s
      (record { refused = λ c p f e. never e; bare = λ f l z e. let q = place e in (inl (sym q), rw (sym q) l); enveloped = λ f l z e. let q = place e in (inr (sym q), rw (sym q) l) })
    where
      never : {c : Reason} {p : ℕ} → Err (fault c p) ≡ Ok r → ((r.at ≡ 8) ⊎ (r.at ≡ 40)) × (r.at ≤ length s)
      never e = absurd (cc e)

      place : {t : Opened} → ◌≡◌ {A = Opening} (Ok t) (Ok r) → t.at ≡ r.at
      place e = cc e
