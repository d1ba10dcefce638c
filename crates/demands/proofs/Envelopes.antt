-- The envelope around a sheet is another than the frame exactly if the test says so. Assumes nothing.
use mathlib.Core.Path.{◌≡◌, refl, sym, ◌∙◌, ap}
use mathlib.Core.Logic.{◌↔◌}
use mathlib.Core.Bool.{Bool, true, false, false≢true}
use mathlib.Core.List.{List}
use mathlib.Core.Option.{Option, none, some, none-ne-some}
use Prim.Native.Nat.{ℕ, zero, suc, ◌<◌}
use native.Mathlib.Omega.{arith}
use Rattle.std.specs.Prelude.{Option as Maybe, None, Some}
use Rattle.sheet_form.specs.Numbers.{Sheet}
use Rattle.sheet_envelope.specs.declared.Envelope.{Envelope}
use Rattle.sheet_envelope.specs.Envelope.{Same, same_frame, agrees}
use Rattle.sheet_envelope.proofs.Same.{same_is}
use Rattle.sheet_framed.specs.Framed.{frame_on}
use Rattle.sheet_blob.specs.declared.Opened.{Opened}
use Rattle.sheet_modes.specs.Modes.{header_by, framed}
use Rattle.demands.specs.Answers.{OtherEnvelope}

module _ (mode : ℕ) (s : List ℕ) (n : Sheet) where
  differing : (e : Envelope) → (Same e (frame_on n) → ⊥) → same_frame e (frame_on n) ≡ false
  differing e f = go (same_frame e (frame_on n)) refl
    where
      go : (b : Bool) → same_frame e (frame_on n) ≡ b → b ≡ false
      go true q = absurd (f ((same_is e (frame_on n)).0 q))
      go false q = refl

  pub framed_no : (framed (header_by mode s) n ≡ false) ↔ OtherEnvelope mode s n
  framed_no = (to (header_by mode s) refl, λ w. ap (λ o. framed o n) w.around ∙ ap (λ (v : Maybe Envelope). agrees v (frame_on n)) w.there ∙ differing w.envelope w.differs)
    where
      other : (r : Opened) → header_by mode s ≡ some r → (v : Maybe Envelope) → r.envelope ≡ v → agrees v (frame_on n) ≡ false → OtherEnvelope mode s n
      other r q None w e = absurd (false≢true (sym e))
      other r q (Some v) w e = record { header = r; around = q; envelope = v; there = w; differs = λ h. false≢true (sym e ∙ (same_is v (frame_on n)).1 h) }

      to : (o : Option Opened) → header_by mode s ≡ o → framed o n ≡ false → OtherEnvelope mode s n
      to none q e = absurd (false≢true (sym e))
      to (some r) q e = other r q r.envelope refl e

  pub framed_yes : (framed (header_by mode s) n ≡ true) ↔ (OtherEnvelope mode s n → ⊥)
  framed_yes = (λ e w. false≢true (sym (framed_no.1 w) ∙ e), λ f. go f (framed (header_by mode s) n) refl)
    where
      go : (OtherEnvelope mode s n → ⊥) → (b : Bool) → framed (header_by mode s) n ≡ b → b ≡ true
      go f true q = refl
      go f false q = absurd (f (framed_no.0 q))

-- Nothing stands around a sheet by itself.
pub plain_header : (mode : ℕ) → mode < 2 → (s : List ℕ) → header_by mode s ≡ none
plain_header zero h s = refl
plain_header (suc zero) h s = refl
plain_header (suc (suc mode)) h s = absurd (omega arith)

pub no_envelope : (mode : ℕ) → mode < 2 → (s : List ℕ) (n : Sheet) → OtherEnvelope mode s n → ⊥
no_envelope mode h s n w = none-ne-some w.header (sym (plain_header mode h s) ∙ w.around)
