-- By the mode the sheet is read from the first byte or behind a blob's header.
use Rattle.std.proofs.Common.{rules, ◌≡◌, ◌+◌, ◌-◌, take, ℕ, cond, List, length, drop, Result, Ok, Err, MatchResult, IsErrAnd, refl, sym, ap, subst, ◌∙◌, arith, eqb}
use Rattle.std.specs.Prelude.{None, Some}
use mathlib.Core.Logic.{inl}
use mathlib.Core.Option.{none, some}
use Rattle.std.proofs.lemmas.Result.{err_from_is_err_and}
use borrow.Author.Rules.{part_to_end}
use Rattle.lent.specs.declared.Fault.{Fault}
use Rattle.sheet_form.specs.Numbers.{members}
use Rattle.sheet_blob.proofs.Refusals.{begins_within}
use Rattle.sheet_modes.specs.Modes.{Edition, present, older, plain, blob, Mode, headed, position_in}
use Rattle.sheet_modes.specs.Held.{EndsAs}
use Rattle.sheet_modes.proofs.Modes.{by_refused, mode_unknown, plain_mode, blob_mode}
use Rattle.sheet_modes.proofs.Outcome.{got_sheet, got_refused, got_header}
use Rattle.sheet_modes.proofs.read.Goals as goal

-- The mode as known: of a sheet by itself, and of a blob.
abbrev alone : ℕ → Mode
alone mode = record { form = plain; edition = cond (eqb mode 1) older present }

abbrev wrapped : ℕ → Mode
wrapped mode = record { form = blob; edition = cond (eqb mode 3) older present }

-- A fault behind a header, its position counted from the first byte.
abbrev later : ℕ → Fault → Fault
later at f = record { refusal = f.refusal; position = at + f.position }

-- How the sheet behind a header ends, by what is made of it where that is a fault.
module _ (Q : Fault → Fault → Type 0) (edition : Edition) (s numbers : List ℕ) (at : ℕ) (r t : Result ℕ Fault) (ends : EndsAs edition (take (length s - at) (drop at s)) r numbers) (made : MatchResult r (λ x. t ≡ Ok x) (λ e. IsErrAnd t (Q e))) where
  behind : (u : Result ℕ Fault) → r ≡ u → EndsAs edition (drop at s) u numbers
  behind u e = subst (λ s. EndsAs edition s u numbers) (part_to_end s at) (subst (λ r. EndsAs edition (take (length s - at) (drop at s)) r numbers) e ends)

  failed : (g : Fault) → t ≡ Err g → ((e h : Fault) → Q e h → h ≡ later at e) → (e : Fault) × (g ≡ later at e) × EndsAs edition (drop at s) (Err e) numbers
  failed g q told = go r refl made
    where
      go : (u : Result ℕ Fault) → r ≡ u → MatchResult u (λ x. t ≡ Ok x) (λ e. IsErrAnd t (Q e)) → (e : Fault) × (g ≡ later at e) × EndsAs edition (drop at s) (Err e) numbers
      go (Ok x) e m = absurd (cc (q, m))
      go (Err f) e m = (f, told f g (subst (λ t. IsErrAnd t (Q f)) q m), behind (Err f) e)

  passed : (k : ℕ) → t ≡ Ok k → EndsAs edition (drop at s) (Ok k) numbers
  passed k q = go r refl made
    where
      go : (u : Result ℕ Fault) → r ≡ u → MatchResult u (λ x. t ≡ Ok x) (λ e. IsErrAnd t (Q e)) → EndsAs edition (drop at s) (Ok k) numbers
      go (Ok x) e m = behind (Ok k) (e ∙ sym m ∙ q)
      go (Err f) e m = absurd (subst (λ t. IsErrAnd t (Q f)) q m)

pub returns-then-mode-gt3 : goal.returns-then-mode-gt3
returns-then-mode-gt3 c =
    let u = mode_unknown c.args.mode c.if-mode-gt3.true in
    (((by_refused members c.args.s.now c.args.mode 57 0).1 (inl u), ap (λ a. position_in a c.args.s.now) (sym u)), refl)

pub returns-in_err-n : goal.returns-in_err-n
returns-in_err-n c =
    let p = err_from_is_err_and c.from_residual.result c.from_residual.ensures.1 in
    let w = c.in_err-n.ensures in
    rw (p.1, p.2) (got_refused c.args.mode c.args.s.now c.sheet_of.new.numbers (alone c.args.mode) (plain_mode c.args.mode c.if-mode-lt2.true) none refl c.in_err-n.field-0.0 c.in_err-n.field-0.0.position (omega arith) w.0, w.1)

pub returns-then-mode-lt2 : goal.returns-then-mode-lt2
returns-then-mode-lt2 c = let w = c.in_ok-n.ensures in (got_sheet c.args.mode c.args.s.now c.sheet_of.new.numbers (alone c.args.mode) (plain_mode c.args.mode c.if-mode-lt2.true) none refl _ None refl w.0, w.1)

pub returns-in_err-h : goal.returns-in_err-h
returns-in_err-h c =
    let p = err_from_is_err_and c.from_residual-in_err-h.result c.from_residual-in_err-h.ensures.1 in
    rw (p.1, p.2) ((got_header c.args.mode c.args.s.now c.args.numbers.now (wrapped c.args.mode) (blob_mode c.args.mode c.if-mode-lt2.false c.if-mode-gt3.false) refl _ (sym c.in_err-h.ensures)).1, refl)

pub slice_bounds-sheet_of-count : goal.slice_bounds-sheet_of-count
slice_bounds-sheet_of-count c = (begins_within _ _ (sym c.in_ok-h.ensures)).1

pub slice_bounds-sheet_of-start : goal.slice_bounds-sheet_of-start
slice_bounds-sheet_of-start c = (begins_within _ _ (sym c.in_ok-h.ensures)).1

pub returns-in_err-n-2 : goal.returns-in_err-n-2
returns-in_err-n-2 c =
    let p = err_from_is_err_and c.from_residual-in_err-n-2.result c.from_residual-in_err-n-2.ensures.1 in
    let s = c.args.s.now in
    let h = c.in_ok-h.h in
    let m = wrapped c.args.mode in
    let (e, n, w) = failed _ m.edition s c.sheet_of-2.new.numbers h.at c.sheet_of-2.result c.map_err.result c.sheet_of-2.ensures.0 c.map_err.ensures.cases c.in_err-n-2.field-0.0 c.in_err-n-2.was (λ e g q. search rules) in
    rw (p.1, p.2, n) (got_refused c.args.mode s c.sheet_of-2.new.numbers m (blob_mode c.args.mode c.if-mode-lt2.false c.if-mode-gt3.false) (some h) (ap headed (sym c.in_ok-h.ensures)) e _ refl w, c.sheet_of-2.ensures.1)

pub returns : goal.returns
returns c =
    let s = c.args.s.now in
    let h = c.in_ok-h.h in
    let m = wrapped c.args.mode in
    let w = passed _ m.edition s c.sheet_of-2.new.numbers h.at c.sheet_of-2.result c.map_err.result c.sheet_of-2.ensures.0 c.map_err.ensures.cases c.in_ok-n-2.n c.in_ok-n-2.was in
    (got_sheet c.args.mode s c.sheet_of-2.new.numbers m (blob_mode c.args.mode c.if-mode-lt2.false c.if-mode-gt3.false) (some h) (ap headed (sym c.in_ok-h.ensures)) _ (Some h) refl w, c.sheet_of-2.ensures.1)
