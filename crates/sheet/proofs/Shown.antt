-- What the code's struct and lent numbers show after each of the small changes to what was taken. Assumes nothing.
use mathlib.Core.Path.{◌≡◌, sym, ◌∙◌, ap₂}
use mathlib.Core.List.{List, [], ◌∷◌}
use Prim.Native.Nat.{ℕ, ◌+◌, ◌<◌}
use native.Mathlib.Omega.{arith}
use lib.ListN.{set, length-append, length-set}
use Rattle.sheet.specs.declared.Build.{Build}
use Rattle.sheet.specs.Reading.{Taken, held}
use Rattle.sheet.specs.Reading
use Rattle.sheet.specs.Going.{Shows}
use Rattle.sheet.proofs.Laid.{laid_push, laid_set}

-- One number more.
pub shows_push : (out : List ℕ) (t : Taken) (b : Build) (numbers more : List ℕ) (v : ℕ) → Shows out t b numbers → more ≡ set numbers b.fill v
    → Shows out (Reading.push v t) (record { fill = b.fill + 1; mark = b.mark; first = b.first; x = b.x; y = b.y }) more
shows_push out t b numbers more v h e = record {
  fill = omega (arith, h.fill, length-append t.numbers (v ∷ []));
  laid_over = e ∙ ap₂ (λ l k. set l k v) h.laid_over h.fill ∙ laid_push t.numbers out v;
  mark = h.mark;
  first = h.first;
  x = h.x;
  y = h.y;
}

-- The member's number of polygons is stored where it stands; where it stands nowhere nothing is stored.
pub shows_tally : (out : List ℕ) (t : Taken) (b : Build) (numbers more : List ℕ) (n : ℕ) → Shows out t b numbers → b.mark < b.fill → more ≡ set numbers b.mark (held n)
    → Shows out (Reading.tally n t) b more
shows_tally out t b numbers more n h l e = record {
  fill = h.fill ∙ sym (length-set t.numbers t.mark (held n));
  laid_over = e ∙ ap₂ (λ l k. set l k (held n)) h.laid_over h.mark ∙ laid_set t.numbers out t.mark (held n) (omega (arith, h.mark, h.fill));
  mark = h.mark;
  first = h.first;
  x = h.x;
  y = h.y;
}
