-- After the end or a refusal a step answers the same again, since the next place is the same place; and a place past the bytes answers 1
-- with the member that it names.
-- The idea: both are read off the definition, case by case. Assumes nothing.
use mathlib.Core.Path.{◌≡◌, refl, ◌∙◌, ap, subst}
use mathlib.Core.Bool.{Bool, true, false, not, cond, ◌&&◌}
use mathlib.Core.List.{List}
use Prim.Native.Nat.{ℕ, ◌+◌, ◌<◌}
use native.Mathlib.Omega.{arith}
use borrow.Author.Tests.{lt-leb, le-ltb, ne_eqb}
use lib.Dec.{ltb, eqb}
use lib.ListN.{length}
use Rattle.lent.specs.declared.Reason.{Reason}
use Rattle.lent.specs.declared.Reason.TheVariants.{Short}
use Rattle.wkb.specs.declared.Cursor.{Cursor}
use Rattle.wkb.specs.declared.Step.{Step}
use Rattle.wkb.specs.declared.Step.TheVariants.{Geometry, Ring, Point, End, Refused}
use Rattle.wkb.specs.Steps.{complete, refusal, geometry_at, ring_at, point_at, end_at, step_at}
use Rattle.wkb.proofs.Cases.{by_case}

-- An end or a refusal hands back the place it was given.
abbrev pub Stays : Cursor → Step → Type 0
Stays c (Geometry kind n d) = Unit {0}
Stays c (Ring n d) = Unit {0}
Stays c (Point x y d) = Unit {0}
Stays c (End d) = d ≡ c
Stays c (Refused reason item field d) = d ≡ c

pub step_stays : (s : List ℕ) (c : Cursor) → Stays c (step_at s c)
step_stays s c = by_case (Stays c) s c (record {
  refused = λ reason field t f. refl;
  point = λ p l. tt;
  ring = λ p r l n f. tt;
  end = λ due. (λ e. refl, λ l. refl);
  geometry = λ p r t l little kind n k f. tt;
})

pub end_again : (s : List ℕ) (c d : Cursor) → step_at s c ≡ End d → step_at s d ≡ End d
end_again s c d e = ap (step_at s) (subst (Stays c) e (step_stays s c)) ∙ e

pub refused_again : (s : List ℕ) (c d : Cursor) (reason : Reason) (item field : ℕ) → step_at s c ≡ Refused reason item field d → step_at s d ≡ Refused reason item field d
refused_again s c d reason item field e = ap (step_at s) (subst (Stays c) e (step_stays s c)) ∙ e

-- A place past the bytes.
pub past : (s : List ℕ) (c : Cursor) → length s < c.at → step_at s c ≡ refusal Short c.at c
unfolding step_at geometry_at ring_at point_at end_at
past s c h = rw (lt-leb (c.at + 16) (length s) (omega arith), lt-leb (c.at + 4) (length s) (omega arith), lt-leb (c.at + 1) (length s) (omega arith), le-ltb c.at (length s) (omega arith), ne_eqb c.at (length s) (λ e. omega arith)) (all (ltb 0 c.points) (ltb 0 c.rings) (not (eqb c.member 0) && complete c))
  where
    all : (x y z : Bool) → cond x (refusal Short c.at c) (cond y (refusal Short c.at c) (cond z (refusal Short c.at c) (refusal Short c.at c))) ≡ refusal Short c.at c
    all true y z = refl
    all false true z = refl
    all false false true = refl
    all false false false = refl
