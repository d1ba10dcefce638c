-- Numbers laid over the front of lent ones: one more is a store behind the last, wherever there is room. Assumes nothing.
use mathlib.Core.Path.{◌≡◌, refl, ◌∙◌, ap}
use mathlib.Core.List.{List, [], ◌∷◌, ◌++◌}
use Prim.Native.Nat.{ℕ, zero, suc, ◌≤◌, ◌<◌}
use native.Mathlib.Omega.{arith}
use lib.ListN.{length, take, set}
use Rattle.sheet.specs.Going.{laid}

pub laid_none : (out : List ℕ) → laid [] out ≡ out
unfolding laid
laid_none [] = refl
laid_none (o ∷ out) = refl

laid_no_room : (l : List ℕ) → laid l [] ≡ []
unfolding laid
laid_no_room [] = refl
laid_no_room (a ∷ l) = refl

laid_more : (a o : ℕ) (l out : List ℕ) → laid (a ∷ l) (o ∷ out) ≡ a ∷ laid l out
unfolding laid
laid_more a o l out = refl

pub laid_push : (l out : List ℕ) (v : ℕ) → set (laid l out) (length l) v ≡ laid (l ++ v ∷ []) out
laid_push [] [] v = rw (laid_none [], laid_no_room (v ∷ []))
laid_push [] (o ∷ out) v = rw (laid_none (o ∷ out), laid_more v o [] out, laid_none out)
laid_push (a ∷ l) [] v = rw (laid_no_room (a ∷ l), laid_no_room (a ∷ (l ++ v ∷ [])))
laid_push (a ∷ l) (o ∷ out) v = rw (laid_more a o l out, laid_more a o (l ++ v ∷ []) out) (ap (λ m. a ∷ m) (laid_push l out v))

pub laid_set : (l out : List ℕ) (i v : ℕ) → i < length l → set (laid l out) i v ≡ laid (set l i v) out
laid_set [] out i v h = absurd (omega arith)
laid_set (a ∷ l) [] i v h = rw (laid_no_room (a ∷ l), laid_no_room (set (a ∷ l) i v)) (nothing i)
  where
    nothing : (i : ℕ) → set [] i v ≡ []
    nothing zero = refl
    nothing (suc i) = refl
laid_set (a ∷ l) (o ∷ out) zero v h = rw (laid_more a o l out, laid_more v o l out)
laid_set (a ∷ l) (o ∷ out) (suc i) v h = rw (laid_more a o l out, laid_more a o (set l i v) out) (ap (λ m. a ∷ m) (laid_set l out i v (omega arith)))

pub length_laid : (l out : List ℕ) → length (laid l out) ≡ length out
length_laid [] out = ap length (laid_none out)
length_laid (a ∷ l) [] = ap length (laid_no_room (a ∷ l))
length_laid (a ∷ l) (o ∷ out) = ap length (laid_more a o l out) ∙ ap suc (length_laid l out)

-- What was laid with enough room stands at the front.
pub laid_front : (l out : List ℕ) → length l ≤ length out → take (length l) (laid l out) ≡ l
laid_front [] out h = refl
laid_front (a ∷ l) [] h = absurd (omega arith)
laid_front (a ∷ l) (o ∷ out) h = rw (laid_more a o l out) (ap (λ m. a ∷ m) (laid_front l out (omega arith)))
