-- A list in reverse order: its first and last, and what holds of each. Assumes nothing.
use mathlib.Core.Path.{◌≡◌, refl, sym, ◌∙◌, ap}
use mathlib.Core.List.{List, [], ◌∷◌, reverse, reverse_aux, reverse-cons, reverse-reverse}
use Prim.Native.Nat.{ℕ, suc, ◌-◌, ◌<◌}
use native.Mathlib.Omega.{arith}
use lib.ListN.{length, get_or, length-reverse, get_or-append}
use Rattle.whole.specs.Sums.{All}

one_less : (n : ℕ) → suc n - 1 ≡ n
one_less n = omega arith

module _ {A : Type 0} where
  all_onto : (P : A → Type 0) (l m : List A) → All P l → All P m → All P (reverse_aux l m)
  all_onto P [] m h k = k
  all_onto P (a ∷ l) m h k = all_onto P l (a ∷ m) h.1 (h.0, k)

  -- What each has, each has in reverse order.
  pub all_reverse : (P : A → Type 0) (l : List A) → All P l → All P (reverse l)
  all_reverse P l h = all_onto P l [] h tt

  -- The first in reverse order is the last, and the last the first.
  pub first_reverse : (l : List A) (d : A) → get_or (reverse l) 0 d ≡ get_or l (length l - 1) d
  first_reverse [] d = refl
  first_reverse (a ∷ []) d = refl
  first_reverse (a ∷ b ∷ l) d =
      let h : 0 < length (reverse (b ∷ l)) = omega (arith, length-reverse (b ∷ l)) in
      ap (λ m. get_or m 0 d) (reverse-cons a (b ∷ l)) ∙ get_or-append (reverse (b ∷ l)) (a ∷ []) d 0 h
      ∙ first_reverse (b ∷ l) d ∙ ap (λ i. get_or (b ∷ l) i d) (one_less (length l)) ∙ sym (ap (λ i. get_or (a ∷ b ∷ l) i d) (one_less (suc (length l))))

  pub last_reverse : (l : List A) (d : A) → get_or (reverse l) (length (reverse l) - 1) d ≡ get_or l 0 d
  last_reverse l d = sym (first_reverse (reverse l) d) ∙ ap (λ m. get_or m 0 d) (reverse-reverse l)
