-- A list laid down member by member: what is laid down and what is left to lay down are together the whole, before and after each store. Assumes nothing.
use mathlib.Core.Path.{◌≡◌, sym, ◌∙◌, ap}
use mathlib.Core.List.{List, [], ◌∷◌, ◌++◌, append_assoc, append-nil}
use Prim.Native.Nat.{ℕ, ◌+◌, ◌≤◌, ◌<◌}
use native.Mathlib.Numerals.{add-one}
use lib.ListN.{length, take, set}
use lib.Seq.{take_all, take-suc-set}

module _ {A : Type 0} (out rest : List A) (i : ℕ) where
  pub one_laid : (v : A) → i < length out → take (i + 1) (set out i v) ++ rest ≡ take i out ++ v ∷ rest
  one_laid v h = rw (add-one, take-suc-set out i v h) (append_assoc (take i out) (v ∷ []) rest)

  pub all_laid : length out ≤ i → rest ≡ [] → take i out ++ rest ≡ out
  all_laid h e = ap (λ l. take i out ++ l) e ∙ append-nil (take i out) ∙ take_all i out h
