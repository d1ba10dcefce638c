-- Members stored behind members stored are all of them stored from the first one's place. Assumes nothing.
use mathlib.Core.Path.{◌≡◌, refl, ap}
use mathlib.Core.List.{List, [], ◌∷◌, ◌++◌}
use Prim.Native.Nat.{ℕ, suc, ◌+◌}
use native.Mathlib.Omega.{arith}
use lib.ListN.{length, set}
use lib.Seq.{sets}

pub sets_behind : (o l m : List ℕ) (i j : ℕ) → j ≡ i + length l → sets (sets o i l) j m ≡ sets o i (l ++ m)
sets_behind o [] m i j e = let f : j ≡ i = omega arith in ap (λ n. sets o n m) f
sets_behind o (b ∷ l) m i j e = sets_behind (set o i b) l m (suc i) j (omega arith)

pub sets-++ : (o l m : List ℕ) (k : ℕ) → sets (sets o k l) (k + length l) m ≡ sets o k (l ++ m)
sets-++ o l m k = sets_behind o l m k (k + length l) refl
