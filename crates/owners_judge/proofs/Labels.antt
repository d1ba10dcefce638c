-- Labels of which none is set: they choose no triangle, and have the counts of a boundary exactly if all counts are none. Assumes nothing.
use mathlib.Core.Path.{◌≡◌, refl, ap}
use mathlib.Core.Logic.{◌↔◌}
use mathlib.Core.Bool.{Bool, true, false}
use mathlib.Core.List.{List, [], ◌∷◌}
use Prim.Native.Nat.{ℕ, zero, suc, ◌/◌}
use native.Mathlib.Omega.{arith}
use lib.ListN.{get_or, replicate}
use Rattle.whole.specs.Sums.{All, bit}
use Rattle.table.specs.Sets.{chosen}
use Rattle.table.specs.Sides.{mark, across, evenly, SharesAt}
use Rattle.table.proofs.Nets.{net_is}

-- No label is set.
abbrev pub Unset : List Bool → Type 0
Unset = All (λ b. b ≡ false)

pub all_unset : (n : ℕ) → Unset (replicate n false)
all_unset zero = tt
all_unset (suc n) = (refl, all_unset n)

pub none_chosen : {A : Type 0} (l : List A) (s : List Bool) → Unset s → chosen l s ≡ []
none_chosen [] s h = refl
none_chosen (a ∷ l) [] h = refl
none_chosen (a ∷ l) (true ∷ s) h = absurd (let z : ◌≡◌ {A = ℕ} 0 1 = cc h.0 in omega arith)
none_chosen (a ∷ l) (false ∷ s) h = none_chosen l s h.1

unset_at : (s : List Bool) → Unset s → (t : ℕ) → mark s t ≡ 0
unset_at [] h t = refl
unset_at (b ∷ s) h zero = ap bit h.0
unset_at (b ∷ s) h (suc t) = unset_at s h.1 t

unset_across : (s : List Bool) → Unset s → (v : ℕ) → across s v ≡ 0
unset_across s h zero = refl
unset_across s h (suc o) = unset_at s h (o / 3)

pub unset_shares : (opposite counts : List ℕ) (s : List Bool) → Unset s → (k : ℕ) → SharesAt opposite counts s k ↔ (get_or counts k 0 ≡ evenly)
unset_shares opposite counts s h k =
    let n = net_is (get_or counts k 0) (across s (get_or opposite k 0)) (mark s (k / 3)) in
    let x = unset_across s h (get_or opposite k 0) in
    let y = unset_at s h (k / 3) in
    (λ p. omega (arith, n.1 p), λ e. n.0 (omega arith))
