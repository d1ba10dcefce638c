-- Noting of sides that no corner is inside them: what is added to a number of the chains changes no other part of it. Assumes nothing.
use mathlib.Core.Path.{◌≡◌, refl, sym, ◌∙◌, ap}
use mathlib.Core.Logic.{inl, inr}
use mathlib.Core.List.{List}
use Prim.Native.Nat.{ℕ, suc, ◌+◌, ◌/◌, ◌%◌, ◌≤◌, ◌<◌}
use native.Mathlib.Omega.{arith}
use native.Mathlib.Decide.{ℕ_discrete}
use lib.ListN.{length, get_or, set, length-set}
use lib.Seq.{get_or-set_same, get_or-set_other}
use Rattle.table_sides.specs.Chains.{next_in, code_in, head_in, clear_in}
use Rattle.table_count.specs.Counting.{ClearOf}
use Rattle.table_index.specs.Noting.{Noted, NotedTo}

pub noted_none : (corners codes x : List ℕ) → ((i : ℕ) → i < length codes → clear_in (get_or x i 0) ≡ 0) → NotedTo corners codes x x 0
noted_none corners codes x f = record {
  number = refl;
  nexts = λ i. refl;
  codes_are = λ i. refl;
  heads = λ i. refl;
  clear = λ i h. absurd (omega arith);
  left = λ i h l. f i l;
}

pub small_note : (corners : List ℕ) (code r : ℕ) → Noted corners code r → r ≤ 281_474_976_710_656
small_note corners code r (inl e) = omega arith
small_note corners code r (inr p) = omega (arith, p.0)

-- A note changes no other part.
parts : (corners : List ℕ) (code x r : ℕ) → Noted corners code r → (next_in (x + r) ≡ next_in x) × (code_in (x + r) ≡ code_in x) × (head_in (x + r) ≡ head_in x)
parts corners code x r (inl e) = (omega arith, omega arith, omega arith)
parts corners code x r (inr p) = let e = p.0 in (omega arith, omega arith, omega arith)

is_noted : (corners : List ℕ) (code x r : ℕ) → clear_in x ≡ 0 → Noted corners code r → 0 < clear_in (x + r) → ClearOf corners (get_or corners (code / 4096) 0) (get_or corners (code % 4096) 0)
is_noted corners code x r z (inl e) h = absurd (omega arith)
is_noted corners code x r z (inr p) h = p.1

-- One side more.
module _ (corners codes x y : List ℕ) (k r : ℕ) (in_List : k < length y) (t : NotedTo corners codes x y k) (n : Noted corners (get_or codes k 0) r) where
  abbrev z : List ℕ
  z = set y k (get_or y k 0 + r)

  at : get_or z k 0 ≡ get_or y k 0 + r
  at = get_or-set_same y k (get_or y k 0 + r) 0 in_List

  other : (i : ℕ) → (i ≡ k → ⊥) → get_or z i 0 ≡ get_or y i 0
  other i d = get_or-set_other y k i (get_or y k 0 + r) 0 d

  -- A part that the note doesn't change.
  kept : (part : ℕ → ℕ) → part (get_or y k 0 + r) ≡ part (get_or y k 0) → (i : ℕ) → part (get_or z i 0) ≡ part (get_or y i 0)
  kept part p i = go (ℕ_discrete i k)
    where
      go : Dec (i ≡ k) → part (get_or z i 0) ≡ part (get_or y i 0)
      go (yes e) = ap (λ j. part (get_or z j 0)) e ∙ ap part at ∙ p ∙ ap (λ j. part (get_or y j 0)) (sym e)
      go (no d) = ap part (other i d)

  pub noted_more : k < length codes → NotedTo corners codes x z (suc k)
  noted_more in-codes = record {
    number = length-set y k (get_or y k 0 + r) ∙ t.number;
    nexts = λ i. kept next_in ps.0 i ∙ t.nexts i;
    codes_are = λ i. kept code_in ps.1 i ∙ t.codes_are i;
    heads = λ i. kept head_in ps.2 i ∙ t.heads i;
    clear = λ i h c. clear_at i h c (ℕ_discrete i k);
    left = λ i h l. ap clear_in (other i (λ e. omega arith)) ∙ t.left i (omega arith) l;
  }
    where
      ps : (next_in (get_or y k 0 + r) ≡ next_in (get_or y k 0)) × (code_in (get_or y k 0 + r) ≡ code_in (get_or y k 0)) × (head_in (get_or y k 0 + r) ≡ head_in (get_or y k 0))
      ps = parts corners (get_or codes k 0) (get_or y k 0) r n

      clear_at : (i : ℕ) → i < suc k → 0 < clear_in (get_or z i 0) → Dec (i ≡ k) → ClearOf corners (get_or corners (get_or codes i 0 / 4096) 0) (get_or corners (get_or codes i 0 % 4096) 0)
      clear_at i h c (yes e) = rw e (is_noted corners (get_or codes k 0) (get_or y k 0) r (t.left k (omega arith) in-codes) n (rw (e, at) at c))
      clear_at i h c (no d) = t.clear i (omega arith) (rw (other i d) at c)
