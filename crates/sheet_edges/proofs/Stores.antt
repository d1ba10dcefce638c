-- Corners stored in two lists from a place on: two stretches one behind the other are one stretch, and what stands at the front then.
-- Assumes nothing.
use mathlib.Core.Path.{◌≡◌, refl, sym, ◌∙◌, ap, ap₂}
use mathlib.Core.List.{List, [], ◌∷◌, ◌++◌}
use Prim.Native.Nat.{ℕ, suc, ◌+◌, ◌≤◌}
use native.Mathlib.Omega.{arith}
use lib.ListN.{length, take, drop, set, length-append}
use lib.Seq.{sets, length-sets, sets-eq, take_at, drop_at}
use Rattle.whole.proofs.Sums.{all-++}
use Rattle.plane.specs.Keys.{Key, pair, pairs}
use Rattle.lent_little.proofs.Stored.{sets-++}
use Rattle.sheet_edges.specs.Standing.{Stored}

pub pairs-++ : (a b c d : List ℕ) → length a ≡ length b → pairs (a ++ c) (b ++ d) ≡ pairs a b ++ pairs c d
pairs-++ [] [] c d h = refl
pairs-++ [] (v ∷ b) c d h = absurd (omega arith)
pairs-++ (u ∷ a) [] c d h = absurd (omega arith)
pairs-++ (u ∷ a) (v ∷ b) c d h = ap (λ l. pair u v ∷ l) (pairs-++ a b c d (omega arith))

pub pairs_length : (a b : List ℕ) → length a ≡ length b → length (pairs a b) ≡ length a
pairs_length [] b h = refl
pairs_length (u ∷ a) [] h = absurd (omega arith)
pairs_length (u ∷ a) (v ∷ b) h = ap suc (pairs_length a b (omega arith))

pub stored_none : (from to : List ℕ) (fill : ℕ) → Stored from to fill [] [] from to fill
stored_none from to fill = record { from_is = refl; to_is = refl; next_is = omega arith; as_many = refl; from_keys = tt; to_keys = tt }

pub stored_one : (from to : List ℕ) (fill u v : ℕ) → Key u → Key v → Stored from to fill (u ∷ []) (v ∷ []) (set from fill u) (set to fill v) (fill + 1)
stored_one from to fill u v h k = record { from_is = refl; to_is = refl; next_is = refl; as_many = refl; from_keys = (h, tt); to_keys = (k, tt) }

pub stored_more : {from₀ to₀ from₁ to₁ from₂ to₂ s t u v : List ℕ} {fill next last : ℕ} → Stored from₀ to₀ fill s t from₁ to₁ next → Stored from₁ to₁ next u v from₂ to₂ last
    → Stored from₀ to₀ fill (s ++ u) (t ++ v) from₂ to₂ last
stored_more {from₀} {to₀} {s = s} {t = t} {u = u} {v = v} {fill = fill} {next = next} p q =
    let e : next ≡ fill + length t = omega arith in
    record {
      from_is = q.from_is ∙ ap₂ (λ l n. sets l n u) p.from_is p.next_is ∙ sets-++ from₀ s u fill;
      to_is = q.to_is ∙ ap₂ (λ l n. sets l n v) p.to_is e ∙ sets-++ to₀ t v fill;
      next_is = omega (arith, length-append s u);
      as_many = omega (arith, length-append s u, length-append t v);
      from_keys = all-++ Key s u p.from_keys q.from_keys;
      to_keys = all-++ Key t v p.to_keys q.to_keys;
    }

pub from_length : {from₀ to₀ s t from to : List ℕ} {fill next : ℕ} → Stored from₀ to₀ fill s t from to next → length from ≡ length from₀
from_length {from₀} {s = s} {fill = fill} p = ap length p.from_is ∙ length-sets from₀ fill s

pub to_length : {from₀ to₀ s t from to : List ℕ} {fill next : ℕ} → Stored from₀ to₀ fill s t from to next → length to ≡ length to₀
to_length {to₀ = to₀} {t = t} {fill = fill} p = ap length p.to_is ∙ length-sets to₀ fill t

-- What was stored from place 0 on is the front of the list, and behind it stands what stood there.
pub front : (l m vs : List ℕ) (n : ℕ) → m ≡ sets l 0 vs → n ≡ length vs → length vs ≤ length l → (take n m ≡ vs) × (drop n m ≡ drop n l)
front l m vs n e q h = (ap (take n) whole ∙ take_at vs (drop n l) n (sym q), ap (drop n) whole ∙ drop_at vs (drop n l) n (sym q))
  where
    same : 0 + length vs ≡ n
    same = omega arith

    whole : m ≡ vs ++ drop n l
    whole = e ∙ sets-eq vs l 0 (omega arith) ∙ ap (λ k. vs ++ drop k l) same
