-- Going through two lists at once: what is still to come begins with the members at the place reached. The idea: a list from a place on is its member there and the
-- list from the next place on. Assumes nothing.
use Rattle.std.proofs.Common.{◌≡◌, ℕ, ◌+◌, ◌≤◌, ◌<◌, List, ◌∷◌, length, get_or, drop, length-drop, ap, ◌⊎◌, inl, inr, arith}
use Rattle.std.proofs.lemmas.List.{drop_more, drop_all}
use native.Mathlib.Decide.{dec_lt}

-- The next member.
pub stepped : (l m : List ℕ) (i x : ℕ) → drop i l ≡ x ∷ m → (i < length l) × (x ≡ get_or l i 0) × (m ≡ drop (i + 1) l)
stepped l m i x e = go (dec_lt i (length l))
  where
    go : Dec (i < length l) → (i < length l) × (x ≡ get_or l i 0) × (m ≡ drop (i + 1) l)
    go (yes h) = let d = drop_more l i 0 h in (h, (cc), (cc))
    go (no n) = let d = drop_all i l (omega arith) in absurd (cc)

-- Nothing is still to come.
pub ended : (l m r s : List ℕ) (i : ℕ) {A B : Type 0} (P : A → Type 0) (Q : B → Type 0) → length m ≡ length l → r ≡ drop i l → s ≡ drop i m → ((x : A) × ((length r ≡ 0) × P x)) ⊎ ((x : B) × ((length s ≡ 0) × Q x)) → length l ≤ i
ended l m r s i P Q n e f (inl h) = omega (arith, length-drop i l, ap length e, h.1.0)
ended l m r s i P Q n e f (inr h) = omega (arith, length-drop i m, ap length f, h.1.0)
