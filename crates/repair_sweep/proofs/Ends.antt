-- A walk by steps that never lead from two places to one, and never to its start, comes to a place that passes the test within as many steps as there are places.
-- The idea: the places that it has left are marked, and the one where it stands is not; a step back to a marked place would lead there from two. Assumes nothing.
use mathlib.Core.Path.{◌≡◌, refl, sym, ◌∙◌, ap}
use mathlib.Core.Logic.{◌⊎◌, inl, inr}
use mathlib.Core.Bool.{Bool, true, false, cond, true≢false}
use mathlib.Core.List.{List, [], ◌∷◌}
use Prim.Native.Nat.{ℕ, zero, suc, ◌+◌, ◌<◌}
use native.Mathlib.Omega.{arith}
use native.Mathlib.Decide.{ℕ_discrete}
use lib.ListN.{length, get_or, set, length-set}
use lib.Seq.{get_or-set_same, get_or-set_other}
use Rattle.repair_regions.specs.Spreading.{marked}
use Rattle.repair_regions.proofs.Spreading.{marked_set, marked_less}
use Rattle.repair_follower.specs.Follower.{first_along}

-- So many places with no mark.
abbrev unmarked : ℕ → List Bool
unmarked zero = []
unmarked (suc n) = false ∷ unmarked n

unmarked_many : (n : ℕ) → length (unmarked n) ≡ n
unmarked_many zero = refl
unmarked_many (suc n) = ap suc (unmarked_many n)

unmarked_at : (n k : ℕ) → get_or (unmarked n) k false ≡ false
unmarked_at zero k = refl
unmarked_at (suc n) zero = refl
unmarked_at (suc n) (suc k) = unmarked_at n k

unmarked_none : (n : ℕ) → marked (unmarked n) ≡ 0
unmarked_none zero = refl
unmarked_none (suc n) = omega (arith, unmarked_none n)

-- ---- one mark more
module _ (l : List Bool) (k : ℕ) (h : k < length l) where
  marked_at : (j : ℕ) → get_or (set l k true) j false ≡ true → (get_or l j false ≡ true) ⊎ (j ≡ k)
  marked_at j e = go (ℕ_discrete j k)
    where
      go : Dec (j ≡ k) → (get_or l j false ≡ true) ⊎ (j ≡ k)
      go (yes p) = inr p
      go (no p) = inl (sym (get_or-set_other l k j true false (λ q. p q)) ∙ e)

  mark_kept : (j : ℕ) → get_or l j false ≡ true → get_or (set l k true) j false ≡ true
  mark_kept j e = go (ℕ_discrete j k)
    where
      go : Dec (j ≡ k) → get_or (set l k true) j false ≡ true
      go (yes p) = rw p (get_or-set_same l k true false h)
      go (no p) = get_or-set_other l k j true false (λ q. p q) ∙ e

module _ (m : ℕ) (test : ℕ → Bool) (step : ℕ → ℕ) (start : ℕ) (below : (k : ℕ) → k < m → test k ≡ false → step k < m)
    (apart : (j k : ℕ) → j < m → k < m → test j ≡ false → test k ≡ false → step j ≡ step k → j ≡ k) (fresh : (k : ℕ) → k < m → test k ≡ false → step k ≡ start → ⊥) where
  -- The walk stands at k and has left the marked places; it came to each by a step from a marked one, but to its start.
  record Standing (left : List Bool) (k : ℕ) : Type 0 where
    size : length left ≡ m
    here : k < m
    free : get_or left k false ≡ false
    passed : (j : ℕ) → get_or left j false ≡ true → (j < m) × (test j ≡ false)
    came : (j : ℕ) → (get_or left j false ≡ true) ⊎ (j ≡ k) → (j ≡ start) ⊎ ((i : ℕ) × (get_or left i false ≡ true) × (step i ≡ j))

  module _ (left : List Bool) (k : ℕ) (s : Standing left k) (t : test k ≡ false) where
    inside : k < length left
    inside = omega (arith, s.here, s.size)

    not_left : get_or (set left k true) (step k) false ≡ true → ⊥
    not_left e = go (s.came (step k) (marked_at left k inside (step k) e))
      where
        go : (step k ≡ start) ⊎ ((i : ℕ) × (get_or left i false ≡ true) × (step i ≡ step k)) → ⊥
        go (inl p) = fresh k s.here t p
        go (inr p) = let q = s.passed p.0 p.1 in
            let same = apart p.0 k q.0 s.here q.1 t p.2 in
            true≢false (sym p.1 ∙ ap (λ i. get_or left i false) same ∙ s.free)

    unleft : (b : Bool) → get_or (set left k true) (step k) false ≡ b → b ≡ false
    unleft true e = absurd (not_left e)
    unleft false e = refl

    went : Standing (set left k true) (step k)
    went = record {
      size = length-set left k true ∙ s.size;
      here = below k s.here t;
      free = unleft _ refl;
      passed = λ j e. past j (marked_at left k inside j e);
      came = λ j e. from j e;
    }
      where
        past : (j : ℕ) → (get_or left j false ≡ true) ⊎ (j ≡ k) → (j < m) × (test j ≡ false)
        past j (inl e) = s.passed j e
        past j (inr e) = (omega (arith, s.here), ap test e ∙ t)

        kept : {j : ℕ} → (j ≡ start) ⊎ ((i : ℕ) × (get_or left i false ≡ true) × (step i ≡ j)) → (j ≡ start) ⊎ ((i : ℕ) × (get_or (set left k true) i false ≡ true) × (step i ≡ j))
        kept (inl e) = inl e
        kept (inr e) = inr (e.0, mark_kept left k inside e.0 e.1, e.2)

        from : (j : ℕ) → (get_or (set left k true) j false ≡ true) ⊎ (j ≡ step k) → (j ≡ start) ⊎ ((i : ℕ) × (get_or (set left k true) i false ≡ true) × (step i ≡ j))
        from j (inl e) = kept (s.came j (marked_at left k inside j e))
        from j (inr e) = inr (k, get_or-set_same left k true false inside, sym e)

  comes : (n : ℕ) (left : List Bool) (k : ℕ) → Standing left k → marked left + n ≡ m → test (first_along test step n k) ≡ true
  comes zero left k s e = absurd (omega (arith, marked_less left k (omega (arith, s.here, s.size)) s.free, s.size))
  comes (suc n) left k s e = go (test k) refl (λ t. comes n (set left k true) (step k) (went left k s t) (omega (arith, marked_set left k (omega (arith, s.here, s.size)) s.free)))
    where
      go : (b : Bool) → test k ≡ b → (test k ≡ false → test (first_along test step n (step k)) ≡ true) → test (cond b k (first_along test step n (step k))) ≡ true
      go true q r = q
      go false q r = r q

  pub ends : start < m → test (first_along test step m start) ≡ true
  ends h = comes m (unmarked m) start (record {
    size = unmarked_many m;
    here = h;
    free = unmarked_at m start;
    passed = λ j e. absurd (true≢false (sym e ∙ unmarked_at m j));
    came = λ j e. first j e;
  }) (omega (arith, unmarked_none m))
    where
      first : (j : ℕ) → (get_or (unmarked m) j false ≡ true) ⊎ (j ≡ start) → (j ≡ start) ⊎ ((i : ℕ) × (get_or (unmarked m) i false ≡ true) × (step i ≡ j))
      first j (inl e) = absurd (true≢false (sym e ∙ unmarked_at m j))
      first j (inr e) = inl e

-- What holds at the start and is kept by each step holds where the walk ends.
pub along_keeps : (P : ℕ → Type 0) (test : ℕ → Bool) (step : ℕ → ℕ) → ((k : ℕ) → P k → test k ≡ false → P (step k)) → (n k : ℕ) → P k → P (first_along test step n k)
along_keeps P test step keeps zero k h = h
along_keeps P test step keeps (suc n) k h = go (test k) refl (λ t. along_keeps P test step keeps n (step k) (keeps k h t))
  where
    go : (b : Bool) → test k ≡ b → (test k ≡ false → P (first_along test step n (step k))) → P (cond b k (first_along test step n (step k)))
    go true q r = h
    go false q r = r q
