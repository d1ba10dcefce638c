-- Sides gone along one after another: what is found from the side reached is what is found from the first, before and after each step. Assumes nothing.
use mathlib.Core.Path.{◌≡◌, refl, sym, ◌∙◌, ap}
use mathlib.Core.Bool.{Bool, true, false, cond}
use mathlib.Core.List.{List}
use Prim.Native.Nat.{ℕ, zero, suc, ◌+◌, ◌-◌, ◌≤◌, ◌<◌}
use native.Mathlib.Omega.{arith}
use borrow.Author.Tests.{eq-eqb, ne_eqb}
use lib.ListN.{length, get_or}
use Rattle.lent_little.specs.Held.{end_of}
use Rattle.repair_regions.specs.Spreading.{Paired}
use Rattle.repair_follower.specs.Follower.{first_along, side_before, on_frame, along_frame, turned_to}

-- After i steps from side k side s of the m sides is reached, and nothing before it passes the test.
pub record Along (test : ℕ → Bool) (step : ℕ → ℕ) (m k i s : ℕ) : Type 0 where
  pub within : i ≤ m
  pub side : s < m
  pub rest : first_along test step (m - i) s ≡ first_along test step m k

pub along_none : (test : ℕ → Bool) (step : ℕ → ℕ) (m k : ℕ) → k < m → Along test step m k 0 k
along_none test step m k h = let z : m - 0 ≡ m = omega arith in record { within = omega arith; side = h; rest = ap (λ n. first_along test step n k) z }

found_here : (test : ℕ → Bool) (step : ℕ → ℕ) (n k : ℕ) → test k ≡ true → first_along test step n k ≡ k
found_here test step zero k e = refl
found_here test step (suc n) k e = ap (λ b. cond b k (first_along test step n (step k))) e

module _ {test : ℕ → Bool} {step : ℕ → ℕ} {m k i s : ℕ} (l : Along test step m k i s) where
  -- The side passes the test: it is the first.
  pub along_found : test s ≡ true → s ≡ first_along test step m k
  along_found e = sym (found_here test step (m - i) s e) ∙ l.rest

  -- It does not: one step more.
  pub along_past : i < m → test s ≡ false → step s < m → Along test step m k (i + 1) (step s)
  along_past h e f =
      let z : m - i ≡ suc (m - (i + 1)) = omega arith in
      let one : first_along test step (m - i) s ≡ first_along test step (m - (i + 1)) (step s)
      = ap (λ n. first_along test step n s) z ∙ ap (λ b. cond b s (first_along test step (m - (i + 1)) (step s))) e in
      record { within = omega arith; side = f; rest = sym one ∙ l.rest }

  -- The steps are gone.
  pub along_all : m ≤ i → s ≡ first_along test step m k
  along_all h = let z : m - i ≡ 0 = omega arith in ap (λ n. first_along test step n s) (sym z) ∙ l.rest

-- ---- the sides of a table
module _ (opposite : List ℕ) (k : ℕ) where
  pub frame : get_or opposite k 0 ≡ 0 → on_frame opposite k ≡ true
  frame e = eq-eqb (get_or opposite k 0) 0 e

  pub inner : (get_or opposite k 0 ≡ 0 → ⊥) → on_frame opposite k ≡ false
  inner f = ne_eqb (get_or opposite k 0) 0 f

  pub turned_frame : get_or opposite k 0 ≡ 0 → along_frame opposite (end_of k) ≡ turned_to opposite k
  turned_frame e = ap (λ b. cond b (along_frame opposite (end_of k)) (get_or opposite k 0 - 1)) (sym (frame e))

  pub turned_inner : (get_or opposite k 0 ≡ 0 → ⊥) → get_or opposite k 0 - 1 ≡ turned_to opposite k
  turned_inner f = ap (λ b. cond b (along_frame opposite (end_of k)) (get_or opposite k 0 - 1)) (sym (inner f))

  module _ {n : ℕ} (p : Paired opposite n) where
    -- What is across a side is a side.
    pub across_below : (get_or opposite k 0 ≡ 0 → ⊥) → get_or opposite k 0 - 1 < length opposite
    across_below f = p.there k (get_or opposite k 0 - 1) (omega (arith, f))

    -- The sides of a triangle are all sides of the table.
    pub end_below : k < length opposite → end_of k < length opposite
    end_below h = omega (arith, p.sides)

    pub before_below : k < length opposite → side_before k < length opposite
    before_below h = omega (arith, p.sides)
