-- Whether a side bounds a polygon, and the sides that do, laid down one after another: what is laid down and what is left to lay down are
-- together all of them, before and after each side. Assumes nothing.
use mathlib.Core.Path.{◌≡◌, refl, sym, ◌∙◌, ap, ap₂}
use mathlib.Core.Bool.{Bool, true, false, not, cond, ◌&&◌}
use mathlib.Core.List.{List, [], ◌∷◌, ◌++◌, append-nil}
use Prim.Native.Nat.{ℕ, zero, suc, ◌+◌, ◌-◌, ◌/◌, ◌≤◌, ◌<◌}
use native.Mathlib.Omega.{arith}
use borrow.Author.Tests.{eq-eqb, ne_eqb}
use lib.Dec.{eqb}
use lib.ListN.{length, get_or, take, drop, set, length-append, length-set, take-append-drop}
use lib.Seq.{length-take-le, take_at, drop-set-lt, drop-drop}
use Rattle.whole.specs.Sums.{All, passing}
use Rattle.whole.proofs.Laid.{one_laid}
use Rattle.repair_regions.specs.Regions.{from}
use Rattle.repair_sides.specs.Numbered.{owns_across, bounds, boundary_numbers, LaidDown}

-- ---- one side
module _ (opposite owners : List ℕ) (polygon k : ℕ) where
  -- The side of another's triangle does not bound.
  pub not_own : (get_or owners (k / 3) 0 ≡ polygon → ⊥) → false ≡ bounds opposite owners polygon k
  not_own h = ap (λ b. b && not (owns_across owners polygon (get_or opposite k 0))) (sym (ne_eqb (get_or owners (k / 3) 0) polygon h))

  -- A side of the polygon's triangle bounds by what is across.
  own : get_or owners (k / 3) 0 ≡ polygon → (x : ℕ) → get_or opposite k 0 ≡ x → not (owns_across owners polygon x) ≡ bounds opposite owners polygon k
  own h x e = sym (ap₂ (λ b v. b && not (owns_across owners polygon v)) (eq-eqb (get_or owners (k / 3) 0) polygon h) e)

  pub none_across : get_or owners (k / 3) 0 ≡ polygon → get_or opposite k 0 ≡ 0 → true ≡ bounds opposite owners polygon k
  none_across h e = own h 0 e

  pub some_across : get_or owners (k / 3) 0 ≡ polygon → (get_or opposite k 0 ≡ 0 → ⊥) → not (eqb (get_or owners ((get_or opposite k 0 - 1) / 3) 0) polygon) ≡ bounds opposite owners polygon k
  some_across h f = let e : get_or opposite k 0 ≡ suc (get_or opposite k 0 - 1) = omega (arith, f) in own h (suc (get_or opposite k 0 - 1)) e

-- ---- the sides that pass a test, laid down
-- The first n numbers are laid down, and with those from k on before m that are to be they are all of them; behind them stands what stood there.
pub record Laying (test : ℕ → Bool) (m : ℕ) (before : List ℕ) (n k : ℕ) (out : List ℕ) : Type 0 where
  pub fewer : n ≤ k
  pub within : k ≤ m
  pub long : length out ≡ length before
  pub all : take n out ++ passing test (from k (m - k)) ≡ passing test (from 0 m)
  pub behind : drop n out ≡ drop n before

pub laying_none : (test : ℕ → Bool) (m : ℕ) (out : List ℕ) → Laying test m out 0 0 out
laying_none test m out = let z : m - 0 ≡ m = omega arith in record { fewer = omega arith; within = omega arith; long = refl; all = rw z refl; behind = refl }

module _ {test : ℕ → Bool} {m : ℕ} {before : List ℕ} {n k : ℕ} {out : List ℕ} (l : Laying test m before n k out) where
  module _ (h : k < m) where
    abbrev rest : List ℕ
    rest = passing test (from (k + 1) (m - (k + 1)))

    step : (b : Bool) → test k ≡ b → take n out ++ cond b (k ∷ rest) rest ≡ passing test (from 0 m)
    step b e =
        let z : m - k ≡ suc (m - (k + 1)) = omega arith in
        let w : suc k ≡ k + 1 = omega arith in
        ap₂ (λ c j. take n out ++ cond c (k ∷ passing test (from j (m - (k + 1)))) (passing test (from j (m - (k + 1))))) (sym e) (sym w) ∙ (rw z at l.all)

    -- Number k does not pass.
    pub laying_past : test k ≡ false → Laying test m before n (k + 1) out
    laying_past e = record { fewer = omega (arith, l.fewer); within = omega arith; long = l.long; all = step false e; behind = l.behind }

    -- Number k passes, and is laid down.
    pub laying_one : m ≤ length before → test k ≡ true → Laying test m before (n + 1) (k + 1) (set out n k)
    laying_one f e = record {
      fewer = omega (arith, l.fewer);
      within = omega arith;
      long = length-set out n k ∙ l.long;
      all = one_laid out rest n k (omega (arith, l.fewer, l.long)) ∙ step true e;
      behind = drop-set-lt (n + 1) out n k (omega arith) ∙ sym (drop-drop 1 n out) ∙ ap (drop 1) l.behind ∙ drop-drop 1 n before;
    }

  -- All are laid down.
  pub laying_all : m ≤ k → m ≤ length before → LaidDown (passing test (from 0 m)) before n out
  laying_all h f =
      let z : m - k ≡ 0 = omega arith in
      let e : take n out ≡ passing test (from 0 m) = sym (append-nil (take n out)) ∙ (rw z at l.all) in
      record { many = sym (length-take-le n out (omega (arith, l.fewer, l.within, l.long))) ∙ ap length e; left = sym (take-append-drop n out) ∙ ap₂ ◌++◌ e l.behind }

-- What is laid down stands at the front.
pub front_laid : {l out out₀ : List ℕ} {n : ℕ} → LaidDown l out₀ n out → (n ≤ length out) × (take n out ≡ l)
front_laid {l} {out₀ = out₀} {n = n} e = (omega (arith, e.many, ap length e.left, length-append l (drop n out₀)), ap (take n) e.left ∙ take_at l (drop n out₀) n (sym e.many))

-- ---- the numbers of boundary sides
all_passing : {A : Type 0} (P : A → Type 0) (test : A → Bool) (l : List A) → All P l → All P (passing test l)
all_passing P test [] h = tt
all_passing P test (a ∷ l) h = go (test a) (all_passing P test l h.1)
  where
    go : (b : Bool) → All P (passing test l) → All P (cond b (a ∷ passing test l) (passing test l))
    go true r = (h.0, r)
    go false r = r

from_below : (i n m : ℕ) → i + n ≤ m → All (λ k. k < m) (from i n)
from_below i zero m h = tt
from_below i (suc n) m h = (omega arith, from_below (suc i) n m (omega arith))

-- The sides that bound a polygon are sides of the table.
pub bounding_below : (opposite owners : List ℕ) (p : ℕ) → All (λ k. k < length opposite) (boundary_numbers opposite owners p)
bounding_below opposite owners p =
    all_passing (λ k. k < length opposite) (bounds opposite owners p) (from 0 (length opposite)) (from_below 0 (length opposite) (length opposite) (omega arith))
