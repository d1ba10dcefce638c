-- Numbers written as bytes over the front of lent ones, w bytes for each: one number more is w stores behind the last. Assumes nothing.
use mathlib.Core.Path.{◌≡◌, refl, sym, ◌∙◌, ap, ap₂}
use mathlib.Core.List.{List, [], ◌∷◌, ◌++◌, flat_map, append-nil}
use Prim.Native.Nat.{ℕ, ◌+◌, ◌*◌, ◌≤◌, ◌<◌}
use native.Mathlib.Numerals.{add-one}
use native.Mathlib.Omega.{arith}
use lib.ListN.{length, get_or, take, drop, length-append, length-drop}
use lib.Seq.{take-suc, take_at, sets, length-sets, sets-eq, drop-drop, drop-append-add, length-take-le}
use Rattle.whole.proofs.Sums.{flat_map-++}
use Rattle.lent_little.specs.Ordered.{bytes}
use Rattle.lent_little.specs.Bytes.{set_bytes}
use Rattle.lent_little.specs.Held.{corner_held, side_held, held_bytes}

pub held_length : (h : ℕ) → length (held_bytes h) ≡ 4
unfolding bytes
held_length h = refl

pub set_length : (x : ℕ) → length (set_bytes x) ≡ 8
unfolding bytes
set_length x = refl

pub corner_length : (numbers : List ℕ) (c : ℕ) → length (corner_held numbers c) ≡ 8
unfolding bytes
corner_length numbers c = refl

pub side_length : (numbers : List ℕ) (k : ℕ) → length (side_held numbers k) ≡ 16
unfolding bytes
side_length numbers k = refl

-- The first i numbers stand at the front as bytes, and behind them what stood there.
pub record Written (w : ℕ) (f : ℕ → List ℕ) (numbers : List ℕ) (n : ℕ) (before : List ℕ) (i : ℕ) (out : List ℕ) : Type 0 where
  pub within : i ≤ n
  pub long : length out ≡ length before
  pub left : out ≡ flat_map f (take i numbers) ++ drop (w * i) before

module _ (w : ℕ) (f : ℕ → List ℕ) (size : (x : ℕ) → length (f x) ≡ w) where
  pub all_length : (l : List ℕ) → length (flat_map f l) ≡ w * length l
  unfolding flat_map
  all_length [] = omega arith
  all_length (x ∷ l) = omega (arith, length-append (f x) (flat_map f l), size x, all_length l)

  one_more : (numbers out : List ℕ) (i : ℕ) → i < length numbers → w * i + w ≤ length out
      → sets (flat_map f (take i numbers) ++ drop (w * i) out) (w * i) (f (get_or numbers i 0)) ≡ flat_map f (take (i + 1) numbers) ++ drop (w * (i + 1)) out
  unfolding flat_map
  one_more numbers out i h k =
      sets-eq v (x ++ drop (w * i) out) (w * i) (omega (arith, length-append x (drop (w * i) out), length-drop (w * i) out, size (get_or numbers i 0), long))
      ∙ ap₂ (λ a b. a ++ v ++ b) (take_at x (drop (w * i) out) (w * i) long) rest
      ∙ ap (λ a. a ++ drop (w * (i + 1)) out) (sym grown)
    where
      x : List ℕ
      x = flat_map f (take i numbers)

      v : List ℕ
      v = f (get_or numbers i 0)

      long : length x ≡ w * i
      long = all_length (take i numbers) ∙ ap (λ n. w * n) (length-take-le i numbers (omega arith))

      again : (i : ℕ) → w * i + w ≡ w * (i + 1)
      again i = omega arith

      there : length x ≡ w * i → length v ≡ w → w * i + length v ≡ length x + w
      there p q = omega arith

      rest : drop (w * i + length v) (x ++ drop (w * i) out) ≡ drop (w * (i + 1)) out
      rest = ap (λ n. drop n (x ++ drop (w * i) out)) (there long (size (get_or numbers i 0))) ∙ drop-append-add x (drop (w * i) out) w ∙ drop-drop w (w * i) out ∙ ap (λ n. drop n out) (again i)

      grown : flat_map f (take (i + 1) numbers) ≡ x ++ v
      grown = rw (add-one, take-suc numbers i 0) (flat_map-++ f (take i numbers) (get_or numbers i 0 ∷ []) ∙ ap (λ a. x ++ a) (append-nil v))

  pub written_none : (numbers : List ℕ) (n : ℕ) (out : List ℕ) → Written w f numbers n out 0 out
  unfolding flat_map
  written_none numbers n out = let z : w * 0 ≡ 0 = omega arith in record { within = omega arith; long = refl; left = rw z refl }

  module _ {numbers : List ℕ} {n : ℕ} {before : List ℕ} {i : ℕ} {out : List ℕ} (b : Written w f numbers n before i out) where
    pub written_more : (p : List ℕ) → i < n → n ≤ length numbers → w * i + w ≤ length before → p ≡ sets out (w * i) (f (get_or numbers i 0)) → Written w f numbers n before (i + 1) p
    written_more p h k m e =
        let v = f (get_or numbers i 0) in
        record {
          within = omega arith;
          long = ap length e ∙ length-sets out (w * i) v ∙ b.long;
          left = e ∙ ap (λ o. sets o (w * i) v) b.left ∙ one_more numbers before i (omega arith) m;
        }

    pub written_all : n ≤ i → out ≡ flat_map f (take n numbers) ++ drop (w * n) before
    written_all h = let e : i ≡ n = omega (arith, b.within) in b.left ∙ ap (λ j. flat_map f (take j numbers) ++ drop (w * j) before) e
