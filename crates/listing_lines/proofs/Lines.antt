-- Lines put one behind another: the next polygon's line behind those before it; and a figure for each polygon laid down. Assumes nothing.
use mathlib.Core.Path.{◌≡◌, sym, ap, subst, ◌∙◌}
use mathlib.Core.List.{List, [], ◌∷◌, map, ◌++◌, append-nil, append_assoc}
use Prim.Native.Nat.{ℕ, suc, ◌+◌, ◌-◌, ◌≤◌, ◌<◌}
use native.Mathlib.Omega.{arith}
use native.Mathlib.Numerals.{add-one}
use lib.IntN.{ℤ, pos}
use lib.ListN.{length, get_or, take, set, length-map}
use lib.Seq.{take-suc, length-take-le}
use Rattle.whole.proofs.Sums.{map-++}
use Rattle.whole.proofs.Laid.{one_laid, all_laid}
use Rattle.repair_regions.specs.Regions.{from}
use Rattle.lent_text.specs.Text.{line_of}
use Rattle.lent_text.specs.Putting.{Put}
use Rattle.lent_text.proofs.Texts.{put_behind}
use Rattle.listing_lines.specs.Lines.{numbered}

-- What is put behind what was put, told in other words.
pub behind : {n r k : ℕ} {a b w before between after : List ℕ} → n ≤ length before → Put n a before r between → b ≡ w → Put r b between k after → Put n (a ++ w) before k after
behind {r = r} {k = k} {between = between} {after = after} fits p e q = put_behind fits p (subst (λ l. Put r l between k after) e q)

module _ (word : List ℕ) where
  -- The line of a number that stands behind others.
  line_more : (k : ℕ) (l : List ℤ) (z : ℤ) → numbered word k (l ++ z ∷ []) ≡ numbered word k l ++ line_of word (pos (k + length l)) z
  line_more k [] z = let e : k ≡ k + 0 = omega arith in append-nil (line_of word (pos k) z) ∙ ap (λ m. line_of word (pos m) z) e
  line_more k (y ∷ l) z =
      let e : suc k + length l ≡ k + suc (length l) = omega arith in
      ap (λ w. line_of word (pos k) y ++ w) (line_more (suc k) l z ∙ ap (λ m. numbered word (suc k) l ++ line_of word (pos m) z) e)
      ∙ sym (append_assoc (line_of word (pos k) y) (numbered word (suc k) l) (line_of word (pos (k + suc (length l))) z))

  -- The lines of the first n of a list of double areas, with the next one.
  next_line : (l : List ℕ) (n : ℕ) → n < length l → numbered word 1 (map pos (take (n + 1) l)) ≡ numbered word 1 (map pos (take n l)) ++ line_of word (pos (n + 1)) (pos (get_or l n 0))
  next_line l n h =
      let m : 1 + length (map pos (take n l)) ≡ n + 1 = omega (arith, length-map (take n l) pos, length-take-le n l (omega arith)) in
      rw add-one (ap (λ k. numbered word 1 (map pos k)) (take-suc l n 0 h) ∙ ap (numbered word 1) (map-++ pos (take n l) (get_or l n 0 ∷ [])) ∙ line_more 1 (map pos (take n l)) (pos (get_or l n 0)))
      ∙ ap (λ k. numbered word 1 (map pos (take n l)) ++ line_of word (pos k) (pos (get_or l n 0))) m

  -- The next line, put behind the lines that were put.
  pub line_behind : {at r k : ℕ} {before between after : List ℕ} (l : List ℕ) (n : ℕ) → n < length l → at ≤ length before → Put at (numbered word 1 (map pos (take n l))) before r between
      → Put r (line_of word (pos (n + 1)) (pos (get_or l n 0))) between k after → Put at (numbered word 1 (map pos (take (n + 1) l))) before k after
  line_behind {at} {k = k} {before = before} {after = after} l n h fits p q = subst (λ w. Put at w before k after) (sym (next_line l n h)) (put_behind fits p q)

-- ---- a figure for each polygon, laid down
-- The first k figures are laid down, and with those left they are all n.
abbrev pub Laid : (ℕ → ℕ) → ℕ → List ℕ → ℕ → Type 0
Laid g n out k = take k out ++ map g (from (1 + k) (n - k)) ≡ map g (from 1 n)

pub laid_none : (g : ℕ → ℕ) (n : ℕ) (out : List ℕ) → Laid g n out 0
laid_none g n out = let m : n - 0 ≡ n = omega arith in ap (λ j. map g (from 1 j)) m

pub laid_more : (g : ℕ → ℕ) (n : ℕ) (out : List ℕ) (k v : ℕ) → k < n → k < length out → v ≡ g (k + 1) → Laid g n out k → Laid g n (set out k v) (k + 1)
laid_more g n out k v h i e w =
    let m : n - k ≡ suc (n - (k + 1)) = omega arith in
    let a : 1 + (k + 1) ≡ suc (1 + k) = omega arith in
    let b : k + 1 ≡ 1 + k = omega arith in
    ap (λ j. take (k + 1) (set out k v) ++ map g (from j (n - (k + 1)))) a
    ∙ one_laid out (map g (from (suc (1 + k)) (n - (k + 1)))) k v i
    ∙ ap (λ x. take k out ++ x ∷ map g (from (suc (1 + k)) (n - (k + 1)))) (e ∙ ap g b)
    ∙ ap (λ j. take k out ++ map g (from (1 + k) j)) (sym m)
    ∙ w

pub laid_all : (g : ℕ → ℕ) (n : ℕ) (out : List ℕ) (k : ℕ) → n ≤ k → length out ≡ n → Laid g n out k → out ≡ map g (from 1 n)
laid_all g n out k h l w = let m : n - k ≡ 0 = omega arith in sym (all_laid out (map g (from (1 + k) (n - k))) k (omega arith) (ap (λ j. map g (from (1 + k) j)) m)) ∙ w
