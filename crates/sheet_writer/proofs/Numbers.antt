-- The laws of the numbers that bytes are: how many there are and the one at a place, by induction on the bytes, four at a step; and the number
-- that bits are, by its sign. Assumes nothing.
use mathlib.Core.Path.{◌≡◌, refl, sym, ap, ap₂, ◌∙◌}
use mathlib.Core.Bool.{Bool, true, false}
use mathlib.Core.List.{List, [], ◌∷◌}
use mir.Syntax.{w32}
use mir.Val.{to_z, sel}
use Prim.Native.Nat.{ℕ, zero, suc, ◌+◌, ◌-◌, ◌*◌, ◌/◌, ◌≤◌, ◌<◌}
use native.Mathlib.Numerals.{add-one}
use native.Mathlib.Omega.{arith}
use borrow.Author.Tests.{ltb-true, ltb-false, eqb-true, eqb-false, lt-ltb, le-ltb, eq-eqb, ne_eqb}
use lib.Dec.{ltb, eqb}
use lib.IntN.{ℤ, pos, negsuc}
use lib.ListN.{length, drop, take, get_or}
use lib.Seq.{drop-cons, get_or-drop}
use Rattle.whole.specs.Numbers.{eq_z}
use Rattle.lent_little.specs.Ordered.{number, word_at, ordered}
use Rattle.sheet_form.specs.Form.{numbers_in}

-- ---- the numbers that bytes are
pub numbers_length : (s : List ℕ) → length (numbers_in s) ≡ length s / 4
unfolding numbers_in
numbers_length [] = refl
numbers_length (a ∷ []) = refl
numbers_length (a ∷ b ∷ []) = refl
numbers_length (a ∷ b ∷ c ∷ []) = refl
numbers_length (a ∷ b ∷ c ∷ d ∷ l) = let h = numbers_length l in omega arith

pub numbers_at : (s : List ℕ) (i : ℕ) → 4 * i + 4 ≤ length s → drop i (numbers_in s) ≡ to_z w32 (word_at true s (4 * i)) ∷ drop (suc i) (numbers_in s)
unfolding numbers_in word_at ordered
numbers_at [] i h = absurd (omega arith)
numbers_at (a ∷ []) i h = absurd (omega arith)
numbers_at (a ∷ b ∷ []) i h = absurd (omega arith)
numbers_at (a ∷ b ∷ c ∷ []) i h = absurd (omega arith)
numbers_at (a ∷ b ∷ c ∷ d ∷ l) zero h = refl
numbers_at (a ∷ b ∷ c ∷ d ∷ l) (suc i) h =
    let e : 4 * suc i ≡ suc (suc (suc (suc (4 * i)))) = omega arith in
    numbers_at l i (omega arith) ∙ ap (λ (k : ℕ). to_z w32 (word_at true (a ∷ b ∷ c ∷ d ∷ l) k) ∷ drop (suc i) (numbers_in l)) (sym e)

-- the number at a place whose bits are known, and the one at a place behind another
pub number_stands : (s : List ℕ) (at n : ℕ) → 4 * at + 4 ≤ length s → n ≡ word_at true s (4 * at) → drop at (numbers_in s) ≡ to_z w32 n ∷ drop (at + 1) (numbers_in s)
number_stands s at n h e = rw (e, add-one) (numbers_at s at h)

pub number_behind : (s : List ℕ) (at k : ℕ) → at + k < length s / 4 → get_or (drop at (numbers_in s)) k (pos 0) ≡ to_z w32 (word_at true s (4 * (at + k)))
number_behind s at k h =
    get_or-drop at (numbers_in s) k (pos 0)
    ∙ ap (λ (i : ℕ). get_or (numbers_in s) i (pos 0)) (let e : at + k ≡ at + k + 0 = omega arith in e)
    ∙ sym (get_or-drop (at + k) (numbers_in s) 0 (pos 0))
    ∙ ap (λ (l : List ℤ). get_or l 0 (pos 0)) (numbers_at s (at + k) (omega arith))

-- ---- the four bytes of a number
drop_next : (s : List ℕ) (k m : ℕ) → suc k ≡ m → k < length s → drop k s ≡ get_or s k 0 ∷ drop m s
drop_next s k m e h = drop-cons s k 0 h ∙ ap (λ (j : ℕ). get_or s k 0 ∷ drop j s) e

pub four_bytes : (s : List ℕ) (at : ℕ) → at + 4 ≤ length s → word_at true s at ≡ get_or s at 0 + 256 * get_or s (at + 1) 0 + 65_536 * get_or s (at + 2) 0 + 16_777_216 * get_or s (at + 3) 0
unfolding number word_at ordered
four_bytes s at h =
    let a = drop_next s at (at + 1) (omega arith) (omega arith) in
    let b = drop_next s (at + 1) (at + 2) (omega arith) (omega arith) in
    let c = drop_next s (at + 2) (at + 3) (omega arith) (omega arith) in
    let d = drop_next s (at + 3) (at + 4) (omega arith) (omega arith) in
    let e = a ∙ ap (λ (l : List ℕ). get_or s at 0 ∷ l) (b ∙ ap (λ (l : List ℕ). get_or s (at + 1) 0 ∷ l) (c ∙ ap (λ (l : List ℕ). get_or s (at + 2) 0 ∷ l) d)) in
    ap (λ (l : List ℕ). number (take 4 l)) e ∙ omega arith

-- ---- the number that bits are
either : {P : Type 0} (t : Bool) → (t ≡ true → P) → (t ≡ false → P) → P
either true f g = f refl
either false f g = g refl

pub by_order : {P : Type 0} (a b : ℕ) → (a < b → P) → (b ≤ a → P) → P
by_order a b f g = either (ltb a b) (λ e. f (ltb-true a b e)) (λ e. g (ltb-false a b e))

eqb_same : (a b c d : ℕ) → (a ≡ b → c ≡ d) → (c ≡ d → a ≡ b) → eqb a b ≡ eqb c d
eqb_same a b c d f g = either (eqb a b) (λ e. e ∙ sym (eq-eqb c d (f (eqb-true a b e)))) (λ e. e ∙ sym (ne_eqb c d (λ q. eqb-false a b e (g q))))

pub signed_low : (b : ℕ) → b < 2_147_483_648 → to_z w32 b ≡ pos b
signed_low b h = ap (λ (t : Bool). sel t (pos b) (negsuc (4_294_967_296 - suc b))) (lt-ltb b 2_147_483_648 h)

pub signed_high : (b : ℕ) → 2_147_483_648 ≤ b → to_z w32 b ≡ negsuc (4_294_967_296 - suc b)
signed_high b h = ap (λ (t : Bool). sel t (pos b) (negsuc (4_294_967_296 - suc b))) (le-ltb b 2_147_483_648 h)

pub signed_same : (a b : ℕ) → a < 4_294_967_296 → b < 4_294_967_296 → eq_z (to_z w32 a) (to_z w32 b) ≡ eqb a b
signed_same a b f g =
    by_order a 2_147_483_648
    (λ h. by_order b 2_147_483_648
    (λ k. ap₂ eq_z (signed_low a h) (signed_low b k))
    (λ k. ap₂ eq_z (signed_low a h) (signed_high b k) ∙ sym (ne_eqb a b (λ e. omega arith))))
    (λ h. by_order b 2_147_483_648
    (λ k. ap₂ eq_z (signed_high a h) (signed_low b k) ∙ sym (ne_eqb a b (λ e. omega arith)))
    (λ k. ap₂ eq_z (signed_high a h) (signed_high b k) ∙ eqb_same (4_294_967_296 - suc a) (4_294_967_296 - suc b) a b (λ e. omega arith) (λ e. omega arith)))
