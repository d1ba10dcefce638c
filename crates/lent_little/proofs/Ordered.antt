-- The laws of numbers as bytes. A number and its bytes determine each other: each byte is the rest by 256 and the others the quotient, by
-- induction on the count; the byte orders differ by a reverse that undoes itself. What one byte more does to the number read so far, of the most
-- significant bytes, is the step of the loop of `number`. Assumes nothing.
use mathlib.Core.Path.{◌≡◌, refl, sym, ap, ap₂, ◌∙◌, subst}
use mathlib.Core.Logic.{⊎_elim}
use mathlib.Core.Bool.{Bool, true, false}
use mathlib.Core.List.{List, [], ◌∷◌, ◌++◌, reverse, reverse_aux, reverse-cons, reverse-reverse}
use Prim.Native.Nat.{ℕ, zero, suc, ◌+◌, ◌-◌, ◌*◌, ◌/◌, ◌%◌, ◌^◌, ◌≤◌, ◌<◌}
use native.Mathlib.Nat.{lt_of_lt_of_le, eq-or-lt_of_le, not-suc-le-zero, pow-suc, mod-lt}
use native.Mathlib.Omega.{arith}
use lib.Dec.{lit<}
use lib.ListN.{length, drop, get_or, length-take, length-drop, length-reverse, drop_of_length-le, get_or-append}
use lib.Pow.{pow-add, pow_mono}
use lib.Seq.{drop-cons, get_or-take, get_or-drop, get_or_at}
use Rattle.whole.specs.Sums.{All}
use Rattle.lent_little.specs.Ordered.{number, bytes, ordered, number_of, bytes_of, field}
use Rattle.lent_little.specs.Places.{place_of}

-- ---- the reverse of a list, by places
pub get_d_reverse : (l : List ℕ) (j d : ℕ) → j < length l → get_or (reverse l) j d ≡ get_or l (length l - 1 - j) d
get_d_reverse [] j d h = absurd (not-suc-le-zero h)
get_d_reverse (x ∷ xs) j d h = ap (λ (m : List ℕ). get_or m j d) (reverse-cons x xs) ∙ ⊎_elim last (before (get_d_reverse xs j d)) (eq-or-lt_of_le (let g : j ≤ length xs = omega arith in g))
  where
    last : j ≡ length xs → get_or (reverse xs ++ (x ∷ [])) j d ≡ get_or (x ∷ xs) (suc (length xs) - 1 - j) d
    last e =
        let z : suc (length xs) - 1 - j ≡ zero = omega arith in
        get_or_at (reverse xs) x [] d j (length-reverse xs ∙ sym e) ∙ sym (ap (λ (i : ℕ). get_or (x ∷ xs) i d) z)

    before : (j < length xs → get_or (reverse xs) j d ≡ get_or xs (length xs - 1 - j) d) → j < length xs → get_or (reverse xs ++ (x ∷ [])) j d ≡ get_or (x ∷ xs) (suc (length xs) - 1 - j) d
    before f g =
        let r : j < length (reverse xs) = subst (λ (n : ℕ). j < n) (sym (length-reverse xs)) g in
        let z : suc (length xs) - 1 - j ≡ suc (length xs - 1 - j) = omega arith in
        get_or-append (reverse xs) (x ∷ []) d j r ∙ f g ∙ sym (ap (λ (i : ℕ). get_or (x ∷ xs) i d) z)

all-reverse_aux : (P : ℕ → Type 0) (l r : List ℕ) → All P l → All P r → All P (reverse_aux l r)
all-reverse_aux P [] r h k = k
all-reverse_aux P (x ∷ xs) r h k = all-reverse_aux P xs (x ∷ r) h.1 (h.0, k)

-- ---- byte orders
pub ordered_twice : (little : Bool) (l : List ℕ) → ordered little (ordered little l) ≡ l
unfolding ordered
ordered_twice true l = refl
ordered_twice false l = reverse-reverse l

pub ordered_length : (little : Bool) (l : List ℕ) → length (ordered little l) ≡ length l
unfolding ordered
ordered_length true l = refl
ordered_length false l = length-reverse l

pub ordered_all : (little : Bool) (P : ℕ → Type 0) (l : List ℕ) → All P l → All P (ordered little l)
unfolding ordered
ordered_all true P l h = h
ordered_all false P l h = all-reverse_aux P l [] h tt

-- ---- bytes that stand in a list
pub field_length : (s : List ℕ) (at n : ℕ) → at + n ≤ length s → length (field s at n) ≡ n
field_length s at n h = simp (length-take, length-drop) (omega arith)

-- the byte of the weight 256 ^ (n - (k + 1)) of the n bytes at a place
pub field_place : (little : Bool) (s : List ℕ) (at n k : ℕ) → at + n ≤ length s → k < n → get_or (ordered little (field s at n)) (n - (k + 1)) 0 ≡ get_or s (place_of little at n k) 0
unfolding ordered
field_place true s at n k h l =
    let e : at + (n - (k + 1)) ≡ at + (n - 1 - k) = omega arith in
    get_or-take n (drop at s) (n - (k + 1)) 0 (omega arith) ∙ get_or-drop at s (n - (k + 1)) 0 ∙ ap (λ (i : ℕ). get_or s i 0) e
field_place false s at n k h l =
    let m = field_length s at n h in
    let e : length (field s at n) - 1 - (n - (k + 1)) ≡ k = omega arith in
    get_d_reverse (field s at n) (n - (k + 1)) 0 (omega arith) ∙ ap (λ (i : ℕ). get_or (field s at n) i 0) e ∙ get_or-take n (drop at s) k 0 l ∙ get_or-drop at s k 0

-- the number of the k most significant of the n bytes at a place
unfoldable pub top : Bool → List ℕ → ℕ → ℕ → ℕ → ℕ
top little s at n k = number (drop (n - k) (ordered little (field s at n)))

pub top_none : (little : Bool) (s : List ℕ) (at n : ℕ) → at + n ≤ length s → top little s at n 0 ≡ 0
unfolding top number
top_none little s at n h =
    let m = ordered little (field s at n) in
    let e : length m ≡ n = ordered_length little (field s at n) ∙ field_length s at n h in
    ap number (drop_of_length-le m {i = n - 0} (omega arith))

pub top_more : (little : Bool) (s : List ℕ) (at n k : ℕ) → at + n ≤ length s → k < n → top little s at n (k + 1) ≡ top little s at n k * 256 + get_or s (place_of little at n k) 0
unfolding top number
top_more little s at n k h l =
    let m = ordered little (field s at n) in
    let i = n - (k + 1) in
    let e : length m ≡ n = ordered_length little (field s at n) ∙ field_length s at n h in
    let z : suc i ≡ n - k = omega arith in
    let q : number (drop i m) ≡ get_or m i 0 + 256 * number (drop (suc i) m) = ap number (drop-cons m i 0 (omega arith)) in
    let r : number (drop (suc i) m) ≡ number (drop (n - k) m) = ap (λ (j : ℕ). number (drop j m)) z in
    let p = field_place little s at n k h l in
    omega arith

pub top_all : (little : Bool) (s : List ℕ) (at n : ℕ) → top little s at n n ≡ number_of little (field s at n)
unfolding top
top_all little s at n = let z : n - n ≡ zero = omega arith in ap (λ (j : ℕ). number (drop j (ordered little (field s at n)))) z

-- ---- what one byte more does to a number
pub grow : (k v b : ℕ) → v < 2 ^ (8 * k) → b < 256 → v * 256 + b < 2 ^ (8 * (k + 1))
grow k v b h g =
    let e : 2 ^ (8 * (k + 1)) ≡ 2 ^ (8 * k) * 256 = ap (λ (x : ℕ). 2 ^ x) (omega arith) ∙ pow-add 2 (8 * k) 8 in
    omega arith

-- so up to 8 bytes fit 64 bits
pub word_fits : (k v b : ℕ) → k < 8 → v < 2 ^ (8 * k) → b < 256 → v * 256 + b < 2 ^ 64
word_fits k v b l h g = lt_of_lt_of_le (grow k v b h g) (pow_mono {i = 8 * (k + 1)} {j = 64} (omega arith))

-- ---- a number and its bytes, the least significant first
below_step : (b v n : ℕ) → b < 256 → v < 256 ^ n → b + 256 * v < 256 ^ suc n
below_step b v n h g = let e : 256 ^ suc n ≡ 256 ^ n * 256 = pow-suc 256 n in omega arith

pub number_below : (l : List ℕ) → All (λ b. b < 256) l → number l < 256 ^ length l
unfolding number
number_below [] h = lit< tt
number_below (b ∷ l) h = below_step b (number l) (length l) h.0 (number_below l h.1)

pub length_bytes : (n v : ℕ) → length (bytes n v) ≡ n
unfolding bytes
length_bytes zero v = refl
length_bytes (suc n) v = ap suc (length_bytes n (v / 256))

pub bytes_below : (n v : ℕ) → All (λ b. b < 256) (bytes n v)
unfolding bytes
bytes_below zero v = tt
bytes_below (suc n) v = (mod-lt v (lit< tt), bytes_below n (v / 256))

pub number_bytes : (n v : ℕ) → v < 256 ^ n → number (bytes n v) ≡ v
unfolding number bytes
number_bytes zero v h = omega arith
number_bytes (suc n) v h =
    let e : 256 ^ suc n ≡ 256 ^ n * 256 = pow-suc 256 n in
    let q = number_bytes n (v / 256) (omega arith) in
    omega arith

pub bytes_number : (l : List ℕ) → All (λ b. b < 256) l → bytes (length l) (number l) ≡ l
unfolding number bytes
bytes_number [] h = refl
bytes_number (b ∷ l) h =
    let g = h.0 in
    let r : (b + 256 * number l) % 256 ≡ b = omega arith in
    let q : (b + 256 * number l) / 256 ≡ number l = omega arith in
    ap₂ (λ (x : ℕ) (m : List ℕ). x ∷ m) r (ap (bytes (length l)) q ∙ bytes_number l h.1)

-- ---- a number and its bytes in a byte order
pub length-bytes_of : (little : Bool) (n v : ℕ) → length (bytes_of little n v) ≡ n
length-bytes_of little n v = ordered_length little (bytes n v) ∙ length_bytes n v

pub number_of-below : (little : Bool) (l : List ℕ) → All (λ b. b < 256) l → number_of little l < 256 ^ length l
number_of-below little l h = rw (ordered_length little l) at (number_below (ordered little l) (ordered_all little (λ b. b < 256) l h))

pub number_of-bytes_of : (little : Bool) (n v : ℕ) → v < 256 ^ n → number_of little (bytes_of little n v) ≡ v
number_of-bytes_of little n v h = ap number (ordered_twice little (bytes n v)) ∙ number_bytes n v h

pub bytes_of-number_of : (little : Bool) (l : List ℕ) → All (λ b. b < 256) l → bytes_of little (length l) (number_of little l) ≡ l
bytes_of-number_of little l h =
    let m = ordered little l in
    ap (λ (n : ℕ). ordered little (bytes n (number m))) (sym (ordered_length little l))
    ∙ ap (ordered little) (bytes_number m (ordered_all little (λ b. b < 256) l h))
    ∙ ordered_twice little l
