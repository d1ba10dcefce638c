-- Text put together: a word byte by byte, one word behind another, the digits of a number. Assumes nothing.
use mathlib.Core.Path.{◌≡◌, sym, ap, ap₂, subst, ◌∙◌}
use mathlib.Core.Bool.{cond}
use mathlib.Core.List.{List, [], ◌∷◌, ◌++◌, append_assoc}
use Prim.Native.Nat.{ℕ, zero, suc, ◌+◌, ◌-◌, ◌/◌, ◌%◌, ◌^◌, ◌≤◌, ◌<◌}
use native.Mathlib.Nat.{pow-zero, pow-suc, add-zero, zero-add, div-lt_iff_lt-mul}
use native.Mathlib.Numerals.{add-one, sub-one}
use native.Mathlib.Omega.{arith}
use borrow.Author.Tests.{le-leb, lt-leb}
use lib.Dec.{lit<}
use lib.ListN.{length, take, drop, set, length-append}
use lib.Seq.{length-take-le, take_all, take_at, append_snoc, set_split, drop-append-add, drop-drop, paste, paste-zero}
use Rattle.lent_text.specs.Text.{digits}
use Rattle.lent_text.specs.Putting.{put_at, Put}

-- A byte that is stored is put; a word whose bytes are all copied is put; with nothing put the text is as it was.
pub byte_put : (t : List ℕ) (n x : ℕ) → n < length t → set t n x ≡ put_at n (x ∷ []) t
unfolding put_at
byte_put t n x h = set_split t n x h ∙ ap (λ k. take n t ++ x ∷ drop k t) (sym (add-one n)) ∙ sym (append_snoc (take n t) x (drop (n + 1) t))

pub word_put : (t w : List ℕ) (n i : ℕ) → i ≡ length w → paste t n w i ≡ put_at n w t
unfolding put_at
word_put t w n i e = ap₂ (λ v k. take n t ++ v ++ drop (n + k) t) (take_all i w (omega arith)) e

pub nothing_put : (t : List ℕ) (n : ℕ) → Put n [] t n t
unfolding put_at
nothing_put t n = record { place = sym (add-zero n); text = paste-zero t n [] }

-- A word put at the front: it stands before the place behind it, and what stood there follows.
module _ {word before after : List ℕ} {r : ℕ} (p : Put 0 word before r after) where
  pub put_over : after ≡ word ++ drop (length word) before
  unfolding put_at
  put_over = p.text ∙ ap (λ k. word ++ drop k before) (zero-add (length word))

  pub put_front : take r after ≡ word
  put_front = ap (take r) put_over ∙ take_at word (drop (length word) before) r (sym (zero-add (length word)) ∙ sym p.place)

-- What is put behind a word that was put: both are put as one.
module _ {n r k : ℕ} {a b before between after : List ℕ} (fits : n ≤ length before) (p : Put n a before r between) (q : Put r b between k after) where
  behind_both : n + length (a ++ b) ≡ n + length a + length b
  behind_both = omega (arith, length-append a b)

  front : length (take n before ++ a) ≡ r
  front = omega (arith, length-append (take n before) a, length-take-le n before fits, p.place)

  unfolded : between ≡ take n before ++ a ++ drop (n + length a) before
  unfolding put_at
  unfolded = p.text

  left : take r between ≡ take n before ++ a
  left = ap (take r) unfolded ∙ take_at (take n before ++ a) (drop (n + length a) before) r front

  right : drop (r + length b) between ≡ drop (n + length (a ++ b)) before
  right =
      ap₂ (λ m t. drop (m + length b) t) (sym front) unfolded
      ∙ drop-append-add (take n before ++ a) (drop (n + length a) before) (length b)
      ∙ drop-drop (length b) (n + length a) before
      ∙ ap (λ m. drop m before) (sym behind_both)

  pub put_behind : Put n (a ++ b) before k after
  unfolding put_at
  put_behind = record {
    place = omega (arith, p.place, q.place, behind_both);
    text = q.text ∙ ap₂ (λ l m. l ++ b ++ m) left right ∙ ap (λ l. l ++ drop (n + length (a ++ b)) before) (append_assoc (take n before) a b);
  }

-- a number of more than one digit needs room for two
pub room_for_two : (most n : ℕ) → 9 < n → n < 10 ^ most → 2 ≤ most
room_for_two zero n h k = absurd (omega (arith, subst (λ (p : ℕ). n < p) (pow-zero 10) k))
room_for_two (suc zero) n h k = absurd (omega (arith, subst (λ (p : ℕ). n < p) (pow-suc 10 zero) k))
room_for_two (suc (suc m)) n h k = omega arith

pub tenth_below : (most n : ℕ) → 1 ≤ most → n < 10 ^ most → n / 10 < 10 ^ (most - 1)
tenth_below zero n h k = absurd (omega arith)
tenth_below (suc m) n h k = subst (λ (j : ℕ). n / 10 < 10 ^ j) (sym (sub-one (suc m))) ((div-lt_iff_lt-mul {k = 10} (lit< tt)).1 (subst (λ (p : ℕ). n < p) (pow-suc 10 m) k))

pub one_digit : (most n : ℕ) → 1 ≤ most → n ≤ 9 → digits most n ≡ (48 + n) ∷ []
one_digit zero n h k = absurd (omega arith)
one_digit (suc m) n h k = ap (λ b. cond b ((48 + n) ∷ []) (digits m (n / 10) ++ (48 + n % 10) ∷ [])) (le-leb n 9 k)

pub last_digit : (most n : ℕ) → 1 ≤ most → 9 < n → digits most n ≡ digits (most - 1) (n / 10) ++ (48 + n % 10) ∷ []
last_digit zero n h k = absurd (omega arith)
last_digit (suc m) n h k =
    ap (λ b. cond b ((48 + n) ∷ []) (digits m (n / 10) ++ (48 + n % 10) ∷ [])) (lt-leb n 9 k)
    ∙ ap (λ (j : ℕ). digits j (n / 10) ++ (48 + n % 10) ∷ []) (sym (sub-one (suc m)))
