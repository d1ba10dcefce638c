-- Hanging sides in chains. The idea: a number of the list is taken apart digit by digit, and each store changes the digits of one part only; the side that is hung is the
-- last one that begins at its corner, and the one that was the last is before it. Assumes nothing.
use mathlib.Core.Path.{◌≡◌, sym, ◌∙◌, ap, subst}
use mathlib.Core.List.{List}
use Prim.Native.Nat.{ℕ, suc, ◌+◌, ◌*◌, ◌/◌, ◌%◌, ◌<◌}
use native.Mathlib.Omega.{arith}
use native.Mathlib.Decide.{ℕ_discrete}
use lib.ListN.{length, get_or, set, length-set}
use lib.Seq.{get_or-set_same, get_or-set_other}
use Rattle.table_sides.specs.Chains.{next_in, code_in, head_in, clear_in, begin_in, Last, ChainedTo}
use Rattle.table_sides.proofs.Chains.{last_more, last_itself, last_none, last_same}
use Rattle.table_chains.specs.Linking.{LinkedTo, Hung}

-- ---- the parts of a number
-- Another side as the next one: the other parts stay.
next_added : (x h : ℕ) → next_in x ≡ 0 → h < 4096 → (next_in (x + h) ≡ h) × (code_in (x + h) ≡ code_in x) × (head_in (x + h) ≡ head_in x) × (clear_in (x + h) ≡ clear_in x)
next_added x h e b = (omega arith, omega arith, omega arith, omega arith)

-- Another side as the last one of the corner.
head_put : (x n : ℕ) → n < 4096
    → let y = x % 68_719_476_736 + n * 68_719_476_736 in (next_in y ≡ next_in x) × (code_in y ≡ code_in x) × (head_in y ≡ n) × (clear_in y ≡ 0)
head_put x n b = (omega arith, omega arith, omega arith, omega arith)

-- It is noted that no corner is inside.
clear_added : (x : ℕ) → let y = x + 281_474_976_710_656 in (next_in y ≡ next_in x) × (code_in y ≡ code_in x) × (head_in y ≡ head_in x)
clear_added x = (omega arith, omega arith, omega arith)

-- ---- one side put at the front of its chain
module _ (x : List ℕ) (c k : ℕ) (c-in : c < length x) (k-in : k < length x) (few : k < 3072) (unhung : next_in (get_or x k 0) ≡ 0)
    (unnoted : (i : ℕ) → i < length x → clear_in (get_or x i 0) ≡ 0) where
  abbrev a : ℕ
  a = get_or x k 0 + head_in (get_or x c 0)

  abbrev m : List ℕ
  m = set x k a

  abbrev b : ℕ
  b = get_or m c 0 % 68_719_476_736 + (k + 1) * 68_719_476_736

  abbrev y : List ℕ
  y = set m c b

  k_parts : (next_in a ≡ head_in (get_or x c 0)) × (code_in a ≡ code_in (get_or x k 0)) × (head_in a ≡ head_in (get_or x k 0)) × (clear_in a ≡ clear_in (get_or x k 0))
  k_parts = next_added (get_or x k 0) (head_in (get_or x c 0)) unhung (omega arith)

  c_parts : (next_in b ≡ next_in (get_or m c 0)) × (code_in b ≡ code_in (get_or m c 0)) × (head_in b ≡ k + 1) × (clear_in b ≡ 0)
  c_parts = head_put (get_or m c 0) (k + 1) (omega arith)

  m_at : get_or m k 0 ≡ a
  m_at = get_or-set_same x k a 0 k-in

  m_other : (i : ℕ) → (i ≡ k → ⊥) → get_or m i 0 ≡ get_or x i 0
  m_other i n = get_or-set_other x k i a 0 n

  y_at : get_or y c 0 ≡ b
  y_at = get_or-set_same m c b 0 (subst (λ n. c < n) (sym (length-set x k a)) c-in)

  y_other : (i : ℕ) → (i ≡ c → ⊥) → get_or y i 0 ≡ get_or m i 0
  y_other i n = get_or-set_other m c i b 0 n

  -- A part of the numbers that neither store changes.
  kept : (part : ℕ → ℕ) → part a ≡ part (get_or x k 0) → part b ≡ part (get_or m c 0) → (i : ℕ) → part (get_or y i 0) ≡ part (get_or x i 0)
  kept part p q i = go (ℕ_discrete i c) (ℕ_discrete i k)
    where
      in-m : Dec (i ≡ k) → part (get_or m i 0) ≡ part (get_or x i 0)
      in-m (yes e) = rw e (ap part m_at ∙ p)
      in-m (no n) = ap part (m_other i n)

      go : Dec (i ≡ c) → Dec (i ≡ k) → part (get_or y i 0) ≡ part (get_or x i 0)
      go (yes e) d = ap (λ j. part (get_or y j 0)) e ∙ ap part y_at ∙ q ∙ ap (λ j. part (get_or m j 0)) (sym e) ∙ in-m d
      go (no n) d = ap part (y_other i n) ∙ in-m d

  -- The next side of k is not changed by the second store.
  next_m : (i : ℕ) → next_in (get_or y i 0) ≡ next_in (get_or m i 0)
  next_m i = go (ℕ_discrete i c)
    where
      go : Dec (i ≡ c) → next_in (get_or y i 0) ≡ next_in (get_or m i 0)
      go (yes e) = ap (λ j. next_in (get_or y j 0)) e ∙ ap next_in y_at ∙ c_parts.0 ∙ ap (λ j. next_in (get_or m j 0)) (sym e)
      go (no n) = ap next_in (y_other i n)

  head_m : (i : ℕ) → head_in (get_or m i 0) ≡ head_in (get_or x i 0)
  head_m i = go (ℕ_discrete i k)
    where
      go : Dec (i ≡ k) → head_in (get_or m i 0) ≡ head_in (get_or x i 0)
      go (yes e) = ap (λ j. head_in (get_or m j 0)) e ∙ ap head_in m_at ∙ k_parts.2 ∙ ap (λ j. head_in (get_or x j 0)) (sym e)
      go (no n) = ap head_in (m_other i n)

  clear_y : (i : ℕ) → i < length x → clear_in (get_or y i 0) ≡ 0
  clear_y i h = go (ℕ_discrete i c) (ℕ_discrete i k)
    where
      in-m : Dec (i ≡ k) → clear_in (get_or m i 0) ≡ 0
      in-m (yes e) = rw e (ap clear_in m_at ∙ k_parts.3 ∙ unnoted k k-in)
      in-m (no n) = ap clear_in (m_other i n) ∙ unnoted i h

      go : Dec (i ≡ c) → Dec (i ≡ k) → clear_in (get_or y i 0) ≡ 0
      go (yes e) d = rw e (ap clear_in y_at ∙ c_parts.3)
      go (no n) d = ap clear_in (y_other i n) ∙ in-m d

  pub hung : Hung x y c k
  hung = record {
    number = length-set m c b ∙ length-set x k a;
    codes = kept code_in k_parts.1 c_parts.1;
    unnoted = clear_y;
    next = next_m k ∙ ap next_in m_at ∙ k_parts.0;
    nexts = λ i n. next_m i ∙ ap next_in (m_other i n);
    head = ap head_in y_at ∙ c_parts.2 ∙ omega arith;
    heads = λ i n. ap head_in (y_other i n) ∙ head_m i;
  }

-- The side that is put at the front of its chain hangs there with those before it.
module _ (x y : List ℕ) (c k : ℕ) (h : Hung x y c k) (c-in : c < length x) (here : begin_in (get_or x k 0) ≡ c) where
  begins : (i : ℕ) → begin_in (get_or y i 0) ≡ begin_in (get_or x i 0)
  begins i = ap (λ z. z / 4096) (h.codes i)

  pub chained_more : ChainedTo x k → ChainedTo y (suc k)
  chained_more t = record { heads = λ d g. head d g (ℕ_discrete d c); nexts = λ j g. next j g (ℕ_discrete j k) }
    where
      head : (d : ℕ) → d < length y → Dec (d ≡ c) → Last (λ j. begin_in (get_or y j 0) ≡ d) (suc k) (head_in (get_or y d 0))
      head d g (yes e) =
          subst (Last (λ j. begin_in (get_or y j 0) ≡ d) (suc k)) (sym (ap (λ z. head_in (get_or y z 0)) e ∙ h.head))
          (last_itself (λ j. begin_in (get_or y j 0) ≡ d) k (begins k ∙ here ∙ sym e))
      head d g (no n) =
          subst (Last (λ j. begin_in (get_or y j 0) ≡ d) (suc k)) (sym (h.heads d n))
          (last_more (λ j. begin_in (get_or y j 0) ≡ d) k (head_in (get_or x d 0))
          (last_same (λ j. begin_in (get_or x j 0) ≡ d) (λ j. begin_in (get_or y j 0) ≡ d) k (head_in (get_or x d 0)) (λ j l p. begins j ∙ p) (λ j l p. sym (begins j) ∙ p)
          (t.heads d (subst (λ z. d < z) h.number g)))
          (λ p. n (sym p ∙ begins k ∙ here)))

      next : (j : ℕ) → j < suc k → Dec (j ≡ k) → Last (λ i. begin_in (get_or y i 0) ≡ begin_in (get_or y j 0)) j (next_in (get_or y j 0))
      next j g (yes e) =
          rw e
          (subst (Last (λ i. begin_in (get_or y i 0) ≡ begin_in (get_or y k 0)) k) (sym h.next)
          (last_same (λ i. begin_in (get_or x i 0) ≡ c) (λ i. begin_in (get_or y i 0) ≡ begin_in (get_or y k 0)) k (head_in (get_or x c 0))
          (λ i l p. begins i ∙ p ∙ sym (begins k ∙ here)) (λ i l p. sym (begins i) ∙ p ∙ begins k ∙ here) (t.heads c c-in)))
      next j g (no n) =
          subst (Last (λ i. begin_in (get_or y i 0) ≡ begin_in (get_or y j 0)) j) (sym (h.nexts j n))
          (last_same (λ i. begin_in (get_or x i 0) ≡ begin_in (get_or x j 0)) (λ i. begin_in (get_or y i 0) ≡ begin_in (get_or y j 0)) j (next_in (get_or x j 0))
          (λ i l p. begins i ∙ p ∙ sym (begins j)) (λ i l p. sym (begins i) ∙ p ∙ begins j) (t.nexts j (omega arith)))

pub linked_more : (codes x y : List ℕ) (c k : ℕ) → Hung x y c k → c < length x → k < length codes → get_or codes k 0 / 4096 ≡ c → LinkedTo codes x k → LinkedTo codes y (suc k)
linked_more codes x y c k h c-in g e t = record {
  number = h.number ∙ t.number;
  codes_are = λ i l. h.codes i ∙ t.codes_are i l;
  unnoted = λ i l. h.unnoted i (subst (λ z. i < z) (sym t.number) l);
  left = λ i l m. h.nexts i (λ q. omega arith) ∙ t.left i (omega arith) m;
  chained = chained_more x y c k h c-in (ap (λ z. z / 4096) (t.codes_are k g) ∙ e) t.chained;
}

-- ---- no side in a chain
pub linked_none : (codes x : List ℕ) → length x ≡ length codes → ((i : ℕ) → i < length codes → (get_or x i 0 ≡ get_or codes i 0 * 4096) × (get_or codes i 0 < 16_777_216)) → LinkedTo codes x 0
linked_none codes x n f = record {
  number = n;
  codes_are = λ i l. omega (arith, (f i l).0, (f i l).1);
  unnoted = λ i l. omega (arith, (f i l).0, (f i l).1);
  left = λ i g l. omega (arith, (f i l).0);
  chained = record {
    heads = λ c l.
        let q = f c (subst (λ z. c < z) n l) in
        let e : head_in (get_or x c 0) ≡ 0 = omega (arith, q.0, q.1) in
        subst (Last (λ j. begin_in (get_or x j 0) ≡ c) 0) (sym e) (last_none (λ j. begin_in (get_or x j 0) ≡ c));
    nexts = λ k l. absurd (omega arith);
  };
}

-- ---- all sides in chains
-- The last side with a code is the last with that code among the codes.
pub linked_last : (codes x : List ℕ) (c r : ℕ) → LinkedTo codes x (length codes) → Last (λ j. code_in (get_or x j 0) ≡ c) (length x) r → Last (λ j. get_or codes j 0 ≡ c) (length codes) r
linked_last codes x c r t l =
    last_same (λ j. code_in (get_or x j 0) ≡ c) (λ j. get_or codes j 0 ≡ c) (length codes) r (λ j h e. sym (t.codes_are j h) ∙ e) (λ j h e. t.codes_are j h ∙ e)
    (subst (λ n. Last (λ j. code_in (get_or x j 0) ≡ c) n r) t.number l)
