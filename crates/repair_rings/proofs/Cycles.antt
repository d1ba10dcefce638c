-- Where each side of a list is followed by a side of the list, and no two by the same, the sides fall into rings: the ring from a side comes back to it, has no side twice,
-- and `rings` has each side of the list once.
-- The idea: the walk from a side repeats no side before it returns, since two sides are never followed by the same; and the list is finite. Assumes nothing.
use mathlib.Core.Path.{◌≡◌, refl, sym, ◌∙◌, ap, subst}
use mathlib.Core.Logic.{◌⊎◌, inl, inr}
use mathlib.Core.Bool.{Bool, true, false, cond}
use mathlib.Core.List.{List, [], ◌∷◌, ◌++◌, flat_map}
use Prim.Native.Nat.{ℕ, zero, suc, ◌+◌, ◌-◌, ◌≤◌, ◌<◌}
use native.Mathlib.Omega.{arith}
use native.Mathlib.Decide.{dec_le, dec_lt}
use lib.Dec.{T}
use lib.ListN.{length, length-append}
use Rattle.whole.specs.Sums.{All, Among, any, bit, count}
use Rattle.whole.proofs.Sums.{count-++, find, counted, all_counted, same_or_not, bit_yes, bit_no, none_any, not_counted}
use Rattle.plane.specs.Points.{Edge, same_edge}
use Rattle.plane.proofs.Points.{same_edge-eq, same_edge-refl}
use Rattle.plane_turning.specs.Turning.{following}
use Rattle.repair_rings.specs.Rings.{on_from, ring_of, rings_over, joined}

abbrev pub # : Edge → List Edge → ℕ
# = count same_edge

pub add : (x : Edge) (a b : List Edge) → # x (a ++ b) ≡ # x a + # x b
add = count-++ same_edge same_edge-eq same_edge-refl

pub alike : (x y : Edge) → Dec (x ≡ y)
alike = same_or_not same_edge same_edge-eq same_edge-refl

pub self : (x : Edge) → bit (same_edge x x) ≡ 1
self x = bit_yes (same_edge x x) (same_edge-refl x)

-- ---- a list without repeats is no longer than a list that has all its members
pub fits : (m l : List Edge) → All (λ x. Among same_edge x l) m → ((x : Edge) → # x m ≤ 1) → length m ≤ length l
fits [] l h once = omega arith
fits (e ∷ m) l h once = go (find same_edge same_edge-eq same_edge-refl e l h.0) (fits m)
  where
    go : (a : List Edge) × (b : List Edge) × (l ≡ a ++ e ∷ b) → ((k : List Edge) → All (λ x. Among same_edge x k) m → ((x : Edge) → # x m ≤ 1) → length m ≤ length k) → length (e ∷ m) ≤ length l
    go s r = omega (arith, r (s.0 ++ s.1) rest (λ x. omega (arith, once x)), ap length s.2, length-append s.0 (e ∷ s.1), length-append s.0 s.1)
      where
        other : (x : Edge) → Among same_edge x m → Among same_edge x l → Among same_edge x (s.0 ++ s.1)
        other x i j = omega (
          arith,
          once x,
          ap (# x) s.2,
          add x s.0 (e ∷ s.1),
          add x s.0 s.1,
        )

        rest : All (λ x. Among same_edge x (s.0 ++ s.1)) m
        rest = both m (all_counted same_edge same_edge-eq same_edge-refl m) h.1
          where
            both : (k : List Edge) → All (λ x. Among same_edge x m) k → All (λ x. Among same_edge x l) k → All (λ x. Among same_edge x (s.0 ++ s.1)) k
            both [] i j = tt
            both (x ∷ k) i j = (other x i.0 j.0, both k i.1 j.1)

module _ (l : List Edge) where
  abbrev pub f : Edge → Edge
  f = following l

  -- The n-th side after e, and the first n sides from e on.
  abbrev pub after : ℕ → Edge → Edge
  after zero e = e
  after (suc n) e = after n (f e)

  abbrev pub path : ℕ → Edge → List Edge
  path zero e = []
  path (suc n) e = e ∷ path n (f e)

  pub after_next : (n : ℕ) (e : Edge) → after n (f e) ≡ f (after n e)
  after_next zero e = refl
  after_next (suc n) e = after_next n (f e)

  pub after_add : (i j : ℕ) (e : Edge) → after (i + j) e ≡ after i (after j e)
  after_add i zero e = let z : i + 0 ≡ i = omega arith in ap (λ n. after n e) z
  after_add i (suc j) e = let z : i + suc j ≡ suc (i + j) = omega arith in ap (λ n. after n e) z ∙ after_add i j (f e)

  pub length_path : (n : ℕ) (e : Edge) → length (path n e) ≡ n
  length_path zero e = refl
  length_path (suc n) e = omega (arith, length_path n (f e))

  pub path_has : (n : ℕ) (e : Edge) (i : ℕ) → i < n → Among same_edge (after i e) (path n e)
  path_has zero e i h = absurd (omega arith)
  path_has (suc n) e zero h = omega (arith, self e)
  path_has (suc n) e (suc i) h = omega (arith, path_has n (f e) i (omega arith))

  pub path_only : (n : ℕ) (e x : Edge) → Among same_edge x (path n e) → (i : ℕ) × (i < n) × (after i e ≡ x)
  path_only zero e x h = absurd (omega arith)
  path_only (suc n) e x h = go (same_edge e x) (same_edge-eq e x) h (path_only n (f e) x)
    where
      go : (b : Bool) → (T b → e ≡ x) → 1 ≤ bit b + # x (path n (f e)) → (Among same_edge x (path n (f e)) → (i : ℕ) × (i < n) × (after i (f e) ≡ x)) → (i : ℕ) × (i < suc n) × (after i e ≡ x)
      go true p h r = (0, omega arith, p tt)
      go false p h r = let s = r (omega arith) in (suc s.0, omega (arith, s.1), s.2)

  -- What the walk m does: k + 1 sides, none but the last followed by `first`.
  record Walk (n : ℕ) (first e : Edge) (m : List Edge) : Type 0 where
    k : ℕ
    is : m ≡ path (suc k) e
    before : (i : ℕ) → i < k → after (suc i) e ≡ first → ⊥
    stops : (after (suc k) e ≡ first) ⊎ (k ≡ n)

  walk : (n : ℕ) (first e : Edge) → Walk n first e (on_from n l first e)
  unfolding on_from
  walk zero first e = record { k = 0; is = refl; before = λ i h. absurd (omega arith); stops = inr refl }
  walk (suc n) first e = go (same_edge (f e) first) (same_edge-eq (f e) first) (λ p. subst (λ z. T (same_edge (f e) z)) p (same_edge-refl (f e))) (walk n first (f e))
    where
      go : (b : Bool) → (T b → f e ≡ first) → (f e ≡ first → T b) → Walk n first (f e) (on_from n l first (f e)) → Walk (suc n) first e (e ∷ cond b [] (on_from n l first (f e)))
      go true p q r = record { k = 0; is = refl; before = λ i h. absurd (omega arith); stops = inl (p tt) }
      go false p q r = record { k = suc r.k; is = ap (λ m. e ∷ m) r.is; before = early; stops = end r.stops }
        where
          early : (i : ℕ) → i < suc r.k → after (suc i) e ≡ first → ⊥
          early zero h s = q s
          early (suc i) h s = r.before i (omega arith) s

          end : (after (suc r.k) (f e) ≡ first) ⊎ (r.k ≡ n) → (after (suc (suc r.k)) e ≡ first) ⊎ (suc r.k ≡ suc n)
          end (inl s) = inl s
          end (inr s) = inr (ap suc s)

  module _ (closed : (e : Edge) → Among same_edge e l → Among same_edge (f e) l)
      (injective : (e d : Edge) → Among same_edge e l → Among same_edge d l → f e ≡ f d → e ≡ d) where
    pub after_in : (n : ℕ) (e : Edge) → Among same_edge e l → Among same_edge (after n e) l
    after_in zero e h = h
    after_in (suc n) e h = after_in n (f e) (closed e h)

    pub path_in : (n : ℕ) (e : Edge) → Among same_edge e l → All (λ x. Among same_edge x l) (path n e)
    path_in zero e h = tt
    path_in (suc n) e h = (h, path_in n (f e) (closed e h))

    -- No side of a path stands twice unless the path returns.
    path_once : (n : ℕ) (e : Edge) → Among same_edge e l → ((i : ℕ) → suc i < n → after (suc i) e ≡ e → ⊥) → (x : Edge) → # x (path n e) ≤ 1
    path_once zero e h none x = omega arith
    path_once (suc n) e h none x = go (alike e x) (path_once n (f e) (closed e h) later x)
      where
        later : (i : ℕ) → suc i < n → after (suc i) (f e) ≡ f e → ⊥
        later i k s = none i (omega arith) (injective (after (suc i) e) e (after_in (suc i) e h) h (sym (after_next (suc i) e) ∙ s))

        go : Dec (e ≡ x) → # x (path n (f e)) ≤ 1 → bit (same_edge e x) + # x (path n (f e)) ≤ 1
        go (no p) r = omega (arith, bit_no (same_edge e x) (λ t. p (same_edge-eq e x t)))
        go (yes p) r = apart (dec_le 1 (# x (path n (f e))))
          where
            apart : Dec (1 ≤ # x (path n (f e))) → bit (same_edge e x) + # x (path n (f e)) ≤ 1
            apart (yes m) = let s = path_only n (f e) x m in absurd (none s.0 (omega (arith, s.1)) (s.2 ∙ sym p))
            apart (no m) = first (same_edge e x)
              where
                first : (b : Bool) → bit b + # x (path n (f e)) ≤ 1
                first true = omega arith
                first false = omega arith

    -- The ring from e: k + 1 sides, at most as many as the list has, no side twice, and after the last one, not before, e again.
    pub record Ring (e : Edge) : Type 0 where
      pub k : ℕ
      pub is : ring_of l e ≡ path (suc k) e
      pub once : (x : Edge) → # x (path (suc k) e) ≤ 1
      pub early : (i : ℕ) → i < k → after (suc i) e ≡ e → ⊥
      pub back : after (suc k) e ≡ e
      pub short : suc k ≤ length l

    pub ring : (e : Edge) → Among same_edge e l → Ring e
    ring e h = record { k = w.k; is = w.is; once = once; early = w.before; back = end w.stops; short = short }
      where
        w : Walk (length l) e e (ring_of l e)
        w = walk (length l) e e

        once : (x : Edge) → # x (path (suc w.k) e) ≤ 1
        once = path_once (suc w.k) e h (λ i s p. w.before i (omega arith) p)

        short : suc w.k ≤ length l
        short = omega (arith, fits (path (suc w.k) e) l (path_in (suc w.k) e h) once, length_path (suc w.k) e)

        end : (after (suc w.k) e ≡ e) ⊎ (w.k ≡ length l) → after (suc w.k) e ≡ e
        end (inl p) = p
        end (inr p) = absurd (omega (arith, short))

    -- The sides of a ring are those that come after its first; each is followed by one of the ring, and comes back to the first.
    abbrev pub Reaches : Edge → Edge → Type 0
    Reaches e x = (n : ℕ) × (after n e ≡ x)

    module _ (e : Edge) (h : Among same_edge e l) where
      r : Ring e
      r = ring e h

      abbrev sidesₖ : List Edge
      sidesₖ = path (suc r.k) e

      ring_count : (x : Edge) → # x (ring_of l e) ≡ # x sidesₖ
      ring_count x = ap (# x) r.is

      pub ring_once : (x : Edge) → # x (ring_of l e) ≤ 1
      ring_once x = omega (arith, ring_count x, r.once x)

      pub ring_first : Among same_edge e (ring_of l e)
      ring_first = omega (arith, ring_count e, path_has (suc r.k) e 0 (omega arith))

      pub ring_in : (x : Edge) → Among same_edge x (ring_of l e) → Among same_edge x l
      ring_in x i = counted same_edge same_edge-eq same_edge-refl (λ x. Among same_edge x l) x sidesₖ (omega (arith, ring_count x)) (path_in (suc r.k) e h)

      pub ring_back : (x : Edge) → Among same_edge x (ring_of l e) → Reaches x e
      ring_back x i =
          let s = path_only (suc r.k) e x (omega (arith, ring_count x)) in
          let n = suc r.k - s.0 in
          let z : n + s.0 ≡ suc r.k = omega (arith, s.1) in
          (n, ap (after n) (sym s.2) ∙ sym (after_add n s.0 e) ∙ ap (λ i. after i e) z ∙ r.back)

      pub ring_next : (x : Edge) → Among same_edge x (ring_of l e) → Among same_edge (f x) (ring_of l e)
      ring_next x i = let s = path_only (suc r.k) e x (omega (arith, ring_count x)) in omega (arith, ring_count (f x), step s.0 s.1 s.2 (dec_lt (suc s.0) (suc r.k)))
        where
          step : (j : ℕ) → j < suc r.k → after j e ≡ x → Dec (suc j < suc r.k) → Among same_edge (f x) sidesₖ
          step j b p (yes q) = subst (λ y. Among same_edge y sidesₖ) (after_next j e ∙ ap f p) (path_has (suc r.k) e (suc j) q)
          step j b p (no q) =
              let z : suc r.k ≡ suc j = omega arith in
              subst (λ y. Among same_edge y sidesₖ) (sym r.back ∙ ap (λ n. after n e) z ∙ after_next j e ∙ ap f p) (path_has (suc r.k) e 0 (omega arith))

      pub ring_reach : (x : Edge) → Among same_edge x (ring_of l e) → Reaches e x
      ring_reach x i = let s = path_only (suc r.k) e x (omega (arith, ring_count x)) in (s.0, s.2)

    -- ---- each side in one ring, once
    abbrev pub Closed : List Edge → Type 0
    Closed taken = (x : Edge) → Among same_edge x taken → Among same_edge (f x) taken

    pub closed_after : (taken : List Edge) → Closed taken → (n : ℕ) (x : Edge) → Among same_edge x taken → Among same_edge (after n x) taken
    closed_after taken c zero x h = h
    closed_after taken c (suc n) x h = closed_after taken c n (f x) (c x h)

    -- Rings that begin with sides of m that no ring before them has.
    pub record Partition (taken m : List Edge) (rs : List (List Edge)) : Type 0 where
      pub most : (x : Edge) → # x taken + # x (joined rs) ≤ 1
      pub all : (x : Edge) → Among same_edge x m → 1 ≤ # x taken + # x (joined rs)
      pub inside : (x : Edge) → Among same_edge x (joined rs) → Among same_edge x l
      pub each : All (λ r. (e : Edge) × Among same_edge e l × (r ≡ ring_of l e)) rs

    -- One ring more.
    module _ (e : Edge) (h : Among same_edge e l) (taken : List Edge) (new : # e taken ≡ 0) (single : (x : Edge) → # x taken ≤ 1) (c : Closed taken) where
      abbrev pub taken' : List Edge
      taken' = ring_of l e ++ taken

      pub single' : (x : Edge) → # x taken' ≤ 1
      single' x = go (dec_le 1 (# x (ring_of l e))) (dec_le 1 (# x taken))
        where
          go : Dec (1 ≤ # x (ring_of l e)) → Dec (1 ≤ # x taken) → # x taken' ≤ 1
          go (yes p) (yes q) = let s = ring_back e h x p in
              let there : Among same_edge e taken = subst (λ y. Among same_edge y taken) s.1 (closed_after taken c s.0 x q) in absurd (omega arith)
          go (yes p) (no q) = omega (arith, add x (ring_of l e) taken, ring_once e h x)
          go (no p) d = omega (arith, add x (ring_of l e) taken, single x)

      pub closed' : Closed taken'
      closed' x i = go (dec_le 1 (# x (ring_of l e)))
        where
          go : Dec (1 ≤ # x (ring_of l e)) → Among same_edge (f x) taken'
          go (yes p) = omega (arith, add (f x) (ring_of l e) taken, ring_next e h x p)
          go (no p) = omega (arith, add (f x) (ring_of l e) taken, c x (omega (arith, add x (ring_of l e) taken, i)))

      more : (m : List Edge) (rs : List (List Edge)) → Partition taken' m rs → Partition taken (e ∷ m) (ring_of l e ∷ rs)
      unfolding flat_map
      more m rs p = record {
        most = λ x. omega (arith, p.most x, add x (ring_of l e) taken, add x (ring_of l e) (joined rs));
        all = λ x i. go x (same_edge e x) (same_edge-eq e x) i;
        inside = λ x i. within x (dec_le 1 (# x (ring_of l e))) (omega (arith, i, add x (ring_of l e) (joined rs)));
        each = ((e, h, refl), p.each);
      }
        where
          within : (x : Edge) → Dec (1 ≤ # x (ring_of l e)) → 1 ≤ # x (ring_of l e) + # x (joined rs) → Among same_edge x l
          within x (yes q) i = ring_in e h x q
          within x (no q) i = p.inside x (omega arith)

          go : (x : Edge) (b : Bool) → (T b → e ≡ x) → 1 ≤ bit b + # x m → 1 ≤ # x taken + # x (ring_of l e ++ joined rs)
          go x true q i = omega (arith, subst (λ y. Among same_edge y (ring_of l e)) (q tt) (ring_first e h), add x (ring_of l e) (joined rs))
          go x false q i = omega (arith, p.all x (omega arith), add x (ring_of l e) taken, add x (ring_of l e) (joined rs))

    pub among_any : (e : Edge) (m : List Edge) → (b : Bool) → any (same_edge e) m ≡ b → cond b (Among same_edge e m) (# e m ≡ 0)
    among_any e m true s = go (dec_le 1 (# e m))
      where
        go : Dec (1 ≤ # e m) → Among same_edge e m
        go (yes p) = p
        go (no p) = absurd ((none_any (same_edge e) m).1 ((not_counted same_edge same_edge-eq same_edge-refl e m).1 (omega arith)) (rw s tt))
    among_any e m false s = (not_counted same_edge same_edge-eq same_edge-refl e m).0 ((none_any (same_edge e) m).0 (λ t. subst T s t))

    partition : (taken m : List Edge) → ((x : Edge) → # x taken ≤ 1) → Closed taken → All (λ x. Among same_edge x l) m → Partition taken m (rings_over l taken m)
    unfolding rings_over flat_map
    partition taken [] single c i = record { most = λ x. omega (arith, single x); all = λ x h. absurd (omega arith); inside = λ x h. absurd (omega arith); each = tt }
    partition taken (e ∷ m) single c i = go (any (same_edge e) taken) (among_any e taken (any (same_edge e) taken) refl) (partition taken m single c i.1)
        (λ s d. partition (ring_of l e ++ taken) m s d i.1)
      where
        go : (b : Bool) → cond b (Among same_edge e taken) (# e taken ≡ 0) → Partition taken m (rings_over l taken m)
            → (((x : Edge) → # x (ring_of l e ++ taken) ≤ 1) → Closed (ring_of l e ++ taken) → Partition (ring_of l e ++ taken) m (rings_over l (ring_of l e ++ taken) m))
            → Partition taken (e ∷ m) (cond b (rings_over l taken m) (ring_of l e ∷ rings_over l (ring_of l e ++ taken) m))
        go true t p q = record { most = p.most; all = λ x h. at x (same_edge e x) (same_edge-eq e x) h; inside = p.inside; each = p.each }
          where
            at : (x : Edge) (b : Bool) → (T b → e ≡ x) → 1 ≤ bit b + # x m → 1 ≤ # x taken + # x (joined (rings_over l taken m))
            at x true s h = omega (arith, subst (λ y. Among same_edge y taken) (s tt) t)
            at x false s h = p.all x (omega arith)
        go false t p q = more e i.0 taken t single c m (rings_over l (ring_of l e ++ taken) m) (q (single' e i.0 taken t single c) (closed' e i.0 taken t single c))

    pub ring_partition : Partition [] l (rings_over l [] l)
    ring_partition = partition [] l (λ x. omega arith) (λ x h. absurd (omega arith)) (all_counted same_edge same_edge-eq same_edge-refl l)
