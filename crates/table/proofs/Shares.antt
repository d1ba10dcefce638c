-- The sides of a table by their numbers, and the boundary of a set of triangles side by side: at a side it is 1 for the side's own triangle
-- in the set, less 1 for the triangle across in the set, and a list of pairs bounds the set if it has the same number at each side and no
-- boundary elsewhere. The idea: by rule B a side is one triangle's only, so a set counts it by that triangle's mark. Assumes nothing.
use mathlib.Core.Path.{◌≡◌, refl, sym, ◌∙◌, ap, ap₂, subst}
use mathlib.Core.Logic.{◌↔◌, ◌⊎◌, inl, inr}
use mathlib.Core.Bool.{Bool, true, false, cond}
use mathlib.Core.List.{List, [], ◌∷◌, map, flat_map}
use Prim.Native.Nat.{ℕ, zero, suc, ◌+◌, ◌*◌, ◌-◌, ◌/◌, ◌≤◌, ◌<◌}
use native.Mathlib.Omega.{arith}
use native.Mathlib.Decide.{dec_le}
use lib.Dec.{T}
use lib.IntN.{pos, ◌-ℤ◌}
use lib.ListN.{length, get_or, length-map}
use Rattle.whole.specs.Sums.{All, Among, bit, count, net}
use Rattle.whole.proofs.Int.{zify}
use Rattle.whole.proofs.Sums.{bit_yes, all-++, all_map, all_counted}
use Rattle.plane.specs.Points.{Edge, Triangle, flip, same_edge, sides}
use Rattle.plane.specs.Keys.{point_at, pair, pairs}
use Rattle.plane.specs.Boundaries.{boundary, SameBoundary, sides_of}
use Rattle.plane.proofs.Points.{same_edge-eq, same_edge-refl}
use Rattle.plane.proofs.Boundaries.{equal_everywhere}
use Rattle.table.specs.Table.{RuleB}
use Rattle.table.specs.Sets.{SetOf, chosen}
use Rattle.table.specs.Sides.{triangles_of, tails_of, side_at, mark, across, share}
use Rattle.table.specs.Opposites.{later, found_at, opposites}
use Rattle.table.proofs.Sets.{tally, count_tally}

-- ---- places in a list of pairs
-- How often a pair stands in a list.
abbrev # : Edge → List Edge → ℕ
# = count same_edge

pub at_counted : (l : List Edge) (d : Edge) (k : ℕ) → k < length l → 1 ≤ # (get_or l k d) l
at_counted [] d k h = absurd (omega arith)
at_counted (x ∷ l) d zero h = omega (arith, bit_yes (same_edge x x) (same_edge-refl x))
at_counted (x ∷ l) d (suc k) h = omega (arith, at_counted l d k (omega arith))

-- What is found of e in l: no number and no count, or the number, counted from 1, of a place where it stands.
abbrev pub Found : Edge → List Edge → Edge → ℕ → ℕ → Type 0
Found e l d found counted = ((found ≡ 0) × (counted ≡ 0)) ⊎ ((o : ℕ) × (found ≡ suc o) × (1 ≤ counted) × (o < length l) × (get_or l o d ≡ e))

pub found_at_lem : (e : Edge) (l : List Edge) (d : Edge) → Found e l d (found_at e l) (# e l)
found_at_lem e [] d = inl (refl, refl)
found_at_lem e (x ∷ l) d = go (same_edge x e) (same_edge-eq x e) (found_at_lem e l d)
  where
    go : (b : Bool) → (T b → x ≡ e) → Found e l d (found_at e l) (# e l) → Found e (x ∷ l) d (cond b 1 (later (found_at e l))) (bit b + # e l)
    go true f r = inr (0, refl, omega arith, omega arith, f tt)
    go false f (inl h) = inl (ap later h.0, omega arith)
    go false f (inr h) = inr (suc h.0, ap later h.1, omega arith, omega arith, h.4)

pub counted_at : (e : Edge) (l : List Edge) (d : Edge) → 1 ≤ # e l → (k : ℕ) × (k < length l) × (get_or l k d ≡ e)
counted_at e l d h = go (found_at_lem e l d)
  where
    go : Found e l d (found_at e l) (# e l) → (k : ℕ) × (k < length l) × (get_or l k d ≡ e)
    go (inl f) = absurd (omega arith)
    go (inr f) = (f.0, f.3, f.4)

once_at : (l : List Edge) (d : Edge) → ((e : Edge) → # e l ≤ 1) → (j k : ℕ) → j < length l → k < length l → get_or l j d ≡ get_or l k d → j ≡ k
once_at [] d h j k p q e = absurd (omega arith)
once_at (x ∷ l) d h zero zero p q e = refl
once_at (x ∷ l) d h zero (suc k) p q e = absurd (omega (arith, h x, bit_yes (same_edge x x) (same_edge-refl x), subst (λ y. 1 ≤ # y l) (sym e) (at_counted l d k (omega arith))))
once_at (x ∷ l) d h (suc j) zero p q e = absurd (omega (arith, h x, bit_yes (same_edge x x) (same_edge-refl x), subst (λ y. 1 ≤ # y l) e (at_counted l d j (omega arith))))
once_at (x ∷ l) d h (suc j) (suc k) p q e = ap suc (once_at l d (λ y. omega (arith, h y)) j k (omega arith) (omega arith) e)

at_once : (l : List Edge) (d : Edge) → ((j k : ℕ) → j < length l → k < length l → get_or l j d ≡ get_or l k d → j ≡ k) → (e : Edge) → # e l ≤ 1
at_once [] d h e = omega arith
at_once (x ∷ l) d h e = go (same_edge x e) (same_edge-eq x e) (dec_le 1 (# e l)) (at_once l d (λ j k p q r. omega (arith, h (suc j) (suc k) (omega arith) (omega arith) r)) e)
  where
    go : (b : Bool) → (T b → x ≡ e) → Dec (1 ≤ # e l) → # e l ≤ 1 → bit b + # e l ≤ 1
    go true f (yes p) r = let s = counted_at e l d p in absurd (omega (arith, h 0 (suc s.0) (omega arith) (omega (arith, s.1)) (f tt ∙ sym s.2)))
    go true f (no p) r = omega arith
    go false f p r = omega arith

get_d_map : {A B : Type 0} (f : A → B) (l : List A) (a : A) (b : B) (k : ℕ) → k < length l → get_or (map f l) k b ≡ f (get_or l k a)
get_d_map f [] a b k h = absurd (omega arith)
get_d_map f (x ∷ l) a b zero h = refl
get_d_map f (x ∷ l) a b (suc k) h = get_d_map f l a b k (omega arith)

-- Boundaries that are equal at the reverse of a pair are equal at the pair.
at_reverse : (l m : List Edge) (e : Edge) → boundary l (flip e) ≡ boundary m (flip e) → boundary l e ≡ boundary m e
unfolding net
at_reverse l m e p = simp zify (omega (arith, simp zify at p))

-- ---- counts over the marked members
pub fewer : {A : Type 0} (w : A → ℕ) (l : List A) (s : List Bool) → tally w (chosen l s) ≤ tally w l
unfolding tally
fewer w [] s = omega arith
fewer w (a ∷ l) [] = omega arith
fewer w (a ∷ l) (true ∷ s) = omega (arith, fewer w l s)
fewer w (a ∷ l) (false ∷ s) = omega (arith, fewer w l s)

pub part : {A : Type 0} (w : A → ℕ) (l : List A) (a : A) (i : ℕ) → i < length l → w (get_or l i a) ≤ tally w l
unfolding tally
part w [] a i h = absurd (omega arith)
part w (x ∷ l) a zero h = omega arith
part w (x ∷ l) a (suc i) h = omega (arith, part w l a i (omega arith))

-- Where one member has all of the weight, 1, the marked members have its mark.
by_mark : {A : Type 0} (w : A → ℕ) (l : List A) (s : List Bool) (a : A) (i : ℕ) → length s ≡ length l → i < length l → 1 ≤ w (get_or l i a) → tally w l ≤ 1
    → tally w (chosen l s) ≡ bit (get_or s i false)
unfolding tally
by_mark w [] s a i e h p q = absurd (omega arith)
by_mark w (x ∷ l) [] a i e h p q = absurd (omega arith)
by_mark w (x ∷ l) (true ∷ s) a zero e h p q = omega (arith, fewer w l s)
by_mark w (x ∷ l) (false ∷ s) a zero e h p q = omega (arith, fewer w l s)
by_mark w (x ∷ l) (true ∷ s) a (suc i) e h p q = omega (arith, part w l a i (omega arith), by_mark w l s a i (omega arith) (omega arith) p (omega arith))
by_mark w (x ∷ l) (false ∷ s) a (suc i) e h p q = by_mark w l s a i (omega arith) (omega arith) p (omega arith)

-- No side stands more often among the sides of marked triangles than among all.
pub fewer_sides : (table : List Triangle) (s : List Bool) (e : Edge) → count same_edge e (sides_of (chosen table s)) ≤ count same_edge e (sides_of table)
fewer_sides table s e = omega (arith, fewer (λ t. # e (sides t)) table s, count_tally e (chosen table s), count_tally e table)

-- ---- the sides of the triangles whose corners these are
pub sides_pairs : (keys : List ℕ) → sides_of (triangles_of keys) ≡ pairs keys (tails_of keys)
unfolding flat_map
sides_pairs [] = refl
sides_pairs (a ∷ []) = refl
sides_pairs (a ∷ b ∷ []) = refl
sides_pairs (a ∷ b ∷ c ∷ l) = ap (λ r. pair a b ∷ pair b c ∷ pair c a ∷ r) (sides_pairs l)

pub length_triangles : (keys : List ℕ) (n : ℕ) → length keys ≡ 3 * n → length (triangles_of keys) ≡ n
length_triangles [] n e = omega arith
length_triangles (a ∷ []) n e = absurd (omega arith)
length_triangles (a ∷ b ∷ []) n e = absurd (omega arith)
length_triangles (a ∷ b ∷ c ∷ l) n e = omega (arith, length_triangles l (n - 1) (omega arith))

pub length_tails : (keys : List ℕ) (n : ℕ) → length keys ≡ 3 * n → length (tails_of keys) ≡ length keys
length_tails [] n e = refl
length_tails (a ∷ []) n e = absurd (omega arith)
length_tails (a ∷ b ∷ []) n e = absurd (omega arith)
length_tails (a ∷ b ∷ c ∷ l) n e = omega (arith, length_tails l (n - 1) (omega arith))

pub length_sides : (keys : List ℕ) (n : ℕ) → length keys ≡ 3 * n → length (sides_of (triangles_of keys)) ≡ length keys
unfolding flat_map
length_sides [] n e = refl
length_sides (a ∷ []) n e = absurd (omega arith)
length_sides (a ∷ b ∷ []) n e = absurd (omega arith)
length_sides (a ∷ b ∷ c ∷ l) n e = omega (arith, length_sides l (n - 1) (omega arith))

pub length_opposites : (keys : List ℕ) (n : ℕ) → length keys ≡ 3 * n → length (opposites (sides_of (triangles_of keys))) ≡ length keys
unfolding opposites
length_opposites keys n e = length-map (sides_of (triangles_of keys)) (λ e. found_at (flip e) (sides_of (triangles_of keys))) ∙ length_sides keys n e

-- Side k stands at place k among the sides.
pub side_at_lem : (keys : List ℕ) (n : ℕ) → length keys ≡ 3 * n → (k : ℕ) → get_or (sides_of (triangles_of keys)) k (pair 0 0) ≡ side_at keys k
unfolding flat_map
side_at_lem [] n e k = refl
side_at_lem (a ∷ []) n e k = absurd (omega arith)
side_at_lem (a ∷ b ∷ []) n e k = absurd (omega arith)
side_at_lem (a ∷ b ∷ c ∷ l) n e zero = refl
side_at_lem (a ∷ b ∷ c ∷ l) n e (suc zero) = refl
side_at_lem (a ∷ b ∷ c ∷ l) n e (suc (suc zero)) = refl
side_at_lem (a ∷ b ∷ c ∷ l) n e (suc (suc (suc k))) = side_at_lem l (n - 1) (omega arith) k

-- Side k is a side of triangle k / 3.
pub own_side_lem : (keys : List ℕ) (n : ℕ) → length keys ≡ 3 * n → (t : Triangle) (k : ℕ) → k < length keys → 1 ≤ # (side_at keys k) (sides (get_or (triangles_of keys) (k / 3) t))
own_side_lem [] n e t k h = absurd (omega arith)
own_side_lem (a ∷ []) n e t k h = absurd (omega arith)
own_side_lem (a ∷ b ∷ []) n e t k h = absurd (omega arith)
own_side_lem (a ∷ b ∷ c ∷ l) n e t zero h = omega (arith, bit_yes (same_edge (pair a b) (pair a b)) (same_edge-refl (pair a b)))
own_side_lem (a ∷ b ∷ c ∷ l) n e t (suc zero) h = omega (arith, bit_yes (same_edge (pair b c) (pair b c)) (same_edge-refl (pair b c)))
own_side_lem (a ∷ b ∷ c ∷ l) n e t (suc (suc zero)) h = omega (arith, bit_yes (same_edge (pair c a) (pair c a)) (same_edge-refl (pair c a)))
own_side_lem (a ∷ b ∷ c ∷ l) n e t (suc (suc (suc k))) h =
    subst (λ i. 1 ≤ # (side_at l k) (sides (get_or (triangles_of (a ∷ b ∷ c ∷ l)) i t))) next (own_side_lem l (n - 1) (omega arith) t k (omega arith))
  where
    next : suc (k / 3) ≡ suc (suc (suc k)) / 3
    next = omega arith

-- All sides of the table.
abbrev all : List ℕ → List Edge
all keys = sides_of (triangles_of keys)

-- ---- the theorems, for corners of n triangles
module _ (keys : List ℕ) (n : ℕ) (whole : length keys ≡ 3 * n) where
  within : (k : ℕ) → k < length keys → k < length (all keys)
  within k h = omega (arith, length_sides keys n whole)

  -- The sides of the table are what sideAt gives.
  pub among_side : (e : Edge) → Among same_edge e (sides_of (triangles_of keys)) ↔ ((k : ℕ) × (k < length keys) × (side_at keys k ≡ e))
  among_side e = (
    λ h. let s = counted_at e (all keys) (pair 0 0) h in (s.0, omega (arith, s.1, length_sides keys n whole), sym (side_at_lem keys n whole s.0) ∙ s.2),
    λ h. subst (λ d. 1 ≤ # d (all keys)) (side_at_lem keys n whole h.0 ∙ h.2) (at_counted (all keys) (pair 0 0) h.0 (within h.0 h.1)),
  )

  -- ---- rule B side by side
  pub side_once : RuleB (triangles_of keys) → (j k : ℕ) → j < length keys → k < length keys → side_at keys j ≡ side_at keys k → j ≡ k
  side_once once j k p q e = once_at (all keys) (pair 0 0) once j k (within j p) (within k q) (side_at_lem keys n whole j ∙ e ∙ sym (side_at_lem keys n whole k))

  pub sides_once : ((j k : ℕ) → j < length keys → k < length keys → side_at keys j ≡ side_at keys k → j ≡ k) → RuleB (triangles_of keys)
  sides_once h = at_once (all keys) (pair 0 0)
      (λ j k p q e. h j k (omega (arith, length_sides keys n whole)) (omega (arith, length_sides keys n whole)) (sym (side_at_lem keys n whole j) ∙ e ∙ side_at_lem keys n whole k))

  -- ---- the reverse of a side
  -- Side k's reverse, looked up.
  abbrev Back : ℕ → Type 0
  Back k = Found (flip (side_at keys k)) (all keys) (pair 0 0) (get_or (opposites (all keys)) k 0) (# (flip (side_at keys k)) (all keys))

  back : (k : ℕ) → k < length keys → Back k
  unfolding opposites
  back k h = subst (λ o. Found (flip (side_at keys k)) (all keys) (pair 0 0) o (# (flip (side_at keys k)) (all keys)))
      (ap (λ e. found_at (flip e) (all keys)) (sym (side_at_lem keys n whole k)) ∙ sym (get_d_map (λ e. found_at (flip e) (all keys)) (all keys) (pair 0 0) 0 k (within k h)))
      (found_at_lem (flip (side_at keys k)) (all keys) (pair 0 0))

  -- A side numbered 0 has no reverse among the sides; else the number less 1 is the reverse's.
  pub opposite_none : (k : ℕ) → k < length keys → get_or (opposites (sides_of (triangles_of keys))) k 0 ≡ 0 → (j : ℕ) → j < length keys → side_at keys j ≡ flip (side_at keys k) → ⊥
  opposite_none k h e j p q = go (back k h)
    where
      go : Back k → ⊥
      go (inl f) = omega (arith, (among_side (flip (side_at keys k))).1 (j, p, q))
      go (inr f) = omega arith

  pub opposite_some : (k o : ℕ) → k < length keys → get_or (opposites (sides_of (triangles_of keys))) k 0 ≡ suc o → (o < length keys) × (side_at keys o ≡ flip (side_at keys k))
  opposite_some k o h e = go (back k h)
    where
      go : Back k → (o < length keys) × (side_at keys o ≡ flip (side_at keys k))
      go (inl f) = absurd (omega arith)
      go (inr f) =
          let same : f.0 ≡ o = omega arith in
          (omega (arith, length_sides keys n whole), ap (side_at keys) (sym same) ∙ sym (side_at_lem keys n whole f.0) ∙ f.4)

  pub opposite_no : (k : ℕ) → k < length keys → ((j : ℕ) → j < length keys → side_at keys j ≡ flip (side_at keys k) → ⊥) → get_or (opposites (sides_of (triangles_of keys))) k 0 ≡ 0
  opposite_no k h none = go (back k h)
    where
      go : Back k → get_or (opposites (all keys)) k 0 ≡ 0
      go (inl f) = f.0
      go (inr f) = absurd (let s = opposite_some k f.0 h f.1 in none f.0 s.0 s.1)

  pub opposite_is : RuleB (triangles_of keys) → (k o : ℕ) → k < length keys → o < length keys → side_at keys o ≡ flip (side_at keys k) → get_or (opposites (sides_of (triangles_of keys))) k 0 ≡ suc o
  opposite_is once k o h p e = go (back k h)
    where
      go : Back k → get_or (opposites (all keys)) k 0 ≡ suc o
      go (inl f) = absurd (omega (arith, (among_side (flip (side_at keys k))).1 (o, p, e)))
      go (inr f) = let s = opposite_some k f.0 h f.1 in f.1 ∙ ap suc (side_once once f.0 o s.0 p (s.1 ∙ sym e))

  -- ---- the boundary of a set of triangles at a side
  module _ (once : RuleB (triangles_of keys)) (s : List Bool) (fits : SetOf (triangles_of keys) s) where
    -- A set has a side by the mark of its own triangle.
    pub side_count : (k : ℕ) → k < length keys → count same_edge (side_at keys k) (sides_of (chosen (triangles_of keys) s)) ≡ mark s (k / 3)
    side_count k h =
        let e = side_at keys k in
        count_tally e (chosen (triangles_of keys) s)
        ∙ by_mark (λ t. # e (sides t)) (triangles_of keys) s corner (k / 3) fits (omega (arith, length_triangles keys n whole)) (own_side_lem keys n whole corner k h)
        (omega (arith, count_tally e (triangles_of keys), once e))
      where
        corner : Triangle
        corner = record { a = point_at 0; b = point_at 0; c = point_at 0 }

    -- The boundary of a set at a side is the side's share.
    pub share_is : (k : ℕ) → k < length keys → boundary (sides_of (chosen (triangles_of keys) s)) (side_at keys k) ≡ share (opposites (sides_of (triangles_of keys))) s k
    unfolding net
    share_is k h = ap₂ (λ a b. pos a -ℤ pos b) (side_count k h) (go (get_or (opposites (all keys)) k 0) refl)
      where
        go : (v : ℕ) → get_or (opposites (all keys)) k 0 ≡ v → # (flip (side_at keys k)) (sides_of (chosen (triangles_of keys) s)) ≡ across s v
        go zero e = missing (back k h)
          where
            missing : Back k → # (flip (side_at keys k)) (sides_of (chosen (triangles_of keys) s)) ≡ 0
            missing (inl f) = omega (arith, fewer_sides (triangles_of keys) s (flip (side_at keys k)))
            missing (inr f) = absurd (omega arith)
        go (suc o) e = let p = opposite_some k o h e in ap (λ d. # d (sides_of (chosen (triangles_of keys) s))) (sym p.1) ∙ side_count o p.0

    -- A pair that is no side and no reverse of one has boundary 0 in every set.
    none_elsewhere : (e : Edge) → (Among same_edge e (all keys) → ⊥) → (Among same_edge (flip e) (all keys) → ⊥) → boundary (sides_of (chosen (triangles_of keys) s)) e ≡ pos 0
    unfolding net
    none_elsewhere e p q = simp zify (omega (arith, fewer_sides (triangles_of keys) s e, fewer_sides (triangles_of keys) s (flip e)))

    -- A list of pairs that has the set's share at each side, and no boundary where there is no side, has the boundary of the set.
    pub same_shares : (l : List Edge) → ((k : ℕ) → k < length keys → boundary l (side_at keys k) ≡ share (opposites (sides_of (triangles_of keys))) s k)
        → All (λ e. Among same_edge e (sides_of (triangles_of keys)) ⊎ Among same_edge (flip e) (sides_of (triangles_of keys)) ⊎ (boundary l e ≡ pos 0)) l
        → SameBoundary (sides_of (chosen (triangles_of keys) s)) l
    same_shares l h a = equal_everywhere set l (all-++ (λ e. boundary set e ≡ boundary l e) set l
        (all_map (λ e. 1 ≤ # e set) (λ e. boundary set e ≡ boundary l e) (λ e p. at_side e (omega (arith, fewer_sides (triangles_of keys) s e))) set (all_counted same_edge same_edge-eq same_edge-refl set))
        (all_map Known (λ e. boundary set e ≡ boundary l e) (λ e k. go e k (dec_le 1 (# e (all keys))) (dec_le 1 (# (flip e) (all keys)))) l a))
      where
        set : List Edge
        set = sides_of (chosen (triangles_of keys) s)

        Known : Edge → Type 0
        Known e = Among same_edge e (all keys) ⊎ Among same_edge (flip e) (all keys) ⊎ (boundary l e ≡ pos 0)

        at_side : (e : Edge) → 1 ≤ # e (all keys) → boundary set e ≡ boundary l e
        at_side e p = let k = (among_side e).0 p in subst (λ d. boundary set d ≡ boundary l d) k.2 (share_is k.0 k.1 ∙ sym (h k.0 k.1))

        go : (e : Edge) → Known e → Dec (1 ≤ # e (all keys)) → Dec (1 ≤ # (flip e) (all keys)) → boundary set e ≡ boundary l e
        go e k (yes p) d = at_side e p
        go e k (no p) (yes q) = at_reverse set l e (at_side (flip e) q)
        go e (inl k) (no p) (no q) = absurd (p k)
        go e (inr (inl k)) (no p) (no q) = absurd (q k)
        go e (inr (inr k)) (no p) (no q) = none_elsewhere e p q ∙ sym k

    -- A list of pairs with the boundary of a set has none at a pair that is no side and no reverse of one.
    pub stray_none : (l : List Edge) → SameBoundary (sides_of (chosen (triangles_of keys) s)) l
        → (e : Edge) → (Among same_edge e (sides_of (triangles_of keys)) → ⊥) → (Among same_edge (flip e) (sides_of (triangles_of keys)) → ⊥) → boundary l e ≡ pos 0
    stray_none l h e p q = sym (h e) ∙ none_elsewhere e p q
