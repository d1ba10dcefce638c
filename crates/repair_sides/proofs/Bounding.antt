-- The boundary sides of a set of triangles in which each side stands once at most are exactly the sides at which the set's boundary is 1,
-- each once, and as a list of pairs they have its boundary; by number they are the sides of a polygon's triangles with none of those across.
-- The double areas of all polygons add up to the table's, which is the frame's.
-- The idea: a test that passes keeps a side's count, and a side is unmatched if its reverse is counted 0 times; by rule B a side and its
-- reverse are counted by the marks of the two triangles. Assumes nothing.
use mathlib.Core.Path.{◌≡◌, refl, sym, ◌∙◌, ap, ap₂, subst}
use mathlib.Core.Logic.{◌↔◌, ◌⊎◌, inl, inr}
use mathlib.Core.Bool.{Bool, true, false, not, cond, ◌&&◌}
use mathlib.Core.List.{List, [], ◌∷◌, ◌++◌, map, flat_map, append-nil}
use Prim.Native.Nat.{ℕ, zero, suc, ◌+◌, ◌*◌, ◌-◌, ◌/◌, ◌≤◌, ◌<◌}
use native.Mathlib.Omega.{arith}
use native.Mathlib.Decide.{dec_le}
use lib.Dec.{T, eqb, eqb→eq, eqb_refl}
use lib.IntN.{ℤ, pos, ◌+ℤ◌, +ℤ_idl, +ℤ_idr}
use lib.Signed.{◌≤ℤ◌}
use lib.ListN.{length, get_or, length-map}
use Rattle.whole.specs.Sums.{All, Among, any, bit, count, net, sum, passing}
use Rattle.whole.specs.Polynomials.{◌:+◌, ◌:=◌}
use Rattle.whole.proofs.Int.{zify}
use Rattle.whole.proofs.Ring.{solve}
use Rattle.plane.specs.Points.{Edge, Triangle, flip, same_edge, double, cross}
use Rattle.plane.specs.Cuts.{all_pieces}
use Rattle.plane.specs.Boundaries.{boundary, SameBoundary, sides_of}
use Rattle.plane.specs.Members.{double_area}
use Rattle.plane.proofs.Points.{same_edge-eq}
use Rattle.plane.proofs.Boundaries.{areas, cross_flip, cross_adds}
use Rattle.plane.proofs.Cuts.{pieces_sum}
use Rattle.table.specs.Table.{corners, frame_of, rectangle, frame_edges, RuleB, RuleC}
use Rattle.table.specs.Sets.{SetOf, chosen}
use Rattle.table.specs.Sides.{triangles_of, side_at, across}
use Rattle.table.specs.Opposites.{opposites}
use Rattle.table.proofs.Shares.{length_triangles, length_opposites, opposite_some, side_count, share_is, fewer_sides}
use Rattle.repair_regions.specs.Regions.{from}
use Rattle.repair_sides.specs.Sides.{unmatched, boundary_sides, owned_by, triangles_owned}
use Rattle.repair_sides.specs.Numbered.{owns_across, bounds, boundary_numbers}

-- How often a pair stands in a list.
abbrev # : Edge → List Edge → ℕ
# = count same_edge

-- ---- members that pass a test
passing_map : {A B : Type 0} (test : B → Bool) (f : A → B) (l : List A) → passing test (map f l) ≡ map f (passing (λ a. test (f a)) l)
passing_map test f [] = refl
passing_map test f (a ∷ l) = go (test (f a)) (passing_map test f l)
  where
    go : (b : Bool) → passing test (map f l) ≡ map f (passing (λ a. test (f a)) l)
        → cond b (f a ∷ passing test (map f l)) (passing test (map f l)) ≡ map f (cond b (a ∷ passing (λ a. test (f a)) l) (passing (λ a. test (f a)) l))
    go true r = ap (λ m. f a ∷ m) r
    go false r = r

passing_twice : {A : Type 0} (p q : A → Bool) (l : List A) → passing q (passing p l) ≡ passing (λ a. p a && q a) l
passing_twice p q [] = refl
passing_twice p q (a ∷ l) = go (p a) (passing_twice p q l)
  where
    go : (b : Bool) → passing q (passing p l) ≡ passing (λ a. p a && q a) l
        → passing q (cond b (a ∷ passing p l) (passing p l)) ≡ cond (b && q a) (a ∷ passing (λ a. p a && q a) l) (passing (λ a. p a && q a) l)
    go true r = ap (λ m. cond (q a) (a ∷ m) m) r
    go false r = r

-- Tests that agree at the numbers of a list pass the same.
passing_same : (p q : ℕ → Bool) (i n : ℕ) → ((k : ℕ) → i ≤ k → k < i + n → p k ≡ q k) → passing p (from i n) ≡ passing q (from i n)
passing_same p q i zero h = refl
passing_same p q i (suc n) h =
    ap₂ (λ b m. cond b (i ∷ m) m) (h i (omega arith) (omega arith)) (passing_same p q (suc i) n (λ k s t. h k (omega arith) (omega arith)))

-- The numbers from the next on, by those from here on.
passing_next : {A : Type 0} (f : ℕ → A) (test : ℕ → Bool) (i n : ℕ) → map f (passing test (from (suc i) n)) ≡ map (λ k. f (suc k)) (passing (λ k. test (suc k)) (from i n))
passing_next f test i zero = refl
passing_next f test i (suc n) = go (test (suc i)) (passing_next f test (suc i) n)
  where
    go : (b : Bool) → map f (passing test (from (suc (suc i)) n)) ≡ map (λ k. f (suc k)) (passing (λ k. test (suc k)) (from (suc i) n))
        → map f (cond b (suc i ∷ passing test (from (suc (suc i)) n)) (passing test (from (suc (suc i)) n)))
        ≡ map (λ k. f (suc k)) (cond b (i ∷ passing (λ k. test (suc k)) (from (suc i) n)) (passing (λ k. test (suc k)) (from (suc i) n)))
    go true r = ap (λ m. f (suc i) ∷ m) r
    go false r = r

-- A pair that passes is counted as before, any other is not.
passing_count : (test : Edge → Bool) (e : Edge) (l : List Edge) → # e (passing test l) ≡ cond (test e) (# e l) 0
passing_count test e [] = none (test e)
  where
    none : (b : Bool) → ◌≡◌ {A = ℕ} 0 (cond b 0 0)
    none true = refl
    none false = refl
passing_count test e (x ∷ l) = head (test x) ∙ go (same_edge x e) (test x) (test e) (λ t. ap test (same_edge-eq x e t)) (passing_count test e l)
  where
    head : (b : Bool) → # e (cond b (x ∷ passing test l) (passing test l)) ≡ cond b (bit (same_edge x e) + # e (passing test l)) (# e (passing test l))
    head true = refl
    head false = refl

    go : (s b c : Bool) → (T s → b ≡ c) → # e (passing test l) ≡ cond c (# e l) 0
        → cond b (bit s + # e (passing test l)) (# e (passing test l)) ≡ cond c (bit s + # e l) 0
    go true b c f r = rw (f tt) (kept c r)
      where
        kept : (c : Bool) → # e (passing test l) ≡ cond c (# e l) 0 → cond c (1 + # e (passing test l)) (# e (passing test l)) ≡ cond c (1 + # e l) 0
        kept true r = omega arith
        kept false r = r
    go false true true f r = omega arith
    go false true false f r = omega arith
    go false false true f r = omega arith
    go false false false f r = omega arith

-- A side is unmatched if its reverse is counted 0 times, else not.
abbrev Matching : ℕ → Bool → Type 0
Matching n b = ((n ≡ 0) × (b ≡ true)) ⊎ ((1 ≤ n) × (b ≡ false))

unmatched_is : (e : Edge) (l : List Edge) → Matching (# (flip e) l) (unmatched l e)
unmatched_is e [] = inl (refl, refl)
unmatched_is e (x ∷ l) = go (same_edge x (flip e)) (unmatched_is e l)
  where
    go : (b : Bool) → Matching (# (flip e) l) (unmatched l e) → Matching (bit b + # (flip e) l) (not (elim b [ true ↦ true | false ↦ any (λ d. same_edge d (flip e)) l ]))
    go true r = inr (omega arith, refl)
    go false (inl r) = inl (omega arith, r.1)
    go false (inr r) = inr (omega arith, r.1)

-- ---- the boundary sides of a set of triangles
module _ (set : List Triangle) where
  -- A pair is listed as often as it is a side if its reverse is none, else not at all.
  abbrev Listed : Edge → Type 0
  Listed e = ((# (flip e) (sides_of set) ≡ 0) × (# e (boundary_sides set) ≡ # e (sides_of set))) ⊎ ((1 ≤ # (flip e) (sides_of set)) × (# e (boundary_sides set) ≡ 0))

  listed : (e : Edge) → Listed e
  unfolding boundary_sides
  listed e = go (unmatched_is e (sides_of set))
    where
      kept : (b : Bool) → unmatched (sides_of set) e ≡ b → # e (boundary_sides set) ≡ cond b (# e (sides_of set)) 0
      kept b r = passing_count (unmatched (sides_of set)) e (sides_of set) ∙ ap (λ b. cond b (# e (sides_of set)) 0) r

      go : Matching (# (flip e) (sides_of set)) (unmatched (sides_of set) e) → Listed e
      go (inl r) = inl (r.0, kept true r.1)
      go (inr r) = inr (r.0, kept false r.1)

  module _ (once : (e : Edge) → count same_edge e (sides_of set) ≤ 1) where
    -- They are exactly the pairs at which the boundary of the set is 1.
    pub sides_are_boundary : (e : Edge) → Among same_edge e (boundary_sides set) ↔ (boundary (sides_of set) e ≡ pos 1)
    unfolding net
    sides_are_boundary e = go (listed e)
      where
        go : Listed e → Among same_edge e (boundary_sides set) ↔ (boundary (sides_of set) e ≡ pos 1)
        go (inl p) = (λ h. simp zify (omega (arith, once e)), λ h. omega (arith, simp zify at h))
        go (inr p) = (λ h. absurd (omega arith), λ h. absurd (omega (arith, once e, simp zify at h)))

    -- Each stands once at most.
    pub sides_once : (e : Edge) → count same_edge e (boundary_sides set) ≤ 1
    sides_once e = go (listed e)
      where
        go : Listed e → # e (boundary_sides set) ≤ 1
        go (inl p) = omega (arith, once e)
        go (inr p) = omega arith

    -- The boundary of the set is nowhere above 1.
    pub at_most_one : (e : Edge) → boundary (sides_of set) e ≤ℤ pos 1
    unfolding net
    at_most_one e = simp zify (omega (arith, once e))

    -- As a list of pairs they have the boundary of the set.
    pub same_boundary : SameBoundary (boundary_sides set) (sides_of set)
    unfolding net
    same_boundary e = go (listed e) (listed (flip e))
      where
        go : Listed e → Listed (flip e) → boundary (boundary_sides set) e ≡ boundary (sides_of set) e
        go (inl p) (inl q) = simp zify (omega arith)
        go (inl p) (inr q) = simp zify (omega arith)
        go (inr p) (inl q) = simp zify (omega arith)
        go (inr p) (inr q) = simp zify (omega (arith, once e, once (flip e)))

-- With rule B each side of a polygon's triangles stands once at most.
pub owned_once : (table : List Triangle) → RuleB table → (owners : List ℕ) (p : ℕ) (e : Edge) → count same_edge e (sides_of (triangles_owned table owners p)) ≤ 1
owned_once table once owners p e = omega (arith, once e, fewer_sides table (owned_by p owners) e)

-- ---- the boundary sides by number
-- The sides of marked triangles are those whose own triangle is marked.
sides_numbered : (keys : List ℕ) (n : ℕ) → length keys ≡ 3 * n → (s : List Bool) → length s ≡ n
    → sides_of (chosen (triangles_of keys) s) ≡ map (side_at keys) (passing (λ k. get_or s (k / 3) false) (from 0 (3 * n)))
unfolding flat_map
sides_numbered [] n e s f = let z : 3 * n ≡ 0 = omega arith in rw z
sides_numbered (a ∷ []) n e s f = absurd (omega arith)
sides_numbered (a ∷ b ∷ []) n e s f = absurd (omega arith)
sides_numbered (a ∷ b ∷ c ∷ l) n e [] f = absurd (omega arith)
sides_numbered (a ∷ b ∷ c ∷ l) n e (x ∷ s) f =
    let z : 3 * n ≡ suc (suc (suc (3 * (n - 1)))) = omega arith in
    rw z (go x (sides_numbered l (n - 1) (omega arith) s (omega arith) ∙ shifted))
  where
    keys : List ℕ
    keys = a ∷ b ∷ c ∷ l

    marked : ℕ → Bool
    marked k = get_or (x ∷ s) (k / 3) false

    next : (k : ℕ) → get_or s (k / 3) false ≡ marked (suc (suc (suc k)))
    next k = let z : suc (k / 3) ≡ suc (suc (suc k)) / 3 = omega arith in ap (λ i. get_or (x ∷ s) i false) z

    shifted : map (side_at l) (passing (λ k. get_or s (k / 3) false) (from 0 (3 * (n - 1)))) ≡ map (side_at keys) (passing marked (from 3 (3 * (n - 1))))
    shifted =
        ap (map (side_at l)) (passing_same (λ k. get_or s (k / 3) false) (λ k. marked (suc (suc (suc k)))) 0 (3 * (n - 1)) (λ k g h. next k))
        ∙ sym (passing_next (λ k. side_at keys (suc (suc k))) (λ k. marked (suc (suc k))) 0 (3 * (n - 1)))
        ∙ sym (passing_next (λ k. side_at keys (suc k)) (λ k. marked (suc k)) 1 (3 * (n - 1)))
        ∙ sym (passing_next (side_at keys) marked 2 (3 * (n - 1)))

    kept : Bool → ℕ → List ℕ → List ℕ
    kept y k m = cond y (k ∷ m) m

    go : (y : Bool) → sides_of (chosen (triangles_of l) s) ≡ map (side_at keys) (passing marked (from 3 (3 * (n - 1))))
        → sides_of (chosen (triangles_of keys) (y ∷ s)) ≡ map (side_at keys) (kept y 0 (kept y 1 (kept y 2 (passing marked (from 3 (3 * (n - 1)))))))
    go true r = ap (λ m. side_at keys 0 ∷ side_at keys 1 ∷ side_at keys 2 ∷ m) r
    go false r = r

pub owned_at : (p : ℕ) (owners : List ℕ) (t : ℕ) → t < length owners → get_or (owned_by p owners) t false ≡ eqb (get_or owners t 0) p
owned_at p [] t h = absurd (omega arith)
owned_at p (o ∷ l) zero h = refl
owned_at p (o ∷ l) (suc t) h = owned_at p l t (omega arith)

-- For corners of n triangles with rule B, an owner for each.
module _ (keys : List ℕ) (n : ℕ) (whole : length keys ≡ 3 * n) (once : RuleB (triangles_of keys)) (owners : List ℕ) (fits : length owners ≡ n) (p : ℕ) where
  abbrev opposite : List ℕ
  opposite = opposites (sides_of (triangles_of keys))

  abbrev set : List Edge
  set = sides_of (triangles_owned (triangles_of keys) owners p)

  marks : length (owned_by p owners) ≡ n
  marks = length-map owners (λ o. eqb o p) ∙ fits

  -- The polygon's triangles have the reverse of a side if the triangle across is the polygon's.
  reverse_count : (k : ℕ) → k < length keys → # (flip (side_at keys k)) set ≡ bit (owns_across owners p (get_or opposite k 0))
  unfolding net
  reverse_count k h =
      omega (arith, simp zify at (share_is keys n whole once (owned_by p owners) owned k h), side_count keys n whole once (owned_by p owners) owned k h)
      ∙ go (get_or opposite k 0) refl
    where
      owned : SetOf (triangles_of keys) (owned_by p owners)
      owned = marks ∙ sym (length_triangles keys n whole)

      go : (v : ℕ) → get_or opposite k 0 ≡ v → across (owned_by p owners) v ≡ bit (owns_across owners p v)
      go zero e = refl
      go (suc o) e = ap bit (owned_at p owners (o / 3) (omega (arith, (opposite_some keys n whole k o h e).0)))

  -- A side is unmatched in them if it is not.
  unmatched_side : (k : ℕ) → k < length keys → unmatched set (side_at keys k) ≡ not (owns_across owners p (get_or opposite k 0))
  unmatched_side k h = go (owns_across owners p (get_or opposite k 0)) (reverse_count k h) (unmatched_is (side_at keys k) set)
    where
      go : (b : Bool) → # (flip (side_at keys k)) set ≡ bit b → Matching (# (flip (side_at keys k)) set) (unmatched set (side_at keys k)) → unmatched set (side_at keys k) ≡ not b
      go true e (inl r) = absurd (omega arith)
      go true e (inr r) = r.1
      go false e (inl r) = r.1
      go false e (inr r) = absurd (omega arith)

  -- The boundary sides of the polygon are those that bound it by number, in their order.
  pub by_number : boundary_sides (triangles_owned (triangles_of keys) owners p) ≡ map (side_at keys) (boundary_numbers (opposites (sides_of (triangles_of keys))) owners p)
  unfolding boundary_sides
  by_number =
      ap (passing (unmatched set)) (sides_numbered keys n whole (owned_by p owners) marks)
      ∙ passing_map (unmatched set) (side_at keys) (passing own (from 0 (3 * n)))
      ∙ ap (map (side_at keys))
      (passing_twice own (λ k. unmatched set (side_at keys k)) (from 0 (3 * n))
      ∙ passing_same (λ k. own k && unmatched set (side_at keys k)) (bounds opposite owners p) 0 (3 * n)
      (λ k g h. ap₂ ◌&&◌ (owned_at p owners (k / 3) (omega arith)) (unmatched_side k (omega arith)))
      ∙ ap (λ m. passing (bounds opposite owners p) (from 0 m)) (sym (length_opposites keys n whole ∙ whole)))
    where
      own : ℕ → Bool
      own k = get_or (owned_by p owners) (k / 3) false

-- ---- areas
-- The value z at the number o, 0 at every other.
abbrev valued : ℤ → ℕ → ℕ → ℤ
valued z o p = cond (eqb o p) z (pos 0)

valued_below : (z : ℤ) (o i m : ℕ) → o < i → sum (valued z o) (from i m) ≡ pos 0
valued_below z o i zero h = refl
valued_below z o i (suc m) h = go (eqb o i) (eqb→eq o i) (valued_below z o (suc i) m (omega arith))
  where
    go : (b : Bool) → (T b → o ≡ i) → sum (valued z o) (from (suc i) m) ≡ pos 0 → cond b z (pos 0) +ℤ sum (valued z o) (from (suc i) m) ≡ pos 0
    go true f r = absurd (omega (arith, f tt))
    go false f r = +ℤ_idl (sum (valued z o) (from (suc i) m)) ∙ r

valued_sum : (z : ℤ) (o i m : ℕ) → i ≤ o → o < i + m → sum (valued z o) (from i m) ≡ z
valued_sum z o i zero h k = absurd (omega arith)
valued_sum z o i (suc m) h k = go (eqb o i) (eqb→eq o i) (λ e. subst (λ j. T (eqb o j)) e (eqb_refl o)) (valued_sum z o (suc i) m)
  where
    go : (b : Bool) → (T b → o ≡ i) → (o ≡ i → T b) → (suc i ≤ o → o < suc i + m → sum (valued z o) (from (suc i) m) ≡ z) → cond b z (pos 0) +ℤ sum (valued z o) (from (suc i) m) ≡ z
    go true f g r = ap (λ w. z +ℤ w) (valued_below z o (suc i) m (omega (arith, f tt))) ∙ +ℤ_idr z
    go false f g r = later (dec_le (suc i) o)
      where
        later : Dec (suc i ≤ o) → pos 0 +ℤ sum (valued z o) (from (suc i) m) ≡ z
        later (yes q) = +ℤ_idl (sum (valued z o) (from (suc i) m)) ∙ r q (omega arith)
        later (no q) = absurd (g (omega arith))

sum_zero : {A : Type 0} (l : List A) → sum (λ a. pos 0) l ≡ pos 0
sum_zero [] = refl
sum_zero (a ∷ l) = +ℤ_idl (sum (λ a. pos 0) l) ∙ sum_zero l

sum_plus : {A : Type 0} (f g : A → ℤ) (l : List A) → sum (λ a. f a +ℤ g a) l ≡ sum f l +ℤ sum g l
sum_plus f g [] = refl
sum_plus f g (a ∷ l) = ap (λ w. (f a +ℤ g a) +ℤ w) (sum_plus f g l)
    ∙ solve 4 (λ a b c d. (a :+ b) :+ (c :+ d) := (a :+ c) :+ (b :+ d)) tt (f a) (g a) (sum f l) (sum g l)

sum_same : {A : Type 0} (f g : A → ℤ) → ((a : A) → f a ≡ g a) → (l : List A) → sum f l ≡ sum g l
sum_same f g h [] = refl
sum_same f g h (a ∷ l) = ap₂ (λ v w. v +ℤ w) (h a) (sum_same f g h l)

-- Where each member has an owner from 1 to m, the sums over the members of each owner add up to the sum over all.
owners_sum : {A : Type 0} (f : A → ℤ) (m : ℕ) (l : List A) (owners : List ℕ) → length owners ≡ length l → All (λ o. (1 ≤ o) × (o ≤ m)) owners
    → sum (λ p. sum f (chosen l (owned_by p owners))) (from 1 m) ≡ sum f l
owners_sum f m [] owners e h = sum_zero (from 1 m)
owners_sum f m (a ∷ l) [] e h = absurd (omega arith)
owners_sum f m (a ∷ l) (o ∷ owners) e h =
    sum_same (λ p. sum f (chosen (a ∷ l) (owned_by p (o ∷ owners)))) (λ p. valued (f a) o p +ℤ rest p) (λ p. head p (eqb o p)) (from 1 m)
    ∙ sum_plus (valued (f a) o) rest (from 1 m)
    ∙ ap₂ (λ v w. v +ℤ w) (valued_sum (f a) o 1 m h.0.0 (omega (arith, h.0.1))) (owners_sum f m l owners (omega arith) h.1)
  where
    rest : ℕ → ℤ
    rest p = sum f (chosen l (owned_by p owners))

    head : (p : ℕ) (b : Bool) → sum f (chosen (a ∷ l) (b ∷ owned_by p owners)) ≡ cond b (f a) (pos 0) +ℤ rest p
    head p true = refl
    head p false = sym (+ℤ_idl (rest p))

-- Where each triangle has an owner from 1 to m, the double areas of the m polygons add up to the double area of the table.
pub areas_after : (table : List Triangle) (owners : List ℕ) (m : ℕ) → length owners ≡ length table → All (λ o. (1 ≤ o) × (o ≤ m)) owners
    → sum (λ p. sum double (triangles_owned table owners p)) (from 1 m) ≡ sum double table
areas_after table owners m e h = owners_sum double m table owners e h

-- With rule C the triangles of the table have the double area of the frame.
pub frame_area : (table : List Triangle) → RuleC (frame_edges table) table → sum double table ≡ double_area ((rectangle (frame_of (corners table)) ∷ []) ∷ [])
unfolding double_area flat_map
frame_area table c =
    areas table (all_pieces (corners table) (frame_edges table)) c
    ∙ pieces_sum cross cross_flip cross_adds (corners table) (frame_edges table)
    ∙ ap (sum cross) (sym (append-nil (frame_edges table ++ []) ∙ append-nil (frame_edges table)))

-- With rule C the double areas of the m polygons add up to the frame's.
pub frame_after : (table : List Triangle) (owners : List ℕ) (m : ℕ) → length owners ≡ length table → All (λ o. (1 ≤ o) × (o ≤ m)) owners → RuleC (frame_edges table) table
    → sum (λ p. sum double (triangles_owned table owners p)) (from 1 m) ≡ double_area ((rectangle (frame_of (corners table)) ∷ []) ∷ [])
frame_after table owners m e h c = areas_after table owners m e h ∙ frame_area table c
