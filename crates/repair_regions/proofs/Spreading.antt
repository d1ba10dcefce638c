-- A gap taken in keeps what has been met, and what is met from a gap on is in its region. The idea: the number of marks is the number of
-- triangles in the group, so there is room as long as a triangle is unmarked. Assumes nothing.
use mathlib.Core.Path.{◌≡◌, refl, sym, ◌∙◌, ap, subst}
use mathlib.Core.Logic.{◌⊎◌, inl, inr}
use mathlib.Core.Bool.{Bool, true, false}
use mathlib.Core.List.{List, [], ◌∷◌}
use Prim.Native.Nat.{ℕ, zero, suc, ◌+◌, ◌*◌, ◌/◌, ◌≤◌, ◌<◌}
use native.Mathlib.Omega.{arith}
use native.Mathlib.Decide.{ℕ_discrete, dec_le}
use borrow.Author.Tests.{eq-eqb}
use lib.ListN.{length, get_or, set, length-set, get_or-eq_default}
use lib.Seq.{get_or-set_same, get_or-set_other}
use Rattle.whole.specs.Sums.{bit}
use Rattle.repair_regions.specs.Regions.{region}
use Rattle.repair_regions.specs.Spreading.{Paired, marked, Meeting, Taken, stays, takes, Grown, Fresh, FreshFrom, Across, Rounded, Spread, InRegion}
use Rattle.repair_regions.proofs.Regions.{region_closed, region_own, not_both}

-- ---- the number of marks
pub marked_set : (l : List Bool) (t : ℕ) → t < length l → get_or l t false ≡ false → marked (set l t true) ≡ suc (marked l)
marked_set [] t h e = absurd (omega arith)
marked_set (true ∷ l) zero h e = absurd (let z : ◌≡◌ {A = ℕ} 1 0 = ap bit e in omega arith)
marked_set (false ∷ l) zero h e = omega arith
marked_set (b ∷ l) (suc t) h e = omega (arith, marked_set l t (omega arith) e)

pub marked_most : (l : List Bool) → marked l ≤ length l
marked_most [] = omega arith
marked_most (true ∷ l) = omega (arith, marked_most l)
marked_most (false ∷ l) = omega (arith, marked_most l)

pub marked_less : (l : List Bool) (t : ℕ) → t < length l → get_or l t false ≡ false → marked l < length l
marked_less l t h e = omega (arith, marked_set l t h e, marked_most (set l t true), length-set l t true)

-- ---- one triangle more
module _ {numbers : List ℕ} {met : List Bool} {group : List ℕ} {n : ℕ} (m : Meeting numbers met group n) where
  room_for : (t : ℕ) → t < length met → get_or met t false ≡ false → n < length group
  room_for t h e = omega (arith, marked_less met t h e, m.room, m.marks, m.many)

  pub most : n ≤ length group
  most = omega (arith, marked_most met, m.room, m.marks, m.many)

  pub may_take : (u : ℕ) → u < length numbers → (u < length numbers) × (u < length met) × (get_or met u false ≡ false → n < length group)
  may_take u h = let p : u < length met = omega (arith, m.marks) in (h, p, room_for u p)

  pub grown_self : Grown numbers met group n met group n
  grown_self = record { meeting = m; more = omega arith; same = λ i h. refl; still = λ t h. h; fresh = λ j p q. absurd (omega arith) }

  -- The gap u, which is unmarked, is taken in.
  module _ (u : ℕ) (h : u < length numbers) (open-gap : get_or numbers u 0 ≡ 0) (free : get_or met u false ≡ false) where
    inside : u < length met
    inside = omega (arith, m.marks)

    space : n < length group
    space = room_for u inside free

    at_new : (i : ℕ) → i ≡ n → get_or (set group n u) i 0 ≡ u
    at_new i e = rw e (get_or-set_same group n u 0 space)

    at_old : (i : ℕ) → i < n → get_or (set group n u) i 0 ≡ get_or group i 0
    at_old i p = get_or-set_other group n i u 0 (λ e. omega arith)

    still_marked : (t : ℕ) → get_or met t false ≡ true → get_or (set met u true) t false ≡ true
    still_marked t q = go (ℕ_discrete t u)
      where
        go : Dec (t ≡ u) → get_or (set met u true) t false ≡ true
        go (yes e) = rw e (get_or-set_same met u true false inside)
        go (no e) = get_or-set_other met u t true false e ∙ q

    one_more : Grown numbers met group n (set met u true) (set group n u) (suc n)
    one_more = record {
      meeting = record {
        marks = length-set met u true ∙ m.marks;
        room = length-set group n u ∙ m.room;
        many = omega (arith, marked_set met u inside free, m.many);
        own = λ i p. own_marked i p (ℕ_discrete i n);
        by = λ t q. met_by t q (ℕ_discrete t u);
        gaps = λ t q. met_gap t q (ℕ_discrete t u);
        once = λ i j p q e. no_other i j p q e (ℕ_discrete j n);
      };
      more = omega arith;
      same = at_old;
      still = still_marked;
      fresh = λ j p q. ap (λ x. get_or met x false) (at_new j (omega arith)) ∙ free;
    }
      where
        own_marked : (i : ℕ) → i < suc n → Dec (i ≡ n) → get_or (set met u true) (get_or (set group n u) i 0) false ≡ true
        own_marked i p (yes e) = rw (at_new i e) (get_or-set_same met u true false inside)
        own_marked i p (no e) = rw (at_old i (omega arith)) (still_marked (get_or group i 0) (m.own i (omega arith)))

        met_by : (t : ℕ) → get_or (set met u true) t false ≡ true → Dec (t ≡ u) → ((i : ℕ) × (i < suc n) × (get_or (set group n u) i 0 ≡ t))
        met_by t q (yes e) = (n, omega arith, at_new n refl ∙ sym e)
        met_by t q (no e) =
            let b = m.by t (sym (get_or-set_other met u t true false e) ∙ q) in
            (b.0, omega (arith, b.1), at_old b.0 b.1 ∙ b.2)

        met_gap : (t : ℕ) → get_or (set met u true) t false ≡ true → Dec (t ≡ u) → get_or numbers t 0 ≡ 0
        met_gap t q (yes e) = rw e open-gap
        met_gap t q (no e) = m.gaps t (sym (get_or-set_other met u t true false e) ∙ q)

        -- What stood in the group is marked, and u is not.
        no_other : (i j : ℕ) → i < j → j < suc n → get_or (set group n u) i 0 ≡ get_or (set group n u) j 0 → Dec (j ≡ n) → ⊥
        no_other i j p q e (yes s) =
            not_both (get_or met u false) free (subst (λ t. get_or met t false ≡ true) (sym (at_old i (omega arith)) ∙ e ∙ at_new j s) (m.own i (omega arith)))
        no_other i j p q e (no s) = m.once i j p (omega arith) (sym (at_old i (omega arith)) ∙ e ∙ at_old j (omega arith))

    new_marked : get_or (set met u true) u false ≡ true
    new_marked = get_or-set_same met u true false inside

    -- Only u is marked since.
    only_new : (v : ℕ) → get_or (set met u true) v false ≡ true → (get_or met v false ≡ true) ⊎ (u ≡ v)
    only_new v q = go (ℕ_discrete v u)
      where
        go : Dec (v ≡ u) → (get_or met v false ≡ true) ⊎ (u ≡ v)
        go (yes e) = inr (sym e)
        go (no e) = inl (sym (get_or-set_other met u v true false e) ∙ q)

  -- A triangle that may be taken in is marked afterwards if it is a gap; what is marked since is that one.
  pub taken_in : (u : ℕ) → u < length numbers → {met' : List Bool} {group' : List ℕ} {n' : ℕ} → Taken numbers u met group n met' group' n'
      → Grown numbers met group n met' group' n' × (get_or numbers u 0 ≡ 0 → get_or met' u false ≡ true)
      × ((v : ℕ) → get_or met' v false ≡ true → (get_or met v false ≡ true) ⊎ ((u ≡ v) × (get_or numbers u 0 ≡ 0)))
  taken_in u h (stays e p q r) = rw (p, q, r) (grown_self, e, λ v q. inl q)
  taken_in u h (takes g e p q r) = rw (p, q, r) (one_more u h g e, λ z. new_marked u h g e, λ v w. go v (only_new u h g e v w))
    where
      go : (v : ℕ) → (get_or met v false ≡ true) ⊎ (u ≡ v) → (get_or met v false ≡ true) ⊎ ((u ≡ v) × (get_or numbers u 0 ≡ 0))
      go v (inl x) = inl x
      go v (inr x) = inr (x, g)

  -- The gap across side k is met.
  pub crossed : (opposite : List ℕ) → Paired opposite (length numbers) → (k o : ℕ) → get_or opposite k 0 ≡ suc o
      → {met' : List Bool} {group' : List ℕ} {n' : ℕ} → Taken numbers (o / 3) met group n met' group' n'
      → Grown numbers met group n met' group' n' × Across opposite numbers met' k × FreshFrom opposite numbers met met' (k / 3)
  crossed opposite pairs k o e {met'} {group'} {n'} taken = (s.0, across, fresh)
    where
      s : Grown numbers met group n met' group' n' × (get_or numbers (o / 3) 0 ≡ 0 → get_or met' (o / 3) false ≡ true)
          × ((v : ℕ) → get_or met' v false ≡ true → (get_or met v false ≡ true) ⊎ ((o / 3 ≡ v) × (get_or numbers (o / 3) 0 ≡ 0)))
      s = taken_in (o / 3) (omega (arith, pairs.sides, pairs.there k o e)) taken

      across : Across opposite numbers met' k
      across = record {
        at = λ p q g.
            let y : o ≡ p = cc in
            let z : o / 3 ≡ p / 3 = ap (λ x. x / 3) y in
            subst (λ x. get_or met' x false ≡ true) z (s.1 (ap (λ x. get_or numbers x 0) z ∙ g));
      }

      fresh : FreshFrom opposite numbers met met' (k / 3)
      fresh t within has = record { since = λ v w. go v (s.2 v w) }
        where
          go : (v : ℕ) → (get_or met v false ≡ true) ⊎ ((o / 3 ≡ v) × (get_or numbers (o / 3) 0 ≡ 0)) → (get_or met v false ≡ true) ⊎ (get_or (region opposite numbers t) v false ≡ true)
          go v (inl x) = inl x
          go v (inr x) = inr (subst (λ y. get_or (region opposite numbers t) y false ≡ true) x.0
              (region_closed opposite numbers pairs t within (k / 3) k o has refl e (eq-eqb (get_or numbers (o / 3) 0) 0 x.1)))

-- What grows twice has grown.
pub grown_more : {numbers : List ℕ} {met met' met'' : List Bool} {group group' group'' : List ℕ} {n n' n'' : ℕ}
    → Grown numbers met group n met' group' n' → Grown numbers met' group' n' met'' group'' n'' → Grown numbers met group n met'' group'' n''
grown_more {met = met} {met' = met'} {group' = group'} {group'' = group''} {n = n} {n' = n'} {n'' = n''} f g = record {
  meeting = g.meeting;
  more = omega (arith, f.more, g.more);
  same = λ i h. g.same i (omega (arith, f.more)) ∙ f.same i h;
  still = λ t h. g.still t (f.still t h);
  fresh = λ j p q. go j p q (dec_le n' j);
}
  where
    unmarked : (t : ℕ) (b : Bool) → get_or met t false ≡ b → get_or met' t false ≡ false → b ≡ false
    unmarked t true e h = sym (f.still t e) ∙ h
    unmarked t false e h = refl

    go : (j : ℕ) → n ≤ j → j < n'' → Dec (n' ≤ j) → get_or met (get_or group'' j 0) false ≡ false
    go j p q (yes r) = unmarked (get_or group'' j 0) (get_or met (get_or group'' j 0) false) refl (g.fresh j r q)
    go j p q (no r) = ap (λ x. get_or met x false) (g.same j (omega arith)) ∙ f.fresh j p (omega arith)

pub fresh_more : {opposite numbers : List ℕ} {met met' met'' : List Bool} (t : ℕ) → Fresh opposite numbers met met' t → Fresh opposite numbers met' met'' t → Fresh opposite numbers met met'' t
fresh_more {opposite} {numbers} {met} {met'} t f g = record { since = λ u h. go u (g.since u h) }
  where
    go : (u : ℕ) → (get_or met' u false ≡ true) ⊎ (get_or (region opposite numbers t) u false ≡ true) → (get_or met u false ≡ true) ⊎ (get_or (region opposite numbers t) u false ≡ true)
    go u (inl x) = f.since u x
    go u (inr x) = inr x

pub across_still : {opposite numbers : List ℕ} {met met' : List Bool} {group group' : List ℕ} {n n' : ℕ} → Grown numbers met group n met' group' n' → (k : ℕ)
    → Across opposite numbers met k → Across opposite numbers met' k
across_still g k a = record { at = λ o e z. g.still (o / 3) (a.at o e z) }

pub rounded : (opposite numbers : List ℕ) (met : List Bool) (u : ℕ) → Across opposite numbers met (3 * u) → Across opposite numbers met (3 * u + 1)
    → Across opposite numbers met (3 * u + 2) → Rounded opposite numbers met u
rounded opposite numbers met u a b c k e = go (ℕ_discrete k (3 * u)) (ℕ_discrete k (3 * u + 1))
  where
    go : Dec (k ≡ 3 * u) → Dec (k ≡ 3 * u + 1) → Across opposite numbers met k
    go (yes p) d = subst (λ x. Across opposite numbers met x) (sym p) a
    go (no p) (yes q) = subst (λ x. Across opposite numbers met x) (sym q) b
    go (no p) (no q) = subst (λ x. Across opposite numbers met x) (let z : 3 * u + 2 ≡ k = omega arith in z) c

-- The first i triangles are spread from, and the next one.
pub spread_one : {opposite numbers : List ℕ} {met met' : List Bool} {group group' : List ℕ} {n n' : ℕ} → Grown numbers met group n met' group' n' → (i : ℕ) → i < n
    → Spread opposite numbers met group i → Rounded opposite numbers met' (get_or group i 0) → Spread opposite numbers met' group' (i + 1)
spread_one {opposite} {numbers} {met} {met'} {group} {group'} g i h s r j p = go (ℕ_discrete j i)
  where
    go : Dec (j ≡ i) → Rounded opposite numbers met' (get_or group' j 0)
    go (yes e) = rw (e, g.same i h) r
    go (no e) = rw (g.same j (omega arith)) (λ k q. across_still g k (s j (omega arith) k q))

pub spread_still : {opposite numbers : List ℕ} {met met' : List Bool} {group group' : List ℕ} {n n' : ℕ} → Grown numbers met group n met' group' n'
    → Spread opposite numbers met group n → Spread opposite numbers met' group' n
spread_still g s j p = rw (g.same j p) (λ k q. across_still g k (s j p k q))

-- What is marked since a side of triangle u was crossed is in each region that has u.
pub fresh_side : {opposite numbers : List ℕ} {met met' : List Bool} (k u : ℕ) → k / 3 ≡ u → FreshFrom opposite numbers met met' (k / 3) → FreshFrom opposite numbers met met' u
fresh_side {opposite} {numbers} {met} {met'} k u e f = subst (λ x. FreshFrom opposite numbers met met' x) e f

-- A triangle met is one of the table.
pub in_table : {numbers : List ℕ} {met : List Bool} {group : List ℕ} {n : ℕ} → Meeting numbers met group n → (u : ℕ) → get_or met u false ≡ true → u < length numbers
in_table {numbers} {met} m u h = go (dec_le (length numbers) u)
  where
    go : Dec (length numbers ≤ u) → u < length numbers
    go (yes p) = absurd (let e : get_or met u false ≡ false = get_or-eq_default met false (omega (arith, m.marks)) in let z : ◌≡◌ {A = ℕ} 0 1 = ap bit (sym e ∙ h) in omega arith)
    go (no p) = omega arith

-- What stands in the group since is in the region of t.
pub in_region : {opposite numbers : List ℕ} {met met' : List Bool} {group group' : List ℕ} {n n' : ℕ} (t : ℕ) → Grown numbers met group n met' group' n'
    → Fresh opposite numbers met met' t → (i : ℕ) → n ≤ i → i < n' → get_or (region opposite numbers t) (get_or group' i 0) false ≡ true
in_region {opposite} {numbers} {met} {met'} {group} {group'} t g f i p q = go (f.since (get_or group' i 0) (g.meeting.own i q))
  where
    go : (get_or met (get_or group' i 0) false ≡ true) ⊎ (get_or (region opposite numbers t) (get_or group' i 0) false ≡ true) → get_or (region opposite numbers t) (get_or group' i 0) false ≡ true
    go (inl x) = absurd (let z : ◌≡◌ {A = ℕ} 0 1 = ap bit (sym (g.fresh i p q) ∙ x) in omega arith)
    go (inr x) = x

-- The first triangle of a region is taken in.
pub starts_with : (opposite : List ℕ) {numbers : List ℕ} {met : List Bool} {group : List ℕ} {n : ℕ} → Paired opposite (length numbers) → Meeting numbers met group n
    → Spread opposite numbers met group n → (t : ℕ) → t < length numbers → {met' : List Bool} {group' : List ℕ} {n' : ℕ} → Taken numbers t met group n met' group' n'
    → Grown numbers met group n met' group' n' × Spread opposite numbers met' group' n × Fresh opposite numbers met met' t × (get_or numbers t 0 ≡ 0 → get_or met' t false ≡ true)
starts_with opposite {numbers} {met} pairs m s t h taken =
    let k = taken_in m t h taken in
    (k.0, spread_still k.0 s, record { since = λ v w. go v (k.2 v w) }, k.1)
  where
    go : (v : ℕ) → (get_or met v false ≡ true) ⊎ ((t ≡ v) × (get_or numbers t 0 ≡ 0)) → (get_or met v false ≡ true) ⊎ (get_or (region opposite numbers t) v false ≡ true)
    go v (inl x) = inl x
    go v (inr x) = inr (subst (λ y. get_or (region opposite numbers t) y false ≡ true) x.0 (region_own opposite numbers pairs t h))

-- What was in the region of t in the group, and what stands there since, is.
pub all_in_region : {opposite numbers : List ℕ} {met met' : List Bool} {group group' : List ℕ} {n n' : ℕ} (t first : ℕ) → Grown numbers met group n met' group' n'
    → Fresh opposite numbers met met' t → InRegion opposite numbers group t first n → InRegion opposite numbers group' t first n'
all_in_region {opposite} {numbers} {met} {met'} {group} {group'} {n} {n'} t first g f r j p q = go (dec_le n j)
  where
    go : Dec (n ≤ j) → get_or (region opposite numbers t) (get_or group' j 0) false ≡ true
    go (yes h) = in_region t g f j h q
    go (no h) = rw (g.same j (omega arith)) (r j p (omega arith))

pub fresh_self : (opposite numbers : List ℕ) (met : List Bool) (t : ℕ) → Fresh opposite numbers met met t
fresh_self opposite numbers met t = record { since = λ u h. inl h }
