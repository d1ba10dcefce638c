-- Gap regions: the region of a triangle has exactly the triangles joined with it through shared sides of gap triangles, so that it is one
-- list for all its triangles.
-- The idea: a round that adds nothing ends the growth, and each other one adds a mark, so that as many rounds as triangles are enough. Assumes nothing.
use mathlib.Core.Path.{◌≡◌, refl, sym, ◌∙◌, ap, subst}
use mathlib.Core.Logic.{◌↔◌, ◌⊎◌, inl, inr}
use mathlib.Core.Bool.{Bool, true, false, ◌&&◌, ◌||◌}
use mathlib.Core.List.{List, [], ◌∷◌, map}
use Prim.Native.Nat.{ℕ, zero, suc, ◌+◌, ◌*◌, ◌-◌, ◌/◌, ◌≤◌, ◌<◌}
use native.Mathlib.Omega.{arith}
use borrow.Author.Tests.{ltb-true, ltb-false, eqb-true, eqb-false}
use lib.Dec.{eqb, ltb}
use lib.ListN.{length, get_or, replicate, set, length-map, length-set, length-replicate, get_or-eq_default, get_or-replicate}
use lib.Seq.{get_or-set_same, get_or-set_other, ext_get_or}
use Rattle.repair_regions.specs.Spreading.{Paired}
use Rattle.repair_regions.specs.Regions.{from, gap, in_group, touches, joined, rounds, region, Joined, step, self}

-- ---- the numbers from i on
pub length_from : (i n : ℕ) → length (from i n) ≡ n
length_from i zero = refl
length_from i (suc n) = ap suc (length_from (suc i) n)

module _ {A : Type 0} (f : ℕ → A) where
  pub length_map_from : (i n : ℕ) → length (map f (from i n)) ≡ n
  length_map_from i n = length-map (from i n) f ∙ length_from i n

  map_from : (i n j : ℕ) (d : A) → j < n → get_or (map f (from i n)) j d ≡ f (i + j)
  map_from i zero j d h = absurd (omega arith)
  map_from i (suc n) zero d h = let e : i ≡ i + 0 = omega arith in ap f e
  map_from i (suc n) (suc j) d h = let e : suc i + j ≡ i + suc j = omega arith in map_from (suc i) n j d (omega arith) ∙ ap f e

  pub map_from_at : (n j : ℕ) (d : A) → j < n → get_or (map f (from 0 n)) j d ≡ f j
  map_from_at n j d h = let e : 0 + j ≡ j = omega arith in map_from 0 n j d h ∙ ap f e

-- ---- marks
-- How many marks are set.
abbrev count : List Bool → ℕ
count [] = 0
count (true ∷ l) = suc (count l)
count (false ∷ l) = count l

count_length : (l : List Bool) → count l ≤ length l
count_length [] = omega arith
count_length (true ∷ l) = omega (arith, count_length l)
count_length (false ∷ l) = omega (arith, count_length l)

pub not_both : (b : Bool) → b ≡ false → b ≡ true → ⊥
not_both b e f = let z : ◌≡◌ {A = ℕ} 0 1 = cc in omega arith

count_some : (l : List Bool) (i : ℕ) → get_or l i false ≡ true → 1 ≤ count l
count_some [] i h = absurd (not_both false refl h)
count_some (true ∷ l) i h = omega arith
count_some (false ∷ l) zero h = absurd (not_both false refl h)
count_some (false ∷ l) (suc i) h = count_some l i h

-- Marks that keep all of some others are those, or more.
grows : (a b : List Bool) → length a ≡ length b → ((i : ℕ) → get_or a i false ≡ true → get_or b i false ≡ true) → (b ≡ a) ⊎ (count a < count b)
grows [] [] e h = inl refl
grows [] (y ∷ b) e h = absurd (omega arith)
grows (x ∷ a) [] e h = absurd (omega arith)
grows (x ∷ a) (y ∷ b) e h = go x y (h 0) (grows a b (omega arith) (λ i. h (suc i)))
  where
    go : (x y : Bool) → (x ≡ true → y ≡ true) → (b ≡ a) ⊎ (count a < count b) → (y ∷ b ≡ x ∷ a) ⊎ (count (x ∷ a) < count (y ∷ b))
    go true true k (inl s) = inl (ap (λ l. true ∷ l) s)
    go true true k (inr m) = inr (omega arith)
    go true false k r = absurd (not_both false refl (k refl))
    go false true k (inl s) = inr (omega (arith, ap count s))
    go false true k (inr m) = inr (omega arith)
    go false false k (inl s) = inl (ap (λ l. false ∷ l) s)
    go false false k (inr m) = inr m

-- ---- tests
or_left : (b c : Bool) → b ≡ true → b || c ≡ true
or_left b c e = rw e

or_right : (b c : Bool) → c ≡ true → b || c ≡ true
or_right true c e = refl
or_right false c e = e

or_one : (b c : Bool) → b || c ≡ true → (b ≡ true) ⊎ (c ≡ true)
or_one true c e = inl refl
or_one false c e = inr e

and_one : (b c : Bool) → b && c ≡ true → (b ≡ true) × (c ≡ true)
and_one true c e = (refl, e)
and_one false c e = absurd (not_both false refl e)

and_two : (b c : Bool) → b ≡ true → c ≡ true → b && c ≡ true
and_two b c e f = rw (e, f)

-- A test that is not passed,
pub failed : (b : Bool) → (b ≡ true → ⊥) → b ≡ false
failed true h = absurd (h refl)
failed false h = refl

-- and two that are passed alike.
pub same_test : (b c : Bool) → (b ≡ true → c ≡ true) → (c ≡ true → b ≡ true) → b ≡ c
same_test true c f g = sym (f refl)
same_test false true f g = g refl
same_test false false f g = refl

module _ (opposite numbers : List ℕ) where
  pub joined_trans : {t u v : ℕ} → Joined opposite numbers t u → Joined opposite numbers u v → Joined opposite numbers t v
  joined_trans i self = i
  joined_trans i (step k o j e g s) = step k o (joined_trans i j) e g s

  -- What is joined with a gap is a gap.
  pub joined_gap : {t u : ℕ} → gap opposite numbers t ≡ true → Joined opposite numbers t u → gap opposite numbers u ≡ true
  joined_gap h self = h
  joined_gap h (step k o j e g s) = subst (λ u. gap opposite numbers u ≡ true) s g

  -- The marks after one round.
  joined_at : (group : List Bool) (u : ℕ) → u < length numbers → get_or (joined opposite numbers group) u false ≡ get_or group u false || (gap opposite numbers u && touches opposite numbers group u)
  joined_at group u h = map_from_at (λ t. get_or group t false || (gap opposite numbers t && touches opposite numbers group t)) (length numbers) u false h

  length_joined : (group : List Bool) → length (joined opposite numbers group) ≡ length numbers
  length_joined group = length_map_from (λ t. get_or group t false || (gap opposite numbers t && touches opposite numbers group t)) 0 (length numbers)

  length_rounds : (n : ℕ) (group : List Bool) → length group ≡ length numbers → length (rounds opposite numbers n group) ≡ length numbers
  length_rounds zero group e = e
  length_rounds (suc n) group e = length_rounds n (joined opposite numbers group) (length_joined group)

  -- A mark stands at a triangle of the table.
  marked_within : (group : List Bool) (u : ℕ) → length group ≡ length numbers → get_or group u false ≡ true → u < length numbers
  marked_within group u e h = go (ltb u (length numbers)) refl
    where
      go : (b : Bool) → ltb u (length numbers) ≡ b → u < length numbers
      go true l = ltb-true u (length numbers) l
      go false l =
          let out : length group ≤ u = omega (arith, ltb-false u (length numbers) l) in
          absurd (not_both (get_or group u false) (get_or-eq_default group false out) h)

  -- A round keeps the marks.
  round_keeps : (group : List Bool) (u : ℕ) → length group ≡ length numbers → get_or group u false ≡ true → get_or (joined opposite numbers group) u false ≡ true
  round_keeps group u e h = joined_at group u (marked_within group u e h) ∙ or_left (get_or group u false) (gap opposite numbers u && touches opposite numbers group u) h

  rounds_keep : (n : ℕ) (group : List Bool) (u : ℕ) → length group ≡ length numbers → get_or group u false ≡ true → get_or (rounds opposite numbers n group) u false ≡ true
  rounds_keep zero group u e h = h
  rounds_keep (suc n) group u e h = rounds_keep n (joined opposite numbers group) u (length_joined group) (round_keeps group u e h)

  -- A round that adds nothing ends the growth.
  rounds_same : (n : ℕ) (group : List Bool) → joined opposite numbers group ≡ group → rounds opposite numbers n group ≡ group
  rounds_same zero group s = refl
  rounds_same (suc n) group s = ap (rounds opposite numbers n) s ∙ rounds_same n group s

  -- So many rounds end the growth, or add so many marks.
  rounds_grow : (n : ℕ) (group : List Bool) → length group ≡ length numbers
      → (joined opposite numbers (rounds opposite numbers n group) ≡ rounds opposite numbers n group) ⊎ (n + count group ≤ count (rounds opposite numbers n group))
  rounds_grow zero group e = inr (omega arith)
  rounds_grow (suc n) group e =
      go (grows group (joined opposite numbers group) (e ∙ sym (length_joined group)) (λ u. round_keeps group u e)) (rounds_grow n (joined opposite numbers group) (length_joined group))
    where
      go : (joined opposite numbers group ≡ group) ⊎ (count group < count (joined opposite numbers group))
          → (joined opposite numbers (rounds opposite numbers n (joined opposite numbers group)) ≡ rounds opposite numbers n (joined opposite numbers group))
          ⊎ (n + count (joined opposite numbers group) ≤ count (rounds opposite numbers n (joined opposite numbers group)))
          → (joined opposite numbers (rounds opposite numbers n (joined opposite numbers group)) ≡ rounds opposite numbers n (joined opposite numbers group))
          ⊎ (suc n + count group ≤ count (rounds opposite numbers n (joined opposite numbers group)))
      go r (inl s) = inl s
      go (inl s) (inr m) =
          let same : rounds opposite numbers n (joined opposite numbers group) ≡ group = rounds_same (suc n) group s in
          inl (subst (λ l. joined opposite numbers l ≡ l) (sym same) s)
      go (inr l) (inr m) = inr (omega arith)

  -- A triangle touches a group only if a triangle of the group is across one of its sides,
  touched : (group : List Bool) (u : ℕ) → touches opposite numbers group u ≡ true
      → (k : ℕ) × (o : ℕ) × (k / 3 ≡ u) × (get_or opposite k 0 ≡ suc o) × (get_or group (o / 3) false ≡ true)
  touched group u h = go (or_one (at (3 * u) || at (3 * u + 1)) (at (3 * u + 2)) h)
    where
      at : ℕ → Bool
      at k = in_group opposite numbers group (get_or opposite k 0)

      found : (k : ℕ) → k / 3 ≡ u → (x : ℕ) → get_or opposite k 0 ≡ x → in_group opposite numbers group x ≡ true
          → (k : ℕ) × (o : ℕ) × (k / 3 ≡ u) × (get_or opposite k 0 ≡ suc o) × (get_or group (o / 3) false ≡ true)
      found k d zero e i = absurd (not_both false refl i)
      found k d (suc o) e i = (k, o, d, e, i)

      first : (at (3 * u) ≡ true) ⊎ (at (3 * u + 1) ≡ true) → (k : ℕ) × (o : ℕ) × (k / 3 ≡ u) × (get_or opposite k 0 ≡ suc o) × (get_or group (o / 3) false ≡ true)
      first (inl i) = found (3 * u) (omega arith) (get_or opposite (3 * u) 0) refl i
      first (inr i) = found (3 * u + 1) (omega arith) (get_or opposite (3 * u + 1) 0) refl i

      go : (at (3 * u) || at (3 * u + 1) ≡ true) ⊎ (at (3 * u + 2) ≡ true) → (k : ℕ) × (o : ℕ) × (k / 3 ≡ u) × (get_or opposite k 0 ≡ suc o) × (get_or group (o / 3) false ≡ true)
      go (inl i) = first (or_one (at (3 * u)) (at (3 * u + 1)) i)
      go (inr i) = found (3 * u + 2) (omega arith) (get_or opposite (3 * u + 2) 0) refl i

  -- and if one is.
  touching : (group : List Bool) (u k o : ℕ) → k / 3 ≡ u → get_or opposite k 0 ≡ suc o → get_or group (o / 3) false ≡ true → touches opposite numbers group u ≡ true
  touching group u k o d e g = go (k - 3 * u) (omega arith) (subst (λ x. in_group opposite numbers group x ≡ true) (sym e) g)
    where
      at : ℕ → Bool
      at k = in_group opposite numbers group (get_or opposite k 0)

      go : (r : ℕ) → k ≡ 3 * u + r → at k ≡ true → at (3 * u) || at (3 * u + 1) || at (3 * u + 2) ≡ true
      go zero p i =
          let q : k ≡ 3 * u = omega arith in
          or_left (at (3 * u) || at (3 * u + 1)) (at (3 * u + 2)) (or_left (at (3 * u)) (at (3 * u + 1)) (subst (λ k. at k ≡ true) q i))
      go (suc zero) p i = or_left (at (3 * u) || at (3 * u + 1)) (at (3 * u + 2)) (or_right (at (3 * u)) (at (3 * u + 1)) (subst (λ k. at k ≡ true) p i))
      go (suc (suc zero)) p i = or_right (at (3 * u) || at (3 * u + 1)) (at (3 * u + 2)) (subst (λ k. at k ≡ true) p i)
      go (suc (suc (suc r))) p i = absurd (omega arith)

  length_start : (t : ℕ) → length (set (replicate (length numbers) false) t true) ≡ length numbers
  length_start t = length-set (replicate (length numbers) false) t true ∙ length-replicate (length numbers) false

  -- A region has a mark for each triangle of the table.
  pub region_length : (t : ℕ) → length (region opposite numbers t) ≡ length numbers
  region_length t = length_rounds (length numbers) (set (replicate (length numbers) false) t true) (length_start t)

  module _ (paired : Paired opposite (length numbers)) where
    -- What is joined with a gap has the gap joined with it.
    pub joined_sym : {t u : ℕ} → gap opposite numbers t ≡ true → Joined opposite numbers t u → Joined opposite numbers u t
    joined_sym h self = self
    joined_sym {t} {u} h (step k o j e g s) =
        let one : Joined opposite numbers (o / 3) (k / 3) = step o k self (paired.back k o e) (joined_gap h j) refl in
        subst (λ u. Joined opposite numbers u t) s (joined_trans one (joined_sym h j))

    -- What is joined with a triangle of the table is one.
    pub joined_within : {t u : ℕ} → t < length numbers → Joined opposite numbers t u → u < length numbers
    joined_within h self = h
    joined_within h (step k o j e g s) = omega (arith, paired.there k o e, paired.sides)

    -- Only what is joined with t gets a mark in a round, if that is so before it,
    round_sound : (t : ℕ) (group : List Bool) → ((u : ℕ) → get_or group u false ≡ true → Joined opposite numbers t u)
        → (u : ℕ) → get_or (joined opposite numbers group) u false ≡ true → Joined opposite numbers t u
    round_sound t group s u h = go (or_one (get_or group u false) (gap opposite numbers u && touches opposite numbers group u) (sym (joined_at group u within) ∙ h))
      where
        within : u < length numbers
        within = marked_within (joined opposite numbers group) u (length_joined group) h

        go : (get_or group u false ≡ true) ⊎ (gap opposite numbers u && touches opposite numbers group u ≡ true) → Joined opposite numbers t u
        go (inl g) = s u g
        go (inr b) =
            let both = and_one (gap opposite numbers u) (touches opposite numbers group u) b in
            let f = touched group u both.1 in
            step f.1 f.0 (s (f.1 / 3) f.4) (paired.back f.0 f.1 f.3) (subst (λ u. gap opposite numbers u ≡ true) (sym f.2) both.0) f.2

    rounds_sound : (t n : ℕ) (group : List Bool) → ((u : ℕ) → get_or group u false ≡ true → Joined opposite numbers t u)
        → (u : ℕ) → get_or (rounds opposite numbers n group) u false ≡ true → Joined opposite numbers t u
    rounds_sound t zero group s = s
    rounds_sound t (suc n) group s = rounds_sound t n (joined opposite numbers group) (round_sound t group s)

    -- and at the start t alone has one.
    start_sound : (t u : ℕ) → get_or (set (replicate (length numbers) false) t true) u false ≡ true → Joined opposite numbers t u
    start_sound t u h = go (eqb u t) refl
      where
        go : (b : Bool) → eqb u t ≡ b → Joined opposite numbers t u
        go true e = subst (λ v. Joined opposite numbers t v) (sym (eqb-true u t e)) self
        go false e =
            let within = marked_within (set (replicate (length numbers) false) t true) u (length_start t) h in
            let kept = get_or-set_other (replicate (length numbers) false) t u true false (eqb-false u t e) in
            absurd (not_both (get_or (replicate (length numbers) false) u false) (get_or-replicate (length numbers) u false false within) (sym kept ∙ h))

    module _ (t : ℕ) (within : t < length numbers) where
      start_has : get_or (set (replicate (length numbers) false) t true) t false ≡ true
      start_has = get_or-set_same (replicate (length numbers) false) t true false (omega (arith, length-replicate (length numbers) false))

      -- As many rounds as triangles are enough.
      pub region_ends : joined opposite numbers (region opposite numbers t) ≡ region opposite numbers t
      region_ends = go (rounds_grow (length numbers) (set (replicate (length numbers) false) t true) (length_start t))
        where
          go : (joined opposite numbers (region opposite numbers t) ≡ region opposite numbers t)
              ⊎ (length numbers + count (set (replicate (length numbers) false) t true) ≤ count (region opposite numbers t))
              → joined opposite numbers (region opposite numbers t) ≡ region opposite numbers t
          go (inl s) = s
          go (inr m) = absurd (omega (arith, count_some (set (replicate (length numbers) false) t true) t start_has, count_length (region opposite numbers t), region_length t))

      -- A gap across a side of the region is in the region,
      pub region_closed : (u k o : ℕ) → get_or (region opposite numbers t) u false ≡ true → k / 3 ≡ u → get_or opposite k 0 ≡ suc o → gap opposite numbers (o / 3) ≡ true
          → get_or (region opposite numbers t) (o / 3) false ≡ true
      region_closed u k o h d e g =
          let in_table : o / 3 < length numbers = omega (arith, paired.there k o e, paired.sides) in
          let near : get_or (region opposite numbers t) (k / 3) false ≡ true = subst (λ u. get_or (region opposite numbers t) u false ≡ true) (sym d) h in
          let touch = touching (region opposite numbers t) (o / 3) o k refl (paired.back k o e) near in
          let both = and_two (gap opposite numbers (o / 3)) (touches opposite numbers (region opposite numbers t) (o / 3)) g touch in
          subst (λ l. get_or l (o / 3) false ≡ true) region_ends
          (joined_at (region opposite numbers t) (o / 3) in_table ∙ or_right (get_or (region opposite numbers t) (o / 3) false) _ both)

      -- and t is,
      pub region_own : get_or (region opposite numbers t) t false ≡ true
      region_own = rounds_keep (length numbers) (set (replicate (length numbers) false) t true) t (length_start t) start_has

      region_full : {u : ℕ} → Joined opposite numbers t u → get_or (region opposite numbers t) u false ≡ true
      region_full self = region_own
      region_full (step k o j e g s) = subst (λ u. get_or (region opposite numbers t) u false ≡ true) s (region_closed (k / 3) k o (region_full j) refl e g)

      -- so that the region has exactly the triangles joined with t.
      pub region_has : (u : ℕ) → (get_or (region opposite numbers t) u false ≡ true) ↔ ((u < length numbers) × Joined opposite numbers t u)
      region_has u = (
        λ h. (
          marked_within (region opposite numbers t) u (region_length t) h,
          rounds_sound t (length numbers) (set (replicate (length numbers) false) t true) (start_sound t) u h,
        ),
        λ h. region_full h.1,
      )

    -- The region of a gap is that of each of its triangles.
    pub region_same : (t u : ℕ) → t < length numbers → gap opposite numbers t ≡ true → get_or (region opposite numbers t) u false ≡ true
        → region opposite numbers u ≡ region opposite numbers t
    region_same t u within g h =
        ext_get_or false (region opposite numbers u) (region opposite numbers t) (region_length u ∙ sym (region_length t)) (
        λ i l. same_test (get_or (region opposite numbers u) i false) (get_or (region opposite numbers t) i false) (there i) (here i)
        )
      where
        reached : (u < length numbers) × Joined opposite numbers t u
        reached = (region_has t within u).0 h

        there : (i : ℕ) → get_or (region opposite numbers u) i false ≡ true → get_or (region opposite numbers t) i false ≡ true
        there i r = let f = (region_has u reached.0 i).0 r in (region_has t within i).1 (f.0, joined_trans reached.1 f.1)

        here : (i : ℕ) → get_or (region opposite numbers t) i false ≡ true → get_or (region opposite numbers u) i false ≡ true
        here i r = let f = (region_has t within i).0 r in (region_has u reached.0 i).1 (f.0, joined_trans (joined_sym g reached.1) f.1)
