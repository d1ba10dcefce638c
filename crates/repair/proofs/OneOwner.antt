-- Repair gives each triangle of a table exactly one owner, as laid down, whatever the choice for a region is; by the largest number, and by the longest shared boundary, there
-- is one such answer only. It is refused exactly where no triangle has an owner, or a gap region has none across its sides.
-- The idea: a gap region with nothing owned across its sides is closed under going across sides, so that in a connected table it has all
-- triangles; where one triangle has an owner there is none such. Assumes nothing.
use mathlib.Core.Path.{◌≡◌, refl, sym, ◌∙◌, ap, ap₂, subst}
use mathlib.Core.Logic.{◌↔◌, ◌⊎◌, inl, inr}
use mathlib.Core.Bool.{Bool, true, false, not, cond}
use mathlib.Core.List.{List, [], ◌∷◌}
use mathlib.Core.Option.{Option, none, some}
use Prim.Native.Nat.{ℕ, zero, suc, ◌+◌, ◌*◌, ◌/◌, ◌≤◌, ◌<◌}
use native.Mathlib.Omega.{arith}
use native.Mathlib.Decide.{dec_le}
use borrow.Author.Tests.{eqb-true, eqb-false, eq-eqb, ne_eqb}
use lib.Dec.{eqb, eqb→eq, eqb_refl}
use lib.ListN.{length, get_or, length-map, get_or-eq_default}
use lib.Seq.{ext_get_or}
use Rattle.whole.specs.Sums.{All, Among, every, bit, count}
use Rattle.whole.proofs.Sums.{all_at, counted}
use Rattle.lent.specs.Stages.{Answer, value, refused, and_then, needing, faultless}
use Rattle.plane.specs.Points.{flip, same_edge}
use Rattle.plane.specs.Boundaries.{sides_of}
use Rattle.table.specs.Table.{frame_edges, RuleA, RuleB, RuleC, first_fault}
use Rattle.table.specs.Sets.{SetOf, chosen}
use Rattle.table.specs.Sides.{Closed, triangles_of}
use Rattle.table.specs.Opposites.{opposites}
use Rattle.table.proofs.Shares.{length_triangles, length_opposites, among_side, opposite_some, opposite_is, fewer_sides, side_count}
use Rattle.table.proofs.Connected.{connected}
use Rattle.owners_marks.specs.Marks.{standing_by}
use Rattle.owners_marks.specs.Listed.{Ascending, OwnersListed}
use Rattle.owners_marks.proofs.Owners.{all_there}
use Rattle.repair_regions.specs.Regions.{gap, region, Joined}
use Rattle.repair_regions.specs.Spreading.{Paired}
use Rattle.repair_regions.proofs.Regions.{map_from_at, length_map_from, joined_gap, joined_within, region_own, region_closed, region_has, region_same, region_length, not_both}
use Rattle.repair_choices.specs.Choices.{Choice, beyond, sides_in, largest, touched, shared, longest, choice_by}
use Rattle.repair_choices.specs.Choosing.{FoundAcross, Chooses, In, Favoured}
use Rattle.repair_choices.proofs.Largest.{side_of, largest_above, largest_chooses}
use Rattle.repair_choices.proofs.Longest.{touched_is, favoured_is, longest_chooses, shared_some}
use Rattle.repair.specs.Repair.{settled_by, settled, owner_of, numbers_given, ungiven, repaired}
use Rattle.repair.specs.OneOwner.{owners_at, FoundFor, OneOwner, LargestThere, shared_with, LongestThere, ChosenThere}
use Rattle.repair.specs.Alone.{Alone, SomeOwner, FirstAlone}

-- A side that has something across it is one of the list.
has_side : (opposite : List ℕ) (k o : ℕ) → get_or opposite k 0 ≡ suc o → k < length opposite
has_side opposite k o e = go (dec_le (suc k) (length opposite))
  where
    go : Dec (suc k ≤ length opposite) → k < length opposite
    go (yes h) = h
    go (no h) = let z = get_or-eq_default opposite 0 {n = k} (omega arith) in absurd (omega arith)

-- ---- the sides of a table
-- Marks that spread across all sides, from any triangle, reach all triangles.
abbrev pub Connects : List ℕ → ℕ → Type 0
Connects opposite n = (s : List Bool) → length s ≡ n → ((k o : ℕ) → get_or s (k / 3) false ≡ true → get_or opposite k 0 ≡ suc o → get_or s (o / 3) false ≡ true)
    → (t : ℕ) → t < n → get_or s t false ≡ true → (u : ℕ) → u < n → get_or s u false ≡ true

module _ (keys : List ℕ) (n : ℕ) (whole : length keys ≡ 3 * n) (once : RuleB (triangles_of keys)) where
  -- What is across a side is a side, and across that is the first again.
  pub paired : Paired (opposites (sides_of (triangles_of keys))) n
  paired = record {
    sides = length_opposites keys n whole ∙ whole;
    there = λ k o e. let s = opposite_some keys n whole k o (side k o e) e in omega (arith, s.0, length_opposites keys n whole);
    back = λ k o e. let s = opposite_some keys n whole k o (side k o e) e in opposite_is keys n whole once o k s.0 (side k o e) (ap flip (sym s.1));
  }
    where
      side : (k o : ℕ) → get_or (opposites (sides_of (triangles_of keys))) k 0 ≡ suc o → k < length keys
      side k o e = omega (arith, has_side (opposites (sides_of (triangles_of keys))) k o e, length_opposites keys n whole)

  -- A table that passes the rules is connected.
  pub connects : RuleA (triangles_of keys) → RuleC (frame_edges (triangles_of keys)) (triangles_of keys) → Connects (opposites (sides_of (triangles_of keys))) n
  connects area framed s long spread t h m u l = go (connected (triangles_of keys) area once framed s fits closed)
    where
      fits : SetOf (triangles_of keys) s
      fits = long ∙ sym (length_triangles keys n whole)

      marked : (b : Bool) → 1 ≤ bit b → b ≡ true
      marked true h = refl
      marked false h = absurd (omega arith)

      closed : Closed (triangles_of keys) s
      closed e a b =
          let k = (among_side keys n whole e).0 (omega (arith, fewer_sides (triangles_of keys) s e)) in
          let o = (among_side keys n whole (flip e)).0 b in
          let here : get_or s (k.0 / 3) false ≡ true =
          marked (get_or s (k.0 / 3) false) (omega (arith, side_count keys n whole once s fits k.0 k.1, ap (λ d. count same_edge d (sides_of (chosen (triangles_of keys) s))) k.2)) in
          let there = spread k.0 o.0 here (opposite_is keys n whole once k.0 o.0 k.1 o.1 (o.2 ∙ ap flip (sym k.2))) in
          subst (λ d. 1 ≤ count same_edge d (sides_of (chosen (triangles_of keys) s))) o.2 (omega (arith, side_count keys n whole once s fits o.0 o.1, ap bit there))

      go : All (λ b. b ≡ true) s ⊎ All (λ b. b ≡ false) s → get_or s u false ≡ true
      go (inl a) = all_at (λ b. b ≡ true) false s u a (omega arith)
      go (inr a) = absurd (not_both (get_or s t false) (all_at (λ b. b ≡ false) false s t a (omega arith)) m)

-- ---- the settled numbers
first_settled : (l : List ℕ) → settled_by (standing_by l) ≡ get_or l 0 0
first_settled [] = refl
first_settled (k ∷ []) = refl
first_settled (k ∷ j ∷ l) = refl

-- The settled number is the first owner's, 0 where there is none.
pub settled_at : (owners : List (List ℕ)) (t : ℕ) → get_or (settled owners) t 0 ≡ get_or (owners_at owners t) 0 0
settled_at [] t = refl
settled_at (o ∷ owners) zero = first_settled o
settled_at (o ∷ owners) (suc t) = settled_at owners t

pub length_settled : (owners : List (List ℕ)) → length (settled owners) ≡ length owners
length_settled owners = length-map owners (λ o. settled_by (standing_by o))

-- A gap is a triangle with no owner.
pub gap_is : (opposite : List ℕ) (owners : List (List ℕ)) → OwnersListed owners → (t : ℕ) → (gap opposite (settled owners) t ≡ true) ↔ (owners_at owners t ≡ [])
gap_is opposite owners listed t = (
  λ g. there (owners_at owners t) (all_there (All (λ k. 1 ≤ k)) tt owners t listed.numbered) (sym (settled_at owners t) ∙ eqb-true (get_or (settled owners) t 0) 0 g),
  λ e. eq-eqb (get_or (settled owners) t 0) 0 (settled_at owners t ∙ ap (λ l. get_or l 0 0) e),
)
  where
    there : (l : List ℕ) → All (λ k. 1 ≤ k) l → get_or l 0 0 ≡ 0 → l ≡ []
    there [] h z = refl
    there (x ∷ l) h z = absurd (omega (arith, h.0))

-- ---- no owner at all
pub every_zero : (l : List ℕ) → every (eqb 0) l ≡ true → (t : ℕ) → get_or l t 0 ≡ 0
every_zero [] h t = refl
every_zero (x ∷ l) h t = go (eqb 0 x) refl h (every_zero l) t
  where
    go : (b : Bool) → eqb 0 x ≡ b → elim b [ true ↦ every (eqb 0) l | false ↦ false ] ≡ true → (every (eqb 0) l ≡ true → (t : ℕ) → get_or l t 0 ≡ 0) → (t : ℕ) → get_or (x ∷ l) t 0 ≡ 0
    go true e h r zero = sym (eqb-true 0 x e)
    go true e h r (suc t) = r h t
    go false e h r t = absurd (not_both false refl h)

-- Where not all are 0, one is not.
pub every_not : (l : List ℕ) → every (eqb 0) l ≡ false → (t : ℕ) × (t < length l) × (get_or l t 0 ≡ 0 → ⊥)
every_not [] h = absurd (not_both true h refl)
every_not (x ∷ l) h = go (eqb 0 x) refl h (every_not l)
  where
    go : (b : Bool) → eqb 0 x ≡ b → elim b [ true ↦ every (eqb 0) l | false ↦ false ] ≡ false → (every (eqb 0) l ≡ false → (t : ℕ) × (t < length l) × (get_or l t 0 ≡ 0 → ⊥))
        → (t : ℕ) × (t < length (x ∷ l)) × (get_or (x ∷ l) t 0 ≡ 0 → ⊥)
    go true e h r = let s = r h in (suc s.0, omega (arith, s.1), s.2)
    go false e h r = (0, omega arith, λ z. eqb-false 0 x e (sym z))

-- ---- the first number that is 0
-- The first place of which something holds is one place.
pub same_first : (P : ℕ → Type 0) (t i : ℕ) → P t → P i → ((u : ℕ) → u < t → P u → ⊥) → ((u : ℕ) → u < i → P u → ⊥) → t ≡ i
same_first P t i p q f g = go (dec_le (suc t) i) (dec_le (suc i) t)
  where
    go : Dec (suc t ≤ i) → Dec (suc i ≤ t) → t ≡ i
    go (yes h) d = absurd (g t h p)
    go (no h) (yes d) = absurd (f i d q)
    go (no h) (no d) = omega arith

-- None of the first n numbers is 0.
abbrev pub NoZero : List ℕ → ℕ → Type 0
NoZero l n = (i : ℕ) → i < n → get_or l i 0 ≡ 0 → ⊥

-- The number n, counted from behind b others, is that of the first 0; there is none.
abbrev pub FirstZero : ℕ → List ℕ → Option ℕ → Type 0
FirstZero b l none = NoZero l (length l)
FirstZero b l (some n) = (i : ℕ) × (n ≡ suc (b + i)) × (i < length l) × (get_or l i 0 ≡ 0) × NoZero l i

pub zero_from : (before l : List ℕ) → FirstZero (length before) l (first_fault ungiven before l)
zero_from before [] = λ i h z. omega arith
zero_from before (x ∷ l) = go (eqb x 0) refl (first_fault ungiven (x ∷ before) l) (zero_from (x ∷ before) l)
  where
    more : (n : ℕ) → (x ≡ 0 → ⊥) → NoZero l n → NoZero (x ∷ l) (suc n)
    more n f h zero w z = f z
    more n f h (suc i) w z = h i (omega arith) z

    go : (b : Bool) → eqb x 0 ≡ b → (r : Option ℕ) → FirstZero (suc (length before)) l r → FirstZero (length before) (x ∷ l) (elim b [ true ↦ some (suc (length before)) | false ↦ r ])
    go true e r h = (0, omega arith, omega arith, eqb-true x 0 e, λ i w z. omega arith)
    go false e none h = more (length l) (eqb-false x 0 e) h
    go false e (some n) (i, p, w, z, h) = (suc i, omega arith, omega arith, z, more i (eqb-false x 0 e) h)

-- ---- the first of an ascending list
first_among : (l : List ℕ) → 1 ≤ length l → Among eqb (get_or l 0 0) l
first_among [] h = absurd (omega arith)
first_among (x ∷ l) h = omega (arith, ap bit (eq-eqb x x refl))

filled : (l : List ℕ) → (l ≡ [] → ⊥) → 1 ≤ length l
filled [] f = absurd (f refl)
filled (x ∷ l) f = omega arith

first_least : (l : List ℕ) → Ascending l → (k : ℕ) → Among eqb k l → get_or l 0 0 ≤ k
first_least [] h k a = absurd (omega arith)
first_least (x ∷ l) h k a = go (eqb x k) refl a
  where
    go : (b : Bool) → eqb x k ≡ b → 1 ≤ bit b + count eqb k l → x ≤ k
    go true e a = omega (arith, eqb-true x k e)
    go false e a = let above : x < k = counted eqb eqb→eq eqb_refl (λ j. x < j) k l (omega arith) h.0 in omega arith

-- ---- the ways repair can go
module _ (choice : Choice) (opposite : List ℕ) (owners : List (List ℕ)) where
  abbrev numbers : List ℕ
  numbers = settled owners

  abbrev given : List ℕ
  given = numbers_given choice opposite numbers

  -- The number chosen for the region of triangle t.
  abbrev choice_for : ℕ → ℕ
  choice_for t = choice numbers (region opposite numbers t)

  -- What repair comes to, by the test whether all settled numbers are 0, and the first triangle that nobody can be given.
  abbrev pub answer : Bool → Option ℕ → Answer (List ℕ)
  answer unowned fault = and_then (needing (not unowned) 30 0) (λ passed. and_then (faultless 31 fault) (λ passed. value given))

  pub repaired_by : {b : Bool} {r : Option ℕ} → every (eqb 0) numbers ≡ b → first_fault ungiven [] given ≡ r → repaired choice opposite owners ≡ answer b r
  unfolding repaired
  repaired_by e f = ap₂ answer e f

  -- No triangle has an owner; there is a first one that nobody can be given; or each is given to somebody.
  data Way : Type 0 where
    nobody : every (eqb 0) numbers ≡ true → repaired choice opposite owners ≡ refused 30 0 → Way
    alone : every (eqb 0) numbers ≡ false → (t : ℕ) → t < length owners → get_or given t 0 ≡ 0 → NoZero given t → repaired choice opposite owners ≡ refused 31 (suc t) → Way
    all : every (eqb 0) numbers ≡ false → NoZero given (length owners) → repaired choice opposite owners ≡ value given → Way

  pub length_given : length given ≡ length owners
  length_given = length_map_from (owner_of choice opposite numbers) 0 (length numbers) ∙ length_settled owners

  way : Way
  way = go (every (eqb 0) numbers) refl (first_fault ungiven [] given) refl (zero_from [] given)
    where
      go : (b : Bool) → every (eqb 0) numbers ≡ b → (r : Option ℕ) → first_fault ungiven [] given ≡ r → FirstZero 0 given r → Way
      go true e r f h = nobody e (repaired_by e f)
      go false e none f h = all e (subst (NoZero given) length_given h) (repaired_by e f)
      go false e (some n) f (i, p, w, z, h) = let q : n ≡ suc i = omega arith in alone e i (omega (arith, length_given)) z h (repaired_by e (f ∙ ap some q))

  -- The answer of repair has a number for each triangle: those given, of which none is 0.
  repaired_given : (l : List ℕ) → repaired choice opposite owners ≡ value l → (given ≡ l) × NoZero given (length owners)
  repaired_given l e = go way
    where
      go : Way → (given ≡ l) × NoZero given (length owners)
      go (nobody f r) = absurd (let z : ◌≡◌ {A = ℕ} 0 1 = cc (sym r ∙ e) in omega arith)
      go (alone f t w z h r) = absurd (let z : ◌≡◌ {A = ℕ} 0 1 = cc (sym r ∙ e) in omega arith)
      go (all f h r) = (cc (sym r ∙ e), h)

  pub repaired_length : (l : List ℕ) → repaired choice opposite owners ≡ value l → length l ≡ length owners
  repaired_length l e = ap length (sym (repaired_given l e).0) ∙ length_given

  -- Repair is refused with 30 and item 0, or with 31.
  pub refused_by : (code item : ℕ) → repaired choice opposite owners ≡ refused code item → ((code ≡ 30) × (item ≡ 0)) ⊎ (code ≡ 31)
  refused_by code item e = go way
    where
      go : Way → ((code ≡ 30) × (item ≡ 0)) ⊎ (code ≡ 31)
      go (nobody f r) = let p = sym r ∙ e in inl (cc p, cc p)
      go (alone f t w z h r) = let p = sym r ∙ e in inr (cc p)
      go (all f h r) = absurd (let z : ◌≡◌ {A = ℕ} 0 1 = cc (sym r ∙ e) in omega arith)

  -- ---- for the owners of the triangles of a table
  module _ (listed : OwnersListed owners) where
    within : (t : ℕ) → t < length owners → t < length numbers
    within t h = omega (arith, length_settled owners)

    answered_at : (t : ℕ) → t < length owners → get_or given t 0 ≡ owner_of choice opposite numbers t
    answered_at t h = map_from_at (owner_of choice opposite numbers) (length numbers) t 0 (within t h)

    -- A gap has the number chosen for its region,
    answered_gap : (t : ℕ) → t < length owners → owners_at owners t ≡ [] → get_or given t 0 ≡ choice_for t
    answered_gap t h e = answered_at t h ∙ ap (λ b. cond b (choice_for t) (get_or numbers t 0)) ((gap_is opposite owners listed t).1 e)

    -- and any other triangle its first owner's, which is not 0.
    answered_first : (t : ℕ) → t < length owners → 1 ≤ length (owners_at owners t) → get_or given t 0 ≡ get_or (owners_at owners t) 0 0
    answered_first t h w =
        answered_at t h
        ∙ ap (λ b. cond b (choice_for t) (get_or numbers t 0))
        (ne_eqb (get_or numbers t 0) 0 (λ z. omega (arith, ap length ((gap_is opposite owners listed t).0 (eq-eqb (get_or numbers t 0) 0 z)))))
        ∙ settled_at owners t

    zero_gap : (t : ℕ) → t < length owners → get_or given t 0 ≡ 0 → owners_at owners t ≡ []
    zero_gap t h z = go (owners_at owners t) refl (all_there (All (λ k. 1 ≤ k)) tt owners t listed.numbered)
      where
        go : (r : List ℕ) → owners_at owners t ≡ r → All (λ k. 1 ≤ k) r → owners_at owners t ≡ []
        go [] e p = e
        go (x ∷ r) e p = absurd (omega (arith, answered_first t h (omega (arith, ap length e)), ap (λ r. get_or r 0 0) e, p.0))

    -- Where not all settled numbers are 0, some triangle has an owner,
    some_owned : every (eqb 0) numbers ≡ false → SomeOwner owners
    some_owned e =
        let v = every_not numbers e in
        (v.0, omega (arith, v.1, length_settled owners), λ n. v.2 (settled_at owners v.0 ∙ ap (λ l. get_or l 0 0) n))

    -- and where they are, none has.
    all_unowned : (every (eqb 0) numbers ≡ true) ↔ ((t : ℕ) → t < length owners → owners_at owners t ≡ [])
    all_unowned = (
      λ e t h. (gap_is opposite owners listed t).0 (eq-eqb (get_or numbers t 0) 0 (every_zero numbers e t)),
      λ h. go h (every (eqb 0) numbers) refl,
    )
      where
        go : ((t : ℕ) → t < length owners → owners_at owners t ≡ []) → (b : Bool) → every (eqb 0) numbers ≡ b → every (eqb 0) numbers ≡ true
        go h true e = e
        go h false e = let (v, w, f) = some_owned e in absurd (f (h v w))

    not_all : SomeOwner owners → every (eqb 0) numbers ≡ true → ⊥
    not_all (v, w, f) e = f (all_unowned.0 e v w)

    -- 30 exactly if no triangle has an owner.
    pub no_owner : (repaired choice opposite owners ≡ refused 30 0) ↔ ((t : ℕ) → t < length owners → owners_at owners t ≡ [])
    no_owner = (λ e. there e way, λ h. here h way)
      where
        there : repaired choice opposite owners ≡ refused 30 0 → Way → (t : ℕ) → t < length owners → owners_at owners t ≡ []
        there e (nobody f r) = all_unowned.0 f
        there e (alone f t w z h r) = absurd (let z : ◌≡◌ {A = ℕ} 31 30 = cc (sym r ∙ e) in omega arith)
        there e (all f h r) = absurd (let z : ◌≡◌ {A = ℕ} 0 1 = cc (sym r ∙ e) in omega arith)

        here : ((t : ℕ) → t < length owners → owners_at owners t ≡ []) → Way → repaired choice opposite owners ≡ refused 30 0
        here u (nobody f r) = r
        here u (alone f t w z h r) = absurd (not_both (every (eqb 0) numbers) f (all_unowned.1 u))
        here u (all f h r) = absurd (not_both (every (eqb 0) numbers) f (all_unowned.1 u))

    -- Where each triangle has an owner, repair has an answer.
    pub clean_given : ((t : ℕ) → t < length owners → owners_at owners t ≡ [] → ⊥) → 1 ≤ length owners → repaired choice opposite owners ≡ value (numbers_given choice opposite (settled owners))
    clean_given owned there = go way
      where
        go : Way → repaired choice opposite owners ≡ value given
        go (nobody f r) = absurd (not_all (0, there, owned 0 there) f)
        go (alone f t w z h r) = absurd (owned t w (zero_gap t w z))
        go (all f h r) = r

    -- ---- by a choice as it has to be, and sides that pair up
    module _ (chooses : Chooses opposite choice) (pairs : Paired opposite (length owners)) where
      paired_numbers : Paired opposite (length numbers)
      paired_numbers = subst (Paired opposite) (sym (length_settled owners)) pairs

      in_region : (t u : ℕ) → t < length owners → Joined opposite numbers t u → get_or (region opposite numbers t) u false ≡ true
      in_region t u h j = (region_has opposite numbers paired_numbers t (within t h) u).1 (joined_within opposite numbers paired_numbers (within t h) j, j)

      -- Nobody can be given a triangle exactly if no triangle across the sides of its region has an owner.
      alone_is : (t : ℕ) → t < length owners → (get_or given t 0 ≡ 0) ↔ Alone opposite owners t
      alone_is t h = (there, λ a. answered_gap t h a.gap ∙ here a (chooses.found numbers (region opposite numbers t)))
        where
          there : get_or given t 0 ≡ 0 → Alone opposite owners t
          there z =
              let g = zero_gap t h z in
              record {
                gap = g;
                across = λ k o j e.
                    let n = chooses.none numbers (region opposite numbers t) (sym (answered_gap t h g) ∙ z) k (has_side opposite k o e) (in_region t (k / 3) h j) in
                    (gap_is opposite owners listed (o / 3)).0 (eq-eqb (get_or numbers (o / 3) 0) 0 (subst (λ x. beyond opposite numbers x ≡ 0) e n));
              }

          here : Alone opposite owners t → FoundAcross opposite numbers (region opposite numbers t) (choice_for t) → choice_for t ≡ 0
          here a (inl z) = z
          here a (inr (k, w, m, b)) = sym b ∙ side (get_or opposite k 0) refl
            where
              side : (x : ℕ) → get_or opposite k 0 ≡ x → beyond opposite numbers (get_or opposite k 0) ≡ 0
              side zero e = ap (beyond opposite numbers) e
              side (suc o) e =
                  let j = ((region_has opposite numbers paired_numbers t (within t h) (k / 3)).0 m).1 in
                  ap (beyond opposite numbers) e ∙ eqb-true (get_or numbers (o / 3) 0) 0 ((gap_is opposite owners listed (o / 3)).1 (a.across k o j e))

      -- 31 exactly if some triangle has an owner and there is a region with none across its sides; the item is the first triangle of such a region.
      pub not_given : (item : ℕ) → (repaired choice opposite owners ≡ refused 31 item) ↔ FirstAlone opposite owners item
      not_given item = (λ e. there e way, λ a. here a way)
        where
          there : repaired choice opposite owners ≡ refused 31 item → Way → FirstAlone opposite owners item
          there e (nobody f r) = absurd (let z : ◌≡◌ {A = ℕ} 31 30 = cc (sym r ∙ e) in omega arith)
          there e (alone f t w z h r) = record {
            some_owner = some_owned f;
            at = t;
            counted = cc (sym r ∙ e);
            within = w;
            alone = (alone_is t w).0 z;
            none_before = λ u l a. h u l ((alone_is u (omega arith)).1 a);
          }
          there e (all f h r) = absurd (let z : ◌≡◌ {A = ℕ} 0 1 = cc (sym r ∙ e) in omega arith)

          here : FirstAlone opposite owners item → Way → repaired choice opposite owners ≡ refused 31 item
          here a (nobody f r) = absurd (not_all a.some_owner f)
          here a (alone f t w z h r) =
              let e = same_first (Alone opposite owners) t a.at ((alone_is t w).0 z) a.alone (λ u l b. h u l ((alone_is u (omega arith)).1 b)) a.none_before in
              r ∙ ap (refused 31) (omega (arith, a.counted))
          here a (all f h r) = absurd (h a.at a.within ((alone_is a.at a.within).1 a.alone))

      -- In a connected table with some owner no region is alone,
      pub none_alone : Connects opposite (length owners) → SomeOwner owners → (t : ℕ) → t < length owners → Alone opposite owners t → ⊥
      none_alone joins (v, w, owned) t h a =
          let g = (gap_is opposite owners listed t).1 a.gap in
          owned ((gap_is opposite owners listed v).0 (joined_gap opposite numbers g (joined v (reached v w))))
        where
          joined : (u : ℕ) → get_or (region opposite numbers t) u false ≡ true → Joined opposite numbers t u
          joined u m = ((region_has opposite numbers paired_numbers t (within t h) u).0 m).1

          reached : (u : ℕ) → u < length owners → get_or (region opposite numbers t) u false ≡ true
          reached u l =
              joins (region opposite numbers t) (region_length opposite numbers t ∙ length_settled owners)
              (λ k o m e. region_closed opposite numbers paired_numbers t (within t h) (k / 3) k o m refl e ((gap_is opposite owners listed (o / 3)).1 (a.across k o (joined (k / 3) m) e)))
              t h (region_own opposite numbers paired_numbers t (within t h)) u l

      -- and repair has an answer.
      pub always_given : Connects opposite (length owners) → SomeOwner owners → repaired choice opposite owners ≡ value (numbers_given choice opposite (settled owners))
      always_given joins some_owner = go way
        where
          go : Way → repaired choice opposite owners ≡ value given
          go (nobody f r) = absurd (not_all some_owner f)
          go (alone f t w z h r) = absurd (none_alone joins some_owner t w ((alone_is t w).0 z))
          go (all f h r) = r

      -- ---- where each triangle is given to somebody
      module _ (full : (t : ℕ) → t < length owners → get_or given t 0 ≡ 0 → ⊥) where
        answered_found : (t : ℕ) → t < length owners → owners_at owners t ≡ [] → FoundFor opposite owners t (get_or given t 0)
        answered_found t h e = go (chooses.found numbers (region opposite numbers t))
          where
            some_number : choice_for t ≡ 0 → ⊥
            some_number z = full t h (answered_gap t h e ∙ z)

            across : (k : ℕ) → Joined opposite numbers t (k / 3) → (x : ℕ) → get_or opposite k 0 ≡ x → beyond opposite numbers x ≡ choice_for t → FoundFor opposite owners t (get_or given t 0)
            across k j zero d b = absurd (some_number (sym b))
            across k j (suc o) d b =
                (k, o, j, d, (λ f. some_number (sym b ∙ eqb-true (get_or numbers (o / 3) 0) 0 ((gap_is opposite owners listed (o / 3)).1 f))), answered_gap t h e ∙ sym b)

            go : FoundAcross opposite numbers (region opposite numbers t) (choice_for t) → FoundFor opposite owners t (get_or given t 0)
            go (inl z) = absurd (some_number z)
            go (inr (k, w, m, b)) = across k ((region_has opposite numbers paired_numbers t (within t h) (k / 3)).0 m).1 (get_or opposite k 0) refl b

        -- The settled number of a triangle with an owner is one of its owners.
        settled_among : (u : ℕ) → (owners_at owners u ≡ [] → ⊥) → Among eqb (get_or numbers u 0) (owners_at owners u)
        settled_among u f = subst (λ k. Among eqb k (owners_at owners u)) (sym (settled_at owners u)) (first_among (owners_at owners u) (filled (owners_at owners u) f))

        answered_owned : (t : ℕ) → t < length owners → (u : ℕ) × (u < length owners) × Among eqb (get_or given t 0) (owners_at owners u)
        answered_owned t h = go (owners_at owners t) refl
          where
            go : (r : List ℕ) → owners_at owners t ≡ r → (u : ℕ) × (u < length owners) × Among eqb (get_or given t 0) (owners_at owners u)
            go [] e =
                let (k, o, j, d, f, s) = answered_found t h e in
                (o / 3, omega (arith, pairs.there k o d, pairs.sides), subst (λ m. Among eqb m (owners_at owners (o / 3))) (sym s) (settled_among (o / 3) f))
            go (x ∷ r) e =
                let w : 1 ≤ length (owners_at owners t) = omega (arith, ap length e) in
                (t, h, subst (λ m. Among eqb m (owners_at owners t)) (sym (answered_first t h w)) (first_among (owners_at owners t) w))

        answered_same : (t u : ℕ) → t < length owners → owners_at owners t ≡ [] → Joined opposite numbers t u → get_or given u 0 ≡ get_or given t 0
        answered_same t u h e j =
            let g = (gap_is opposite owners listed t).1 e in
            let there : u < length owners = omega (arith, joined_within opposite numbers paired_numbers (within t h) j, length_settled owners) in
            answered_gap u there ((gap_is opposite owners listed u).0 (joined_gap opposite numbers g j))
            ∙ ap (choice numbers) (region_same opposite numbers paired_numbers t u (within t h) g (in_region t u h j))
            ∙ sym (answered_gap t h e)

        answered_one : OneOwner opposite owners given
        answered_one = record {
          each = length_given;
          owned = answered_owned;
          single = λ t k h e. answered_first t h (omega (arith, ap length e)) ∙ ap (λ r. get_or r 0 0) e;
          overlap = λ t h m. subst (λ x. Among eqb x (owners_at owners t) × ((k : ℕ) → Among eqb k (owners_at owners t) → x ≤ k)) (sym (answered_first t h (omega arith)))
              (first_among (owners_at owners t) (omega arith), first_least (owners_at owners t) (all_there Ascending tt owners t listed.ascending));
          same = answered_same;
          found = answered_found;
        }

      -- The answer of repair gives each triangle one owner, as laid down,
      pub one_owner : (l : List ℕ) → repaired choice opposite owners ≡ value l → OneOwner opposite owners l
      one_owner l e = let (g, n) = repaired_given l e in subst (OneOwner opposite owners) g (answered_one n)

      -- and a gap's is the one choice for its region.
      pub one_choice : (l : List ℕ) → repaired choice opposite owners ≡ value l → (t : ℕ) → t < length owners → owners_at owners t ≡ []
          → get_or l t 0 ≡ choice (settled owners) (region opposite (settled owners) t)
      one_choice l e t h n = subst (λ l. get_or l t 0 ≡ choice_for t) (repaired_given l e).0 (answered_gap t h n)

-- ---- there is one list of owners only
module _ (opposite : List ℕ) (owners : List (List ℕ)) where
  -- as laid down and with the same numbers for gaps.
  only_one : (l m : List ℕ) → OneOwner opposite owners l → OneOwner opposite owners m → ((t : ℕ) → t < length owners → owners_at owners t ≡ [] → get_or l t 0 ≡ get_or m t 0) → l ≡ m
  only_one l m p q gaps = ext_get_or 0 l m (p.each ∙ sym q.each) (λ t h. let i : t < length owners = omega (arith, p.each) in go t i (owners_at owners t) refl)
    where
      go : (t : ℕ) → t < length owners → (r : List ℕ) → owners_at owners t ≡ r → get_or l t 0 ≡ get_or m t 0
      go t h [] e = gaps t h e
      go t h (k ∷ []) e = p.single t k h e ∙ sym (q.single t k h e)
      go t h (k ∷ j ∷ r) e =
          let two : 2 ≤ length (owners_at owners t) = omega (arith, ap length e) in
          let a = p.overlap t h two in
          let b = q.overlap t h two in
          omega (arith, a.1 (get_or m t 0) b.0, b.1 (get_or l t 0) a.0)

  -- What tells the number of each gap region is told of what repair answers, and of one list only.
  pub record Tells (choice : Choice) (There : List ℕ → Type 0) : Type 0 where
    pub told : (l : List ℕ) → repaired choice opposite owners ≡ value l → There l
    pub one : (l m : List ℕ) → OneOwner opposite owners l → There l → OneOwner opposite owners m → There m → (t : ℕ) → t < length owners → owners_at owners t ≡ [] → get_or l t 0 ≡ get_or m t 0

  -- So in a connected table repair answers a list exactly if it is such a list.
  pub repaired_exactly : (choice : Choice) (There : List ℕ → Type 0) → Tells choice There → Chooses opposite choice → OwnersListed owners → Paired opposite (length owners) → Connects opposite (length owners) → 1 ≤ length owners
      → (l : List ℕ) → (repaired choice opposite owners ≡ value l) ↔ (OneOwner opposite owners l × There l)
  repaired_exactly choice There tells chooses listed pairs joins some-triangle l = (λ e. (one_owner choice opposite owners listed chooses pairs l e, tells.told l e), from)
    where
      from : OneOwner opposite owners l × There l → repaired choice opposite owners ≡ value l
      from (p, q) =
          let (u, w, a) = p.owned 0 some-triangle in
          let r = always_given choice opposite owners listed chooses pairs joins (u, w, λ e. let z = subst (Among eqb (get_or l 0 0)) e a in omega arith) in
          r ∙ ap value (only_one _ l (one_owner choice opposite owners listed chooses pairs _ r) p (tells.one _ l (one_owner choice opposite owners listed chooses pairs _ r) (tells.told _ r) p q))

  module _ (listed : OwnersListed owners) (pairs : Paired opposite (length owners)) where
    -- By the largest number: none across a region's sides is larger.
    largest_tells : Tells (largest opposite) (LargestThere opposite owners)
    largest_tells = record {
      told = λ l e. record {
        none_larger = λ t k o h n j d.
            let numbers = settled owners in
            let a = largest_above opposite numbers (region opposite numbers t) k (has_side opposite k o d) (in_region (largest opposite) opposite owners listed (largest_chooses opposite) pairs t (k / 3) h j) in
            let b : get_or numbers (o / 3) 0 ≤ largest opposite numbers (region opposite numbers t) = subst (λ x. beyond opposite numbers x ≤ largest opposite numbers (region opposite numbers t)) d a in
            subst (λ m. get_or numbers (o / 3) 0 ≤ m) (sym (one_choice (largest opposite) opposite owners listed (largest_chooses opposite) pairs l e t h n)) b;
      };
      one = λ l m p pl q ql t h e.
          let a = p.found t h e in
          let b = q.found t h e in
          omega (arith, a.5, b.5, pl.none_larger t b.0 b.1 h e b.2 b.3, ql.none_larger t a.0 a.1 h e a.2 a.3);
    }

    -- By the longest shared boundary: none across a region's sides shares more, and none as much is larger.
    module _ (lengths : List ℕ) where
      -- A number found across a region is touched by its sides.
      found_touched : (t m : ℕ) → t < length owners → FoundFor opposite owners t m → In m (touched opposite (settled owners) (sides_in opposite (settled owners) (region opposite (settled owners) t)))
      found_touched t m h (k, o, j, d, f, e) =
          let numbers = settled owners in
          (touched_is opposite numbers (sides_in opposite numbers (region opposite numbers t)) m).1 (
            λ z. f ((gap_is opposite owners listed (o / 3)).0 (eq-eqb (get_or numbers (o / 3) 0) 0 (sym e ∙ z))),
            k,
            (side_of opposite numbers (region opposite numbers t) k).1 (has_side opposite k o d, in_region (longest lengths opposite) opposite owners listed (longest_chooses lengths opposite) pairs t (k / 3) h j),
            ap (beyond opposite numbers) d ∙ sym e,
          )

      -- So where each side is at least 1 long, it has a shared length above 0.
      pub found_shared : length lengths ≡ length opposite → All (λ n. 1 ≤ n) lengths → (t m : ℕ) → t < length owners → FoundFor opposite owners t m → 1 ≤ shared_with lengths opposite owners t m
      found_shared many long t m h f =
          let numbers = settled owners in
          let sides = sides_in opposite numbers (region opposite numbers t) in
          let (z, k, i, e) = (touched_is opposite numbers sides m).0 (found_touched t m h f) in
          let w : k < length lengths = omega (arith, ((side_of opposite numbers (region opposite numbers t) k).0 i).0) in
          subst (λ m. 1 ≤ shared lengths opposite numbers sides m) e (shared_some lengths opposite numbers (λ k l. all_at (λ n. 1 ≤ n) 0 lengths k long l) sides k w i)

      longest_tells : Tells (longest lengths opposite) (LongestThere lengths opposite owners)
      longest_tells = record {
        told = λ l e. record {
          none_longer = λ t m h n f. (favours l e t h n).none_longer m (found_touched t m h f);
          none_larger = λ t m h n f. (favours l e t h n).none_larger m (found_touched t m h f);
        };
        one = λ l m p pl q ql t h e.
            let a = p.found t h e in
            let b = q.found t h e in
            let same : shared_with lengths opposite owners t (get_or l t 0) ≡ shared_with lengths opposite owners t (get_or m t 0) = omega (arith, pl.none_longer t (get_or m t 0) h e b, ql.none_longer t (get_or l t 0) h e a) in
            omega (arith, pl.none_larger t (get_or m t 0) h e b (sym same), ql.none_larger t (get_or l t 0) h e a same);
      }
        where
          favours : (l : List ℕ) → repaired (longest lengths opposite) opposite owners ≡ value l → (t : ℕ) → t < length owners → owners_at owners t ≡ []
              → Favoured lengths opposite (settled owners) (sides_in opposite (settled owners) (region opposite (settled owners) t)) (get_or l t 0)
          favours l e t h n =
              let sides = sides_in opposite (settled owners) (region opposite (settled owners) t) in
              subst (Favoured lengths opposite (settled owners) sides) (sym (one_choice (longest lengths opposite) opposite owners listed (longest_chooses lengths opposite) pairs l e t h n)) (favoured_is lengths opposite (settled owners) sides)

      -- In each way.
      pub way_tells : (way : ℕ) → Tells (choice_by way lengths opposite) (ChosenThere way lengths opposite owners)
      way_tells zero = largest_tells
      way_tells (suc way) = longest_tells
