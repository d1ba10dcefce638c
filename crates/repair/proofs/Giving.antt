-- Gap regions given to their owners one after another. The idea: what was met before t is closed under crossing sides of gaps and does not
-- have t, and what is met with t is closed again, so that the triangles met since are the region of t. Assumes nothing.
use mathlib.Core.Path.{◌≡◌, refl, sym, ◌∙◌, ap, subst}
use mathlib.Core.Logic.{◌⊎◌, inl, inr}
use mathlib.Core.Bool.{Bool, true, false, cond, ◌&&◌}
use mathlib.Core.List.{List, [], ◌∷◌, ◌++◌, map}
use mathlib.Core.Option.{none, some, Option as Numbered}
use Prim.Native.Nat.{ℕ, zero, suc, ◌+◌, ◌*◌, ◌/◌, ◌≤◌, ◌<◌}
use native.Mathlib.Omega.{arith}
use borrow.Author.Rules.{rules}
use native.Mathlib.Decide.{ℕ_discrete, dec_le}
use borrow.Author.Tests.{eqb-true, eqb-false, eq-eqb, le-leb, lt-leb}
use lib.Dec.{eqb}
use lib.ListN.{length, get_or, take, replicate, length-map, length-replicate, length-append}
use lib.Seq.{ext_get_or, take_at, length-take-le}
use Rattle.std.specs.Prelude.{Option, None, Some, Result, Ok, Err}
use Rattle.std.specs.List.{list_all, position, position_from}
use Rattle.std.proofs.lemmas.Iterator.Adapters.{position_from-zero}
use Rattle.std.proofs.Math.Numerals.{add-one}
use Rattle.whole.specs.Sums.{every}
use Rattle.lent.specs.declared.Reason.TheVariants.{NoOwner, Ungiven, Way}
use Rattle.lent.specs.declared.Refusal.{Refusal}
use Rattle.lent.specs.Stages.{value, refused}
use Rattle.table.specs.Table.{first_fault}
use Rattle.owners_marks.specs.Sets.{owners_of}
use Rattle.repair_regions.specs.Regions.{gap, region, Joined, self, step}
use Rattle.repair_regions.specs.Spreading.{Paired, marked, Meeting, Grown, Fresh, Spread}
use Rattle.repair_regions.proofs.Regions.{length_map_from, map_from_at, joined_sym, region_has, region_same, not_both, failed}
use Rattle.repair_regions.proofs.Spreading.{in_region}
use Rattle.repair_choices.specs.Choices.{Choice, greater, across, largest, choice_by}
use Rattle.repair_choices.specs.Choosing.{FoundAcross}
use Rattle.repair_choices.specs.Adding.{Marked}
use Rattle.repair_choices.proofs.Lists.{greater_left, greater_right, greater_one}
use Rattle.repair_choices.proofs.Largest.{largest_above, largest_found}
use Rattle.repair.specs.Repair.{settled, owner_of, numbers_given, ungiven, repaired}
use Rattle.repair.specs.Giving.{Best, Filled, State, numbered, owners_left, RepairedTo, RepairedBy}
use Rattle.repair.proofs.OneOwner.{length_settled, answer, repaired_by}

-- ---- no owner at all
none_owned : (l : List ℕ) → list_all (λ k. eqb k 0) l ≡ every (eqb 0) l
none_owned [] = refl
none_owned (x ∷ l) = rw zero_either (go (eqb 0 x) (none_owned l))
  where
    zero_either : eqb x 0 ≡ eqb 0 x
    zero_either = search rules

    go : (b : Bool) → list_all (λ k. eqb k 0) l ≡ every (eqb 0) l → (b && list_all (λ k. eqb k 0) l) ≡ elim b [ true ↦ every (eqb 0) l | false ↦ false ]
    go true e = e
    go false e = refl

-- The first 0 is the first that nobody can be given.
first_from : (before l : List ℕ) → numbered (position_from (λ k. eqb k 0) (length before) l) ≡ first_fault ungiven before l
first_from before [] = refl
first_from before (x ∷ l) = go (eqb x 0) (first_from (x ∷ before) l)
  where
    go : (b : Bool) → numbered (position_from (λ k. eqb k 0) (suc (length before)) l) ≡ first_fault ungiven (x ∷ before) l
        → numbered (cond b (Some (length before)) (position_from (λ k. eqb k 0) (length before + 1) l)) ≡ elim b [ true ↦ some (suc (length before)) | false ↦ first_fault ungiven (x ∷ before) l ]
    go true e = refl
    go false e = rw add-one e

pub first_zero : (l : List ℕ) → numbered (position (λ k. eqb k 0) l) ≡ first_fault ungiven [] l
first_zero l = ap numbered (position_from-zero (λ k. eqb k 0) l) ∙ first_from [] l

-- ---- the largest number across the sides of a group
-- What holds of two numbers holds of the greater.
of_greater : (P : ℕ → Type 0) (m n : ℕ) → P m → P n → P (greater m n)
of_greater P m n p q = go (greater_one m n)
  where
    go : (greater m n ≡ m) ⊎ (greater m n ≡ n) → P (greater m n)
    go (inl e) = subst P (sym e) p
    go (inr e) = subst P (sym e) q

-- The greatest of the numbers across the sides of triangle u and one at hand.
abbrev with_sides : List ℕ → List ℕ → ℕ → ℕ → ℕ
with_sides opposite numbers u r = greater (greater (greater r (across opposite numbers (3 * u))) (across opposite numbers (3 * u + 1))) (across opposite numbers (3 * u + 2))

-- A number is across a side of the triangles of the group from `first` on and before i, or is 0.
abbrev Found : List ℕ → List ℕ → List ℕ → ℕ → ℕ → ℕ → Type 0
Found opposite numbers group first i m = (m ≡ 0) ⊎ (j : ℕ) × (k : ℕ) × (first ≤ j) × (j < i) × (k / 3 ≡ get_or group j 0) × (across opposite numbers k ≡ m)

-- The numbers across the sides of the next triangle are taken in.
pub best_one : {opposite numbers group : List ℕ} {first i r : ℕ} → Best opposite numbers group first i r → first ≤ i
    → Best opposite numbers group first (i + 1) (with_sides opposite numbers (get_or group i 0) r)
best_one {opposite} {numbers} {group} {first} {i} {r} b f = record {
  above = λ j k p q e. above_all j k p q e (ℕ_discrete j i);
  found =
      let m = of_greater here r x (before b.found) (inr (i, 3 * u, f, omega arith, omega arith, refl)) in
      let n = of_greater here (greater r x) y m (inr (i, 3 * u + 1, f, omega arith, omega arith, refl)) in
      of_greater here (greater (greater r x) y) z n (inr (i, 3 * u + 2, f, omega arith, omega arith, refl));
}
  where
    u : ℕ
    u = get_or group i 0

    x : ℕ
    x = across opposite numbers (3 * u)

    y : ℕ
    y = across opposite numbers (3 * u + 1)

    z : ℕ
    z = across opposite numbers (3 * u + 2)

    here : ℕ → Type 0
    here = Found opposite numbers group first (i + 1)

    before : Found opposite numbers group first i r → here r
    before (inl e) = inl e
    before (inr s) = inr (s.0, s.1, s.2, omega (arith, s.3), s.4, s.5)

    most : (r ≤ with_sides opposite numbers u r) × (x ≤ with_sides opposite numbers u r) × (y ≤ with_sides opposite numbers u r) × (z ≤ with_sides opposite numbers u r)
    most =
        let p = greater_left r x in
        let q = greater_right r x in
        let s = greater_left (greater r x) y in
        let t = greater_right (greater r x) y in
        let v = greater_left (greater (greater r x) y) z in
        let w = greater_right (greater (greater r x) y) z in
        (omega arith, omega arith, omega arith, w)

    sides : (k : ℕ) → k / 3 ≡ u → Dec (k ≡ 3 * u) → Dec (k ≡ 3 * u + 1) → across opposite numbers k ≤ with_sides opposite numbers u r
    sides k e (yes p) d = rw p most.1
    sides k e (no p) (yes q) = rw q most.2
    sides k e (no p) (no q) = let s : k ≡ 3 * u + 2 = omega arith in rw s most.3

    above_all : (j k : ℕ) → first ≤ j → j < i + 1 → k / 3 ≡ get_or group j 0 → Dec (j ≡ i) → across opposite numbers k ≤ with_sides opposite numbers u r
    above_all j k p q e (yes s) = sides k (e ∙ ap (λ l. get_or group l 0) s) (ℕ_discrete k (3 * u)) (ℕ_discrete k (3 * u + 1))
    above_all j k p q e (no s) = omega (arith, b.above j k p (omega arith) e, most.0)

-- (The triangle u at place i from `first` on.)
pub best_next : {opposite numbers group : List ℕ} {first : ℕ} (i : ℕ) {u r r' : ℕ} → Best opposite numbers group first (first + i) r → u ≡ get_or group (first + i) 0
    → r' ≡ with_sides opposite numbers u r → Best opposite numbers group first (first + (i + 1)) r'
best_next {opposite} {numbers} {group} {first} i {u} {r} {r'} b e f =
    let n : first + i + 1 ≡ first + (i + 1) = omega arith in
    let m : with_sides opposite numbers (get_or group (first + i) 0) r ≡ r' = sym (f ∙ ap (λ u. with_sides opposite numbers u r) e) in
    subst (λ x. Best opposite numbers group first x r') n (subst (λ x. Best opposite numbers group first (first + i + 1) x) m (best_one b (omega arith)))

-- The largest number across the sides of the triangles of a group is that of their marks.
pub best_largest : {opposite numbers group : List ℕ} {first n r : ℕ} {marks : List Bool} → length opposite ≡ 3 * length numbers → ((j : ℕ) → j < n → get_or group j 0 < length numbers)
    → Marked group first n marks → Best opposite numbers group first n r → r ≡ largest opposite numbers marks
best_largest {opposite} {numbers} {group} {first} {n} {r} {marks} three within is best = omega (arith, low best.found, high (largest_found opposite numbers marks))
  where
    low : Found opposite numbers group first n r → r ≤ largest opposite numbers marks
    low (inl z) = omega arith
    low (inr (j, k, p, q, e, s)) =
        let h : k < length opposite = omega (arith, within j q, e, three) in
        omega (arith, largest_above opposite numbers marks k h (subst (λ u. get_or marks u false ≡ true) (sym e) (is.own j p q)), s)

    high : FoundAcross opposite numbers marks (largest opposite numbers marks) → largest opposite numbers marks ≤ r
    high (inl z) = omega arith
    high (inr (k, h, t, s)) = let (j, p, q, e) = is.by (k / 3) t in omega (arith, best.above j k p q (sym e), s)

-- ---- a region given to its owner
-- What is joined with a triangle met is met.
met_joined : {opposite numbers : List ℕ} {met : List Bool} {group : List ℕ} {n t u : ℕ} → Meeting numbers met group n → Spread opposite numbers met group n
    → Joined opposite numbers t u → get_or met t false ≡ true → get_or met u false ≡ true
met_joined m s self h = h
met_joined {numbers = numbers} {met = met} m s (step k o j e g z) h =
    let b = m.by (k / 3) (met_joined m s j h) in
    subst (λ u. get_or met u false ≡ true) z ((s b.0 b.1 k (sym b.2)).at o e (eqb-true (get_or numbers (o / 3) 0) 0 g))

module _ {choice : Choice} {opposite numbers : List ℕ} {met met' : List Bool} {group group' owners : List ℕ} {first n : ℕ} (pairs : Paired opposite (length numbers))
    (before : State choice opposite numbers met group first owners) (t : ℕ) (within : t < length numbers) (open-gap : get_or numbers t 0 ≡ 0) (free : get_or met t false ≡ false)
    (grown : Grown numbers met group first met' group' n) (spread : Spread opposite numbers met' group' n) (fresh : Fresh opposite numbers met met' t)
    (taken : get_or met' t false ≡ true) where
  is_gap : gap opposite numbers t ≡ true
  is_gap = eq-eqb (get_or numbers t 0) 0 open-gap

  -- Each triangle of the region of t stands in the group since.
  since : (u : ℕ) → get_or (region opposite numbers t) u false ≡ true → (j : ℕ) × (first ≤ j) × (j < n) × (get_or group' j 0 ≡ u)
  since u h = go (grown.meeting.by u (met_joined grown.meeting spread joined taken))
    where
      joined : Joined opposite numbers t u
      joined = ((region_has opposite numbers pairs t within u).0 h).1

      go : (j : ℕ) × (j < n) × (get_or group' j 0 ≡ u) → (j : ℕ) × (first ≤ j) × (j < n) × (get_or group' j 0 ≡ u)
      go b = by (dec_le first b.0)
        where
          -- What stood in the group before was met before, and t with it.
          by : Dec (first ≤ b.0) → (j : ℕ) × (first ≤ j) × (j < n) × (get_or group' j 0 ≡ u)
          by (yes p) = (b.0, p, b.1, b.2)
          by (no p) =
              let old : b.0 < first = omega arith in
              let m = subst (λ x. get_or met x false ≡ true) (sym (grown.same b.0 old) ∙ b.2) (before.meeting.own b.0 old) in
              absurd (not_both (get_or met t false) free (met_joined before.meeting before.spread (joined_sym opposite numbers pairs is_gap joined) m))

  -- What stands there since is the region's triangles, each once.
  pub region_marked : Marked group' first n (region opposite numbers t)
  region_marked = record { own = in_region t grown fresh; by = since; once = grown.meeting.once }

  module _ {owner : ℕ} {owners' : List ℕ} (chosen : owner ≡ choice numbers (region opposite numbers t)) (filled : Filled group' first n owner owners owners') where
    -- A triangle that was met has its owner, and one of the region gets the region's.
    is_given : (u : ℕ) → (get_or met u false ≡ true) ⊎ (get_or (region opposite numbers t) u false ≡ true) → get_or owners' u 0 ≡ choice numbers (region opposite numbers u)
    is_given u (inl m) = filled.others u (λ j p q e. not_both (get_or met u false) (subst (λ x. get_or met x false ≡ false) e (grown.fresh j p q)) m) ∙ before.given u m
    is_given u (inr r) =
        let j = since u r in
        subst (λ x. get_or owners' x 0 ≡ owner) j.3 (filled.given j.0 j.1 j.2)
        ∙ chosen
        ∙ ap (choice numbers) (sym (region_same opposite numbers pairs t u within is_gap r))

    still_plain : (u : ℕ) → get_or met' u false ≡ false → get_or owners' u 0 ≡ get_or numbers u 0
    still_plain u h =
        filled.others u (λ j p q e. not_both (get_or met' u false) h (subst (λ x. get_or met' x false ≡ true) e (grown.meeting.own j q)))
        ∙ before.plain u (failed (get_or met u false) (λ e. not_both (get_or met' u false) h (grown.still u e)))

    -- The region of the gap t is met, and given to the number chosen for it.
    pub region_given : State choice opposite numbers met' group' n owners'
    region_given = record {
      meeting = grown.meeting;
      spread = spread;
      as_many = filled.as_many ∙ before.as_many;
      given = λ u h. is_given u (fresh.since u h);
      plain = still_plain;
    }

-- ---- all regions given
unmarked_at : (n t : ℕ) → get_or (replicate n false) t false ≡ false
unmarked_at zero t = refl
unmarked_at (suc n) zero = refl
unmarked_at (suc n) (suc t) = unmarked_at n t

marked_none : (n : ℕ) → marked (replicate n false) ≡ 0
marked_none zero = refl
marked_none (suc n) = omega (arith, marked_none n)

-- Nothing is met: each triangle has its number.
pub none_given : (choice : Choice) (opposite numbers : List ℕ) {met : List Bool} {group owners : List ℕ} → met ≡ replicate (length numbers) false → length group ≡ length numbers → owners ≡ numbers
    → State choice opposite numbers met group 0 owners
none_given choice opposite numbers {met} {group} {owners} e r o = record {
  meeting = record {
    marks = ap length e ∙ length-replicate (length numbers) false;
    room = r;
    many = ap marked e ∙ marked_none (length numbers);
    own = λ i h. absurd (omega arith);
    by = λ t h. absurd (not_both (get_or met t false) (unmarked t) h);
    gaps = λ t h. absurd (not_both (get_or met t false) (unmarked t) h);
    once = λ i j p q. absurd (omega arith);
  };
  spread = λ j h. absurd (omega arith);
  as_many = ap length o;
  given = λ u h. absurd (not_both (get_or met u false) (unmarked u) h);
  plain = λ u h. ap (λ l. get_or l u 0) o;
}
  where
    unmarked : (t : ℕ) → get_or met t false ≡ false
    unmarked t = ap (λ l. get_or l t false) e ∙ unmarked_at (length numbers) t

-- The gaps before t are met.
abbrev pub MetTo : List ℕ → List Bool → ℕ → Type 0
MetTo numbers met t = (u : ℕ) → u < t → get_or numbers u 0 ≡ 0 → get_or met u false ≡ true

-- With all gaps met, each triangle has its owner after repair.
pub all_given : {choice : Choice} {opposite numbers : List ℕ} {met : List Bool} {group : List ℕ} {n : ℕ} {owners : List ℕ} → State choice opposite numbers met group n owners
    → MetTo numbers met (length numbers) → owners ≡ numbers_given choice opposite numbers
all_given {choice} {opposite} {numbers} {met} {owners = owners} s m =
    ext_get_or 0 owners (numbers_given choice opposite numbers) (s.as_many ∙ sym (length_map_from (owner_of choice opposite numbers) 0 (length numbers)))
    (λ u h. at u (omega (arith, s.as_many)) ∙ sym (map_from_at (owner_of choice opposite numbers) (length numbers) u 0 (omega (arith, s.as_many))))
  where
    by_gap : (u : ℕ) → u < length numbers → (b : Bool) → gap opposite numbers u ≡ b → get_or owners u 0 ≡ cond b (choice numbers (region opposite numbers u)) (get_or numbers u 0)
    by_gap u h true e = s.given u (m u h (eqb-true (get_or numbers u 0) 0 e))
    by_gap u h false e = s.plain u (failed (get_or met u false) (λ m. eqb-false (get_or numbers u 0) 0 e (s.meeting.gaps u m)))

    at : (u : ℕ) → u < length numbers → get_or owners u 0 ≡ owner_of choice opposite numbers u
    at u h = by_gap u h (gap opposite numbers u) refl

-- ---- the answers
-- The settled numbers of the sets, laid down at the front of a list.
module _ (sets l rest : List ℕ) (s : l ≡ settled (map owners_of sets)) where
  length_laid : length l ≡ length sets
  length_laid = ap length s ∙ length_settled (map owners_of sets) ∙ length-map sets owners_of

  laid_room : length sets ≤ length (l ++ rest)
  laid_room = omega (arith, length-append l rest, length_laid)

  pub laid_front : take (length sets) (l ++ rest) ≡ settled (map owners_of sets)
  laid_front = take_at l rest (length sets) length_laid ∙ s

  pub length_front : length (take (length sets) (l ++ rest)) ≡ length sets
  length_front = length-take-le (length sets) (l ++ rest) laid_room

-- The front of marks of which none is set.
pub unmarked_front : (n m : ℕ) → n ≤ m → take n (replicate m false) ≡ replicate n false
unmarked_front zero m h = refl
unmarked_front (suc n) zero h = absurd (omega arith)
unmarked_front (suc n) (suc m) h = ap (λ l. false ∷ l) (unmarked_front n m (omega arith))

-- What repair comes to where the settled numbers are these.
module _ (choice : Choice) (opposite : List ℕ) (owners : List (List ℕ)) {numbers : List ℕ} (s : numbers ≡ settled owners) where
  -- Where all are 0, it is refused with 30 and leaves the lent list.
  pub nobody_owns : {lent : List ℕ} → list_all (λ k. eqb k 0) numbers ≡ true → RepairedTo choice opposite owners lent (Err (record { reason = NoOwner; item = 0 })) lent
  nobody_owns {lent} e =
      let f = ap (every (eqb 0)) (sym s) ∙ sym (none_owned numbers) ∙ e in
      record { answer = sym (repaired_by choice opposite owners f refl); left = sym (ap (λ b. cond b lent (numbers_given choice opposite (settled owners))) f) }

  -- Else it leaves the numbers given,
  module _ {given : List ℕ} (e : list_all (λ k. eqb k 0) numbers ≡ false) (g : given ≡ numbers_given choice opposite numbers) where
    some_owns : every (eqb 0) (settled owners) ≡ false
    some_owns = ap (every (eqb 0)) (sym s) ∙ sym (none_owned numbers) ∙ e

    are : given ≡ numbers_given choice opposite (settled owners)
    are = g ∙ ap (numbers_given choice opposite) s

    are_left : (lent : List ℕ) → given ≡ owners_left choice opposite owners lent
    are_left lent = are ∙ sym (ap (λ b. cond b lent (numbers_given choice opposite (settled owners))) some_owns)

    by_fault : (r : Numbered ℕ) → first_fault ungiven [] given ≡ r → repaired choice opposite owners ≡ answer choice opposite owners false r
    by_fault r f = repaired_by choice opposite owners some_owns (ap (first_fault ungiven []) (sym are) ∙ f)

    -- is refused with 31 and the first that nobody can be given, where there is one,
    pub not_all_given : {lent : List ℕ} {t item : ℕ} {found : Option ℕ} → numbered found ≡ first_fault ungiven [] given → found ≡ Some t → item ≡ t + 1
        → RepairedTo choice opposite owners lent (Err (record { reason = Ungiven; item = item })) given
    not_all_given {lent} {t} {item} n f h =
        let k : item ≡ suc t = omega arith in
        record { answer = ap (refused 31) k ∙ sym (by_fault (some (suc t)) (sym n ∙ ap numbered f)); left = are_left lent }

    -- and is done where there is none.
    pub all_are_given : {lent : List ℕ} {found : Option ℕ} → numbered found ≡ first_fault ungiven [] given → found ≡ None → RepairedTo choice opposite owners lent (Ok tt) given
    all_are_given {lent} n f = record { answer = ap value are ∙ sym (by_fault none (sym n ∙ ap numbered f)); left = are_left lent }

-- The same in a way: an unknown one is refused, and a known one is repaired in.
pub unknown_way : (way : ℕ) (lengths opposite : List ℕ) (owners : List (List ℕ)) (before : List ℕ) → 1 < way
    → RepairedBy way lengths opposite owners before (Err (record { reason = Way; item = 0 })) before
unknown_way way lengths opposite owners before h = record { answer = rw (lt-leb way 1 h); left = rw (lt-leb way 1 h) }

pub known_way : (way : ℕ) (lengths opposite : List ℕ) (owners : List (List ℕ)) (before : List ℕ) (r : Result (Unit {0}) Refusal) (after : List ℕ) → way ≤ 1
    → RepairedTo (choice_by way lengths opposite) opposite owners before r after → RepairedBy way lengths opposite owners before r after
known_way way lengths opposite owners before r after h p = record { answer = rw (le-leb way 1 h) p.answer; left = rw (le-leb way 1 h) p.left }
