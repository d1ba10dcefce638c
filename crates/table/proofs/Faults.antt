-- The first fault of a table, searched along the numbers of its corners and of its sides.
-- The idea: after t triangles the search goes on in the triangles of the numbers from 3 * t on, with the t before them as those seen;
-- a side is seen exactly if it is a side below 3 * t. Assumes nothing.
use mathlib.Core.Path.{◌≡◌, refl, sym, ◌∙◌, ap, subst}
use mathlib.Core.Logic.{◌↔◌}
use mathlib.Core.Bool.{Bool, true, false, not}
use mathlib.Core.List.{List, [], ◌∷◌, ◌++◌, flat_map}
use mathlib.Core.Option.{Option, none, some}
use Prim.Native.Nat.{ℕ, zero, suc, ◌+◌, ◌-◌, ◌*◌, ◌/◌, ◌%◌, ◌<◌}
use native.Mathlib.Omega.{arith}
use native.Mathlib.Decide.{dec_lt}
use lib.Dec.{T}
use lib.IntN.{ℤ, pos, negsuc}
use lib.ListN.{length, get_or, drop, length-drop}
use lib.Seq.{drop-cons}
use lib.Signed.{lt_z, le_z}
use borrow.Author.Tests.{leb-true, leb-false, lt-ltb, le-ltb}
use borrow.Author.Count.{below_none, below_more}
use Rattle.whole.specs.Sums.{any}
use Rattle.plane.specs.Points.{Edge, Triangle, sides, same_edge, double}
use Rattle.plane.specs.Boundaries.{sides_of}
use Rattle.plane.specs.Keys.{triangle_at}
use Rattle.plane.proofs.Points.{same_edge-eq, same_edge-refl}
use Rattle.table.specs.Table.{first_fault, flat, repeats}
use Rattle.table.specs.Sides.{triangles_of, tails_of, side_at, item_of, Earlier, NoneBelow, FirstRepeat}

-- ---- three numbers a triangle
-- The list from place i on has the member at i first.
pub drop_next : (l : List ℕ) (i j : ℕ) → j ≡ suc i → i < length l → drop i l ≡ get_or l i 0 ∷ drop j l
drop_next l i j e h = subst (λ m. drop i l ≡ get_or l i 0 ∷ drop m l) (sym e) (drop-cons l i 0 h)

pub triangles_from : (keys : List ℕ) (t u : ℕ) → u ≡ suc t → 3 * t + 2 < length keys → triangles_of (drop (3 * t) keys) ≡ triangle_at keys t ∷ triangles_of (drop (3 * u) keys)
triangles_from keys t u e h = ap triangles_of (
    drop_next keys (3 * t) (3 * t + 1) (omega arith) (omega arith)
    ∙ ap (λ r. get_or keys (3 * t) 0 ∷ r) (drop_next keys (3 * t + 1) (3 * t + 2) (omega arith) (omega arith)
    ∙ ap (λ r. get_or keys (3 * t + 1) 0 ∷ r) (drop_next keys (3 * t + 2) (3 * u) (omega arith) h)))

pub triangles_end : (keys : List ℕ) (t : ℕ) → length keys < 3 * t + 3 → triangles_of (drop (3 * t) keys) ≡ []
triangles_end keys t h = go (drop (3 * t) keys) (omega (arith, length-drop (3 * t) keys))
  where
    go : (l : List ℕ) → length l < 3 → triangles_of l ≡ []
    go [] k = refl
    go (a ∷ []) k = refl
    go (a ∷ b ∷ []) k = refl
    go (a ∷ b ∷ c ∷ l) k = absurd (omega arith)

-- A triangle that passes the test, and one that fails it.
fault_passed : (bad : List Triangle → Triangle → Bool) (before : List Triangle) (t : Triangle) (l : List Triangle) → bad before t ≡ false
    → first_fault bad before (t ∷ l) ≡ first_fault bad (t ∷ before) l
fault_passed bad before t l e = ap (λ b. elim b [ true ↦ some (suc (length before)) | false ↦ first_fault bad (t ∷ before) l ]) e

fault_found : (bad : List Triangle → Triangle → Bool) (before : List Triangle) (t : Triangle) (l : List Triangle) → bad before t ≡ true
    → first_fault bad before (t ∷ l) ≡ some (suc (length before))
fault_found bad before t l e = ap (λ b. elim b [ true ↦ some (suc (length before)) | false ↦ first_fault bad (t ∷ before) l ]) e

-- A fault of a number, and no fault, from the item: the numbers are counted from 1.
pub fault_is : (n : ℕ) (o : Option ℕ) → 0 < n → n ≡ item_of o → o ≡ some n
fault_is n none h e = absurd (omega arith)
fault_is n (some m) h e = sym (ap some e)

no_fault : (b : Bool) (n : ℕ) (o : Option ℕ) → (0 ≡ item_of o → o ≡ none)
    → 0 ≡ item_of (elim b [ true ↦ some (suc n) | false ↦ o ]) → ◌≡◌ {A = Option ℕ} (elim b [ true ↦ some (suc n) | false ↦ o ]) none
no_fault true n o r e = absurd (omega arith)
no_fault false n o r e = r e

pub fault_none : (bad : List Triangle → Triangle → Bool) (before l : List Triangle) → 0 ≡ item_of (first_fault bad before l) → first_fault bad before l ≡ none
fault_none bad before [] e = refl
fault_none bad before (t ∷ l) e = no_fault (bad before t) (length before) (first_fault bad (t ∷ before) l) (fault_none bad (t ∷ before) l) e

-- ---- rule A
-- The test of the code and the test of the rule.
pub not_above : (z : ℤ) → le_z z (pos 0) ≡ true → lt_z (pos 0) z ≡ false
not_above (pos n) e = le-ltb 0 n (leb-true n 0 e)
not_above (negsuc n) e = refl

pub is_above : (z : ℤ) → le_z z (pos 0) ≡ false → lt_z (pos 0) z ≡ true
is_above (pos n) e = lt-ltb 0 n (leb-false n 0 e)
is_above (negsuc n) e = absurd (subst T e tt)

-- The first t triangles have double areas above 0: the search for a flat one goes on after them.
pub record Above (keys : List ℕ) (t : ℕ) : Type 0 where
  pub before : List Triangle
  pub many : length before ≡ t
  pub rest : first_fault flat [] (triangles_of keys) ≡ first_fault flat before (triangles_of (drop (3 * t) keys))

pub above_none : (keys : List ℕ) → Above keys 0
above_none keys = record { before = []; many = refl; rest = refl }

pub above_more : (keys : List ℕ) (t u : ℕ) → u ≡ suc t → 3 * t + 2 < length keys → Above keys t → lt_z (pos 0) (double (triangle_at keys t)) ≡ true → Above keys u
above_more keys t u e h p k = record {
  before = triangle_at keys t ∷ p.before;
  many = ap suc p.many ∙ sym e;
  rest = p.rest ∙ ap (first_fault flat p.before) (triangles_from keys t u e h) ∙ fault_passed flat p.before (triangle_at keys t) (triangles_of (drop (3 * u) keys)) (ap not k);
}

pub flat_here : (keys : List ℕ) (t : ℕ) → 3 * t + 2 < length keys → Above keys t → lt_z (pos 0) (double (triangle_at keys t)) ≡ false → suc t ≡ item_of (first_fault flat [] (triangles_of keys))
flat_here keys t h p k =
    sym (ap item_of (p.rest ∙ ap (first_fault flat p.before) (triangles_from keys t (suc t) refl h) ∙ fault_found flat p.before (triangle_at keys t) (triangles_of (drop (3 * suc t) keys)) (ap not k))
    ∙ ap suc p.many)

pub all_above : (keys : List ℕ) (t : ℕ) → length keys < 3 * t + 3 → Above keys t → 0 ≡ item_of (first_fault flat [] (triangles_of keys))
all_above keys t h p = sym (ap item_of p.rest ∙ rw (triangles_end keys t h) refl)

-- ---- rule B
-- What the search for a repeated side answers is determined.
pub first_repeat_only : (codes : List ℕ) (r q : ℕ) → FirstRepeat codes r → FirstRepeat codes q → r ≡ q
first_repeat_only codes zero zero f g = refl
first_repeat_only codes zero (suc q) f g = absurd (f g.0 g.1 g.3)
first_repeat_only codes (suc r) zero f g = absurd (g f.0 f.1 f.3)
first_repeat_only codes (suc r) (suc q) f g = go (dec_lt f.0 g.0) (dec_lt g.0 f.0)
  where
    go : Dec (f.0 < g.0) → Dec (g.0 < f.0) → suc r ≡ suc q
    go (yes a) b = absurd (g.4 f.0 a f.3)
    go (no a) (yes b) = absurd (f.4 g.0 b g.3)
    go (no a) (no b) =
        let e : f.0 ≡ g.0 = omega arith in
        ap suc (f.2 ∙ ap (λ k. k / 3) e ∙ sym g.2)

-- The corners at which the sides of triangle t end.
tails_at : (t : ℕ) (l : List ℕ) → 3 * t + 2 < length l
    → (get_or (tails_of l) (3 * t) 0 ≡ get_or l (3 * t + 1) 0) × (get_or (tails_of l) (3 * t + 1) 0 ≡ get_or l (3 * t + 2) 0) × (get_or (tails_of l) (3 * t + 2) 0 ≡ get_or l (3 * t) 0)
tails_at t [] h = absurd (omega arith)
tails_at t (a ∷ []) h = absurd (omega arith)
tails_at t (a ∷ b ∷ []) h = absurd (omega arith)
tails_at zero (a ∷ b ∷ c ∷ l) h = (refl, refl, refl)
tails_at (suc t) (a ∷ b ∷ c ∷ l) h =
    let e : 3 * suc t ≡ suc (suc (suc (3 * t))) = omega arith in
    let e₁ : 3 * suc t + 1 ≡ suc (suc (suc (3 * t + 1))) = omega arith in
    let e₂ : 3 * suc t + 2 ≡ suc (suc (suc (3 * t + 2))) = omega arith in
    let i = tails_at t l (omega arith) in
    rw (e₁, e₂, e) i

-- The sides of triangle t by their numbers.
abbrev sides_at : List ℕ → ℕ → List Edge
sides_at keys t = side_at keys (3 * t) ∷ side_at keys (3 * t + 1) ∷ side_at keys (3 * t + 2) ∷ []

sides_are : (keys : List ℕ) (t : ℕ) → 3 * t + 2 < length keys → sides (triangle_at keys t) ≡ sides_at keys t
sides_are keys t h = let k = tails_at t keys h in rw (k.0, k.1, k.2) refl

-- `any` over a list with a first member: by that member, or by a later one.
first_or : (b c : Bool) {X : Type 0} → (T b → X) → (T c → X) → T (elim b [ true ↦ true | false ↦ c ]) → X
first_or true c f g h = f tt
first_or false c f g h = g h

first_yes : (b c : Bool) → T b → T (elim b [ true ↦ true | false ↦ c ])
first_yes true c h = tt
first_yes false c h = absurd h

later_yes : (b c : Bool) → T c → T (elim b [ true ↦ true | false ↦ c ])
later_yes true c h = tt
later_yes false c h = h

-- The sides of the triangles before t are the sides below 3 * t.
abbrev Seen : List ℕ → ℕ → List Triangle → Type 0
Seen keys t before = (e : Edge) → T (any (same_edge e) (sides_of before)) ↔ ((j : ℕ) × (j < 3 * t) × (side_at keys j ≡ e))

seen_none : (keys : List ℕ) → Seen keys 0 []
unfolding flat_map
seen_none keys e = (λ h. absurd h, λ h. absurd (omega (arith, h.1)))

seen_more : (keys : List ℕ) (t : ℕ) (before : List Triangle) → 3 * t + 2 < length keys → Seen keys t before → Seen keys (suc t) (triangle_at keys t ∷ before)
unfolding flat_map
seen_more keys t before h s e =
    subst (λ l. T (any (same_edge e) (l ++ sides_of before)) ↔ Found) (sym (sides_are keys t h)) (to, λ f. from f (dec_lt f.0 (3 * t)) (dec_lt f.0 (3 * t + 1)) (dec_lt f.0 (3 * t + 2)))
  where
    Found : Type 0
    Found = (j : ℕ) × (j < 3 * suc t) × (side_at keys j ≡ e)

    here : ℕ → Bool
    here k = same_edge e (side_at keys k)

    found : (k : ℕ) → k < 3 * suc t → T (here k) → Found
    found k l p = (k, l, sym (same_edge-eq e (side_at keys k) p))

    to : T (any (same_edge e) (sides_at keys t ++ sides_of before)) → Found
    to = first_or (here (3 * t)) _ (found (3 * t) (omega arith)) (first_or (here (3 * t + 1)) _ (found (3 * t + 1) (omega arith)) (first_or (here (3 * t + 2)) _ (found (3 * t + 2) (omega arith))
        (λ p. let f = (s e).0 p in (f.0, omega (arith, f.1), f.2))))

    hit : (f : Found) (k : ℕ) → f.0 ≡ k → T (here k)
    hit f k p = subst (λ x. T (same_edge e x)) (sym f.2 ∙ ap (side_at keys) p) (same_edge-refl e)

    from : (f : Found) → Dec (f.0 < 3 * t) → Dec (f.0 < 3 * t + 1) → Dec (f.0 < 3 * t + 2) → T (any (same_edge e) (sides_at keys t ++ sides_of before))
    from f (yes a) b c = later_yes (here (3 * t)) _ (later_yes (here (3 * t + 1)) _ (later_yes (here (3 * t + 2)) _ ((s e).1 (f.0, a, f.2))))
    from f (no a) (yes b) c = first_yes (here (3 * t)) _ (hit f (3 * t) (omega arith))
    from f (no a) (no b) (yes c) = later_yes (here (3 * t)) _ (first_yes (here (3 * t + 1)) _ (hit f (3 * t + 1) (omega arith)))
    from f (no a) (no b) (no c) = later_yes (here (3 * t)) _ (later_yes (here (3 * t + 1)) _ (first_yes (here (3 * t + 2)) _ (hit f (3 * t + 2) (omega (arith, f.1)))))

-- `any` over three tests.
abbrev or₃ : Bool → Bool → Bool → Bool
or₃ a b c = elim a [ true ↦ true | false ↦ elim b [ true ↦ true | false ↦ elim c [ true ↦ true | false ↦ false ] ] ]

-- For codes that tell the sides apart: equal codes are the same ordered pair.
module _ (codes keys : List ℕ) (n : ℕ) (many : length codes ≡ length keys) (threes : length keys ≡ 3 * n)
    (tells : (j k : ℕ) → j < length keys → k < length keys → (get_or codes j 0 ≡ get_or codes k 0) ↔ (side_at keys j ≡ side_at keys k)) where
  -- A side is one of the triangles before its own exactly if the codes say so.
  earlier_is : (t k : ℕ) (before : List Triangle) → Seen keys t before → k < length keys → k - k % 3 ≡ 3 * t → T (any (same_edge (side_at keys k)) (sides_of before)) ↔ Earlier codes k
  earlier_is t k before s h e = (
    λ p. let f = (s (side_at keys k)).0 p in (f.0, omega (arith, f.1), (tells f.0 k (omega (arith, f.1)) h).1 f.2),
    λ f. (s (side_at keys k)).1 (f.0, omega (arith, f.1), (tells f.0 k (omega (arith, f.1)) h).0 f.2),
  )

  -- One turn of the search: triangle t has a side of an earlier one, or the search goes on.
  turned : (t : ℕ) (before rest : List Triangle) → length before ≡ t → 3 * t + 2 < length keys → Seen keys t before → NoneBelow codes (3 * t)
      → (NoneBelow codes (3 * suc t) → FirstRepeat codes (item_of (first_fault repeats (triangle_at keys t ∷ before) rest)))
      → FirstRepeat codes (item_of (first_fault repeats before (triangle_at keys t ∷ rest)))
  turned t before rest m h s none_yet go_on = three (seen (3 * t)) (seen (3 * t + 1)) (seen (3 * t + 2)) refl refl refl
    where
      seen : ℕ → Bool
      seen k = any (same_edge (side_at keys k)) (sides_of before)

      Goal : Type 0
      Goal = FirstRepeat codes (item_of (first_fault repeats before (triangle_at keys t ∷ rest)))

      test : repeats before (triangle_at keys t) ≡ any (λ e. any (same_edge e) (sides_of before)) (sides_at keys t)
      test = ap (any (λ e. any (same_edge e) (sides_of before))) (sides_are keys t h)

      clear : (k : ℕ) → seen k ≡ false → k < length keys → k - k % 3 ≡ 3 * t → Earlier codes k → ⊥
      clear k e l d f = subst T e ((earlier_is t k before s l d).1 f)

      found : (k : ℕ) → seen k ≡ true → k < length keys → k - k % 3 ≡ 3 * t → NoneBelow codes k → any (λ e. any (same_edge e) (sides_of before)) (sides_at keys t) ≡ true → Goal
      found k e l d f u =
          subst (λ o. FirstRepeat codes (item_of o)) (sym (fault_found repeats before (triangle_at keys t) rest (test ∙ u)))
          (k, omega arith, omega arith, (earlier_is t k before s l d).0 (subst T (sym e) tt), f)

      below₁ : seen (3 * t) ≡ false → NoneBelow codes (3 * t + 1)
      below₁ d = below_more (λ k. Earlier codes k → ⊥) (3 * t) none_yet (clear (3 * t) d (omega arith) (omega arith))

      below₂ : seen (3 * t) ≡ false → seen (3 * t + 1) ≡ false → NoneBelow codes (3 * t + 2)
      below₂ d e k l = below_more (λ k. Earlier codes k → ⊥) (3 * t + 1) (below₁ d) (clear (3 * t + 1) e (omega arith) (omega arith)) k (omega arith)

      below₃ : seen (3 * t) ≡ false → seen (3 * t + 1) ≡ false → seen (3 * t + 2) ≡ false → NoneBelow codes (3 * suc t)
      below₃ d e f k l = below_more (λ k. Earlier codes k → ⊥) (3 * t + 2) (below₂ d e) (clear (3 * t + 2) f (omega arith) (omega arith)) k (omega arith)

      three : (a b c : Bool) → seen (3 * t) ≡ a → seen (3 * t + 1) ≡ b → seen (3 * t + 2) ≡ c → Goal
      three true b c d e f = found (3 * t) d (omega arith) (omega arith) none_yet (λ i. or₃ (d i) (e i) (f i))
      three false true c d e f = found (3 * t + 1) e (omega arith) (omega arith) (below₁ d) (λ i. or₃ (d i) (e i) (f i))
      three false false true d e f = found (3 * t + 2) f (omega arith) (omega arith) (below₂ d e) (λ i. or₃ (d i) (e i) (f i))
      three false false false d e f =
          subst (λ o. FirstRepeat codes (item_of o)) (sym (fault_passed repeats before (triangle_at keys t) rest (test ∙ (λ i. or₃ (d i) (e i) (f i))))) (go_on (below₃ d e f))

  -- The search from triangle t on, with `left` triangles left.
  walked : (left t : ℕ) (before : List Triangle) → length before ≡ t → t + left ≡ n → Seen keys t before → NoneBelow codes (3 * t)
      → FirstRepeat codes (item_of (first_fault repeats before (triangles_of (drop (3 * t) keys))))
  walked zero t before m e s h = rw (triangles_end keys t (omega arith)) (λ k l. h k (omega arith))
  walked (suc left) t before m e s h =
      rw (triangles_from keys t (suc t) refl (omega arith)) (turned t before (triangles_of (drop (3 * suc t) keys)) m (omega arith) s h
      (λ k. walked left (suc t) (triangle_at keys t ∷ before) (ap suc m) (omega arith) (seen_more keys t before (omega arith) s) k))

  -- Where equal codes are the same side, the search for a repeated side finds the first triangle that has a side of an earlier one.
  pub first_repeat_is : (r : ℕ) → FirstRepeat codes r → r ≡ item_of (first_fault repeats [] (triangles_of keys))
  first_repeat_is r h = first_repeat_only codes r _ h (walked n 0 [] refl (omega arith) (seen_none keys) (below_none _))
