-- What is emitted for numbers is the normal bytes of the sheet that they make up. The idea: each level emits exactly where its thing stands at
-- the front of the numbers and passes its test, and then the thing's bytes; this is kept by lists and by counts, from points to the sheet.
-- Assumes nothing.
use mathlib.Core.Path.{◌≡◌, refl, sym, ◌∙◌, ap, subst}
use mathlib.Core.Bool.{Bool, true, false, ◌&&◌, cond}
use mathlib.Core.List.{List, [], ◌∷◌, ◌++◌, map, flat_map, append_assoc, append-nil}
use mathlib.Core.Option.{Option, none, some, none-ne-some, some-injective}
use Prim.Native.Nat.{ℕ, zero, suc, ◌+◌, ◌-◌, ◌*◌, ◌≤◌, ◌<◌}
use native.Mathlib.Omega.{arith}
use native.Mathlib.Nat.{zero-add}
use lib.Dec.{T, leb, leb→le, le→leb, leb-zero, leb-suc-zero, eqb-suc-suc, eqb-suc-zero}
use lib.Ieee.Bits.{is_true}
use lib.IntN.{ℤ, pos, negsuc}
use lib.ListN.{length, get_or, length-map, length-append}
use Rattle.whole.specs.Sums.{every}
use Rattle.whole.proofs.Sums.{and_left}
use Rattle.plane.specs.Points.{Point, Triangle}
use Rattle.plane.specs.Members.{Ring, Polygon, Member}
use Rattle.wkb_kinds.specs.declared.Kind.TheVariants.{Collection, Tin, Triangle as Three}
use Rattle.lent_little.specs.Ordered.{bytes_of}
use Rattle.wkb.specs.Standard.{Geometry, count, header, encode_point, encode_ring, encode, encode_all}
use Rattle.lent_fields.proofs.Remains.{within}
use Rattle.sheet_form.specs.Numbers.{Sheet, members, point_numbers, triangle_numbers}
use Rattle.sheet_standard.specs.Limits.{ring_lengths, lengths, all_lengths}
use Rattle.sheet_form.specs.Form.{Front, after, point_in, triangle_in, many_in, counted_in, ring_in, part_in, member_in, whole, sheet_in}
use Rattle.sheet_written.specs.Fits.{from_to, point_fits, triangle_fits, origin, closed, ring_fits, part_fits, member_fits, sheet_fits}
use Rattle.sheet_written.specs.Given.{limited}
use Rattle.sheet_written.specs.Normal.{pair_of, piece_of, part_of, geometries, member_tree, normal, written}
use Rattle.sheet_writer.specs.Emit.{Emitted, joined, followed, low, high, heading, closed as closing, closes, emit_point, emit_many, emit_counted, emit, again, emit_piece, ended, sheet_header, uncounted, emit_sheet}

-- ---- what is taken off the front of numbers
-- Two successes that are the same have the same thing and the same numbers behind it.
parts : {A : Type 0} {a b : A} {k l : List ℤ} → ◌≡◌ {A = Front A} (some (a, k)) (some (b, l)) → (a ≡ b) × (k ≡ l)
parts {A} {a} {b} {k} {l} e =
    let p = some-injective (a, k) (b, l) e in
    ((λ i. (p i).0), (λ i. (p i).1))

module _ {A : Type 0} (f : List ℤ → Front A) where
  -- What stands at the front has these numbers.
  abbrev Only : (A → List ℤ) → Type 0
  Only g = (l : List ℤ) (a : A) (r : List ℤ) → f l ≡ some (a, r) → l ≡ g a ++ r

  -- So many things are taken off as one, and then the others.
  record Taken (n : ℕ) (l : List ℤ) (m : List A) (r : List ℤ) : Type 0 where
    first : A
    behind : List ℤ
    others : List A
    one_is : f l ≡ some (first, behind)
    others_are : many_in f n behind ≡ some (others, r)
    all_are : first ∷ others ≡ m

  taken : (n : ℕ) (l : List ℤ) (m : List A) (r : List ℤ) → many_in f (suc n) l ≡ some (m, r) → Taken n l m r
  unfolding many_in
  taken n l m r e = go (f l) refl e
    where
      last : (a : A) (k : List ℤ) (y : Front (List A)) → f l ≡ some (a, k) → many_in f n k ≡ y → after {B = List A × List ℤ} y (λ m q. some (a ∷ m, q)) ≡ some (m, r) → Taken n l m r
      last a k none u v e = absurd (none-ne-some _ e)
      last a k (some (o, q)) u v e =
          let p = parts e in
          record { first = a; behind = k; others = o; one_is = u; others_are = v ∙ ap (λ (z : List ℤ). some (o, z)) p.1; all_are = p.0 }

      go : (x : Front A) → f l ≡ x → after {B = List A × List ℤ} x (λ a k. after (many_in f n k) (λ m q. some (a ∷ m, q))) ≡ some (m, r) → Taken n l m r
      go none u e = absurd (none-ne-some _ e)
      go (some (a, k)) u e = last a k (many_in f n k) u refl e

  many_length : (n : ℕ) (l : List ℤ) (m : List A) (r : List ℤ) → many_in f n l ≡ some (m, r) → length m ≡ n
  unfolding many_in
  many_length zero l m r e = sym (ap length (parts e).0)
  many_length (suc n) l m r e = let t = taken n l m r e in sym (ap length t.all_are) ∙ ap suc (many_length n t.behind t.others r t.others_are)

  many_only : (g : A → List ℤ) → Only g → (n : ℕ) (l : List ℤ) (m : List A) (r : List ℤ) → many_in f n l ≡ some (m, r) → l ≡ flat_map g m ++ r
  unfolding many_in flat_map
  many_only g only zero l m r e = (parts e).1 ∙ ap (λ z. flat_map g z ++ r) (parts e).0
  many_only g only (suc n) l m r e =
      let t = taken n l m r e in
      only l t.first t.behind t.one_is
      ∙ ap (λ z. g t.first ++ z) (many_only g only n t.behind t.others r t.others_are)
      ∙ sym (append_assoc (g t.first) (flat_map g t.others) r)
      ∙ ap (λ z. flat_map g z ++ r) t.all_are

point_only : Only point_in point_numbers
point_only [] a r e = absurd (none-ne-some _ e)
point_only (x ∷ []) a r e = absurd (none-ne-some _ e)
point_only (x ∷ y ∷ l) a r e = let p = parts e in λ i. (p.0 i).x ∷ (p.0 i).y ∷ p.1 i

triangle_only : Only triangle_in triangle_numbers
triangle_only [] t r e = absurd (none-ne-some _ e)
triangle_only (a ∷ []) t r e = absurd (none-ne-some _ e)
triangle_only (a ∷ b ∷ []) t r e = absurd (none-ne-some _ e)
triangle_only (a ∷ b ∷ c ∷ []) t r e = absurd (none-ne-some _ e)
triangle_only (a ∷ b ∷ c ∷ d ∷ []) t r e = absurd (none-ne-some _ e)
triangle_only (a ∷ b ∷ c ∷ d ∷ x ∷ []) t r e = absurd (none-ne-some _ e)
triangle_only (a ∷ b ∷ c ∷ d ∷ x ∷ y ∷ l) t r e =
    let p = parts e in
    λ i. (p.0 i).a.x ∷ (p.0 i).a.y ∷ (p.0 i).b.x ∷ (p.0 i).b.y ∷ (p.0 i).c.x ∷ (p.0 i).c.y ∷ p.1 i

-- ---- one thing
-- What is emitted for a thing at the front that passes a test.
abbrev emitted : {A : Type 0} → (A → Bool) → (A → List ℕ) → (A → ℕ) → Front A → Option Emitted
emitted ok enc pts none = none
emitted ok enc pts (some (a, r)) = cond (ok a) (some (record { bytes = enc a; points = pts a; rest = r })) none

abbrev Emits : {A : Type 0} → (List ℤ → Front A) → (A → Bool) → (A → List ℕ) → (A → ℕ) → (List ℤ → Option Emitted) → Type 0
Emits f ok enc pts g = (l : List ℤ) → g l ≡ emitted ok enc pts (f l)

-- The points among things are those of each.
abbrev Adds : {A : Type 0} → (A → ℕ) → (List A → ℕ) → Type 0
Adds {A} pts among = (among [] ≡ 0) × ((a : A) (l : List A) → among (a ∷ l) ≡ pts a + among l)

-- ---- so many things, and a count of things
-- Two things are emitted where both tests are passed.
followed_cond : (b c : Bool) (e d : Emitted) (h : List ℤ → Option Emitted) → h e.rest ≡ cond c (some d) none
    → followed (cond b (some e) none) h ≡ cond (elim b [ true ↦ c | false ↦ false ]) (joined e (some d)) none
followed_cond false c e d h q = refl
followed_cond true false e d h q = rw q refl
followed_cond true true e d h q = rw q refl

followed_none : (b : Bool) (e : Emitted) (h : List ℤ → Option Emitted) → h e.rest ≡ none → followed (cond b (some e) none) h ≡ none
followed_none false e h q = refl
followed_none true e h q = rw q refl

no_choice : {A : Type 0} (b : Bool) (x : A) → cond b x x ≡ x
no_choice true x = refl
no_choice false x = refl

module _ {A : Type 0} (f : List ℤ → Front A) (ok : A → Bool) (enc : A → List ℕ) (pts : A → ℕ) (among : List A → ℕ) (adds : Adds pts among) (g : List ℤ → Option Emitted) (is : Emits f ok enc pts g) where
  many : (n : ℕ) → Emits (many_in f n) (every ok) (flat_map enc) among (emit_many g n)
  unfolding many_in emit_many flat_map
  many zero l = rw adds.0 refl
  many (suc n) l = rw (is l) (go (many n) (f l))
    where
      step : (a : A) (r : List ℤ) (x : Front (List A)) → emit_many g n r ≡ emitted (every ok) (flat_map enc) among x
          → followed (emitted ok enc pts (some (a, r))) (emit_many g n) ≡ emitted (every ok) (flat_map enc) among (after x (λ m q. some (a ∷ m, q)))
      step a r none h = followed_none (ok a) _ (emit_many g n) h
      step a r (some (m, q)) h = rw (adds.1 a m) (followed_cond (ok a) (every ok m) _ _ (emit_many g n) h)

      go : Emits (many_in f n) (every ok) (flat_map enc) among (emit_many g n) → (x : Front A)
          → followed (emitted ok enc pts x) (emit_many g n) ≡ emitted (every ok) (flat_map enc) among (after x (λ a k. after (many_in f n k) (λ m q. some (a ∷ m, q))))
      go h none = refl
      go h (some (a, r)) = step a r (many_in f n r) (h r)

  module _ (k : ℕ) (test : List A → Bool) (encs : List A → List ℕ) where
    -- The level's test is that of its count and its closing, and each thing's.
    abbrev Tests : Type 0
    Tests = (l : List ℤ) (a : List A) (r : List ℤ) → many_in f (length a) l ≡ some (a, r) → test a ≡ from_to (low k) (high k) (length a) && closes k (length a) l && every ok a

    abbrev Heads : Type 0
    Heads = (a : List A) → T (from_to (low k) (high k) (length a)) → heading k (length a) ++ flat_map enc a ≡ encs a

    counted : Tests → Heads → Emits (counted_in f) test encs among (emit_counted k g)
    counted tests heads [] = refl
    counted tests heads (negsuc n ∷ l) = refl
    counted tests heads (pos n ∷ l) = rw (many n l) (go n (many_in f n l) refl)
      where
        step : (c d : Bool) (h b e : List ℕ) (p : ℕ) (r : List ℤ) → (T c → h ++ b ≡ e)
            → cond c (joined (record { bytes = h; points = 0; rest = l }) (cond d (some (record { bytes = b; points = p; rest = r })) none)) none
            ≡ cond (c && d) (some (record { bytes = e; points = p; rest = r })) none
        step false d h b e p r q = refl
        step true false h b e p r q = refl
        step true true h b e p r q = rw (q tt, zero-add p) refl

        go : (n : ℕ) (x : Front (List A)) → many_in f n l ≡ x
            → cond (from_to (low k) (high k) n && closes k n l) (joined (record { bytes = heading k n; points = 0; rest = l }) (emitted (every ok) (flat_map enc) among x)) none
            ≡ emitted test encs among x
        go n none e = no_choice (from_to (low k) (high k) n && closes k n l) none
        go n (some (a, r)) e =
            let len = many_length f n l a r e in
            let at = subst (λ (i : ℕ). many_in f i l ≡ some (a, r)) (sym len) e in
            rw (← len, tests l a r at)
            (step (from_to (low k) (high k) (length a) && closes k (length a) l) (every ok a) (heading k (length a)) (flat_map enc a) (encs a) (among a) r
            (λ t. heads a (and_left (from_to (low k) (high k) (length a)) (closes k (length a) l) t)))

-- ---- points
point : Emits point_in point_fits (λ p. encode_point true (pair_of p)) (λ p. 1) emit_point
unfolding emit_point
point [] = refl
point (x ∷ []) = refl
point (x ∷ y ∷ l) = refl

-- ---- rings
module _ {A B : Type 0} (h : A → B) where
  flat_map-map : (g : B → List ℕ) (l : List A) → flat_map g (map h l) ≡ flat_map (λ a. g (h a)) l
  unfolding flat_map
  flat_map-map g [] = refl
  flat_map-map g (a ∷ l) = ap (λ m. g (h a) ++ m) (flat_map-map g l)

-- The numbers of a point of a ring.
at : (a : Ring) (r : List ℤ) (k : ℕ) → k < length a
    → (get_or (flat_map point_numbers a ++ r) (2 * k) (pos 0) ≡ (get_or a k origin).x) × (get_or (flat_map point_numbers a ++ r) (2 * k + 1) (pos 0) ≡ (get_or a k origin).y)
unfolding flat_map
at [] r k h = absurd (omega arith)
at (p ∷ a) r zero h = (refl, refl)
at (p ∷ a) r (suc k) h =
    let i = at a r k (omega arith) in
    let u : 2 * suc k ≡ suc (suc (2 * k)) = omega arith in
    let v : 2 * suc k + 1 ≡ suc (suc (2 * k + 1)) = omega arith in
    (ap (λ (j : ℕ). get_or (flat_map point_numbers (p ∷ a) ++ r) j (pos 0)) u ∙ i.0, ap (λ (j : ℕ). get_or (flat_map point_numbers (p ∷ a) ++ r) j (pos 0)) v ∙ i.1)

points_length : (a : Ring) → length (flat_map point_numbers a) ≡ 2 * length a
unfolding flat_map
points_length [] = refl
points_length (p ∷ a) = omega (arith, points_length a)

-- The numbers tell the same of a ring's ends as its points.
ring_closed : (a : Ring) (r : List ℤ) → 1 ≤ length a → closing (length a) (flat_map point_numbers a ++ r) ≡ closed a
ring_closed a r h =
    let last = at a r (length a - 1) (omega arith) in
    let first = at a r 0 (omega arith) in
    let u : 2 * length a - 2 ≡ 2 * (length a - 1) = omega arith in
    let v : 2 * length a - 1 ≡ 2 * (length a - 1) + 1 = omega arith in
    let w = is_true (leb (2 * length a) (length (flat_map point_numbers a ++ r)))
    (le→leb (2 * length a) (length (flat_map point_numbers a ++ r)) (omega (arith, length-append (flat_map point_numbers a) r, points_length a))) in
    rw (w, u, v, last.0, last.1, first.0, first.1) refl

turned : (a b c d : Bool) → (T a → d ≡ c) → a && b && c ≡ a && d && b
turned false b c d h = refl
turned true false false d h = rw (h tt) refl
turned true false true d h = rw (h tt) refl
turned true true false d h = rw (h tt) refl
turned true true true d h = rw (h tt) refl

ring : Emits ring_in ring_fits (λ r. encode_ring true (map pair_of r)) length (emit 1)
unfolding emit closes heading encode_ring
ring = counted point_in point_fits (λ p. encode_point true (pair_of p)) (λ p. 1) length (refl, λ a l. omega arith) emit_point point 1 ring_fits (λ r. encode_ring true (map pair_of r)) tests heads
  where
    tests : (l : List ℤ) (a : Ring) (r : List ℤ) → many_in point_in (length a) l ≡ some (a, r) → ring_fits a ≡ from_to 4 4096 (length a) && closes 1 (length a) l && every point_fits a
    tests l a r e = turned (from_to 4 4096 (length a)) (every point_fits a) (closed a) (closing (length a) l)
        (λ t. let four = leb→le 4 (length a) (and_left (leb 4 (length a)) (leb (length a) 4096) t) in
        ap (closing (length a)) (many_only point_in point_numbers point_only (length a) l a r e) ∙ ring_closed a r (omega arith))

    heads : (a : Ring) → T (from_to 4 4096 (length a)) → heading 1 (length a) ++ flat_map (λ p. encode_point true (pair_of p)) a ≡ encode_ring true (map pair_of a)
    heads a t = rw (length-map a pair_of, flat_map-map pair_of (encode_point true) a) refl

-- ---- polygons
open_true : (b c : Bool) → b && c ≡ b && true && c
open_true true c = refl
open_true false c = refl

part : Emits part_in part_fits (λ p. encode (part_of p)) ring_lengths (emit 2)
unfolding emit closes heading encode
part = counted ring_in ring_fits (λ r. encode_ring true (map pair_of r)) length ring_lengths (refl, λ a l. refl) (emit 1) ring 2 part_fits (λ p. encode (part_of p)) tests heads
  where
    tests : (l : List ℤ) (a : Polygon) (r : List ℤ) → many_in ring_in (length a) l ≡ some (a, r) → part_fits a ≡ from_to 1 64 (length a) && closes 2 (length a) l && every ring_fits a
    tests l a r e = open_true (from_to 1 64 (length a)) (every ring_fits a)

    heads : (a : Polygon) → T (from_to 1 64 (length a)) → heading 2 (length a) ++ flat_map (λ r. encode_ring true (map pair_of r)) a ≡ encode (part_of a)
    heads a t = rw (length-map a (map pair_of), flat_map-map (map pair_of) (encode_ring true) a) refl

-- ---- members
module _ {A : Type 0} (f : A → Geometry) where
  count_is : (l : List A) → count (geometries f l) ≡ length l
  count_is [] = refl
  count_is (a ∷ l) = ap suc (count_is l)

  encode_is : (l : List A) → encode_all (geometries f l) ≡ flat_map (λ a. encode (f a)) l
  unfolding encode_all flat_map
  encode_is [] = refl
  encode_is (a ∷ l) = ap (λ m. encode (f a) ++ m) (encode_is l)

member : Emits member_in member_fits (λ m. encode (member_tree m)) lengths (emit 3)
unfolding emit closes heading encode flat_map
member = counted part_in part_fits (λ p. encode (part_of p)) ring_lengths lengths (refl, λ a l. refl) (emit 2) part 3 member_fits (λ m. encode (member_tree m)) tests heads
  where
    tests : (l : List ℤ) (a : Member) (r : List ℤ) → many_in part_in (length a) l ≡ some (a, r) → member_fits a ≡ from_to 1 64 (length a) && closes 3 (length a) l && every part_fits a
    tests l a r e = open_true (from_to 1 64 (length a)) (every part_fits a)

    heads : (a : Member) → T (from_to 1 64 (length a)) → heading 3 (length a) ++ flat_map (λ p. encode (part_of p)) a ≡ encode (member_tree a)
    heads [] t = absurd t
    heads (p ∷ []) t = append-nil (encode (part_of p))
    heads (p ∷ q ∷ a) t = rw (eqb-suc-suc (suc (length a)) 0, eqb-suc-zero (length a), count_is part_of a, encode_is part_of (p ∷ q ∷ a)) refl

-- ---- the polygons of the sheet
abbrev all_fit : List Member → Bool
all_fit l = leb (length l + 1) members && every member_fits l

all : Emits (counted_in member_in) all_fit (flat_map (λ m. encode (member_tree m))) all_lengths (emit 4)
unfolding emit closes heading
all = counted member_in member_fits (λ m. encode (member_tree m)) lengths all_lengths (refl, λ a l. refl) (emit 3) member 4 all_fit (flat_map (λ m. encode (member_tree m))) tests (λ a t. refl)
  where
    tests : (l : List ℤ) (a : List Member) (r : List ℤ) → many_in member_in (length a) l ≡ some (a, r) → all_fit a ≡ from_to 0 64 (length a) && closes 4 (length a) l && every member_fits a
    tests l a r e = rw (leb-zero (length a), ← within (length a) 1 (length a + 1) members (omega arith) refl) (open_true (leb (length a) 64) (every member_fits a))

-- ---- the table's pieces
nested : (a b c : Bool) → elim a [ true ↦ elim b [ true ↦ elim c [ true ↦ true | false ↦ false ] | false ↦ false ] | false ↦ false ] ≡ a && b && c
nested false b c = refl
nested true false c = refl
nested true true false = refl
nested true true true = refl

again_cond : (b : Bool) (l : List ℤ) (e : Emitted) → again l (cond b (some e) none) ≡ cond b (again l (some e)) none
again_cond true l e = refl
again_cond false l e = refl

spread : (h b w x y : List ℕ) → h ++ b ++ (w ++ (x ++ (y ++ []))) ++ w ≡ h ++ ((b ++ (w ++ (x ++ (y ++ (w ++ []))))) ++ [])
spread h b w x y = simp (append_assoc, append-nil)

piece : Emits triangle_in triangle_fits (λ t. encode (piece_of t)) (λ t. 3) emit_piece
unfolding emit_piece many_in encode encode_ring flat_map
piece l = rw (many point_in point_fits (λ p. encode_point true (pair_of p)) (λ p. 1) length (refl, λ a l. omega arith) emit_point point 3 l) (go l)
  where
    at_three : (p q s : Point) (l : List ℤ)
        → again (p.x ∷ p.y ∷ q.x ∷ q.y ∷ s.x ∷ s.y ∷ l) (emitted (every point_fits) (flat_map (λ p. encode_point true (pair_of p))) length (some (p ∷ q ∷ s ∷ [], l)))
        ≡ emitted triangle_fits (λ t. encode (piece_of t)) (λ t. 3) (some (record { a = p; b = q; c = s }, l))
    at_three p q s l =
        let tests = nested (point_fits p) (point_fits q) (point_fits s) in
        let is = spread (header true Three 1) (bytes_of true 4 4) (encode_point true (pair_of p)) (encode_point true (pair_of q)) (encode_point true (pair_of s)) in
        again_cond (every point_fits (p ∷ q ∷ s ∷ [])) (p.x ∷ p.y ∷ q.x ∷ q.y ∷ s.x ∷ s.y ∷ l) _ ∙ λ i. cond (tests i) (some (record { bytes = is i; points = 3; rest = l })) none

    go : (l : List ℤ) → again l (emitted (every point_fits) (flat_map (λ p. encode_point true (pair_of p))) length (many_in point_in 3 l))
        ≡ emitted triangle_fits (λ t. encode (piece_of t)) (λ t. 3) (triangle_in l)
    go [] = refl
    go (a ∷ []) = refl
    go (a ∷ b ∷ []) = refl
    go (a ∷ b ∷ c ∷ []) = refl
    go (a ∷ b ∷ c ∷ d ∷ []) = refl
    go (a ∷ b ∷ c ∷ d ∷ x ∷ []) = refl
    go (a ∷ b ∷ c ∷ d ∷ x ∷ y ∷ l) = at_three (record { x = a; y = b }) (record { x = c; y = d }) (record { x = x; y = y }) l

table : (t : ℕ) → Emits (many_in triangle_in t) (every triangle_fits) (flat_map (λ t. encode (piece_of t))) (λ m. 3 * length m) (emit_many emit_piece t)
table = many triangle_in triangle_fits (λ t. encode (piece_of t)) (λ t. 3) (λ m. 3 * length m) (omega arith, λ a l. omega arith) emit_piece piece

-- What is behind the table's numbers.
behind_all : (m : List Triangle) (r : List ℤ)
    → (get_or (flat_map triangle_numbers m ++ r) (6 * length m) (pos 0) ≡ get_or r 0 (pos 0)) × (length (flat_map triangle_numbers m ++ r) ≡ 6 * length m + length r)
unfolding flat_map
behind_all [] r = (refl, omega arith)
behind_all (t ∷ m) r =
    let i = behind_all m r in
    let u : 6 * suc (length m) ≡ suc (suc (suc (suc (suc (suc (6 * length m)))))) = omega arith in
    (ap (λ (j : ℕ). get_or (flat_map triangle_numbers (t ∷ m) ++ r) j (pos 0)) u ∙ i.0, omega (arith, i.1))

behind_table : (t : ℕ) (l : List ℤ) (m : List Triangle) (r : List ℤ) → many_in triangle_in t l ≡ some (m, r)
    → (get_or l (6 * t) (pos 0) ≡ get_or r 0 (pos 0)) × (length l ≡ 6 * t + length r)
behind_table t l m r e = rw (many_only triangle_in triangle_numbers triangle_only t l m r e, ← many_length triangle_in t l m r e) (behind_all m r)

-- ---- the sheet
-- Where the polygons behind the table are not emitted, nothing is.
nothing : (t : ℕ) (l : List ℤ) → ((m : List Triangle) (r : List ℤ) → many_in triangle_in t l ≡ some (m, r) → emit 4 r ≡ none) → emit_sheet (pos t ∷ l) ≡ none
unfolding emit_sheet
nothing t l h = rw (table t l) (go (many_in triangle_in t l) refl)
  where
    step : (b c : Bool) (d e : Emitted) → emit 4 e.rest ≡ none → cond b (ended (followed (joined d (uncounted (cond c (some e) none))) (emit 4))) none ≡ none
    step false c d e q = refl
    step true false d e q = refl
    step true true d e q = rw q refl

    go : (x : Front (List Triangle)) → many_in triangle_in t l ≡ x
        → cond (from_to 2 1024 t) (ended (followed (joined (record { bytes = sheet_header (get_or l (6 * t) (pos 0)) ++ header true Tin t; points = 0; rest = l })
        (uncounted (emitted (every triangle_fits) (flat_map (λ t. encode (piece_of t))) (λ m. 3 * length m) x))) (emit 4))) none ≡ none
    go none e = no_choice (from_to 2 1024 t) none
    go (some (m, r)) e = step (from_to 2 1024 t) (every triangle_fits m)
        (record { bytes = sheet_header (get_or l (6 * t) (pos 0)) ++ header true Tin t; points = 0; rest = l })
        (record { bytes = flat_map (λ t. encode (piece_of t)) m; points = 3 * length m; rest = r }) (h m r e)

sheet_bytes : (n : Sheet)
    → sheet_header (pos (length n.polygons)) ++ header true Tin (length n.table) ++ flat_map (λ t. encode (piece_of t)) n.table ++ flat_map (λ m. encode (member_tree m)) n.polygons
    ≡ written n
unfolding normal encode encode_all
sheet_bytes n =
    let one : length n.polygons + 1 ≡ suc (length n.polygons) = omega arith in
    let head = header true Collection (suc (length n.polygons)) in
    let tin = header true Tin (length n.table) in
    let pieces = flat_map (λ t. encode (piece_of t)) n.table in
    let members = flat_map (λ m. encode (member_tree m)) n.polygons in
    rw (one, count_is member_tree n.polygons, count_is piece_of n.table, encode_is piece_of n.table, encode_is member_tree n.polygons)
    (ap (λ z. z ++ members) (append_assoc head tin pieces) ∙ append_assoc head (tin ++ pieces) members)

-- The count before the polygons is their number.
number_is : (r : List ℤ) (p : List Member) (q : List ℤ) → counted_in member_in r ≡ some (p, q) → get_or r 0 (pos 0) ≡ pos (length p)
number_is [] p q e = absurd (none-ne-some _ e)
number_is (negsuc n ∷ r) p q e = absurd (none-ne-some _ e)
number_is (pos n ∷ r) p q e = ap pos (sym (many_length member_in n r p q e))

-- The bytes of a sheet that may be.
abbrev pub written_for : Option Sheet → Option (List ℕ)
written_for none = none
written_for (some n) = some (written n)

pub emit_sheet_lem : (l : List ℤ) → emit_sheet l ≡ written_for (limited members (sheet_in l))
unfolding emit_sheet sheet_fits
emit_sheet_lem [] = refl
emit_sheet_lem (negsuc t ∷ l) = refl
emit_sheet_lem (pos t ∷ l) = go (many_in triangle_in t l) refl
  where
    -- The table and the polygons are emitted where all their tests are passed.
    both : (b c d : Bool) (h w v : List ℕ) (k n : ℕ) (r q : List ℤ) → emit 4 r ≡ cond d (some (record { bytes = v; points = n; rest = q })) none
        → cond b (ended (followed (joined (record { bytes = h; points = 0; rest = l }) (uncounted (cond c (some (record { bytes = w; points = k; rest = r })) none))) (emit 4))) none
        ≡ cond (b && c && d) (ended (some (record { bytes = h ++ w ++ v; points = n; rest = q }))) none
    both false c d h w v k n r q e = refl
    both true false d h w v k n r q e = refl
    both true true false h w v k n r q e = rw e refl
    both true true true h w v k n r q e = rw (e, zero-add n) refl

    choose : (b c d e f : Bool) (x : List ℕ) (n : Sheet) → x ≡ written n
        → cond (b && c && (d && e)) (cond f (some x) none) none ≡ written_for (cond (b && c && d && e && f) (some n) none)
    choose false c d e f x n u = refl
    choose true false d e f x n u = refl
    choose true true false e f x n u = refl
    choose true true true false f x n u = refl
    choose true true true true false x n u = refl
    choose true true true true true x n u = ap some u

    -- Numbers left over are none of a sheet's.
    ends : (m : List Triangle) (p : List Member) (q : List ℤ)
        → cond (from_to 2 1024 (length m) && every triangle_fits m && all_fit p)
        (ended (some (record { bytes = written (record { table = m; polygons = p }); points = all_lengths p; rest = q }))) none
        ≡ written_for (limited members (whole (record { table = m; polygons = p }) q))
    ends m p [] = choose (from_to 2 1024 (length m)) (every triangle_fits m) (leb (length p + 1) members) (every member_fits p) (leb (all_lengths p) 4096) _ (record { table = m; polygons = p }) refl
    ends m p (z ∷ q) = rw (leb-suc-zero (length q)) (no_choice (from_to 2 1024 (length m) && every triangle_fits m && all_fit p) none)

    behind : (m : List Triangle) (r : List ℤ) → many_in triangle_in t l ≡ some (m, r) → (y : Front (List Member)) → counted_in member_in r ≡ y
        → emit_sheet (pos t ∷ l) ≡ written_for (limited members (after y (λ p q. whole (record { table = m; polygons = p }) q)))
    behind m r e none u =
        nothing t l (λ n s f. ap (emit 4) (parts (sym f ∙ e)).1 ∙ all r ∙ ap (emitted all_fit (flat_map (λ m. encode (member_tree m))) all_lengths) u)
    behind m r e (some (p, q)) u =
        let len = many_length triangle_in t l m r e in
        let tin : List ℕ = flat_map (λ t. encode (piece_of t)) m in
        let ms : List ℕ = flat_map (λ m. encode (member_tree m)) p in
        let four = all r ∙ ap (emitted all_fit (flat_map (λ m. encode (member_tree m))) all_lengths) u in
        let first = table t l ∙ ap (emitted (every triangle_fits) (flat_map (λ t. encode (piece_of t))) (λ m. 3 * length m)) e in
        let head = sheet_header (get_or l (6 * t) (pos 0)) ++ header true Tin t in
        let is : head ++ tin ++ ms ≡ written (record { table = m; polygons = p })
        = rw ((behind_table t l m r e).0, number_is r p q u, ← len) (sheet_bytes (record { table = m; polygons = p })) in
        ap (λ x. cond (from_to 2 1024 t) (ended (followed (joined (record { bytes = head; points = 0; rest = l }) (uncounted x)) (emit 4))) none) first
        ∙ both (from_to 2 1024 t) (every triangle_fits m) (all_fit p) head tin ms (3 * length m) (all_lengths p) r q four
        ∙ rw (is, ← len) (ends m p q)

    go : (x : Front (List Triangle)) → many_in triangle_in t l ≡ x
        → emit_sheet (pos t ∷ l) ≡ written_for (limited members (after x (λ m k. after (counted_in member_in k) (λ p q. whole (record { table = m; polygons = p }) q))))
    go none e = nothing t l (λ m r u. absurd (none-ne-some _ (sym e ∙ u)))
    go (some (m, r)) e = behind m r e (counted_in member_in r) refl

-- Without a polygon count from 0 to 64 behind the table's numbers nothing is emitted.
pub no_count : (t : ℕ) (l : List ℤ) → length l ≤ 6 * t → emit_sheet (pos t ∷ l) ≡ none
unfolding emit
no_count t l h = nothing t l (λ m r e. go r (behind_table t l m r e).1)
  where
    go : (r : List ℤ) → length l ≡ 6 * t + length r → emit 4 r ≡ none
    go [] e = refl
    go (z ∷ r) e = absurd (omega arith)

pub wrong_count : (t : ℕ) (l : List ℤ) → ((n : ℕ) → get_or l (6 * t) (pos 0) ≡ pos n → n ≤ 64 → ⊥) → emit_sheet (pos t ∷ l) ≡ none
unfolding emit
wrong_count t l h = nothing t l (λ m r e. go r (behind_table t l m r e).0)
  where
    fails : (b c d : Bool) (x : Option Emitted) → (T c → ⊥) → cond (b && c && d) x none ≡ none
    fails false c d x f = refl
    fails true false d x f = refl
    fails true true d x f = absurd (f tt)

    go : (r : List ℤ) → get_or l (6 * t) (pos 0) ≡ get_or r 0 (pos 0) → emit 4 r ≡ none
    go [] e = refl
    go (negsuc n ∷ r) e = refl
    go (pos n ∷ r) e = fails (leb 0 n) (leb n 64) (closes 4 n r) _ (λ u. h n e (leb→le n 64 u))
