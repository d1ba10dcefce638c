-- The numbers form is a faithful code: numbers make up a sheet exactly if they are its numbers. The idea: each thing's numbers before any
-- others are taken off as that thing (`back`), and whatever is taken off stood there (`only`); both are kept by lists and counts.
-- Assumes nothing.
use mathlib.Core.Path.{◌≡◌, refl, sym, ◌∙◌, ap, subst}
use mathlib.Core.Logic.{◌↔◌}
use mathlib.Core.List.{List, [], ◌∷◌, ◌++◌, flat_map, append_assoc, append-nil}
use mathlib.Core.Option.{Option, none, some, none-ne-some, some-injective}
use Prim.Native.Nat.{ℕ, zero, suc}
use lib.IntN.{ℤ, pos, negsuc}
use lib.ListN.{length}
use Rattle.plane.specs.Points.{Point, Triangle}
use Rattle.sheet_form.specs.Numbers.{Sheet, point_numbers, triangle_numbers, counted, ring_numbers, part_numbers, member_numbers, numbers_of}
use Rattle.sheet_form.specs.Form.{Front, after, point_in, triangle_in, many_in, counted_in, ring_in, part_in, member_in, whole, sheet_in}

-- What is taken off the front is what has these numbers.
record Code {A : Type 0} (f : List ℤ → Front A) (g : A → List ℤ) : Type 0 where
  back : (a : A) (r : List ℤ) → f (g a ++ r) ≡ some (a, r)
  only : (l : List ℤ) (a : A) (r : List ℤ) → f l ≡ some (a, r) → l ≡ g a ++ r

-- The two takings behind a success.
record Both {A B : Type 0} (x : Front A) (f : A → List ℤ → Option B) (b : B) : Type 0 where
  first : A
  behind : List ℤ
  is : x ≡ some (first, behind)
  then_is : f first behind ≡ some b

both : {A B : Type 0} (x : Front A) (f : A → List ℤ → Option B) (b : B) → after x f ≡ some b → Both x f b
both none f b e = absurd (none-ne-some _ e)
both (some (a, l)) f b e = record { first = a; behind = l; is = refl; then_is = e }

-- Two successes that are the same have the same thing and the same numbers behind it.
parts : {A : Type 0} {a b : A} {k l : List ℤ} → ◌≡◌ {A = Front A} (some (a, k)) (some (b, l)) → (a ≡ b) × (k ≡ l)
parts {A} {a} {b} {k} {l} e =
    let p = some-injective (a, k) (b, l) e in
    ((λ i. (p i).0), (λ i. (p i).1))

point_code : Code point_in point_numbers
point_code = record { back = λ a r. refl; only = go }
  where
    go : (l : List ℤ) (a : Point) (r : List ℤ) → point_in l ≡ some (a, r) → l ≡ point_numbers a ++ r
    go [] a r e = absurd (none-ne-some _ e)
    go (x ∷ []) a r e = absurd (none-ne-some _ e)
    go (x ∷ y ∷ l) a r e = let p = parts e in λ i. (p.0 i).x ∷ (p.0 i).y ∷ p.1 i

triangle_code : Code triangle_in triangle_numbers
triangle_code = record { back = λ a r. refl; only = go }
  where
    go : (l : List ℤ) (t : Triangle) (r : List ℤ) → triangle_in l ≡ some (t, r) → l ≡ triangle_numbers t ++ r
    go l t r e =
        let u = both (point_in l) _ _ e in
        let v = both (point_in u.behind) _ _ u.then_is in
        let w = both (point_in v.behind) _ _ v.then_is in
        let p = parts w.then_is in
        point_code.only l u.first u.behind u.is
        ∙ ap (λ m. point_numbers u.first ++ m) (point_code.only u.behind v.first v.behind v.is)
        ∙ ap (λ m. point_numbers u.first ++ (point_numbers v.first ++ m)) (point_code.only v.behind w.first w.behind w.is)
        ∙ λ i. point_numbers (p.0 i).a ++ (point_numbers (p.0 i).b ++ (point_numbers (p.0 i).c ++ p.1 i))

-- ---- lists
module _ {A : Type 0} (f : List ℤ → Front A) (g : A → List ℤ) (code : Code f g) where
  many_back : (l : List A) (r : List ℤ) → many_in f (length l) (flat_map g l ++ r) ≡ some (l, r)
  unfolding many_in flat_map
  many_back [] r = refl
  many_back (a ∷ l) r = rw (append_assoc (g a) (flat_map g l) r, code.back a (flat_map g l ++ r), many_back l r) refl

  -- So many things, with their numbers.
  record Many (n : ℕ) (k : List ℤ) (l : List A) (r : List ℤ) : Type 0 where
    number : length l ≡ n
    numbers : k ≡ flat_map g l ++ r

  many_only : (n : ℕ) (k : List ℤ) (l : List A) (r : List ℤ) → many_in f n k ≡ some (l, r) → Many n k l r
  unfolding many_in flat_map
  many_only zero k l r e = let p = parts e in subst (λ m. Many 0 k m r) p.0 (record { number = refl; numbers = p.1 })
  many_only (suc n) k l r e =
      let u = both (f k) _ _ e in
      let v = both (many_in f n u.behind) _ _ u.then_is in
      let p = parts v.then_is in
      let m = many_only n u.behind v.first v.behind v.is in
      subst (λ m. Many (suc n) k m r) p.0 (record {
        number = ap suc m.number;
        numbers =
            code.only k u.first u.behind u.is ∙ ap (λ z. g u.first ++ z) (m.numbers ∙ ap (λ z. flat_map g v.first ++ z) p.1) ∙ sym (append_assoc (g u.first) (flat_map g v.first) r);
      })

  counted_code : Code (counted_in f) (counted g)
  counted_code = record { back = many_back; only = go }
    where
      go : (k : List ℤ) (l : List A) (r : List ℤ) → counted_in f k ≡ some (l, r) → k ≡ counted g l ++ r
      go [] l r e = absurd (none-ne-some _ e)
      go (negsuc n ∷ k) l r e = absurd (none-ne-some _ e)
      go (pos n ∷ k) l r e = let m = many_only n k l r e in λ i. pos (sym m.number i) ∷ m.numbers i

member_code : Code member_in member_numbers
member_code = counted_code part_in part_numbers (counted_code ring_in ring_numbers (counted_code point_in point_numbers point_code))

-- ---- the sheet
table_code : Code (counted_in triangle_in) (counted triangle_numbers)
table_code = counted_code triangle_in triangle_numbers triangle_code

members_code : Code (counted_in member_in) (counted member_numbers)
members_code = counted_code member_in member_numbers member_code

pub form_is : (l : List ℤ) (n : Sheet) → (sheet_in l ≡ some n) ↔ (numbers_of n ≡ l)
form_is l n = (to, from)
  where
    ends : (m : Sheet) (r : List ℤ) → whole m r ≡ some n → (m ≡ n) × (r ≡ [])
    ends m [] e = (some-injective m n e, refl)
    ends m (z ∷ r) e = absurd (none-ne-some _ e)

    to : sheet_in l ≡ some n → numbers_of n ≡ l
    to e =
        let u = both (counted_in triangle_in l) _ _ e in
        let v = both (counted_in member_in u.behind) _ _ u.then_is in
        let w = ends _ v.behind v.then_is in
        let t = table_code.only l u.first u.behind u.is in
        let p = members_code.only u.behind v.first v.behind v.is in
        sym (ap numbers_of w.0) ∙ sym (t ∙ ap (λ z. counted triangle_numbers u.first ++ z) (p ∙ ap (λ z. counted member_numbers v.first ++ z) w.1 ∙ append-nil (counted member_numbers v.first)))

    from : numbers_of n ≡ l → sheet_in l ≡ some n
    from e = subst (λ k. sheet_in k ≡ some n) e
        (rw (table_code.back n.table (counted member_numbers n.polygons), last) refl)
      where
        last : counted_in member_in (counted member_numbers n.polygons) ≡ some (n.polygons, [])
        last = ap (counted_in member_in) (sym (append-nil (counted member_numbers n.polygons))) ∙ members_code.back n.polygons []
