-- The numbers form determines the sheet. The idea: it is a prefix code; whatever stands behind the numbers of a thing, the thing and what
-- follows are read off in one way only, since every count stands before what it counts. Assumes nothing.
use mathlib.Core.Path.{◌≡◌, refl, sym, ◌∙◌}
use mathlib.Core.List.{List, [], ◌∷◌, ◌++◌, flat_map, append_assoc, append-nil}
use native.Mathlib.Omega.{arith}
use lib.IntN.{ℤ}
use lib.ListN.{length}
use Rattle.sheet_form.specs.Numbers.{Sheet, point_numbers, triangle_numbers, counted, ring_numbers, part_numbers, member_numbers, numbers_of}

-- The numbers of a thing, before any others, determine it and them.
abbrev Prefix : {A : Type 0} → (A → List ℤ) → Type 0
Prefix {A} f = (a b : A) (u v : List ℤ) → f a ++ u ≡ f b ++ v → (a ≡ b) × (u ≡ v)

point_prefix : Prefix point_numbers
point_prefix a b u v e =
    let x : a.x ≡ b.x = cc e in
    let y : a.y ≡ b.y = cc e in
    ((λ i. record { x = x i; y = y i }), cc e)

triangle_prefix : Prefix triangle_numbers
triangle_prefix s t u v e =
    let a = point_prefix s.a t.a (point_numbers s.b ++ (point_numbers s.c ++ u)) (point_numbers t.b ++ (point_numbers t.c ++ v)) e in
    let b = point_prefix s.b t.b (point_numbers s.c ++ u) (point_numbers t.c ++ v) a.1 in
    let c = point_prefix s.c t.c u v b.1 in
    ((λ i. record { a = a.0 i; b = b.0 i; c = c.0 i }), c.1)

-- Lists of one length.
module _ {A : Type 0} (f : A → List ℤ) (h : Prefix f) where
  each_prefix : (l m : List A) (u v : List ℤ) → length l ≡ length m → flat_map f l ++ u ≡ flat_map f m ++ v → (l ≡ m) × (u ≡ v)
  unfolding flat_map
  each_prefix [] [] u v n e = (refl, e)
  each_prefix [] (b ∷ m) u v n e = absurd (omega arith)
  each_prefix (a ∷ l) [] u v n e = absurd (omega arith)
  each_prefix (a ∷ l) (b ∷ m) u v n e =
      let p = h a b (flat_map f l ++ u) (flat_map f m ++ v) (sym (append_assoc (f a) (flat_map f l) u) ∙ e ∙ append_assoc (f b) (flat_map f m) v) in
      let q = each_prefix l m u v (omega arith) p.1 in
      ((λ i. p.0 i ∷ q.0 i), q.1)

  counted_prefix : Prefix (counted f)
  counted_prefix l m u v e =
      let n : length l ≡ length m = cc e in
      let r : flat_map f l ++ u ≡ flat_map f m ++ v = cc e in
      each_prefix l m u v n r

member_prefix : Prefix member_numbers
member_prefix = counted_prefix part_numbers (counted_prefix ring_numbers (counted_prefix point_numbers point_prefix))

pub numbers_of-injective : (m n : Sheet) → numbers_of m ≡ numbers_of n → m ≡ n
numbers_of-injective m n e =
    let t = counted_prefix triangle_numbers triangle_prefix m.table n.table (counted member_numbers m.polygons) (counted member_numbers n.polygons) e in
    let p = counted_prefix member_numbers member_prefix m.polygons n.polygons [] [] (append-nil (counted member_numbers m.polygons) ∙ t.1 ∙ sym (append-nil (counted member_numbers n.polygons))) in
    λ i. record { table = t.0 i; polygons = p.0 i }
