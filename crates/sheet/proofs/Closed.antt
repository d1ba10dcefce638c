-- An open polygon is read to its end: each step inside it reads a ring's count or a point, and behind the last point is what is behind the
-- polygon.
-- The idea: what is behind the polygon stays the same while a ring or a point is to come. Assumes nothing.
use mathlib.Core.Path.{◌≡◌, refl, sym, ◌∙◌, ap₂, subst}
use mathlib.Core.Bool.{Bool, true, ◌&&◌, and-eq-true_iff}
use mathlib.Core.List.{List}
use Rattle.std.specs.Prelude.{Ok}
use Prim.Native.Nat.{ℕ, zero, suc, ◌+◌, ◌-◌, ◌<◌}
use native.Mathlib.Omega.{arith}
use borrow.Author.Tests.{leb-true, eqb-true}
use lib.Dec.{ltb, eqb}
use Rattle.whole.proofs.Tests.{by_equal, by_cond}
use Rattle.wkb.specs.declared.Cursor.{Cursor}
use Rattle.wkb.specs.declared.Step.{Step}
use Rattle.wkb.specs.declared.Step.TheVariants.{Geometry, Ring, Point, End, Refused}
use Rattle.wkb.specs.Places.{moved, points_to_come, polygon_to_come}
use Rattle.wkb.specs.Steps.{complete, renewed, ring_fits, with_points, after_point, step_at}
use Rattle.wkb.proofs.Cases.{by_case}
use Rattle.wkb.proofs.Complete.{not_complete}
use Rattle.sheet.specs.declared.Build.{Build}
use Rattle.sheet.specs.declared.Reached.{Reached}
use Rattle.sheet.specs.Going.{Leads}
use Rattle.sheet.specs.Behind.{counts, closed}
use Rattle.sheet.specs.Rings.{Nearer}
use Rattle.sheet.proofs.Counts.{same_renewed}
use Rattle.sheet.proofs.Rows.{renewed_stays}
use Rattle.sheet.proofs.Onward.{Goes}

pub nearer : (c d e : Cursor) → 0 < d.rings + d.points → Nearer c d → Nearer d e → Nearer c e
nearer c d e l h k = (λ o. k.0 o ∙ h.0 l, λ z. k.1 z ∙ h.0 l)

abbrev pub Inside : Cursor → Step → Type 0
Inside c (Geometry kind n d) = ⊥
Inside c (Ring n d) = Nearer c d
Inside c (Point x y d) = Nearer c d
Inside c (End d) = ⊥
Inside c (Refused reason item field d) = Unit {0}

-- ---- a ring's count
pub ring_some : (c : Cursor) (n : ℕ) → ring_fits c n ≡ true → 0 < n
unfolding ring_fits
ring_some c n =
    by_equal (λ (b : Bool). b ≡ true → 0 < n) (eqb c.member 1) _ _ (λ e f. let z = eqb-true n 4 f in omega arith)
    (λ e f. let z = leb-true 4 n ((and-eq-true_iff _ _).0 ((and-eq-true_iff _ _).0 f).0).0 in omega arith)

ring_nearer : (c : Cursor) (n : ℕ) → 0 < n → Nearer c (with_points n c)
unfolding closed with_points
ring_nearer c n l = (λ o. same_renewed _ _ refl, λ z. absurd (omega arith))

pub ring_open : (c : Cursor) (n : ℕ) → 0 < n → 0 < (with_points n c).rings + (with_points n c).points
unfolding with_points
ring_open c n l = omega arith

-- ---- a point
renewed_open : (c : Cursor) → ((renewed c).rings ≡ c.rings) × ((renewed c).points ≡ c.points)
unfolding renewed
renewed_open c = by_cond (λ (d : Cursor). (d.rings ≡ c.rings) × (d.points ≡ c.points)) (complete c && ltb 0 c.members) _ c (λ t. (refl, refl)) (refl, refl)

point_nearer : (c : Cursor) → 0 < c.points → Nearer c (after_point c)
unfolding closed after_point
point_nearer c l = go (c.rings + (c.points - 1)) refl
  where
    d : Cursor
    d = points_to_come (c.points - 1) (moved 16 c)

    go : (k : ℕ) → c.rings + (c.points - 1) ≡ k → Nearer c (renewed d)
    go zero z =
        let o = renewed_open d in
        let r : c.rings ≡ 0 = omega arith in
        let p : c.points - 1 ≡ 0 = omega arith in
        (λ m. absurd (omega arith), λ m. same_renewed d (polygon_to_come 0 c.little 0 c) (ap₂ (λ x y. counts (polygon_to_come x c.little y c)) r p))
    go (suc k) z =
        let e = renewed_stays d (not_complete d (λ h. let r = h.no_rings in let p = h.no_points in omega arith)) in
        rw e (λ m. same_renewed _ _ refl, λ m. absurd (omega arith))

-- ---- a step
pub step_inside : (s : List ℕ) (c : Cursor) → 0 < c.rings + c.points → Inside c (step_at s c)
step_inside s c o = by_case (Inside c) s c (record {
  refused = λ reason field t f. tt;
  point = λ p l. point_nearer c p;
  ring = λ p r l n f. ring_nearer c n (ring_some c n f);
  end = λ due. absurd (omega (arith, due.0, due.1));
  geometry = λ p r t l little kind n k f. omega arith;
})

pub inside_goes : (s : List ℕ) (c : Cursor) → 0 < c.rings + c.points → Goes (step_at s c)
inside_goes s c o = go (step_at s c) (step_inside s c o)
  where
    go : (a : Step) → Inside c a → Goes a
    go (Geometry kind n x) k = absurd k
    go (Ring n x) k = tt
    go (Point x y z) k = tt
    go (End x) k = absurd k
    go (Refused reason item field x) k = tt

-- Where the code goes on from there.
module _ (s : List ℕ) (c : Cursor) (b : Build) (a : Step) (o : 0 < c.rings + c.points) (e : a ≡ step_at s c) where
  pub goes_nearer : (q : Reached) → Leads a b (Ok q) → Nearer c q.place
  goes_nearer q h = go (step_at s c) (step_inside s c o) (rw (← e) h)
    where
      go : (a : Step) → Inside c a → Leads a b (Ok q) → Nearer c q.place
      go (Geometry kind n x) k l = absurd k
      go (Ring n x) k l = subst (Nearer c) (sym l.0) k
      go (Point x y z) k l = subst (Nearer c) (sym l.0) k
      go (End x) k l = absurd k
      go (Refused reason item field x) k l = absurd l
