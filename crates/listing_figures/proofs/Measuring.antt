-- The double areas of the first triangles of a table, laid down one for each, none above 800,000,000,000,000; the triangles left have rule A. Assumes nothing.
use mathlib.Core.Path.{◌≡◌, refl, sym, ◌∙◌, ap, ap₂, subst}
use mathlib.Core.List.{List, [], ◌∷◌, ◌++◌, map, append_assoc}
use Prim.Native.Nat.{ℕ, suc, ◌+◌, ◌*◌, ◌≤◌, ◌<◌}
use native.Mathlib.Omega.{arith}
use lib.Dec.{T}
use lib.IntN.{ℤ, pos, negsuc, nat_abs, ◌-ℤ◌}
use lib.ListN.{length, get_or, set, take, drop}
use lib.Seq.{take-suc, lt-length-set, take-set-le, get_or-set_same}
use lib.Signed.{non_neg, ◌<ℤ◌}
use Rattle.whole.specs.Numbers.{Within}
use Rattle.whole.specs.Polynomials.{◌:-◌, ◌:=◌}
use Rattle.whole.specs.Sums.{All}
use Rattle.whole.proofs.Bound.{within_gap, within_mul, within_sub}
use Rattle.whole.proofs.Ring.{solve}
use Rattle.whole.proofs.Sums.{all-++, all_at, map-++}
use Rattle.plane.specs.declared.Corner.{Corner}
use Rattle.plane.specs.Points.{double, turn}
use Rattle.plane.specs.Corners.{millimetres}
use Rattle.plane.specs.Keys.{point, Held, InRange, point_at, corner_of, Key, triangle_at}
use Rattle.table.specs.Table.{RuleA}
use Rattle.table.specs.Sides.{triangles_of}
use Rattle.table.proofs.Faults.{triangles_from}

-- ---- a double area above 0
pub above_nonneg : (z : ℤ) → pos 0 <ℤ z → T (non_neg z)
above_nonneg (pos n) h = tt
above_nonneg (negsuc n) h = absurd h.lt

pub above_size : (z : ℤ) → pos 0 <ℤ z → pos (nat_abs z) ≡ z
above_size (pos n) h = refl
above_size (negsuc n) h = absurd h.lt

-- ---- how large it is
way_within : (u v : ℕ) → Held u → Held v → Within 20_000_000 (millimetres v -ℤ millimetres u)
way_within u v h k = subst (Within 20_000_000) (solve 3 (λ u v k. v :- u := (v :- k) :- (u :- k)) tt (pos u) (pos v) (pos 10_000_000)) (within_gap 20_000_000 u v h k)

turn_within : (a b c : Corner) → InRange a → InRange b → InRange c → Within 800_000_000_000_000 (turn (point a) (point b) (point c))
unfolding turn
turn_within a b c h j k = within_sub 400_000_000_000_000 400_000_000_000_000 _ _
    (within_mul 20_000_000 20_000_000 _ _ (way_within a.x b.x h.x j.x) (way_within a.y c.y h.y k.y))
    (within_mul 20_000_000 20_000_000 _ _ (way_within a.x c.x h.x k.x) (way_within a.y b.y h.y j.y))

pub double_within : (keys : List ℕ) (t : ℕ) → All Key keys → 3 * t + 2 < length keys → Within 800_000_000_000_000 (double (triangle_at keys t))
unfolding point_at
double_within keys t h l =
    let k : (i : ℕ) → i < length keys → Key (get_or keys i 0) = λ i. all_at Key 0 keys i h in
    turn_within (corner_of (get_or keys (3 * t) 0)) (corner_of (get_or keys (3 * t + 1) 0)) (corner_of (get_or keys (3 * t + 2) 0)) (k (3 * t) (omega arith)) (k (3 * t + 1) (omega arith)) (k (3 * t + 2) l)

-- ---- the first t triangles
pub record Measured (keys areas : List ℕ) (t : ℕ) : Type 0 where
  pub same : map pos (take t areas) ++ map double (triangles_of (drop (3 * t) keys)) ≡ map double (triangles_of keys)
  pub small : All (λ a. a ≤ 800_000_000_000_000) (take t areas)
  pub rule : RuleA (triangles_of (drop (3 * t) keys))

pub above_here : (keys areas : List ℕ) (t : ℕ) → 3 * t + 2 < length keys → Measured keys areas t → RuleA (triangle_at keys t ∷ triangles_of (drop (3 * suc t) keys))
above_here keys areas t l m = subst RuleA (triangles_from keys t (suc t) refl l) m.rule

taken_more : (areas : List ℕ) (t v : ℕ) → t < length areas → take (suc t) (set areas t v) ≡ take t areas ++ v ∷ []
taken_more areas t v l = take-suc (set areas t v) t 0 (lt-length-set areas t v l) ∙ ap₂ (λ k x. k ++ x ∷ []) (take-set-le t areas t v (omega arith)) (get_or-set_same areas t v 0 l)

pub measured_more : (keys areas : List ℕ) (t v : ℕ) → t < length areas → 3 * t + 2 < length keys → Measured keys areas t → pos v ≡ double (triangle_at keys t) → v ≤ 800_000_000_000_000
    → Measured keys (set areas t v) (suc t)
measured_more keys areas t v h l m e w = record {
  same = ap (λ k. map pos k ++ rest) (taken_more areas t v h)
      ∙ ap (λ k. k ++ rest) (map-++ pos (take t areas) (v ∷ []))
      ∙ append_assoc (map pos (take t areas)) (pos v ∷ []) rest
      ∙ ap (λ z. map pos (take t areas) ++ z ∷ rest) e
      ∙ ap (λ k. map pos (take t areas) ++ map double k) (sym (triangles_from keys t (suc t) refl l))
      ∙ m.same;
  small = subst (All (λ a. a ≤ 800_000_000_000_000)) (sym (taken_more areas t v h)) (all-++ (λ a. a ≤ 800_000_000_000_000) (take t areas) (v ∷ []) m.small (w, tt));
  rule = (above_here keys areas t l m).1;
}
  where
    rest : List ℤ
    rest = map double (triangles_of (drop (3 * suc t) keys))

-- The double area of the triangle that comes, as the code casts it: above 0, and as small as the corners make it.
pub number_fits : (keys areas : List ℕ) (t : ℕ) (z : ℤ) → All Key keys → 3 * t + 2 < length keys → Measured keys areas t → z ≡ double (triangle_at keys t)
    → T (non_neg z) × (pos (nat_abs z) ≡ double (triangle_at keys t)) × (nat_abs z ≤ 800_000_000_000_000)
number_fits keys areas t z held l m e =
    let up : pos 0 <ℤ z = subst (λ y. pos 0 <ℤ y) (sym e) (above_here keys areas t l m).0 in
    (above_nonneg z up, above_size z up ∙ e, subst (λ y. nat_abs y ≤ 800_000_000_000_000) (sym e) (double_within keys t held l).size)
