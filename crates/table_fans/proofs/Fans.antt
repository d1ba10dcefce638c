-- The triangles round a corner. A triangle with the corner v has a wedge there, from the side that leaves v anticlockwise to the side that arrives; a ray of the
-- wedge meets it in the sense of `round`. In a list of triangles of which no two overlap, two different sides never arrive at v along one ray. Assumes nothing.
use mathlib.Core.Path.{◌≡◌, refl, sym, ◌∙◌, ap, subst}
use mathlib.Core.Logic.{◌⊎◌, inl, inr}
use mathlib.Core.Bool.{Bool, true, false, not, ◌&&◌, ◌||◌}
use mathlib.Core.List.{List, [], ◌∷◌, flat_map}
use Prim.Native.Nat.{ℕ, zero, suc, ◌+◌, ◌≤◌, ◌<◌}
use native.Mathlib.Omega.{arith}
use native.Mathlib.Decide.{dec_le}
use lib.IntN.{pos, ◌-ℤ◌}
use lib.Signed.{◌<ℤ◌, <ℤ_irrefl}
use lib.Dec.{T}
use lib.ListN.{length, get_or}
use Rattle.whole.specs.Sums.{All, Among, bit, count}
use Rattle.whole.proofs.Int.{*-pos}
use Rattle.whole.specs.Polynomials.{con, ◌:+◌, ◌:-◌, ◌:*◌, :-◌, ◌:=◌}
use Rattle.whole.proofs.Ring.{solve}
use Rattle.whole.proofs.Sums.{and_right, and_both, bit_yes, count-++}
use Rattle.plane.specs.Points.{Point, Edge, Triangle, ◌⟶◌, turn, double, sides, same_edge}
use Rattle.plane.specs.Boundaries.{sides_of}
use Rattle.plane.proofs.Points.{turnₑ, same_edge-eq, same_edge-refl}
use Rattle.table.specs.Table.{RuleA}
use Rattle.table.proofs.Sets.{tally, count_tally}
use Rattle.table.proofs.Shares.{part}
use Rattle.plane_winding.specs.Winding.{keeps, belongs}
use Rattle.whole_signs.proofs.Signs.{Sign, plus, sign, is_plus, is_minus, is_null, opposite, ◌⊗◌, has_only, lt_z-sign, eq_z-sign, by_T}
use Rattle.whole_signs.proofs.Each.{each, is, ◌⊃◌}
use Rattle.plane_winding.proofs.Winding.{dot, dotₑ}
use Rattle.whole_signs.proofs.Cancelling.{could_cancel}
use Rattle.plane_winding.proofs.Belongs.{turn_turn, keeps_is}
use Rattle.table_fans.proofs.Turned.{image, imageₜ, stretch, turn_image, is_plus_lem, dx, dy, touches, meets, round}
use Rattle.plane_turning.proofs.Rays.{wedge, sign_back, turn_self, turn_from, long, parallel, other_ray, overlap, wedge_first, level_turns}
use Rattle.plane_turning.specs.Turning.{sharper}

-- ---- the wedge of a triangle at its first corner
turn_to : (v a : Point) → turn v a v ≡ pos 0
unfolding turn
turn_to v a = solve 4 (λ vx vy ax ay. turnₑ vx vy ax ay vx vy := con (pos 0)) tt v.x v.y a.x a.y

leaning : (k d w g : Sign) → T (not (is_minus k) && is_plus w) → T (could_cancel plus (opposite (d ⊗ w)) (g ⊗ opposite k)) → T (is_plus k || is_null k && is_plus d)
leaning = each 4 (λ k d w g. (not (is_minus k) && is_plus w) ⊃ could_cancel plus (opposite (d ⊗ w)) (g ⊗ opposite k) ⊃ is (is_plus k || is_null k && is_plus d)) tt

module _ (v a b x : Point) (area : pos 0 <ℤ turn v a b) (t : T (wedge v a b x)) where
  abbrev M : Point → Point
  M = image (dx v x) (dy v x)

  ahead : pos 0 <ℤ turn v x b
  ahead = is_plus_lem (turn v x b) (by_T _ (and_right (not (is_minus (sign (turn v a x)))) (is_plus (sign (turn v x b))) t))

  some : pos 0 <ℤ dot v x x
  some = (long v x b ahead).0

  down : (M v).y -ℤ (M a).y ≡ turn v a x
  unfolding turn
  down = solve 6 (λ vx vy ax ay xx xy. ((xx :- vx) :* vy :- (xy :- vy) :* vx) :- ((xx :- vx) :* ay :- (xy :- vy) :* ax) := turnₑ vx vy ax ay xx xy) tt
      v.x v.y a.x a.y x.x x.y

  right : (M a).x -ℤ (M v).x ≡ dot v x a
  right = solve 6 (λ vx vy ax ay xx xy. ((xx :- vx) :* ax :+ (xy :- vy) :* ay) :- ((xx :- vx) :* vx :+ (xy :- vy) :* vy) := dotₑ vx vy xx xy ax ay) tt
      v.x v.y a.x a.y x.x x.y

  up : (M b).y -ℤ (M v).y ≡ turn v x b
  unfolding turn
  up = solve 6 (λ vx vy bx by xx xy. ((xx :- vx) :* by :- (xy :- vy) :* bx) :- ((xx :- vx) :* vy :- (xy :- vy) :* vx) := turnₑ vx vy xx xy bx by) tt
      v.x v.y b.x b.y x.x x.y

  or_right : (p q : Bool) → T q → T (p || q)
  or_right true q t = tt
  or_right false q t = t

  keeps_first : T (keeps (M v) (M v ⟶ M a))
  keeps_first = subst T (sym (keeps_is (M v) (M v) (M a))) (rw (turn_to (M v) (M a))
      (rw (lt_z-sign (M a).y (M v).y, eq_z-sign (M v).y (M a).y, lt_z-sign (M v).x (M a).x, down, right)
      (leaning (sign (turn v a x)) (sign (dot v x a)) (sign (turn v x b)) (sign (dot v x b)) t
      (subst (λ s. T (could_cancel s (opposite (sign (dot v x a) ⊗ sign (turn v x b))) (sign (dot v x b) ⊗ opposite (sign (turn v a x)))))
      (has_only plus (turn v a b) area) (rw (← sign_back v a x) (parallel v x some a b))))))

  keeps_second : T (keeps (M v) (M a ⟶ M b))
  keeps_second = subst T (sym (keeps_is (M v) (M a) (M b))) (rw (has_only plus (turn (M a) (M b) (M v))
      (rw (turn_image (dx v x) (dy v x) a b v) (*-pos (turn a b v) (stretch (dx v x) (dy v x)) (rw (turn_turn v a b) area) some))) tt)

  keeps_third : T (keeps (M v) (M b ⟶ M v))
  keeps_third = subst T (sym (keeps_is (M v) (M b) (M v))) (rw (turn_self (M b) (M v), lt_z-sign (M v).y (M b).y, up, has_only plus (turn v x b) ahead) tt)

  wedge_belongs : T (belongs (M v) (record { a = M v; b = M a; c = M b }))
  unfolding belongs
  wedge_belongs = and_both (keeps (M v) (M v ⟶ M a) && keeps (M v) (M a ⟶ M b)) (keeps (M v) (M b ⟶ M v))
      (and_both (keeps (M v) (M v ⟶ M a)) (keeps (M v) (M a ⟶ M b)) keeps_first keeps_second) keeps_third

-- The corners of a triangle with an area differ.
pub ends_apart : (v a b : Point) → pos 0 <ℤ turn v a b → (v ≡ a → ⊥) × (a ≡ b → ⊥) × (b ≡ v → ⊥)
ends_apart v a b h = (
  λ p. <ℤ_irrefl (subst (λ z. pos 0 <ℤ z) (ap (λ a. turn v a b) (sym p) ∙ turn_from v b) h),
  λ p. <ℤ_irrefl (subst (λ z. pos 0 <ℤ z) (ap (turn v a) (sym p) ∙ turn_self v a) h),
  λ p. <ℤ_irrefl (subst (λ z. pos 0 <ℤ z) (ap (turn v a) p ∙ turn_to v a) h),
)

-- ---- the same at each corner
spin : Triangle → Triangle
spin t = record { a = t.b; b = t.c; c = t.a }

belongs_spin : (z : Point) (t : Triangle) → T (belongs z (spin t)) → T (belongs z t)
unfolding belongs spin
belongs_spin z t = go (keeps z (t.a ⟶ t.b)) (keeps z (t.b ⟶ t.c)) (keeps z (t.c ⟶ t.a))
  where
    go : (p q r : Bool) → T (q && r && p) → T (p && q && r)
    go true true true h = tt
    go true true false h = h
    go true false r h = h
    go false true true h = h
    go false true false h = h
    go false false r h = h

-- No wedge of the triangle at v holds the ray to x.
abbrev pub NoWedge : (v x : Point) → Triangle → Type 0
NoWedge v x t = (t.a ≡ v → T (not (wedge v t.b t.c x))) × (t.b ≡ v → T (not (wedge v t.c t.a x))) × (t.c ≡ v → T (not (wedge v t.a t.b x)))

-- At v the triangle has the wedge from a to b.
pub record Fan (t : Triangle) (v a b : Point) : Type 0 where
  pub area : pos 0 <ℤ turn v a b
  pub holds : (x : Point) → T (wedge v a b x) → meets v x t ≡ 1
  pub quiet : (x : Point) → NoWedge v x t → T (not (wedge v a b x))

module _ (t : Triangle) (area : pos 0 <ℤ double t) where
  second : pos 0 <ℤ turn t.b t.c t.a
  second = rw (turn_turn t.a t.b t.c) area

  third : pos 0 <ℤ turn t.c t.a t.b
  third = rw (turn_turn t.b t.c t.a) second

  pub fan_a : Fan t t.a t.b t.c
  fan_a = record { area = area; holds = λ x h. bit_yes (touches t.a x t) (wedge_belongs t.a t.b t.c x area h); quiet = λ x n. n.0 refl }

  pub fan_b : Fan t t.b t.c t.a
  unfolding spin
  fan_b = record { area = second; holds = λ x h. bit_yes (touches t.b x t) (belongs_spin _ (imageₜ (dx t.b x) (dy t.b x) t) (wedge_belongs t.b t.c t.a x second h)); quiet = λ x n. n.1 refl }

  pub fan_c : Fan t t.c t.a t.b
  unfolding spin
  fan_c = record {
    area = third;
    holds = λ x h. bit_yes (touches t.c x t) (belongs_spin _ (imageₜ (dx t.c x) (dy t.c x) t)
        (belongs_spin _ (imageₜ (dx t.c x) (dy t.c x) (spin t)) (wedge_belongs t.c t.a t.b x third h)));
    quiet = λ x n. n.2 refl;
  }

  abbrev pub Which : Edge → Type 0
  Which e = (e ≡ (t.a ⟶ t.b)) ⊎ (e ≡ (t.b ⟶ t.c)) ⊎ (e ≡ (t.c ⟶ t.a))

  pub which : (e : Edge) → Among same_edge e (sides t) → Which e
  which e h = go (same_edge (t.a ⟶ t.b) e) (same_edge (t.b ⟶ t.c) e) (same_edge (t.c ⟶ t.a) e) (same_edge-eq _ e) (same_edge-eq _ e) (same_edge-eq _ e) h
    where
      go : (p q r : Bool) → (T p → (t.a ⟶ t.b) ≡ e) → (T q → (t.b ⟶ t.c) ≡ e) → (T r → (t.c ⟶ t.a) ≡ e) → 1 ≤ bit p + (bit q + (bit r + 0)) → Which e
      go true q r i j k h = inl (sym (i tt))
      go false true r i j k h = inr (inl (sym (j tt)))
      go false false true i j k h = inr (inr (sym (k tt)))
      go false false false i j k h = absurd (omega arith)

  pub leaving_fan : (e : Edge) → Among same_edge e (sides t) → (b : Point) × Fan t e.from e.to b
  leaving_fan e h = go (which e h)
    where
      go : Which e → (b : Point) × Fan t e.from e.to b
      go (inl p) = (t.c, subst (λ e. Fan t e.from e.to t.c) (sym p) fan_a)
      go (inr (inl p)) = (t.a, subst (λ e. Fan t e.from e.to t.a) (sym p) fan_b)
      go (inr (inr p)) = (t.b, subst (λ e. Fan t e.from e.to t.b) (sym p) fan_c)

  pub arriving_fan : (e : Edge) → Among same_edge e (sides t) → (a : Point) × Fan t e.to a e.from
  arriving_fan e h = go (which e h)
    where
      go : Which e → (a : Point) × Fan t e.to a e.from
      go (inl p) = (t.c, subst (λ e. Fan t e.to t.c e.from) (sym p) fan_b)
      go (inr (inl p)) = (t.a, subst (λ e. Fan t e.to t.a e.from) (sym p) fan_c)
      go (inr (inr p)) = (t.b, subst (λ e. Fan t e.to t.b e.from) (sym p) fan_a)

  -- One side of a triangle arrives at a corner, and one leaves it.
  one_side : (end : Edge → Point) → (end (t.a ⟶ t.b) ≡ end (t.b ⟶ t.c) → ⊥) → (end (t.b ⟶ t.c) ≡ end (t.c ⟶ t.a) → ⊥) → (end (t.c ⟶ t.a) ≡ end (t.a ⟶ t.b) → ⊥)
      → (e f : Edge) → Among same_edge e (sides t) → Among same_edge f (sides t) → end e ≡ end f → e ≡ f
  one_side end i j k e f h l s = go (which e h) (which f l)
    where
      chain : {x y : Edge} → e ≡ x → f ≡ y → end x ≡ end y
      chain p q = ap end (sym p) ∙ s ∙ ap end q

      go : Which e → Which f → e ≡ f
      go (inl p) (inl q) = p ∙ sym q
      go (inl p) (inr (inl q)) = absurd (i (chain p q))
      go (inl p) (inr (inr q)) = absurd (k (sym (chain p q)))
      go (inr (inl p)) (inl q) = absurd (i (sym (chain p q)))
      go (inr (inl p)) (inr (inl q)) = p ∙ sym q
      go (inr (inl p)) (inr (inr q)) = absurd (j (chain p q))
      go (inr (inr p)) (inl q) = absurd (k (chain p q))
      go (inr (inr p)) (inr (inl q)) = absurd (j (sym (chain p q)))
      go (inr (inr p)) (inr (inr q)) = p ∙ sym q

-- An end by which the sides of a triangle are told apart.
abbrev pub Telling : (Edge → Point) → Type 0
Telling end = (t : Triangle) → pos 0 <ℤ double t → (e f : Edge) → Among same_edge e (sides t) → Among same_edge f (sides t) → end e ≡ end f → e ≡ f

pub by_from : Telling (λ e. e.from)
by_from t area = let n = ends_apart t.a t.b t.c area in one_side t area (λ e. e.from) n.0 n.1 n.2

by_to : Telling (λ e. e.to)
by_to t area = let n = ends_apart t.a t.b t.c area in one_side t area (λ e. e.to) n.1 n.2 n.0

-- ---- a triangle with a given side, taken out of a list
pub record Pulled (e : Edge) (l : List Triangle) : Type 1 where
  pub one : Triangle
  pub rest : List Triangle
  pub side : Among same_edge e (sides one)
  pub tallies : (w : Triangle → ℕ) → tally w l ≡ w one + tally w rest
  pub keeps : (P : Triangle → Type 0) → All P l → P one × All P rest

abbrev pub areas : {e : Edge} {l : List Triangle} (p : Pulled e l) → RuleA l → (pos 0 <ℤ double p.one) × RuleA p.rest
areas p = p.keeps (λ t. pos 0 <ℤ double t)

pub pull : (e : Edge) (l : List Triangle) → Among same_edge e (sides_of l) → Pulled e l
unfolding tally flat_map
pull e [] h = absurd (omega arith)
pull e (t ∷ l) h = go (dec_le 1 (count same_edge e (sides t))) (pull e l)
  where
    go : Dec (1 ≤ count same_edge e (sides t)) → (Among same_edge e (sides_of l) → Pulled e l) → Pulled e (t ∷ l)
    go (yes p) r = record { one = t; rest = l; side = p; tallies = λ w. refl; keeps = λ P a. a }
    go (no p) r = let s = r (omega (arith, count-++ same_edge same_edge-eq same_edge-refl e (sides t) (sides_of l))) in record {
      one = s.one;
      rest = t ∷ s.rest;
      side = s.side;
      tallies = λ w. omega (arith, s.tallies w);
      keeps = λ P a. ((s.keeps P a.1).0, (a.0, (s.keeps P a.1).1));
    }

-- ---- no two sides arrive along one ray, and no two leave as level turns
abbrev pub NoOverlap : List Triangle → Type 0
NoOverlap l = (v x : Point) → pos 0 <ℤ dot v x x → round v x l ≤ 1

module _ (l : List Triangle) (area : RuleA l) (clear : NoOverlap l) where
  -- Of two triangles that a ray meets one has the side e and so has the other.
  met_twice : (v x : Point) (e f : Edge) (p : Pulled e l) (q : Pulled f p.rest) → pos 0 <ℤ dot v x x → meets v x p.one ≡ 1 → meets v x q.one ≡ 1 → ⊥
  met_twice v x e f p q s h k = omega (arith, clear v x s, p.tallies (meets v x), q.tallies (meets v x))

  other : (end : Edge → Point) → Telling end → (e f : Edge) → (e ≡ f → ⊥) → end e ≡ end f → (p : Pulled e l) → Among same_edge f (sides_of l) → Pulled f p.rest
  other end tell e f n s p h = go (dec_le 1 (count same_edge f (sides p.one)))
    where
      go : Dec (1 ≤ count same_edge f (sides p.one)) → Pulled f p.rest
      go (yes k) = absurd (n (tell p.one (areas p area).0 e f p.side k s))
      go (no k) = pull f p.rest (omega (arith, count_tally f l, count_tally f p.rest, p.tallies (λ t. count same_edge f (sides t))))

  pub arrive_apart : (e f : Edge) → Among same_edge e (sides_of l) → Among same_edge f (sides_of l) → e.to ≡ f.to → (e ≡ f → ⊥) → T (other_ray e.to e.from f.from)
  arrive_apart e f h k s n = go (other_ray v e.from f.from) refl
    where
      v : Point
      v = e.to

      p : Pulled e l
      p = pull e l h

      q : Pulled f p.rest
      q = other (λ e. e.to) by_to e f n s p k

      i : (w : Point) × Fan p.one v w e.from
      i = arriving_fan p.one (areas p area).0 e p.side

      j : (x : Point) × Fan q.one v x f.from
      j = subst (λ z. (x : Point) × Fan q.one z x f.from) (sym s) (arriving_fan q.one (areas q (areas p area).1).0 f q.side)

      clash : (T (wedge v i.0 e.from j.0) × T (wedge v j.0 f.from j.0)) ⊎ (T (wedge v i.0 e.from i.0) × T (wedge v j.0 f.from i.0)) → ⊥
      clash (inl c) = met_twice v j.0 e f p q (long v j.0 f.from j.1.area).0 (i.1.holds j.0 c.0) (j.1.holds j.0 c.1)
      clash (inr c) = met_twice v i.0 e f p q (long v i.0 e.from i.1.area).0 (i.1.holds i.0 c.0) (j.1.holds i.0 c.1)

      go : (b : Bool) → other_ray v e.from f.from ≡ b → T b
      go true r = tt
      go false r = clash (overlap v e.from f.from i.0 j.0 i.1.area j.1.area (rw r tt))

  -- Two sides that leave v: seen from a ray to a that no wedge of the list holds, one turns sharper than the other.
  pub leave_apart : (a : Point) (e f : Edge) → Among same_edge e (sides_of l) → Among same_edge f (sides_of l) → e.from ≡ f.from → (e ≡ f → ⊥) → pos 0 <ℤ dot e.from a a
      → All (NoWedge e.from a) l → T (not (sharper a e.from e.to f.to)) → T (not (sharper a e.from f.to e.to)) → ⊥
  leave_apart a e f h k s n some quiet i j = met_twice v e.to e f p q (long v e.to g.0 g.1.area).0
      (g.1.holds e.to (wedge_first v e.to g.0 g.1.area))
      (o.1.holds e.to (level_turns v a e.to f.to g.0 o.0 some g.1.area o.1.area (g.1.quiet a no_wedge.0) (o.1.quiet a no_wedge.1) i j))
    where
      v : Point
      v = e.from

      p : Pulled e l
      p = pull e l h

      q : Pulled f p.rest
      q = other (λ e. e.from) by_from e f n s p k

      g : (b : Point) × Fan p.one v e.to b
      g = leaving_fan p.one (areas p area).0 e p.side

      o : (b : Point) × Fan q.one v f.to b
      o = subst (λ z. (b : Point) × Fan q.one z f.to b) (sym s) (leaving_fan q.one (areas q (areas p area).1).0 f q.side)

      no_wedge : NoWedge v a p.one × NoWedge v a q.one
      no_wedge = ((p.keeps (NoWedge v a) quiet).0, (q.keeps (NoWedge v a) (p.keeps (NoWedge v a) quiet).1).0)

-- ---- a triangle's wedge by the sides that leave and arrive
pub corner_fan : (t : Triangle) → pos 0 <ℤ double t → (d g : Edge) → Among same_edge d (sides t) → Among same_edge g (sides t) → g.to ≡ d.from → Fan t d.from d.to g.from
corner_fan t area d g h k s = go (which t area d h)
  where
    at : (x : Edge) → Among same_edge x (sides t) → x.to ≡ d.from → x.from ≡ g.from
    at x i e = ap (λ z. z.from) (by_to t area x g i k (e ∙ sym s))

    first : Among same_edge (t.a ⟶ t.b) (sides t)
    first = omega (arith, bit_yes (same_edge (t.a ⟶ t.b) (t.a ⟶ t.b)) (same_edge-refl (t.a ⟶ t.b)))

    second : Among same_edge (t.b ⟶ t.c) (sides t)
    second = omega (arith, bit_yes (same_edge (t.b ⟶ t.c) (t.b ⟶ t.c)) (same_edge-refl (t.b ⟶ t.c)))

    third : Among same_edge (t.c ⟶ t.a) (sides t)
    third = omega (arith, bit_yes (same_edge (t.c ⟶ t.a) (t.c ⟶ t.a)) (same_edge-refl (t.c ⟶ t.a)))

    go : Which t area d → Fan t d.from d.to g.from
    go (inl p) = subst (λ e. Fan t e.from e.to g.from) (sym p) (subst (λ z. Fan t t.a t.b z) (at (t.c ⟶ t.a) third (ap (λ e. e.from) (sym p))) (fan_a t area))
    go (inr (inl p)) = subst (λ e. Fan t e.from e.to g.from) (sym p) (subst (λ z. Fan t t.b t.c z) (at (t.a ⟶ t.b) first (ap (λ e. e.from) (sym p))) (fan_b t area))
    go (inr (inr p)) = subst (λ e. Fan t e.from e.to g.from) (sym p) (subst (λ z. Fan t t.c t.a z) (at (t.b ⟶ t.c) second (ap (λ e. e.from) (sym p))) (fan_c t area))

-- Two places of a list have no more weight than all.
pub two_parts : {A : Type 0} (w : A → ℕ) (l : List A) (d : A) (i j : ℕ) → i < length l → j < length l → (i ≡ j → ⊥) → w (get_or l i d) + w (get_or l j d) ≤ tally w l
unfolding tally
two_parts w [] d i j h k n = absurd (omega arith)
two_parts w (a ∷ l) d zero zero h k n = absurd (n refl)
two_parts w (a ∷ l) d zero (suc j) h k n = omega (arith, part w l d j (omega arith))
two_parts w (a ∷ l) d (suc i) zero h k n = omega (arith, part w l d i (omega arith))
two_parts w (a ∷ l) d (suc i) (suc j) h k n = omega (arith, two_parts w l d i j (omega arith) (omega arith) (λ e. n (ap suc e)))
