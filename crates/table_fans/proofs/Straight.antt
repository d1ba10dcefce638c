-- In a table that passes rules A and C no corner lies strictly inside a side, so that cutting at the table's corners leaves its sides whole.
-- The idea: a corner v strictly inside the side pq is inside no piece of the frame, so by rule C the table has the side qp, too. Of the two triangles one touches v towards any
-- point x; a triangle with the corner v touches v towards the end of its own side that leaves v, and no two triangles do that. Assumes nothing.
use mathlib.Core.Path.{◌≡◌, refl, sym, ◌∙◌, ap, ap₂, subst}
use mathlib.Core.Logic.{◌⊎◌, inl, inr}
use mathlib.Core.Bool.{Bool, true, false, ◌&&◌, ◌||◌}
use mathlib.Core.List.{List, [], ◌∷◌, ◌++◌, flat_map}
use Prim.Native.Nat.{◌+◌, ◌≤◌}
use native.Mathlib.Omega.{arith}
use native.Mathlib.Decide.{dec_le}
use lib.IntN.{ℤ, pos, ◌*ℤ◌, zero-*ℤ}
use lib.Signed.{lt_z, ◌<ℤ◌, <ℤ_irrefl, ≤ℤ_refl}
use lib.Dec.{T}
use Rattle.whole.specs.Sums.{All, Among, bit, count, net}
use Rattle.whole.specs.Numbers.{eq_z}
use Rattle.whole.specs.Polynomials.{con, ◌:=◌}
use Rattle.whole.proofs.Int.{zify, *-pos, Order, less, equal, more, order, eq_z-refl}
use Rattle.whole.proofs.Ring.{solve}
use Rattle.whole.proofs.Sums.{all-flat_map, all_of, counted, and_both, bit_yes}
use Rattle.plane.specs.Points.{Point, Edge, Triangle, ◌⟶◌, flip, turn, onward, double, sides, same_point, same_edge, between}
use Rattle.plane.specs.Cuts.{pieces, all_pieces}
use Rattle.plane.specs.Boundaries.{sides_of}
use Rattle.plane.proofs.Points.{point_eq, same_point-eq, same_edge-eq, same_edge-refl, onwardₑ, between_line, between_onward}
use Rattle.plane.proofs.Line.{along, on_from, on_to, along_from, long as forth}
use Rattle.plane.proofs.Cuts.{Clear, pieces_cut, pieces_only}
use Rattle.plane.proofs.Ways.{between_flip}
use Rattle.table.specs.Table.{corners, frame_edges, RuleA, RuleC}
use Rattle.table.proofs.Sets.{count_tally}
use Rattle.whole_signs.proofs.Signs.{plus, is_plus, has_only, by_T, by_no_T}
use Rattle.plane_winding.specs.Winding.{leans, keeps, belongs}
use Rattle.plane_winding.proofs.Winding.{second_sign, whole_sign}
use Rattle.plane_winding.proofs.Belongs.{turn_turn, keeps_is}
use Rattle.plane_turning.proofs.Rays.{turn_back, long, wedge_first}
use Rattle.table_fans.proofs.Turned.{image, imageₑ, imageₜ, stretch, turn_image, is_plus_lem, dx, dy, touches, meets, one_round}
use Rattle.table_fans.proofs.Fans.{Which, which, ends_apart, Fan, leaving_fan, Pulled, areas, pull}

-- ---- a triangle seen from one of its sides
-- Its third corner; where its sides begin; and the turned triangle has each point that the turned sides keep, in this order.
record Seen (t : Triangle) (e : Edge) : Type 0 where
  third : Point
  area : pos 0 <ℤ turn e.from e.to third
  begins : (d : Edge) → Among same_edge d (sides t) → (d.from ≡ e.from) ⊎ (d.from ≡ e.to) ⊎ (d.from ≡ third)
  held : (m n : ℤ) (z : Point) → T (keeps z (image m n e.from ⟶ image m n e.to)) → T (keeps z (image m n e.to ⟶ image m n third))
      → T (keeps z (image m n third ⟶ image m n e.from)) → T (belongs z (imageₜ m n t))

seen : (t : Triangle) → pos 0 <ℤ double t → (e : Edge) → Among same_edge e (sides t) → Seen t e
unfolding belongs
seen t area e h = go (which t area e h)
  where
    second : pos 0 <ℤ turn t.b t.c t.a
    second = rw (turn_turn t.a t.b t.c) area

    start : (d : Edge) → Among same_edge d (sides t) → (d.from ≡ t.a) ⊎ (d.from ≡ t.b) ⊎ (d.from ≡ t.c)
    start d k = by (which t area d k)
      where
        by : Which t area d → (d.from ≡ t.a) ⊎ (d.from ≡ t.b) ⊎ (d.from ≡ t.c)
        by (inl p) = inl (ap (λ e. e.from) p)
        by (inr (inl p)) = inr (inl (ap (λ e. e.from) p))
        by (inr (inr p)) = inr (inr (ap (λ e. e.from) p))

    all_three : (m n : ℤ) (z : Point) → T (keeps z (image m n t.a ⟶ image m n t.b)) → T (keeps z (image m n t.b ⟶ image m n t.c))
        → T (keeps z (image m n t.c ⟶ image m n t.a)) → T (belongs z (imageₜ m n t))
    all_three m n z i j k =
        let side : Point → Point → Bool = λ p q. keeps z (image m n p ⟶ image m n q) in
        and_both (side t.a t.b && side t.b t.c) (side t.c t.a) (and_both (side t.a t.b) (side t.b t.c) i j) k

    round : {A B C : Type 0} → A ⊎ B ⊎ C → B ⊎ C ⊎ A
    round (inl a) = inr (inr a)
    round (inr (inl b)) = inl b
    round (inr (inr c)) = inr (inl c)

    go : Which t area e → Seen t e
    go (inl p) = subst (Seen t) (sym p) (record { third = t.c; area = area; begins = start; held = all_three })
    go (inr (inl p)) = subst (Seen t) (sym p) (record { third = t.a; area = second; begins = λ d k. round (start d k); held = λ m n z i j k. all_three m n z k i j })
    go (inr (inr p)) = subst (Seen t) (sym p) (record {
      third = t.b;
      area = rw (turn_turn t.b t.c t.a) second;
      begins = λ d k. round (round (start d k));
      held = λ m n z i j k. all_three m n z j k i;
    })

-- ---- of an edge and its reverse one leans
falls : (u v : Point) → v.y <ℤ u.y → T (leans (u ⟶ v))
falls u v h = rw (by_T (lt_z v.y u.y) h.lt) tt

level : (u v : Point) → u.y ≡ v.y → u.x <ℤ v.x → T (leans (u ⟶ v))
level u v h k = go (lt_z v.y u.y)
  where
    go : (b : Bool) → T (b || eq_z u.y v.y && lt_z u.x v.x)
    go true = tt
    go false = and_both (eq_z u.y v.y) (lt_z u.x v.x) (subst (λ y. T (eq_z u.y y)) h (eq_z-refl u.y)) k.lt

leans_one : (e : Edge) → (e.from ≡ e.to → ⊥) → T (leans e) ⊎ T (leans (flip e))
leans_one e apart = go (order e.from.y e.to.y) (order e.from.x e.to.x)
  where
    go : Order e.from.y e.to.y → Order e.from.x e.to.x → T (leans e) ⊎ T (leans (flip e))
    go (less h) o = inr (falls e.to e.from h)
    go (more h) o = inl (falls e.from e.to h)
    go (equal h) (less k) = inl (level e.from e.to h k)
    go (equal h) (more k) = inr (level e.to e.from (sym h) k)
    go (equal h) (equal k) = absurd (apart (point_eq k h))

-- ---- a corner strictly inside a side
-- A point strictly inside a side is none of the triangle's corners.
not_corner : (t : Triangle) (e d : Edge) → Seen t e → Among same_edge d (sides t) → T (between d.from e) → ⊥
unfolding onward
not_corner t e d s h b = go (s.begins d h)
  where
    ahead : pos 0 <ℤ onward e.from d.from e.to
    ahead = between_onward d.from e b

    go : (d.from ≡ e.from) ⊎ (d.from ≡ e.to) ⊎ (d.from ≡ s.third) → ⊥
    go (inl p) = <ℤ_irrefl (subst (λ z. pos 0 <ℤ z) (ap (λ c. onward e.from c e.to) p
        ∙ solve 4 (λ px py qx qy. onwardₑ px py px py qx qy := con (pos 0)) tt e.from.x e.from.y e.to.x e.to.y) ahead)
    go (inr (inl p)) = <ℤ_irrefl (subst (λ z. pos 0 <ℤ z) (ap (λ c. onward e.from c e.to) p
        ∙ solve 4 (λ px py qx qy. onwardₑ px py qx qy qx qy := con (pos 0)) tt e.from.x e.from.y e.to.x e.to.y) ahead)
    go (inr (inr p)) = <ℤ_irrefl (subst (λ z. pos 0 <ℤ z) (turn_back e.from s.third e.to ∙ rw (← p, between_line d.from e b)) s.area)

module _ (v x : Point) (some : pos 0 <ℤ stretch (dx v x) (dy v x)) where
  abbrev M : Point → Point
  M = image (dx v x) (dy v x)

  abbrev Mₑ : Edge → Edge
  Mₑ = imageₑ (dx v x) (dy v x)

  -- The image of a point strictly to the left of an edge is kept by its image.
  keeps_left : (p q : Point) → pos 0 <ℤ turn p q v → T (keeps (M v) (M p ⟶ M q))
  keeps_left p q h = subst T (sym (keeps_is (M v) (M p) (M q)))
      (rw (has_only plus (turn (M p) (M q) (M v)) (rw (turn_image (dx v x) (dy v x) p q v) (*-pos (turn p q v) (stretch (dx v x) (dy v x)) h some))) tt)

  -- The triangle of a side with v strictly inside it touches v if the side's image leans.
  touched : (t : Triangle) (e : Edge) → Seen t e → T (between v e) → T (leans (Mₑ e)) → meets v x t ≡ 1
  touched t e s b l = bit_yes (touches v x t) (s.held (dx v x) (dy v x) (M v)
      (subst T (sym (keeps_is (M v) (M p) (M q))) (rw (turn_image (dx v x) (dy v x) p q v, on, zero-*ℤ (stretch (dx v x) (dy v x))) l))
      (keeps_left q r (rw (turn_turn v q r) second)) (keeps_left r p (rw (← turn_turn r p v) first)))
    where
      p : Point
      p = e.from

      q : Point
      q = e.to

      r : Point
      r = s.third

      on : turn p q v ≡ pos 0
      on = turn_back p v q ∙ rw (between_line v e b)

      first : pos 0 <ℤ turn p v r
      first = is_plus_lem (turn p v r) (ap is_plus (sym (whole_sign p v q (between_line v e b) (between_onward v e b) r)) ∙ ap is_plus (has_only plus (turn p q r) s.area))

      second : pos 0 <ℤ turn v q r
      second = is_plus_lem (turn v q r) (ap is_plus (second_sign p v q (between_line v e b) (between_onward v e b) r ∙ has_only plus (turn p v r) first))

-- ---- the sides of the table
-- A side leaves each corner.
corner_leaves : (l : List Triangle) (v : Point) → Among same_point v (corners l) → (d : Edge) × Among same_edge d (sides_of l) × (d.from ≡ v)
unfolding flat_map
corner_leaves [] v h = absurd (omega arith)
corner_leaves (t ∷ l) v h = go (same_point t.a v) (same_point t.b v) (same_point t.c v) (same_point-eq t.a v) (same_point-eq t.b v) (same_point-eq t.c v) h (corner_leaves l v)
  where
    own : (e : Edge) → bit (same_edge e e) ≡ 1
    own e = bit_yes (same_edge e e) (same_edge-refl e)

    go : (i j k : Bool) → (T i → t.a ≡ v) → (T j → t.b ≡ v) → (T k → t.c ≡ v) → 1 ≤ bit i + (bit j + (bit k + count same_point v (corners l)))
        → (Among same_point v (corners l) → (d : Edge) × Among same_edge d (sides_of l) × (d.from ≡ v)) → (d : Edge) × Among same_edge d (sides_of (t ∷ l)) × (d.from ≡ v)
    go true j k p q r h f = (t.a ⟶ t.b, omega (arith, own (t.a ⟶ t.b)), p tt)
    go false true k p q r h f = (t.b ⟶ t.c, omega (arith, own (t.b ⟶ t.c)), q tt)
    go false false true p q r h f = (t.c ⟶ t.a, omega (arith, own (t.c ⟶ t.a)), r tt)
    go false false false p q r h f = let s = f (omega arith) in (s.0, omega (arith, s.1), s.2)

module _ (table : List Triangle) (area : RuleA table) (framed : RuleC (frame_edges table) table) where
  all_clear : All (Clear (corners table)) (all_pieces (corners table) (frame_edges table))
  all_clear = all-flat_map (λ e. Unit {0}) (Clear (corners table)) (pieces (corners table)) (λ e u. (pieces_cut (corners table) e).clear) (frame_edges table) (all_of (λ e. Unit {0}) (λ e. tt) (frame_edges table))

  -- A side with a corner strictly inside has its reverse among the sides.
  reversed : (e : Edge) → Among same_edge e (sides_of table) → (v : Point) → Among same_point v (corners table) → T (between v e) → Among same_edge (flip e) (sides_of table)
  unfolding net
  reversed e h v k b = go (dec_le 1 (count same_edge e framing)) (dec_le 1 (count same_edge (flip e) framing))
    where
      framing : List Edge
      framing = all_pieces (corners table) (frame_edges table)

      whole : (e : Edge) → Among same_edge e framing → Clear (corners table) e
      whole e i = counted same_edge same_edge-eq same_edge-refl (Clear (corners table)) e framing i all_clear

      go : Dec (1 ≤ count same_edge e framing) → Dec (1 ≤ count same_edge (flip e) framing) → Among same_edge (flip e) (sides_of table)
      go (yes i) j = absurd (whole e i v k b)
      go (no i) (yes j) = absurd (whole (flip e) j v k (between_flip v e b))
      go (no i) (no j) = omega (arith, simp zify at (framed e))

  -- A side leaves the corner v; its triangle touches v towards the side's end.
  module _ (v : Point) (d : Edge) (leaving : Among same_edge d (sides_of table)) (from-v : d.from ≡ v) where
    own : Pulled d table
    own = pull d table leaving

    fan : (b : Point) × Fan own.one v d.to b
    fan = subst (λ z. (b : Point) × Fan own.one z d.to b) from-v (leaving_fan own.one (areas own area).0 d own.side)

    some : pos 0 <ℤ stretch (dx v d.to) (dy v d.to)
    some = (long v d.to fan.0 fan.1.area).0

    touches_own : meets v d.to own.one ≡ 1
    touches_own = fan.1.holds d.to (wedge_first v d.to fan.0 fan.1.area)

    -- So no side that has v strictly inside it leans.
    not_leaning : (e : Edge) → Among same_edge e (sides_of table) → T (between v e) → T (leans (imageₑ (dx v d.to) (dy v d.to) e)) → ⊥
    not_leaning e h b l = go (dec_le 1 (count same_edge e (sides own.one)))
      where
        go : Dec (1 ≤ count same_edge e (sides own.one)) → ⊥
        go (yes k) = not_corner own.one e d (seen own.one (areas own area).0 e k) own.side (subst (λ z. T (between z e)) (sym from-v) b)
        go (no k) = omega (
          arith,
          one_round table area framed v d.to some,
          own.tallies (meets v d.to),
          other.tallies (meets v d.to),
          touches_own,
          touched v d.to some other.one e (seen other.one (areas other (areas own area).1).0 e other.side) b l,
        )
          where
            other : Pulled e own.rest
            other = pull e own.rest (omega (arith, count_tally e table, count_tally e own.rest, own.tallies (λ t. count same_edge e (sides t))))

    -- But it or its reverse does.
    not_inside : (e : Edge) → Among same_edge e (sides_of table) → Among same_edge (flip e) (sides_of table) → T (between v e) → ⊥
    not_inside e h k b = go (leans_one (imageₑ m n e) apart)
      where
        m : ℤ
        m = dx v d.to

        n : ℤ
        n = dy v d.to

        p : Pulled e table
        p = pull e table h

        s : Seen p.one e
        s = seen p.one (areas p area).0 e p.side

        apart : image m n e.from ≡ image m n e.to → ⊥
        apart = (ends_apart (image m n e.from) (image m n e.to) (image m n s.third)
            (rw (turn_image m n e.from e.to s.third) (*-pos (turn e.from e.to s.third) (stretch m n) s.area some))).0

        go : T (leans (imageₑ m n e)) ⊎ T (leans (flip (imageₑ m n e))) → ⊥
        go (inl l) = not_leaning e h b l
        go (inr l) = not_leaning (flip e) k (between_flip v e b) l

  -- No corner of the table is strictly inside a side of it,
  pub no_corner_inside : (e : Edge) → Among same_edge e (sides_of table) → (v : Point) → Among same_point v (corners table) → between v e ≡ false
  no_corner_inside e h v k = let (d, i, p) = corner_leaves table v k in by_no_T (between v e) (λ b. not_inside v d i p e h (reversed e h v k b) b)

  -- so that cutting at the corners leaves a side whole,
  pub side_uncut : (e : Edge) → Among same_edge e (sides_of table) → pieces (corners table) e ≡ e ∷ []
  side_uncut e h = sym (pieces_only (corners table) e (e ∷ []) (record {
    joined = (refl, refl);
    onwards = (
      record {
        from_on = on_from e;
        to_on = on_to e;
        after = rw along_from (≤ℤ_refl (pos 0));
        forward = rw along_from (forth e apart);
        before = ≤ℤ_refl (along e e.to);
        ends = inl refl;
      },
      tt,
    );
    clear = (λ c m t. subst T (no_corner_inside e h c m) t, tt);
  }))
    where
      p : Pulled e table
      p = pull e table h

      apart : e.from ≡ e.to → ⊥
      apart = let i = leaving_fan p.one (areas p area).0 e p.side in (ends_apart e.from e.to i.0 i.1.area).0

  -- and a list of sides as it is.
  pub sides_uncut : (l : List Edge) → All (λ e. Among same_edge e (sides_of table)) l → all_pieces (corners table) l ≡ l
  unfolding flat_map
  sides_uncut [] h = refl
  sides_uncut (e ∷ l) h = ap₂ ◌++◌ (side_uncut e h.0) (sides_uncut l h.1)
