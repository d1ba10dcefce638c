-- In a table that passes the rules: each boundary side of a set of triangles is followed by one, and no two are followed by the same.
-- The idea: a wedge of the set holds no ray along which a boundary side arrives, since that ray's triangle is outside the set or the side lies on the frame. So of two
-- arriving sides each has a leaving side in the arc that begins with it and ends with the other, and the sharpest turn from it lies in that arc; the two arcs have
-- no ray in common. Assumes nothing.
use mathlib.Core.Path.{◌≡◌, refl, sym, ◌∙◌, ap, subst}
use mathlib.Core.Bool.{Bool, true, false, not, true≢false}
use mathlib.Core.List.{List, [], ◌∷◌, map}
use Prim.Native.Nat.{◌≤◌}
use native.Mathlib.Omega.{arith}
use native.Mathlib.Decide.{dec_le}
use lib.IntN.{pos}
use lib.Signed.{◌<ℤ◌}
use lib.Dec.{T}
use Rattle.whole.specs.Sums.{All, Among, count, net}
use Rattle.whole.proofs.Int.{zify}
use Rattle.whole.proofs.Sums.{all_map, all_of, counted, same_or_not, and_right}
use Rattle.plane.specs.Points.{Point, Edge, Triangle, flip, turn, double, same_edge}
use Rattle.plane.specs.Boundaries.{sides_of}
use Rattle.plane.proofs.Points.{same_edge-eq, same_edge-refl}
use Rattle.table.specs.Table.{frame_edges, RuleA, RuleB, RuleC}
use Rattle.table.specs.Sets.{SetOf, chosen}
use Rattle.table.proofs.Sets.{tally, split, all_chosen, both}
use Rattle.table.proofs.Shares.{fewer, fewer_sides}
use Rattle.repair_sides.specs.Sides.{boundary_sides}
use Rattle.repair_sides.proofs.Bounding.{sides_are_boundary, sides_once}
use Rattle.whole_signs.proofs.Signs.{Sign, minus, null, plus, sign, is_plus, is_minus, opposite}
use Rattle.plane_winding.proofs.Winding.{dot}
use Rattle.plane_winding.proofs.Belongs.{turn_turn}
use Rattle.plane_turning.specs.Turning.{sharper, following}
use Rattle.plane_turning.proofs.Rays.{wedge, sign_back, long, arc, other_ray, arc_end, one_way, arc_both, arc_sharper, wedge_first, sharper_through}
use Rattle.table_fans.proofs.Turned.{meets, round, one_round}
use Rattle.table_fans.proofs.Fans.{Fan, NoWedge, fan_a, fan_b, fan_c, leaving_fan, arriving_fan, Pulled, areas, pull, NoOverlap, arrive_apart, leave_apart, ends_apart}
use Rattle.table_fans.proofs.Hull.{LeftOf, NotRight, on_the_frame}
use Rattle.repair_rings.proofs.Balance.{departures, arrivals, Even, balance, leaves_too}
use Rattle.plane_turning.proofs.Following.{refuted, Follows, follows}

all_and : {A : Type 0} (P Q : A → Type 0) (l : List A) → All P l → All Q l → All (λ a. P a × Q a) l
all_and P Q [] p q = tt
all_and P Q (a ∷ l) p q = ((p.0, q.0), all_and P Q l p.1 q.1)

-- ---- triangles of which no wedge holds a ray
untouched : (v x : Point) (t : Triangle) → (pos 0 <ℤ double t) × (meets v x t ≡ 0) → NoWedge v x t
untouched v x t h = (
  λ p. none t.b t.c (subst (λ z. Fan t z t.b t.c) p (fan_a t h.0)),
  λ p. none t.c t.a (subst (λ z. Fan t z t.c t.a) p (fan_b t h.0)),
  λ p. none t.a t.b (subst (λ z. Fan t z t.a t.b) p (fan_c t h.0)),
)
  where
    none : (a b : Point) → Fan t v a b → T (not (wedge v a b x))
    none a b f = refuted (wedge v a b x) (λ w. omega (arith, f.holds x w, h.1))

none_met : (v x : Point) (l : List Triangle) → tally (meets v x) l ≡ 0 → All (λ t. meets v x t ≡ 0) l
unfolding tally
none_met v x [] h = tt
none_met v x (t ∷ l) h = (omega arith, none_met v x l (omega arith))

left_quiet : (e : Edge) (t : Triangle) → LeftOf e t → NoWedge e.to e.from t
left_quiet e t h = (λ p. none t.b t.c h.2, λ p. none t.c t.a h.0, λ p. none t.a t.b h.1)
  where
    none : (a b : Point) → NotRight b e → T (not (wedge e.to a b e.from))
    none a b k = refuted (wedge e.to a b e.from) (λ w. go (sign (turn e.to e.from b)) (and_right (not (is_minus (sign (turn e.to a e.from)))) (is_plus (sign (turn e.to e.from b))) w)
        (subst (λ s. is_minus s ≡ false) (ap sign (sym (turn_turn e.from e.to b)) ∙ sign_back e.to e.from b) k))
      where
        go : (s : Sign) → T (is_plus s) → is_minus (opposite s) ≡ false → ⊥
        go minus t q = t
        go null t q = t
        go plus t q = true≢false q

-- The arc between two rays that no wedge at v holds has both rays of each wedge or none.
even : (v a b : Point) (some : pos 0 <ℤ dot v a a) (apart : T (other_ray v a b)) (t : Triangle) → (pos 0 <ℤ double t) × (NoWedge v a t × NoWedge v b t) → Even v (arc v a b) t
even v a b some apart t h = (
  λ p. of t.b t.c (subst (λ z. Fan t z t.b t.c) p (fan_a t h.0)),
  λ p. of t.c t.a (subst (λ z. Fan t z t.c t.a) p (fan_b t h.0)),
  λ p. of t.a t.b (subst (λ z. Fan t z t.a t.b) p (fan_c t h.0)),
)
  where
    of : (w x : Point) → Fan t v w x → arc v a b w ≡ arc v a b x
    of w x f = arc_both v a b some apart w x f.area (f.quiet a h.1.0) (f.quiet b h.1.1)

-- ---- the boundary sides of a set
module _ (table : List Triangle) (area : RuleA table) (once : RuleB table) (framed : RuleC (frame_edges table) table) (s : List Bool) (fits : SetOf table s) where
  abbrev marked : List Triangle
  marked = chosen table s

  abbrev bound : List Edge
  bound = boundary_sides marked

  set_area : RuleA marked
  set_area = all_chosen (λ t. pos 0 <ℤ double t) table s area

  set_once : (e : Edge) → count same_edge e (sides_of marked) ≤ 1
  set_once e = omega (arith, once e, fewer_sides table s e)

  clear : NoOverlap marked
  clear v x some = omega (arith, fewer (meets v x) table s, one_round table area framed v x some)

  pub bound_once : (e : Edge) → count same_edge e bound ≤ 1
  bound_once = sides_once marked set_once

  -- A boundary side is a side of the set, and its reverse is none.
  pub bound_side : (e : Edge) → Among same_edge e bound → Among same_edge e (sides_of marked) × (count same_edge (flip e) (sides_of marked) ≡ 0)
  unfolding net
  bound_side e h = let k = simp zify at ((sides_are_boundary marked set_once e).0 h) in (omega (arith, set_once e), omega (arith, set_once e))

  -- Its ends differ.
  pub side_apart : (e : Edge) → Among same_edge e bound → e.from ≡ e.to → ⊥
  side_apart e h p = let q = pull e marked (bound_side e h).0 in let i = leaving_fan q.one (areas q set_area).0 e q.side in (ends_apart e.from e.to i.0 i.1.area).0 p

  arrival_long : (e : Edge) → Among same_edge e bound → pos 0 <ℤ dot e.to e.from e.from
  arrival_long e h = let p = pull e marked (bound_side e h).0 in let i = arriving_fan p.one (areas p set_area).0 e p.side in (long e.to i.0 e.from i.1.area).1

  -- No wedge of the set holds the ray along which a boundary side arrives.
  pub quiet : (e : Edge) → Among same_edge e bound → All (NoWedge e.to e.from) marked
  quiet e h = go (dec_le 1 (count same_edge (flip e) (sides_of table)))
    where
      side : Among same_edge e (sides_of marked)
      side = (bound_side e h).0

      go : Dec (1 ≤ count same_edge (flip e) (sides_of table)) → All (NoWedge e.to e.from) marked
      go (yes p) = all_map (λ t. (pos 0 <ℤ double t) × (meets e.to e.from t ≡ 0)) (NoWedge e.to e.from) (untouched e.to e.from) marked
          (all_and (λ t. pos 0 <ℤ double t) (λ t. meets e.to e.from t ≡ 0) marked set_area (none_met e.to e.from marked none))
        where
          q : Pulled (flip e) (chosen table (map not s))
          q = pull (flip e) (chosen table (map not s)) (omega (arith, both table area once s fits (flip e), (bound_side e h).1))

          f : (b : Point) × Fan q.one e.to e.from b
          f = leaving_fan q.one (areas q (all_chosen (λ t. pos 0 <ℤ double t) table (map not s) area)).0 (flip e) q.side

          none : round e.to e.from marked ≡ 0
          none = omega (
            arith,
            f.1.holds e.from (wedge_first e.to e.from f.0 f.1.area),
            q.tallies (meets e.to e.from),
            split (meets e.to e.from) table s fits,
            one_round table area framed e.to e.from (long e.to e.from f.0 f.1.area).0,
          )
      go (no p) = all_map (LeftOf e) (NoWedge e.to e.from) (left_quiet e) marked
          (all_chosen (LeftOf e) table s (on_the_frame table area framed e (omega (arith, side, fewer_sides table s e)) (omega arith)))

  -- At each corner as many boundary sides arrive as leave,
  pub as_many : (v : Point) → departures v (λ p. true) bound ≡ arrivals v (λ p. true) bound
  as_many v = balance v (λ p. true) marked set_once (all_of (Even v (λ p. true)) (λ t. (λ p. refl, λ p. refl, λ p. refl)) marked)

  -- so one follows.
  pub next : (e : Edge) → Among same_edge e bound → Follows bound e (following bound e)
  next e h = let d = leaves_too e.to (λ p. true) bound (as_many e.to) e h refl tt in
      follows bound e d.0 d.1 d.2

  -- No ties: only one side follows.
  pub one_follows : (e c d : Edge) → Among same_edge e bound → Follows bound e c → Follows bound e d → c ≡ d
  one_follows e c d h i j = go (same_or_not same_edge same_edge-eq same_edge-refl c d)
    where
      unbeaten : (c d : Edge) → Follows bound e c → Follows bound e d → T (not (sharper e.from c.from d.to c.to))
      unbeaten c d i j = subst (λ z. T (not (sharper e.from z d.to c.to))) (sym i.joined)
          (counted same_edge same_edge-eq same_edge-refl (λ x. x.from ≡ e.to → T (not (sharper e.from e.to x.to c.to))) d bound j.listed i.sharp j.joined)

      go : Dec (c ≡ d) → c ≡ d
      go (yes p) = p
      go (no p) = absurd (leave_apart marked set_area clear e.from c d (bound_side c i.listed).0 (bound_side d j.listed).0 (i.joined ∙ sym j.joined) p
          (subst (λ z. pos 0 <ℤ dot z e.from e.from) (sym i.joined) (arrival_long e h)) (subst (λ z. All (NoWedge z e.from) marked) (sym i.joined) (quiet e h))
          (subst (λ z. T (not (sharper e.from z c.to d.to))) (j.joined ∙ sym i.joined) (unbeaten d c j i)) (unbeaten c d i j))

  -- Of two sides that arrive at v: the one that follows e turns sharper from e than the ray of the other.
  module _ (e f : Edge) (h : Among same_edge e bound) (k : Among same_edge f bound) (differ : e ≡ f → ⊥) (meet : f.to ≡ e.to) where
    abbrev v : Point
    v = e.to

    abbrev a : Point
    a = e.from

    abbrev b : Point
    b = f.from

    quiet_a : All (NoWedge v a) marked
    quiet_a = quiet e h

    quiet_b : All (NoWedge v b) marked
    quiet_b = subst (λ z. All (NoWedge z b) marked) meet (quiet f k)

    apart : T (other_ray v a b)
    apart = arrive_apart marked set_area clear e f (bound_side e h).0 (bound_side f k).0 (sym meet) differ

    some : pos 0 <ℤ dot v a a
    some = arrival_long e h

    abbrev Quiet : Triangle → Type 0
    Quiet t = (pos 0 <ℤ double t) × (NoWedge v a t × NoWedge v b t)

    all_quiet : All Quiet marked
    all_quiet = all_and (λ t. pos 0 <ℤ double t) (λ t. NoWedge v a t × NoWedge v b t) marked set_area (all_and (NoWedge v a) (NoWedge v b) marked quiet_a quiet_b)

    turns_before : T (sharper a v (following bound e).to b)
    turns_before =
        let d = leaves_too v (arc v a b) bound (balance v (arc v a b) marked set_once (all_map Quiet (Even v (arc v a b)) (even v a b some apart) marked all_quiet)) f k meet (arc_end v a b some apart) in
        let p = pull d.0 marked (bound_side d.0 d.1).0 in
        let q = (p.keeps Quiet all_quiet).0 in
        let fan = leaving_fan p.one q.0 d.0 p.side in
        let g : Fan p.one v d.0.to fan.0 = subst (λ z. Fan p.one z d.0.to fan.0) d.2 fan.1 in
        sharper_through a v d.0.to (following bound e).to b
        (counted same_edge same_edge-eq same_edge-refl (λ x. x.from ≡ e.to → T (not (sharper e.from e.to x.to (following bound e).to))) d.0 bound d.1 (next e h).sharp d.2)
        (arc_sharper v a b some apart d.0.to fan.0 g.area (g.quiet a q.1.0) (g.quiet b q.1.1) d.3)

  -- No two boundary sides are followed by the same.
  pub injective : (e f : Edge) → Among same_edge e bound → Among same_edge f bound → following bound e ≡ following bound f → e ≡ f
  injective e f h k same = go (same_or_not same_edge same_edge-eq same_edge-refl e f)
    where
      meet : f.to ≡ e.to
      meet = sym (next f k).joined ∙ ap (λ z. z.from) (sym same) ∙ (next e h).joined

      go : Dec (e ≡ f) → e ≡ f
      go (yes p) = p
      go (no p) = absurd (one_way e.to e.from f.from (some e f h k p meet) (apart e f h k p meet) (following bound e).to (turns_before e f h k p meet)
          (subst (λ z. T (sharper f.from z (following bound e).to e.from)) meet
          (subst (λ z. T (sharper f.from f.to z.to e.from)) (sym same) (turns_before f e k h (λ q. p (sym q)) (sym meet)))))
