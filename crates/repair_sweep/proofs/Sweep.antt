-- In a table that passes the rules the side that is met first anticlockwise round a corner, from an arriving boundary side on, follows it.
-- The idea: the wedges that are passed are of triangles outside the set, or none where the frame is passed. A boundary side that leaves the corner begins a wedge of the
-- set, and no two triangles hold one ray: so none leaves within what is passed, and what is met is a sharper turn to the right than all the others. Assumes nothing.
use mathlib.Core.Path.{◌≡◌, refl, sym, ◌∙◌, ap, subst}
use mathlib.Core.Logic.{◌⊎◌, inl, inr}
use mathlib.Core.Bool.{Bool, true, false, not, cond, true≢false}
use mathlib.Core.List.{List}
use Prim.Native.Nat.{ℕ, suc, ◌*◌, ◌-◌, ◌/◌, ◌≤◌, ◌<◌}
use native.Mathlib.Omega.{arith}
use native.Mathlib.Decide.{ℕ_discrete}
use lib.Dec.{T, T_not, eqb}
use lib.IntN.{pos}
use lib.ListN.{length, get_or}
use lib.Signed.{◌<ℤ◌}
use Rattle.whole.specs.Sums.{count}
use Rattle.whole.proofs.Sums.{all_at, and_left, and_right}
use Rattle.plane.specs.Points.{Point, Edge, flip, turn, double, sides, same_edge}
use Rattle.plane.specs.Boundaries.{sides_of}
use Rattle.whole_signs.proofs.Signs.{Sign, minus, null, plus, sign, is_plus, is_minus, opposite as opposite_sign, by_T, by_no_T}
use Rattle.plane_winding.proofs.Winding.{dot}
use Rattle.plane_turning.specs.Turning.{sharper}
use Rattle.plane_turning.proofs.Rays.{wedge, long, other_ray, wedge_first, sign_back}
use Rattle.plane_turning.proofs.Following.{refuted}
use Rattle.plane_turning.proofs.Sweeping.{own_ray, first_swept, swept, same_side, not_right, past_frame, opposite_rays}
use Rattle.lent_little.specs.Held.{end_of}
use Rattle.table.specs.Table.{frame_edges, RuleA, RuleB, RuleC}
use Rattle.table.specs.Sides.{triangles_of, side_at}
use Rattle.table.specs.Opposites.{opposites}
use Rattle.table.proofs.Shares.{own_side_lem, length_triangles, length_opposites, among_side, opposite_none, opposite_is, side_once}
use Rattle.table_fans.proofs.Turned.{meets, one_round}
use Rattle.table_fans.proofs.Fans.{by_from, NoOverlap, arrive_apart}
use Rattle.repair_sides.specs.Sides.{boundary_sides, triangles_owned}
use Rattle.repair_sides.specs.Numbered.{owns_across, bounds}
use Rattle.repair_follower.specs.Follower.{side_before, on_frame, along_frame, turned_to, own_side, anticlockwise, follower}
use Rattle.repair_sweep.proofs.Ends.{ends, along_keeps}
use Rattle.repair_sweep.proofs.Framed.{reverse, none_across, reverse_back, arrives_left, leaves_left, along_leaves, along_ends}
use Rattle.repair_sweep.proofs.Places.{corner, end_before, before_end, before_in, end_in, joined_end, joined_before, fan_at, only_one}

module _ (keys : List ℕ) (n : ℕ) (whole : length keys ≡ 3 * n) (area : RuleA (triangles_of keys)) (once : RuleB (triangles_of keys))
    (framed : RuleC (frame_edges (triangles_of keys)) (triangles_of keys)) (owners : List ℕ) (fits : length owners ≡ n) (p : ℕ) where
  abbrev side : ℕ → Edge
  side = side_at keys

  abbrev opposite : List ℕ
  opposite = opposites (sides_of (triangles_of keys))

  abbrev bound : List Edge
  bound = boundary_sides (triangles_owned (triangles_of keys) owners p)

  abbrev Bounding : ℕ → Type 0
  Bounding j = (j < length keys) × (bounds opposite owners p j ≡ true)

  -- A side of a triangle of the polygon's, by its place alone.
  own_place : (j k : ℕ) → j / 3 ≡ k / 3 → own_side owners p j ≡ own_side owners p k
  own_place j k e = ap (λ i. eqb (get_or owners i 0) p) e

  -- ---- from an arriving boundary side k on
  module _ (k : ℕ) (b : Bounding k) (away : (j : ℕ) → Bounding j → (side j).from ≡ (side k).to → T (not (wedge (side k).to (side j).to (side (side_before j)).from (side k).from))) where
    abbrev v : Point
    v = (side k).to

    abbrev a : Point
    a = (side k).from

    some : pos 0 <ℤ dot v a a
    some = let f = fan_at keys n whole area (end_of k) (end_in keys n whole k b.0) in
        subst (λ z. pos 0 <ℤ dot v (side z).from (side z).from) (before_end k)
        (subst (λ z. pos 0 <ℤ dot z (side (side_before (end_of k))).from (side (side_before (end_of k))).from) (joined_end keys n whole k b.0) (long _ _ _ f.area).1)

    -- No boundary side that leaves the corner is a sharper turn than the way on to this point.
    abbrev Unbeaten : Point → Type 0
    Unbeaten y = (j : ℕ) → Bounding j → (side j).from ≡ v → T (not (sharper a v (side j).to y))

    other_ray_lem : (j : ℕ) → Bounding j → (side j).from ≡ v → T (other_ray v a (side j).to)
    other_ray_lem j i e = own_ray v a some (side j).to (side (side_before j)).from
        (subst (λ z. pos 0 <ℤ turn z (side j).to (side (side_before j)).from) e (fan_at keys n whole area j i.0).area) (away j i e)

    -- A boundary side doesn't leave within the wedge of a triangle outside the set.
    not_within : (d : ℕ) → d < length keys → (side d).from ≡ v → own_side owners p d ≡ false → (j : ℕ) → Bounding j → (side j).from ≡ v
        → T (wedge v (side d).to (side (side_before d)).from (side j).to) → ⊥
    not_within d h s o j i e w =
        let same = only_one keys n whole area framed v (side j).to (long_to j i e) d j h i.0 (held d h s (side j).to w) (held j i.0 e (side j).to (first j i e)) in
        true≢false (sym (owned j i) ∙ sym (own_place d j same) ∙ o)
      where
        held : (d : ℕ) (h : d < length keys) → (side d).from ≡ v → (x : Point) → T (wedge v (side d).to (side (side_before d)).from x) → meets v x (get_or (triangles_of keys) (d / 3) corner) ≡ 1
        held d h s x w = subst (λ z. T (wedge z (side d).to (side (side_before d)).from x) → meets z x (get_or (triangles_of keys) (d / 3) corner) ≡ 1) s ((fan_at keys n whole area d h).holds x) w

        owned : (j : ℕ) → Bounding j → own_side owners p j ≡ true
        owned j i = by_T (own_side owners p j) (and_left (own_side owners p j) (not (owns_across owners p (get_or opposite j 0))) (rw i.1 tt))

        long_to : (j : ℕ) → Bounding j → (side j).from ≡ v → pos 0 <ℤ dot v (side j).to (side j).to
        long_to j i e = subst (λ z. pos 0 <ℤ dot z (side j).to (side j).to) e (long _ _ _ (fan_at keys n whole area j i.0).area).0

        first : (j : ℕ) → Bounding j → (side j).from ≡ v → T (wedge v (side j).to (side (side_before j)).from (side j).to)
        first j i e = subst (λ z. T (wedge z (side j).to (side (side_before j)).from (side j).to)) e (wedge_first _ _ _ (fan_at keys n whole area j i.0).area)

    -- ---- over a wedge
    over_first : (d : ℕ) → d < length keys → side d ≡ flip (side k) → own_side owners p d ≡ false → Unbeaten (side (side_before d)).from
    over_first d h s o j i e = refuted (sharper a v (side j).to (side (side_before d)).from) (λ t. not_within d h (ap (λ z. z.from) s) o j i e
        (subst (λ z. T (wedge v z (side (side_before d)).from (side j).to)) (sym (ap (λ z. z.to) s))
        (first_swept v a some (side j).to (side (side_before d)).from (wide d h s) t)))
      where
        wide : (d : ℕ) (h : d < length keys) → side d ≡ flip (side k) → pos 0 <ℤ turn v a (side (side_before d)).from
        wide d h s = subst (λ z. pos 0 <ℤ turn z.from z.to (side (side_before d)).from) s (fan_at keys n whole area d h).area

    over_wedge : (d : ℕ) → d < length keys → (side d).from ≡ v → own_side owners p d ≡ false → T (not (wedge v (side d).to (side (side_before d)).from a))
        → Unbeaten (side d).to → Unbeaten (side (side_before d)).from
    over_wedge d h s o out u j i e = refuted (sharper a v (side j).to (side (side_before d)).from) (λ t. not_within d h s o j i e
        (swept v a some (side d).to (side j).to (side (side_before d)).from
        (subst (λ z. pos 0 <ℤ turn z (side d).to (side (side_before d)).from) s (fan_at keys n whole area d h).area) out (other_ray_lem j i e) (u j i e) t))

    -- ---- over what is outside the frame: no corner of the table is to the right of the side that arrives from z, nor of the one that leaves to y
    over_frame : (z y : Point) → ((i : ℕ) → i < length keys → T (not (is_plus (sign (turn v z (side i).from))))) → ((i : ℕ) → i < length keys → T (not (is_plus (sign (turn v (side i).from y)))))
        → (z ≡ a) ⊎ Unbeaten z → Unbeaten y
    over_frame z y arrives leaves u j i e = past_frame v a some (side j).to y (behind u) (corner_at (leaves (end_of j) (end_in keys n whole j i.0))) (other_ray_lem j i e)
      where
        corner_at : T (not (is_plus (sign (turn v (side (end_of j)).from y)))) → T (not (is_plus (sign (turn v (side j).to y))))
        corner_at = subst (λ x. T (not (is_plus (sign (turn v x y))))) (joined_end keys n whole j i.0)

        left_of : T (not (is_plus (sign (turn v z (side j).to))))
        left_of = subst (λ x. T (not (is_plus (sign (turn v z x))))) (joined_end keys n whole j i.0) (arrives (end_of j) (end_in keys n whole j i.0))

        behind : (z ≡ a) ⊎ Unbeaten z → T (not (is_plus (sign (turn v a (side j).to))))
        behind (inl q) = subst (λ x. T (not (is_plus (sign (turn v x (side j).to))))) q left_of
        behind (inr w) = not_right v a some z (side j).to left_of
            (same_side v a some z (side j).to (side (side_before j)).from (subst (λ x. pos 0 <ℤ turn x (side j).to (side (side_before j)).from) e (fan_at keys n whole area j i.0).area)
            (arrives (side_before j) (before_in keys n whole j i.0))) (w j i e)

    -- ---- where the sweep is
    abbrev Away : ℕ → Type 0
    Away d = T (not (wedge v (side d).to (side (side_before d)).from a))

    record Reached (d : ℕ) : Type 0 where
      there : d < length keys
      leaves : (side d).from ≡ v
      across : own_side owners p d ≡ true → bounds opposite owners p d ≡ true
      passed : (side d ≡ flip (side k)) ⊎ (Unbeaten (side d).to × Away d)

    own_k : own_side owners p k ≡ true
    own_k = by_T (own_side owners p k) (and_left (own_side owners p k) (not (owns_across owners p (get_or opposite k 0))) (rw b.1 tt))

    -- The triangle across k is not the polygon's.
    not_own_back : (d : ℕ) → d < length keys → side d ≡ flip (side k) → own_side owners p d ≡ false
    not_own_back d h s =
        let t = and_right (own_side owners p k) (not (owns_across owners p (get_or opposite k 0))) (rw b.1 tt) in
        by_no_T (own_side owners p d) (T_not (own_side owners p d) (subst (λ x. T (not (owns_across owners p x))) (opposite_is keys n whole once k d b.0 h s) t))

    -- A side without one across bounds, and so does one whose triangle across isn't the polygon's.
    bounds_frame : (d : ℕ) → on_frame opposite d ≡ true → own_side owners p d ≡ true → bounds opposite owners p d ≡ true
    bounds_frame d e o = rw (none_across keys n whole d e, o) refl

    bounds_other : (d g : ℕ) → get_or opposite d 0 ≡ suc g → own_side owners p g ≡ false → own_side owners p d ≡ true → bounds opposite owners p d ≡ true
    bounds_other d g e q o = rw (e, o, q) refl

    -- No wedge that is passed later holds the ray back to a.
    away_at : (d : ℕ) → d < length keys → (side d).from ≡ v → (side d ≡ flip (side k) → ⊥) → Away d
    away_at d h s other = refuted (wedge v (side d).to (side (side_before d)).from a) (go (on_frame opposite k) refl)
      where
        go : (c : Bool) → on_frame opposite k ≡ c → T (wedge v (side d).to (side (side_before d)).from a) → ⊥
        go true e w = T_not (is_plus (sign (turn v a (side (side_before d)).from))) (arrives_left keys n whole area framed k b.0 e (side_before d) (before_in keys n whole d h))
            (and_right (not (is_minus (sign (turn v (side d).to a)))) (is_plus (sign (turn v a (side (side_before d)).from))) w)
        go false e w =
            let r = reverse keys n whole k b.0 e in
            let o = get_or opposite k 0 - 1 in
            let same = only_one keys n whole area framed v a some d o h r.0
            (subst (λ z. T (wedge z (side d).to (side (side_before d)).from a) → meets z a (get_or (triangles_of keys) (d / 3) corner) ≡ 1) s ((fan_at keys n whole area d h).holds a) w)
            (back o r.0 r.1) in
            other (one_leaves d o h r.0 same (s ∙ sym (ap (λ z. z.from) r.1)) ∙ r.1)
          where
            back : (o : ℕ) (i : o < length keys) → side o ≡ flip (side k) → meets v a (get_or (triangles_of keys) (o / 3) corner) ≡ 1
            back o i q = subst (λ z. meets z.from z.to (get_or (triangles_of keys) (o / 3) corner) ≡ 1) q
                ((fan_at keys n whole area o i).holds (side o).to (wedge_first (side o).from (side o).to (side (side_before o)).from (fan_at keys n whole area o i).area))

            one_leaves : (d o : ℕ) → d < length keys → o < length keys → d / 3 ≡ o / 3 → (side d).from ≡ (side o).from → side d ≡ side o
            one_leaves d o i j e q = by_from (get_or (triangles_of keys) (o / 3) corner) (all_at (λ t. pos 0 <ℤ double t) corner (triangles_of keys) (o / 3) area (omega (arith, whole, length_triangles keys n whole)))
                (side d) (side o) (subst (λ x. 1 ≤ count same_edge (side d) (sides (get_or (triangles_of keys) x corner))) e (own_side_lem keys n whole corner d i)) (own_side_lem keys n whole corner o j) q

    -- ---- the start and a step
    starts : Reached (turned_to opposite k)
    starts = go (on_frame opposite k) refl
      where
        go : (c : Bool) → on_frame opposite k ≡ c → Reached (cond c (along_frame opposite (end_of k)) (get_or opposite k 0 - 1))
        go true e =
            let l = along_leaves keys n whole once k b.0 e in
            let f = along_frame opposite (end_of k) in
            let q = along_ends keys n whole once k b.0 e in record {
              there = l.0;
              leaves = l.1;
              across = bounds_frame f q;
              passed = inr (
                over_frame a (side f).to (arrives_left keys n whole area framed k b.0 e)
                    (λ i h. subst (λ z. T (not (is_plus (sign (turn z (side i).from (side f).to))))) l.1 (leaves_left keys n whole area framed f l.0 q i h)) (inl refl),
                away_at f l.0 l.1 (λ s. opposite_none keys n whole k b.0 (none_across keys n whole k e) f l.0 s),
              );
            }
        go false e = let r = reverse keys n whole k b.0 e in record {
          there = r.0;
          leaves = ap (λ z. z.from) r.1;
          across = λ o. absurd (true≢false (sym o ∙ not_own_back (get_or opposite k 0 - 1) r.0 r.1));
          passed = inl r.1;
        }

    goes_on : (d : ℕ) → Reached d → own_side owners p d ≡ false → Reached (anticlockwise opposite d)
    goes_on d w o = go (on_frame opposite g) refl
      where
        g : ℕ
        g = side_before d

        in_g : g < length keys
        in_g = before_in keys n whole d w.there

        ends_at : (side g).to ≡ v
        ends_at = joined_before keys n whole d w.there ∙ w.leaves

        own_g : own_side owners p g ≡ false
        own_g = let z : g / 3 ≡ d / 3 = omega arith in own_place g d z ∙ o

        unbeaten : (side d ≡ flip (side k)) ⊎ (Unbeaten (side d).to × Away d) → Unbeaten (side g).from
        unbeaten (inl s) = over_first d w.there s o
        unbeaten (inr u) = over_wedge d w.there w.leaves o u.1 u.0

        not_k : g ≡ k → ⊥
        not_k e = true≢false (sym own_k ∙ ap (own_side owners p) (sym e) ∙ own_g)

        go : (c : Bool) → on_frame opposite g ≡ c → Reached (cond c (along_frame opposite (end_of g)) (get_or opposite g 0 - 1))
        go true e =
            let l = along_leaves keys n whole once g in_g e in
            let f = along_frame opposite (end_of g) in
            let q = along_ends keys n whole once g in_g e in
            let s = l.1 ∙ ends_at in record {
              there = l.0;
              leaves = s;
              across = bounds_frame f q;
              passed = inr (
                over_frame (side g).from (side f).to (λ i h. subst (λ z. T (not (is_plus (sign (turn z (side g).from (side i).from))))) ends_at (arrives_left keys n whole area framed g in_g e i h))
                    (λ i h. subst (λ z. T (not (is_plus (sign (turn z (side i).from (side f).to))))) s (leaves_left keys n whole area framed f l.0 q i h)) (inr (unbeaten w.passed)),
                away_at f l.0 s (λ x. let y = opposite_is keys n whole once f k l.0 b.0 (ap flip (sym x)) in omega (arith, none_across keys n whole f q)),
              );
            }
        go false e = let r = reverse keys n whole g in_g e in
            let x = get_or opposite g 0 - 1 in record {
              there = r.0;
              leaves = ap (λ z. z.from) r.1 ∙ ends_at;
              across = bounds_other x g (reverse_back keys n whole once g in_g e) own_g;
              passed = inr (
                subst Unbeaten (sym (ap (λ z. z.to) r.1)) (unbeaten w.passed),
                away_at x r.0 (ap (λ z. z.from) r.1 ∙ ends_at) (λ s. not_k (side_once keys n whole once g k in_g b.0 (ap flip (sym r.1 ∙ s)))),
              );
            }

    -- Where the first side of the polygon's is met, it bounds, and no boundary side that leaves there is sharper.
    met : (d : ℕ) → Reached d → own_side owners p d ≡ true → Bounding d × Unbeaten (side d).to
    met d w o = go w.passed
      where
        go : (side d ≡ flip (side k)) ⊎ (Unbeaten (side d).to × Away d) → Bounding d × Unbeaten (side d).to
        go (inl s) = absurd (true≢false (sym o ∙ not_own_back d w.there s))
        go (inr u) = ((w.there, w.across o), u.0)

  -- ---- no two sides are turned to the same
  -- Of two sides on the frame that end in one corner each has all corners to its left, so they are one.
  frame_once : (g h : ℕ) → g < length keys → h < length keys → on_frame opposite g ≡ true → on_frame opposite h ≡ true → (side g).to ≡ (side h).to → g ≡ h
  frame_once g h i j e f s = go (ℕ_discrete g h)
    where
      z : Point
      z = (side g).from

      y : Point
      y = (side h).from

      c : Point
      c = (side g).to

      w : Point
      w = (side (end_of g)).to

      wide : pos 0 <ℤ turn c w z
      wide = subst (λ x. pos 0 <ℤ turn c w (side x).from) (before_end g)
          (subst (λ x. pos 0 <ℤ turn x w (side (side_before (end_of g))).from) (joined_end keys n whole g i) (fan_at keys n whole area (end_of g) (end_in keys n whole g i)).area)

      clear : NoOverlap (triangles_of keys)
      clear v x some = one_round (triangles_of keys) area framed v x some

      left_too : T (not (is_minus (sign (turn c z y))))
      left_too = not_minus (sign (turn c z y)) (subst (λ x. T (not (is_plus x))) (sign_back c z y)
          (subst (λ x. T (not (is_plus (sign (turn x y z))))) (sym s) (arrives_left keys n whole area framed h j f g i)))
        where
          not_minus : (x : Sign) → T (not (is_plus (opposite_sign x))) → T (not (is_minus x))
          not_minus minus t = t
          not_minus null t = tt
          not_minus plus t = tt

      third : T (not (is_plus (sign (turn c y w))))
      third = subst (λ x. T (not (is_plus (sign (turn x y w))))) (sym s)
          (subst (λ x. T (not (is_plus (sign (turn (side h).to y x))))) (joined_end keys n whole (end_of g) (end_in keys n whole g i))
          (arrives_left keys n whole area framed h j f (end_of (end_of g)) (end_in keys n whole (end_of g) (end_in keys n whole g i))))

      go : Dec (g ≡ h) → g ≡ h
      go (yes q) = q
      go (no q) = absurd (T_not (is_plus (sign (turn c y w))) third (opposite_rays c z (long c w z wide).1 y w (arrives_left keys n whole area framed g i e h j) left_too
          (arrive_apart (triangles_of keys) area clear (side g) (side h) ((among_side keys n whole (side g)).1 (g, i, refl)) ((among_side keys n whole (side h)).1 (h, j, refl)) s
          (λ r. q (side_once keys n whole once g h i j r))) wide))

  turned_in : (g : ℕ) → g < length keys → turned_to opposite g < length keys
  turned_in g h = go (on_frame opposite g) refl
    where
      go : (c : Bool) → on_frame opposite g ≡ c → cond c (along_frame opposite (end_of g)) (get_or opposite g 0 - 1) < length keys
      go true e = (along_leaves keys n whole once g h e).0
      go false e = (reverse keys n whole g h e).0

  turned_apart : (g h : ℕ) → g < length keys → h < length keys → turned_to opposite g ≡ turned_to opposite h → g ≡ h
  turned_apart g h i j = go (on_frame opposite g) (on_frame opposite h) refl refl
    where
      on : (k : ℕ) (l : k < length keys) → on_frame opposite k ≡ true → (x : ℕ) → along_frame opposite (end_of k) ≡ x → get_or opposite x 0 ≡ 0
      on k l e x q = ap (λ y. get_or opposite y 0) (sym q) ∙ none_across keys n whole (along_frame opposite (end_of k)) (along_ends keys n whole once k l e)

      go : (c d : Bool) → on_frame opposite g ≡ c → on_frame opposite h ≡ d
          → cond c (along_frame opposite (end_of g)) (get_or opposite g 0 - 1) ≡ cond d (along_frame opposite (end_of h)) (get_or opposite h 0 - 1) → g ≡ h
      go true true e f q = frame_once g h i j e f (sym (along_leaves keys n whole once g i e).1 ∙ ap (λ x. (side x).from) q ∙ (along_leaves keys n whole once h j f).1)
      go true false e f q = absurd (omega (arith, on g i e (get_or opposite h 0 - 1) q, reverse_back keys n whole once h j f))
      go false true e f q = absurd (omega (arith, on h j f (get_or opposite g 0 - 1) (sym q), reverse_back keys n whole once g i e))
      go false false e f q = omega (arith, reverse_back keys n whole once g i e, reverse_back keys n whole once h j f, ap (λ x. get_or opposite x 0) q)

  -- ---- the side that is met
  -- Where no wedge of the polygon's triangles holds the ray along which the boundary side k arrives, the side that is met follows.
  pub follower_met : (k : ℕ) → Bounding k
      → ((j : ℕ) → Bounding j → (side j).from ≡ (side k).to → T (not (wedge (side k).to (side j).to (side (side_before j)).from (side k).from)))
      → Bounding (follower opposite owners p k) × ((side (follower opposite owners p k)).from ≡ (side k).to)
      × ((j : ℕ) → Bounding j → (side j).from ≡ (side k).to → T (not (sharper (side k).from (side k).to (side j).to (side (follower opposite owners p k)).to)))
  follower_met k b away =
      let w = along_keeps (Reached k b away) (own_side owners p) (anticlockwise opposite) (goes_on k b away) (length opposite) (turned_to opposite k) (starts k b away) in
      let m = met k b away (follower opposite owners p k) w found in
      (m.0, w.leaves, m.1)
    where
      many : length opposite ≡ length keys
      many = length_opposites keys n whole

      un_before : (x y : ℕ) → side_before x ≡ side_before y → x ≡ y
      un_before x y q = sym (end_before x) ∙ ap end_of q ∙ end_before y

      found : own_side owners p (follower opposite owners p k) ≡ true
      found = ends (length opposite) (own_side owners p) (anticlockwise opposite) (turned_to opposite k)
          (λ d h t. omega (arith, many, turned_in (side_before d) (before_in keys n whole d (omega (arith, many)))))
          (λ c d h i t u q. un_before c d (turned_apart (side_before c) (side_before d) (before_in keys n whole c (omega (arith, many))) (before_in keys n whole d (omega (arith, many))) q))
          (λ d h t q. fresh d (omega (arith, many)) t (turned_apart (side_before d) k (before_in keys n whole d (omega (arith, many))) b.0 q))
          (omega (arith, many, turned_in k b.0))
        where
          fresh : (d : ℕ) → d < length keys → own_side owners p d ≡ false → side_before d ≡ k → ⊥
          fresh d h t q = let z : d / 3 ≡ k / 3 = omega arith in true≢false (sym (own_k k b away) ∙ own_place k d (sym z) ∙ t)
