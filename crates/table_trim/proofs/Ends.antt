-- Taking off the loose piece at an end of an edge. The idea: the first piece of an edge goes to the first corner strictly between its ends, the last comes
-- from the last one; where there is none the edge is one piece. Assumes nothing.
use mathlib.Core.Path.{◌≡◌, refl, sym, ◌∙◌, ap, subst}
use mathlib.Core.Logic.{◌⊎◌, inl, inr}
use mathlib.Core.Bool.{Bool, true, false, cond}
use mathlib.Core.List.{List, [], ◌∷◌}
use Prim.Native.Nat.{ℕ, ◌+◌, ◌-◌, ◌≤◌, ◌<◌}
use native.Mathlib.Omega.{arith}
use native.Mathlib.Decide.{dec_le, dec_lt, ℕ_discrete}
use Rattle.std.proofs.lemmas.List.{get_or_default, get_or_past}
use borrow.Author.Tests.{eq-eqb, ne_eqb}
use lib.Dec.{T, eqb}
use lib.ListN.{length, get_or}
use Rattle.whole.specs.Sums.{All, bit, count}
use Rattle.whole.proofs.Sums.{all_at, count-++}
use Rattle.plane.specs.Points.{Point, Edge, ◌⟶◌, flip, same_edge, between}
use Rattle.plane.specs.Cuts.{pieces}
use Rattle.plane.specs.Keys.{point_at, Key, pair, points_at}
use Rattle.plane.proofs.Points.{same_edge-eq, same_edge-refl}
use Rattle.plane.proofs.Keys.{point_at-injective, between_order}
use Rattle.plane.proofs.Cuts.{no_length}
use Rattle.plane.proofs.Ways.{between_first, between_flip, split_pieces, last_piece, pieces_flip}
use Rattle.whole_order.specs.Ascending.{Ascending, IsIn, place_of}
use Rattle.whole_order.proofs.Ascending.{ascending_below, place_after, place_within}
use Rattle.table_lines.proofs.Follows.{among_corner, stands_corner}
use Rattle.table_count.specs.Counting.{NextStop, ClearOf}
use Rattle.table_count.proofs.Walked.{NoneBefore, none_before, stop_within, stop_clear, stop_piece, end_clear, end_piece}
use Rattle.table_loose.specs.Loose.{way}
use Rattle.table_loose.proofs.Coming.{across_way}
use Rattle.table_trim.specs.Trimming.{Loose, LastStop, Headed, Tailed, Left}
use Rattle.table_trim.proofs.Loose.{loose_flip}

-- What is strictly between the second part of an edge is so on the whole edge.
between_second : (x d u v : Point) → T (between x (u ⟶ v)) → T (between d (x ⟶ v)) → T (between d (u ⟶ v))
between_second x d u v h k = between_flip d (v ⟶ u) (between_first x d v u (between_flip x (u ⟶ v) h) (between_flip d (x ⟶ v) k))

-- ---- the first corner
module _ (corners : List ℕ) (order : Ascending corners) (keys : All Key corners) (u v : ℕ) (way : u < v) (key-v : Key v) (at r c : ℕ) (begin : at ≡ place_of u corners) (stop : NextStop corners at u v r)
    (is : c ≡ get_or corners r v) where
  pub record First : Type 0 where
    pub onward : u < c
    pub within : c ≤ v
    pub key : Key c
    pub ends : IsIn c corners ⊎ (c ≡ v)
    pub clear : ClearOf corners u c
    pub law : (e : Edge) → count same_edge e (pieces (points_at corners) (pair u v)) ≡ bit (same_edge (pair u c) e) + count same_edge e (pieces (points_at corners) (pair c v))

  pub first_stop : First
  first_stop = go (dec_lt r (length corners))
    where
      none : NoneBefore corners at u v
      none = subst (λ a. (j : ℕ) → j < a → j < length corners → T (between (point_at (get_or corners j 0)) (pair u v)) → ⊥) (sym begin) (none_before corners order u v way)

      go : Dec (r < length corners) → First
      go (yes h) =
          let q : c ≡ get_or corners r 0 = is ∙ get_or_default corners r v 0 h in
          let w = stop_within corners order u v way at r none stop h in
          record {
            onward = omega (arith, w);
            within = omega (arith, w);
            key = subst Key (sym q) (all_at Key 0 corners r keys h);
            ends = inl (r, h, sym q);
            clear = subst (ClearOf corners u) (sym q) (stop_clear corners order u v way at r none stop h);
            law = λ e. subst (λ z. count same_edge e (pieces (points_at corners) (pair u v)) ≡ bit (same_edge (pair u z) e) + count same_edge e (pieces (points_at corners) (pair z v))) (sym q) (ap (count same_edge e) (stop_piece corners order u v way at r none stop h));
          }
      go (no n) =
          let h : length corners ≤ r = omega arith in
          let q : c ≡ v = is ∙ get_or_past corners r v h in
          record {
            onward = omega arith;
            within = omega arith;
            key = subst Key (sym q) key-v;
            ends = inr q;
            clear = subst (ClearOf corners u) (sym q) (end_clear corners order u v way at r none stop h);
            law = λ e. subst (λ z. count same_edge e (pieces (points_at corners) (pair u v)) ≡ bit (same_edge (pair u z) e) + count same_edge e (pieces (points_at corners) (pair z v))) (sym q)
                (ap (count same_edge e) (end_piece corners order u v way at r none stop h) ∙ ap (λ n. bit (same_edge (pair u v) e) + n) (sym (ap (count same_edge e) (no_length (points_at corners) (point_at v)))));
          }

-- ---- the last corner
module _ (corners : List ℕ) (order : Ascending corners) (keys : All Key corners) (u v : ℕ) (way : u < v) (key-u : Key u) (stands-u : IsIn u corners) (at : ℕ) (begin : at ≡ place_of v corners) where
  pub record Last (c : ℕ) : Type 0 where
    pub after : u ≤ c
    pub before : c < v
    pub key : Key c
    pub ends : IsIn c corners
    pub clear : ClearOf corners c v
    pub law : (e : Edge) → count same_edge e (pieces (points_at corners) (pair u v)) ≡ bit (same_edge (pair c v) e) + count same_edge e (pieces (points_at corners) (pair u c))

  -- A corner strictly between stands before r.
  earlier : (r : ℕ) → LastStop corners at u v r → (d : Point) → (w : ℕ) × IsIn w corners × (d ≡ point_at w) → T (between d (pair u v)) → (j : ℕ) × (j < r) × (j < length corners) × (point_at (get_or corners j 0) ≡ d)
  earlier r stop d w t = go (dec_le r j)
    where
      j : ℕ
      j = w.1.0

      same : point_at (get_or corners j 0) ≡ d
      same = ap point_at w.1.2 ∙ sym w.2

      t' : T (between (point_at (get_or corners j 0)) (pair u v))
      t' = subst (λ z. T (between z (pair u v))) (sym same) t

      go : Dec (r ≤ j) → (j : ℕ) × (j < r) × (j < length corners) × (point_at (get_or corners j 0) ≡ d)
      go (yes h) = absurd (stop.last j h (omega (arith, place_after corners v j order w.1.1 (between_order (get_or corners j 0) u v way t').1)) t')
      go (no n) = (j, omega arith, w.1.1, same)

  one_piece : (x : ℕ) (e : Edge) → x < v → ClearOf corners x v → count same_edge e (pieces (points_at corners) (pair x v)) ≡ bit (same_edge (pair x v) e) + 0
  one_piece x e h k = ap (count same_edge e) (last_piece (points_at corners) (point_at x) (point_at v) (λ q. let z = point_at-injective x v q in omega arith) k)

  pub last_stop : (i : ℕ) → LastStop corners at u v (i + 1) → Last (get_or corners i 0)
  last_stop i stop =
      let e : i + 1 - 1 ≡ i = omega arith in
      let within : i < length corners = omega (arith, stop.within, place_within v corners) in
      let x = get_or corners i 0 in
      let t : T (between (point_at x) (pair u v)) = subst (λ j. T (between (point_at (get_or corners j 0)) (pair u v))) e (stop.stop (omega arith)) in
      let o = between_order x u v way t in
      let stands : IsIn x corners = (i, within, refl) in
      let clear : ClearOf corners x v = λ d m s.
      let w = earlier (i + 1) stop d (among_corner corners d m) (between_second (point_at x) d (point_at u) (point_at v) t s) in
      let s' : T (between (point_at (get_or corners w.0 0)) (pair x v)) = subst (λ z. T (between z (pair x v))) (sym w.3) s in
      let below = (between_order (get_or corners w.0 0) x v o.1 s').0 in
      not_later w.0 i (omega (arith, w.1)) within below in
      record {
        after = omega (arith, o);
        before = o.1;
        key = all_at Key 0 corners i keys within;
        ends = stands;
        clear = clear;
        law = λ e. omega (
          arith,
          ap (count same_edge e) (split_pieces (points_at corners) (point_at u) (point_at x) (point_at v) (stands_corner corners x stands) t),
          count-++ same_edge same_edge-eq same_edge-refl e (pieces (points_at corners) (pair u x)) (pieces (points_at corners) (pair x v)),
          one_piece x e o.1 clear,
        );
      }
    where
      not_later : (j k : ℕ) → j ≤ k → k < length corners → get_or corners k 0 < get_or corners j 0 → ⊥
      not_later j k h l b = same (ℕ_discrete j k)
        where
          same : Dec (j ≡ k) → ⊥
          same (yes e) = let q : get_or corners j 0 ≡ get_or corners k 0 = ap (λ z. get_or corners z 0) e in omega arith
          same (no n) = omega (arith, ascending_below corners j k order (omega arith) l)

  pub no_stop : LastStop corners at u v 0 → Last u
  no_stop stop =
      let clear : ClearOf corners u v = λ d m s. let w = earlier 0 stop d (among_corner corners d m) s in omega (arith, w.1) in
      record {
        after = omega arith;
        before = way;
        key = key-u;
        ends = stands-u;
        clear = clear;
        law = λ e. one_piece u e way clear ∙ ap (λ n. bit (same_edge (pair u v) e) + n) (sym (ap (count same_edge e) (no_length (points_at corners) (point_at u))));
      }

-- ---- the pair from u to v, where they are not one
way_count : (u v : ℕ) (e : Edge) → (u ≡ v → ⊥) → count same_edge e (way u v) ≡ bit (same_edge (pair u v) e)
way_count u v e n = rw (ne_eqb u v n) (omega arith)

pub way_level : (u : ℕ) (e : Edge) → count same_edge e (way u u) ≡ 0
way_level u e = rw (eq-eqb u u refl)

way_loose : (corners : List ℕ) (u v : ℕ) → (IsIn u corners → ⊥) ⊎ (IsIn v corners → ⊥) → All (Loose corners) (way u v)
way_loose corners u v off = go (eqb u v)
  where
    go : (b : Bool) → All (Loose corners) (cond b [] (pair u v ∷ []))
    go true = tt
    go false = (record { u = u; v = v; is = refl; off = off }, tt)

level_loose : (corners : List ℕ) (u : ℕ) → All (Loose corners) (way u u)
level_loose corners u = rw (eq-eqb u u refl) tt

flip_loose : (corners : List ℕ) (u v : ℕ) → All (Loose corners) (way u v) → All (Loose corners) (way v u)
flip_loose corners u v h = go (ℕ_discrete u v)
  where
    go : Dec (u ≡ v) → All (Loose corners) (way v u)
    go (yes q) = rw (eq-eqb v u (sym q)) tt
    go (no n) = rw (ne_eqb v u (λ q. n (sym q))) (loose_flip corners (pair u v) (rw (ne_eqb u v n) at h).0, tt)

-- ---- what `head` and `tail` tell
module _ (corners : List ℕ) (u v : ℕ) (key-u : Key u) (key-v : Key v) where
  pub headed_same : IsIn u corners ⊎ (u ≡ v) → u ≤ v → Headed corners u v u
  headed_same s h = record { key = key-u; before = h; ends = s; loose = level_loose corners u; cut = λ e. omega (arith, way_level u e) }

  pub headed_first : (n : IsIn u corners → ⊥) (c : ℕ) (onward : u < c) (within : c ≤ v) (key : Key c) (ends : IsIn c corners ⊎ (c ≡ v))
      (law : (e : Edge) → count same_edge e (pieces (points_at corners) (pair u v)) ≡ bit (same_edge (pair u c) e) + count same_edge e (pieces (points_at corners) (pair c v)))
      → Headed corners u v c
  headed_first n c onward within key ends law = record { key = key; before = within; ends = ends; loose = way_loose corners u c (inl n); cut = λ e. omega (arith, law e, way_count u c e (λ q. omega arith)) }

  pub tailed_same : (IsIn u corners × IsIn v corners) ⊎ (u ≡ v) → Tailed corners u v v
  tailed_same s = record { key = key-v; ends = s; loose = level_loose corners v; cut = λ e. omega (arith, way_level v e) }

  pub tailed_last : IsIn u corners → (n : IsIn v corners → ⊥) (c : ℕ) (before : c < v) (key : Key c) (ends : IsIn c corners)
      (law : (e : Edge) → count same_edge e (pieces (points_at corners) (pair u v)) ≡ bit (same_edge (pair c v) e) + count same_edge e (pieces (points_at corners) (pair u c)))
      → Tailed corners u v c
  tailed_last s n c before key ends law = record { key = key; ends = inl (s, ends); loose = way_loose corners c v (inr n); cut = λ e. omega (arith, law e, way_count c v e (λ q. omega arith)) }

-- ---- what is left of an edge, in whichever direction it goes
module _ (corners : List ℕ) (p q x y : ℕ) where
  pub left_up : Headed corners p q x → Tailed corners x q y → Left corners p q x y
  left_up h t = record { from_key = h.key; to_key = t.key; ends = t.ends; loose_from = h.loose; loose_to = t.loose; cut = λ e. omega (arith, h.cut e, t.cut e) }

  pub left_down : Headed corners q p x → Tailed corners x p y → Left corners p q y x
  left_down h t = record {
    from_key = t.key;
    to_key = h.key;
    ends = turned t.ends;
    loose_from = flip_loose corners y p t.loose;
    loose_to = flip_loose corners q x h.loose;
    cut = λ e. omega (
      arith,
      pieces_flip (points_at corners) (pair q p) e,
      h.cut (flip e),
      t.cut (flip e),
      pieces_flip (points_at corners) (pair x y) e,
      across_way y p e,
      across_way q x e,
    );
  }
    where
      turned : (IsIn x corners × IsIn y corners) ⊎ (x ≡ y) → (IsIn y corners × IsIn x corners) ⊎ (y ≡ x)
      turned (inl s) = inl (s.1, s.0)
      turned (inr e) = inr (sym e)
