-- The walk along a line, one corner more; what it leaves; and what all lines leave together. Assumes nothing.
use mathlib.Core.Path.{◌≡◌, refl, sym, ◌∙◌, ap, subst}
use mathlib.Core.Logic.{◌⊎◌, inl, inr}
use mathlib.Core.Bool.{Bool, true, false, ◌&&◌}
use mathlib.Core.List.{List, [], ◌∷◌, flat_map}
use Prim.Native.Nat.{ℕ, zero, suc, ◌+◌, ◌≤◌, ◌<◌}
use native.Mathlib.Omega.{arith}
use native.Mathlib.Decide.{dec_le, ℕ_discrete}
use borrow.Author.Tests.{eqb-true, lt-ltb, le-ltb}
use lib.Dec.{T, eqb, ltb}
use lib.IntN.{pos}
use lib.ListN.{length, get_or}
use Rattle.whole.specs.Sums.{All, Among, bit, count}
use Rattle.whole.proofs.Sums.{and_left, and_right, and_both, all_at, all-++, all_map, all_counted, counted}
use Rattle.table.specs.Sides.{evenly}
use Rattle.plane.specs.Points.{Point, Edge, flip, same_edge}
use Rattle.plane.specs.Cuts.{pieces, all_pieces}
use Rattle.plane.specs.Boundaries.{boundary}
use Rattle.plane.specs.Keys.{point_at, pair, pairs, points_at}
use Rattle.plane.proofs.Points.{same_edge-eq, same_edge-refl}
use Rattle.plane.proofs.Line.{On, on_from, on_to}
use Rattle.plane.proofs.Keys.{point_at-injective}
use Rattle.whole_order.specs.Ascending.{IsIn, place_of}
use Rattle.whole_order.proofs.Ascending.{place_found}
use Rattle.table_lines.specs.Lines.{lies, lie, Follow, begun_by, ended_by, begins_at, ends_at, Cornered, DoneBy, Unmet, Spans}
use Rattle.table_lines.proofs.Lines.{lies_on, on_lies, level, one_line}
use Rattle.table_lines.proofs.Follows.{total_same, total_none, total_at, follows}
use Rattle.table_count.specs.Counting.{Looked, side_of, pieces_of, Tallied, Settled}
use Rattle.table_count.proofs.Counted.{tallied_from}
use Rattle.table_count.proofs.Pieces.{settles_flip}
use Rattle.table_runs.specs.Runs.{Right, Handled, Open, Met, Ready, Walked, Lined, EdgeHandled, ByLines, Onward, Through}
use Rattle.table_runs.proofs.Runs.{handled_kept, met_even}

-- ---- one corner more
module _ (sides : List Edge) (corners index from to : List ℕ) (looked : Looked sides corners index) (cornered : Cornered corners from to) (a b : ℕ) (apart : a ≡ b → ⊥) where
  abbrev P : List Edge
  P = pieces_of corners from to

  module _ (k : ℕ) (h : k < length corners) (before now' : List ℕ) (walked : Walked sides corners from to a b before now' k) where
    -- A corner with a place before the next one is before, or is the one there.
    at_place : (v : ℕ) → IsIn v corners → place_of v corners < k + 1 → (place_of v corners < k) ⊎ (get_or corners k 0 ≡ v)
    at_place v s l = go (ℕ_discrete (place_of v corners) k)
      where
        go : Dec (place_of v corners ≡ k) → (place_of v corners < k) ⊎ (get_or corners k 0 ≡ v)
        go (yes e) = inr (ap (λ i. get_or corners i 0) (sym e) ∙ (place_found corners v cornered.ascending s).1)
        go (no n) = inl (omega arith)

    pub walked_met : (after : List ℕ) → Met sides corners from to a b now' after (get_or corners k 0) → Walked sides corners from to a b before after (k + 1)
    walked_met after m = record { still = m.still; kept = λ i l r. m.kept i l (walked.kept i l r); handled = λ u v f l. go u v f (at_place v f.to_stands l) }
      where
        go : (u v : ℕ) → Follow corners a b u v → (place_of v corners < k) ⊎ (get_or corners k 0 ≡ v) → Handled sides P after (pair u v)
        go u v f (inl l) = handled_kept sides P now' after (pair u v) m.kept (walked.handled u v f l)
        go u v f (inr e) = subst (λ z. Handled sides P after (pair u z)) e (m.handled u (subst (Follow corners a b u) (sym e) f))

    pub walked_off : (lies a b (get_or corners k 0) ≡ false) → Walked sides corners from to a b before now' (k + 1)
    walked_off n = record { still = walked.still; kept = walked.kept; handled = λ u v f l. go u v f (at_place v f.to_stands l) }
      where
        go : (u v : ℕ) → Follow corners a b u v → (place_of v corners < k) ⊎ (get_or corners k 0 ≡ v) → Handled sides P now' (pair u v)
        go u v f (inl l) = walked.handled u v f l
        go u v f (inr e) = absurd (subst T (ap (lies a b) (sym e) ∙ n) f.to_on)

    pub walked_even : (more less : ℕ) → more ≡ begun_by corners a b from to k → less ≡ ended_by corners a b from to k → more ≡ less → Walked sides corners from to a b before now' (k + 1)
    walked_even more less m l q = record { still = walked.still; kept = walked.kept; handled = λ u v f l. go u v f (at_place v f.to_stands l) }
      where
        go : (u v : ℕ) → Follow corners a b u v → (place_of v corners < k) ⊎ (get_or corners k 0 ≡ v) → Handled sides P now' (pair u v)
        go u v f (inl i) = walked.handled u v f i
        go u v f (inr e) = subst (λ z. Handled sides P now' (pair u z)) e
            ((met_even sides corners index from to looked cornered a b apart k h (subst (λ z. T (lies a b z)) (sym e) f.to_on) now' walked.still more less m l q).handled u (subst (Follow corners a b u) (sym e) f))

-- ---- the last corner of the line, one corner more
module _ (corners from to : List ℕ) (cornered : Cornered corners from to) (a b k : ℕ) (h : k < length corners) where
  pub ready_on : (more less : ℕ) → lies a b (get_or corners k 0) ≡ true → Ready corners a b (k + 1) (get_or corners k 0) more less
  ready_on more less on = inr (inl (k, record { earlier = omega arith; stands = refl; on = subst T (sym on) tt; latest = λ j l m t. absurd (omega arith) }))

  -- At a corner that is not on the line nothing begins or ends.
  none_at : lies a b (get_or corners k 0) ≡ false → (c : ℕ) → IsIn c corners → (x : Bool) → (T x → T (lies a b c)) → bit (x && eqb (place_of c corners) k) ≡ 0
  none_at n c s false f = refl
  none_at n c s true f = ap bit (go (eqb (place_of c corners) k) refl)
    where
      go : (y : Bool) → eqb (place_of c corners) k ≡ y → y ≡ false
      go true e = absurd (subst T n (subst (λ z. T (lies a b z)) (sym (place_found corners c cornered.ascending s).1 ∙ ap (λ i. get_or corners i 0) (eqb-true (place_of c corners) k e)) (f tt)))
      go false e = refl

  none_begins : lies a b (get_or corners k 0) ≡ false → begins_at corners a b from to k ≡ 0
  none_begins n = total_same (λ p. IsIn p corners) (λ q. IsIn q corners) (λ p q. bit (lie a b p q && eqb (place_of p corners) k)) (λ p q. 0) (λ p q s t. none_at n p s (lie a b p q) (and_left (lies a b p) (lies a b q))) from to cornered.from_stand cornered.to_stand
      ∙ total_none (λ p q. 0) (λ p q. refl) from to

  none_ends : lies a b (get_or corners k 0) ≡ false → ends_at corners a b from to k ≡ 0
  none_ends n = total_same (λ p. IsIn p corners) (λ q. IsIn q corners) (λ p q. bit (lie a b p q && eqb (place_of q corners) k)) (λ p q. 0) (λ p q s t. none_at n q t (lie a b p q) (and_right (lies a b p) (lies a b q))) from to cornered.from_stand cornered.to_stand
      ∙ total_none (λ p q. 0) (λ p q. refl) from to

  pub ready_off : (last more less begin end : ℕ) → begin ≡ begins_at corners a b from to k → end ≡ ends_at corners a b from to k → lies a b (get_or corners k 0) ≡ false → Ready corners a b k last more less → Ready corners a b (k + 1) last (more + begin) (less + end)
  ready_off last more less begin end x y n (inl e) = inl (omega (arith, none_begins n, none_ends n))
  ready_off last more less begin end x y n (inr (inl l)) = inr (inl (l.0, record { earlier = omega (arith, l.1.earlier); stands = l.1.stands; on = l.1.on; latest = λ j i m t. go j i m t (ℕ_discrete j k) }))
    where
      go : (j : ℕ) → l.0 < j → j < k + 1 → T (lies a b (get_or corners j 0)) → Dec (j ≡ k) → ⊥
      go j i m t (yes q) = subst T (ap (λ z. lies a b (get_or corners z 0)) q ∙ n) t
      go j i m t (no o) = l.1.latest j i (omega arith) t
  ready_off last more less begin end x y n (inr (inr f)) = inr (inr (λ j m t. go j m t (ℕ_discrete j k)))
    where
      go : (j : ℕ) → j < k + 1 → T (lies a b (get_or corners j 0)) → Dec (j ≡ k) → ⊥
      go j m t (yes q) = subst T (ap (λ z. lies a b (get_or corners z 0)) q ∙ n) t
      go j m t (no o) = f j (omega arith) t

-- ---- the edges of a line
pub handled_flip : (sides p : List Edge) (counts : List ℕ) (e : Edge) → Handled sides p counts e → Handled sides p counts (flip e)
handled_flip sides p counts e h = record { settled = settles_flip sides p e h.settled; there = h.back; back = h.there }

module _ (sides : List Edge) (corners from to : List ℕ) (cornered : Cornered corners from to) (a b : ℕ) (apart : a ≡ b → ⊥) (before after : List ℕ) (lined : Lined sides corners from to a b before after) where
  pub lined_edge : (p q : ℕ) → T (lie a b p q) → IsIn p corners → IsIn q corners → (e : Edge) → Among same_edge e (pieces (points_at corners) (pair p q)) → Handled sides (pieces_of corners from to) after e
  lined_edge p q on sp sq e m = let w = follows corners a b apart p q on sp sq e m in go w.0 w.1 w.2 w.3
    where
      go : (u v : ℕ) → Follow corners a b u v → (e ≡ pair u v) ⊎ (e ≡ pair v u) → Handled sides (pieces_of corners from to) after e
      go u v f (inl r) = subst (Handled sides (pieces_of corners from to) after) (sym r) (lined.handled u v f)
      go u v f (inr r) = subst (Handled sides (pieces_of corners from to) after) (sym r) (handled_flip sides (pieces_of corners from to) after (pair u v) (lined.handled u v f))

pub own_line : (a b : ℕ) → T (lie a b a b)
own_line a b = and_both (lies a b a) (lies a b b) (on_lies a b a (on_from (pair a b))) (on_lies a b b (on_to (pair a b)))

-- ---- all edges
pub all_pieces_lem : (cs : List Point) (Q : Edge → Type 0) (from to : List ℕ) → ((j : ℕ) → j < length from → (e : Edge) → Among same_edge e (pieces cs (pair (get_or from j 0) (get_or to j 0))) → Q e) → All Q (all_pieces cs (pairs from to))
unfolding flat_map
all_pieces_lem cs Q [] to f = tt
all_pieces_lem cs Q (p ∷ from) [] f = tt
all_pieces_lem cs Q (p ∷ from) (q ∷ to) f = all-++ Q (pieces cs (pair p q)) (all_pieces cs (pairs from to))
    (all_map (λ e. Among same_edge e (pieces cs (pair p q))) Q (f 0 (omega arith)) (pieces cs (pair p q)) (all_counted same_edge same_edge-eq same_edge-refl (pieces cs (pair p q))))
    (all_pieces_lem cs Q from to (λ j h. f (suc j) (omega arith)))

-- Where the pieces of all edges are handled, all counts are right and all pieces settled.
module _ (sides : List Edge) (corners from to counts : List ℕ) (still : Open sides (pieces_of corners from to) counts) (done : (j : ℕ) → j < length from → EdgeHandled sides corners from to counts j) where
  abbrev L : List Edge
  L = pieces_of corners from to

  each : All (Handled sides L counts) L
  each = all_pieces_lem (points_at corners) (Handled sides L counts) from to done

  one : (e : Edge) → Among same_edge e L → Handled sides L counts e
  one e m = counted same_edge same_edge-eq same_edge-refl (Handled sides L counts) e L m each

  right : (k : ℕ) → k < length sides → Right sides L counts k
  right k h = go (still.each k h) (dec_le 1 (count same_edge (side_of sides k) L)) (dec_le 1 (count same_edge (flip (side_of sides k)) L))
    where
      go : Right sides L counts k ⊎ (get_or counts k 0 ≡ evenly) → Dec (1 ≤ count same_edge (side_of sides k) L) → Dec (1 ≤ count same_edge (flip (side_of sides k)) L) → Right sides L counts k
      go (inl r) x y = r
      go (inr z) (yes m) y = (one (side_of sides k) m).there k h refl
      go (inr z) (no n) (yes m) = (one (flip (side_of sides k)) m).back k h refl
      go (inr z) (no n) (no m) = omega arith

  pub all_tallied : Tallied sides L counts × Settled sides L L
  all_tallied = (tallied_from sides L counts still.number right, all_map (Handled sides L counts) (λ e. Among same_edge e sides ⊎ Among same_edge (flip e) sides ⊎ (boundary L e ≡ pos 0)) (λ e h. h.settled) L each)

-- ---- edge after edge
module _ (sides : List Edge) (corners from to : List ℕ) where
  -- The line of an edge.
  pub onward_line : Cornered corners from to → (a b : ℕ) → (a ≡ b → ⊥) → (before after : List ℕ) (done done' : List Bool) → DoneBy a b from to (length from) done done' → Lined sides corners from to a b before after
      → Onward sides corners from to before after done done'
  onward_line c a b n before after done done' d l = record { still = l.still; kept = l.kept; others = λ j k e. go j k (d.others j e) }
    where
      edge : (j : ℕ) → j < length from → T (lie a b (get_or from j 0) (get_or to j 0)) → EdgeHandled sides corners from to after j
      edge j k t = lined_edge sides corners from to c a b n before after l (get_or from j 0) (get_or to j 0) t
          (all_at (λ p. IsIn p corners) 0 from j c.from_stand k) (all_at (λ q. IsIn q corners) 0 to j c.to_stand (omega (arith, c.as_many)))

      go : (j : ℕ) → j < length from → (get_or done j false ≡ true) ⊎ T (lie a b (get_or from j 0) (get_or to j 0)) → (get_or done j false ≡ true) ⊎ EdgeHandled sides corners from to after j
      go j k (inl e) = inl e
      go j k (inr t) = inr (edge j k t)

none_true : (done : List Bool) (j : ℕ) → All (λ d. d ≡ false) done → get_or done j false ≡ true → ⊥
none_true [] j h e = subst T (sym e) tt
none_true (d ∷ l) zero h e = subst T (sym e ∙ h.0) tt
none_true (d ∷ l) (suc j) h e = none_true l j h.1 e

-- In the end.
pub through_all : (sides : List Edge) (corners from to counts : List ℕ) (done : List Bool) (i : ℕ) → length from ≤ i → ByLines from to i done → Through sides corners from to counts done
    → Tallied sides (pieces_of corners from to) counts × Settled sides (pieces_of corners from to) (pieces_of corners from to)
through_all sides corners from to counts done i h l t = all_tallied sides corners from to counts t.still (λ j k. t.noted j k (l.first j (omega arith)))

-- ---- line after line
module _ (a b p q : ℕ) (apart : a ≡ b → ⊥) (long : p ≡ q → ⊥) (on : T (lie a b p q)) where
  on_p : On (pair a b) (point_at p)
  on_p = lies_on a b p (and_left (lies a b p) (lies a b q) on)

  on_q : On (pair a b) (point_at q)
  on_q = lies_on a b q (and_right (lies a b p) (lies a b q) on)

  far : (pair a b).from ≡ (pair a b).to → ⊥
  far r = apart (point_at-injective a b r)

  -- The line of an edge on a line is that line.
  back_line : T (lie p q a b)
  back_line = and_both (lies p q a) (lies p q b)
      (on_lies p q a (level (pair a b) far (point_at p) (point_at a) (point_at q) on_p (on_from (pair a b)) on_q))
      (on_lies p q b (level (pair a b) far (point_at p) (point_at b) (point_at q) on_p (on_to (pair a b)) on_q))

  same_line : (r s : ℕ) → T (lie p q r s) → T (lie a b r s)
  same_line r s t = and_both (lies a b r) (lies a b s) (there r (and_left (lies p q r) (lies p q s) t)) (there s (and_right (lies p q r) (lies p q s) t))
    where
      there : (r : ℕ) → T (lies p q r) → T (lies a b r)
      there r t = on_lies a b r (one_line (pair a b) far (point_at p) (point_at q) (point_at r) (λ e. long (point_at-injective p q e)) on_p on_q (lies_on p q r t))

pub lines_none : (from to : List ℕ) (done : List Bool) → All (λ d. d ≡ false) done → ByLines from to 0 done
lines_none from to done f = record { first = λ j h. absurd (omega arith); whole = λ j k h g e t. absurd (none_true done j f e) }

module _ (corners from to : List ℕ) (cornered : Cornered corners from to) (i : ℕ) (h : i < length from) (done : List Bool) (lines : ByLines from to i done) where
  -- No edge of the line of an edge that is not done is done.
  pub lines_unmet : get_or done i false ≡ false → Unmet (get_or from i 0) (get_or to i 0) from to i done
  lines_unmet n k l m t = go (met m)
    where
      met : (k < i) ⊎ (get_or done k false ≡ true) → get_or done k false ≡ true
      met (inl b) = lines.first k b
      met (inr d) = d

      go : get_or done k false ≡ true → ⊥
      go d = subst T (sym (lines.whole k i l h d (back_line (get_or from i 0) (get_or to i 0) (get_or from k 0) (get_or to k 0) (cornered.long i h) (cornered.long k l) t)) ∙ n) tt

  pub lines_more : (done' : List Bool) → DoneBy (get_or from i 0) (get_or to i 0) from to (length from) done done' → ByLines from to (i + 1) done'
  lines_more done' d = record { first = λ j l. go j l (ℕ_discrete j i); whole = λ j k l m e t. late j k l m t (d.others j e) }
    where
      go : (j : ℕ) → j < i + 1 → Dec (j ≡ i) → get_or done' j false ≡ true
      go j l (yes q) = rw q (d.on i h (own_line (get_or from i 0) (get_or to i 0)))
      go j l (no n) = d.kept j (lines.first j (omega arith))

      late : (j k : ℕ) → j < length from → k < length from → T (lie (get_or from j 0) (get_or to j 0) (get_or from k 0) (get_or to k 0)) → (get_or done j false ≡ true) ⊎ T (lie (get_or from i 0) (get_or to i 0) (get_or from j 0) (get_or to j 0)) → get_or done' k false ≡ true
      late j k l m t (inl e) = d.kept k (lines.whole j k l m e t)
      late j k l m t (inr o) = d.on k m (same_line (get_or from i 0) (get_or to i 0) (get_or from j 0) (get_or to j 0) (cornered.long i h) (cornered.long j l) o (get_or from k 0) (get_or to k 0) t)

-- ---- nothing is open before the line's span, nor behind it
not_below : (x : Bool) (i k : ℕ) → (T x → k ≤ i) → bit (x && ltb i k) ≡ 0
not_below false i k f = refl
not_below true i k f = ap bit (le-ltb i k (f tt))

all_below : (x : Bool) (i k : ℕ) → (T x → i < k) → bit (x && ltb i k) ≡ bit x
all_below false i k f = refl
all_below true i k f = ap bit (lt-ltb i k (f tt))

module _ (sides : List Edge) (corners index from to : List ℕ) (looked : Looked sides corners index) (cornered : Cornered corners from to) (a b : ℕ) (apart : a ≡ b → ⊥) (low stop : ℕ)
    (spans : Spans corners a b from to (length from) low stop) where
  pub begun_low : (k : ℕ) → k ≤ low → begun_by corners a b from to k ≡ 0
  begun_low k h = total_at (λ p q. bit (lie a b p q && ltb (place_of p corners) k)) (λ p q. 0) from to cornered.as_many (λ i l. not_below (lie a b (get_or from i 0) (get_or to i 0)) (place_of (get_or from i 0) corners) k (λ t. omega (arith, (spans i l t).0)))
      ∙ total_none (λ p q. 0) (λ p q. refl) from to

  pub ended_low : (k : ℕ) → k ≤ low → ended_by corners a b from to k ≡ 0
  ended_low k h = total_at (λ p q. bit (lie a b p q && ltb (place_of q corners) k)) (λ p q. 0) from to cornered.as_many (λ i l. not_below (lie a b (get_or from i 0) (get_or to i 0)) (place_of (get_or to i 0) corners) k (λ t. omega (arith, (spans i l t).1)))
      ∙ total_none (λ p q. 0) (λ p q. refl) from to

  even_stop : (k : ℕ) → stop ≤ k → begun_by corners a b from to k ≡ ended_by corners a b from to k
  even_stop k h =
      total_at (λ p q. bit (lie a b p q && ltb (place_of p corners) k)) (λ p q. bit (lie a b p q)) from to cornered.as_many (λ i l. all_below (lie a b (get_or from i 0) (get_or to i 0)) (place_of (get_or from i 0) corners) k (λ t. omega (arith, (spans i l t).2)))
      ∙ sym (total_at (λ p q. bit (lie a b p q && ltb (place_of q corners) k)) (λ p q. bit (lie a b p q)) from to cornered.as_many (λ i l. all_below (lie a b (get_or from i 0) (get_or to i 0)) (place_of (get_or to i 0) corners) k (λ t. omega (arith, (spans i l t).3))))

  even_at : (counts : List ℕ) → Open sides (pieces_of corners from to) counts → (u v : ℕ) → Follow corners a b u v → begun_by corners a b from to (place_of v corners) ≡ ended_by corners a b from to (place_of v corners) → Handled sides (pieces_of corners from to) counts (pair u v)
  even_at counts o u v f q =
      let k = place_of v corners in
      let w = place_found corners v cornered.ascending f.to_stands in
      subst (λ z. Handled sides (pieces_of corners from to) counts (pair u z)) w.1
      ((met_even sides corners index from to looked cornered a b apart k w.0 (subst (λ z. T (lies a b z)) (sym w.1) f.to_on) counts o (begun_by corners a b from to k) (ended_by corners a b from to k) refl refl q).handled u (subst (Follow corners a b u) (sym w.1) f))

  pub walked_low : (counts : List ℕ) → Open sides (pieces_of corners from to) counts → Walked sides corners from to a b counts counts low
  walked_low counts o = record { still = o; kept = λ i l r. r; handled = λ u v f h. even_at counts o u v f (begun_low (place_of v corners) (omega arith) ∙ sym (ended_low (place_of v corners) (omega arith))) }

  pub walked_stop : (before after : List ℕ) (k : ℕ) → stop ≤ k → Walked sides corners from to a b before after k → Lined sides corners from to a b before after
  walked_stop before after k h w = record { still = w.still; kept = w.kept; handled = λ u v f. go u v f (dec_le k (place_of v corners)) }
    where
      go : (u v : ℕ) → Follow corners a b u v → Dec (k ≤ place_of v corners) → Handled sides (pieces_of corners from to) after (pair u v)
      go u v f (yes l) = even_at after w.still u v f (even_stop (place_of v corners) (omega arith))
      go u v f (no n) = w.handled u v f (omega arith)
