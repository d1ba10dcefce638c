-- The laws of counts by lines. The idea: the running sum is the net count of the pair of corners that follow one another; a side is such a pair of one line
-- only, so setting its count once is enough. Assumes nothing.
use mathlib.Core.Path.{◌≡◌, refl, sym, ◌∙◌, ap, subst}
use mathlib.Core.Logic.{◌⊎◌, inl, inr}
use mathlib.Core.Bool.{Bool, true, false, ◌&&◌}
use mathlib.Core.List.{List}
use Prim.Native.Nat.{ℕ, zero, suc, ◌+◌, ◌-◌, ◌≤◌, ◌<◌}
use native.Mathlib.Omega.{arith}
use native.Mathlib.Decide.{dec_le, ℕ_discrete}
use borrow.Author.Tests.{ltb-true}
use lib.Dec.{T, ltb}
use lib.IntN.{pos}
use lib.ListN.{length, get_or, length-set}
use lib.Seq.{get_or-set_same, get_or-set_other}
use Rattle.whole.specs.Sums.{All, Among, bit, count}
use Rattle.whole.proofs.Sums.{and_left, and_right}
use Rattle.table.specs.Sides.{evenly}
use Rattle.plane.specs.Points.{Point, Edge, flip, same_edge, between}
use Rattle.plane.specs.Boundaries.{boundary}
use Rattle.plane.specs.Keys.{point_at, pair}
use Rattle.plane.proofs.Line.{long}
use Rattle.plane.proofs.Ways.{inside_on}
use Rattle.plane.proofs.Keys.{point_at-injective, between_order}
use Rattle.table.specs.Opposites.{found_at}
use Rattle.table.proofs.Shares.{Found, found_at_lem, at_counted}
use Rattle.whole_order.specs.Ascending.{Ascending, IsIn, place_of}
use Rattle.whole_order.proofs.Ascending.{ascending_below, place_found}
use Rattle.table_lines.specs.Lines.{lies, lie, Follow, begun_by, ended_by, Cornered}
use Rattle.table_lines.proofs.Lines.{level, one_line, lies_on, on_lies, order_between}
use Rattle.table_lines.proofs.Follows.{among_corner, stands_corner, total_same, total_none, running_law}
use Rattle.table_count.specs.Counting.{Looked, side_of, pieces_of, Stray}
use Rattle.table_count.proofs.Pieces.{boundary_zero, zero_boundary}
use Rattle.table_count.proofs.Found.{not_found, is_found}
use Rattle.table_runs.specs.Runs.{Right, Handled, Open, Kept, placed, Before, Met, Ready}

-- ---- setting counts
pub length_placed : (counts : List ℕ) (s x y : ℕ) → length (placed counts s x y) ≡ length counts
length_placed counts zero x y = refl
length_placed counts (suc k) x y = length-set counts k (evenly + x - y)

placed_here : (counts : List ℕ) (s k x y : ℕ) → s ≡ suc k → k < length counts → get_or (placed counts s x y) k 0 ≡ evenly + x - y
placed_here counts s k x y e h = rw e (get_or-set_same counts k (evenly + x - y) 0 h)

placed_else : (counts : List ℕ) (s k x y : ℕ) → (s ≡ suc k → ⊥) → get_or (placed counts s x y) k 0 ≡ get_or counts k 0
placed_else counts zero k x y n = refl
placed_else counts (suc j) k x y n = get_or-set_other counts j k (evenly + x - y) 0 (λ q. n (ap suc (sym q)))

-- A pair is side k exactly if it is found there.
module _ (sides : List Edge) (once : (j k : ℕ) → j < length sides → k < length sides → side_of sides j ≡ side_of sides k → j ≡ k) where
  found_is : (e : Edge) (k : ℕ) → found_at e sides ≡ suc k → side_of sides k ≡ e
  found_is e k q = go (found_at_lem e sides (pair 0 0))
    where
      go : Found e sides (pair 0 0) (found_at e sides) (count same_edge e sides) → side_of sides k ≡ e
      go (inl f) = absurd (omega (arith, f.0))
      go (inr f) = let s : k ≡ f.0 = omega (arith, f.1) in ap (side_of sides) s ∙ f.4

  is_there : (e : Edge) (k : ℕ) → k < length sides → side_of sides k ≡ e → found_at e sides ≡ suc k
  is_there e k h q = go (found_at_lem e sides (pair 0 0))
    where
      go : Found e sides (pair 0 0) (found_at e sides) (count same_edge e sides) → found_at e sides ≡ suc k
      go (inl f) = absurd (omega (arith, f.1, subst (λ z. 1 ≤ count same_edge z sides) q (at_counted sides (pair 0 0) k h)))
      go (inr f) = f.1 ∙ ap suc (once f.0 k f.3 h (f.4 ∙ sym q))

  -- The counts of a pair and its reverse set to the difference that their net count is.
  module _ (p : List Edge) (e : Edge) (more less : ℕ) (law : count same_edge e p + less ≡ count same_edge (flip e) p + more) (few : (more ≤ 4096) × (less ≤ 4096))
      (counts : List ℕ) (number : length counts ≡ length sides) where
    abbrev pub both : List ℕ
    both = placed (placed counts (found_at e sides) more less) (found_at (flip e) sides) less more

    put_there : (k : ℕ) → k < length sides → side_of sides k ≡ e → (found_at (flip e) sides ≡ suc k → ⊥) → Right sides p both k
    put_there k h q n = rw q (omega (
      arith,
      law,
      few,
      placed_else (placed counts (found_at e sides) more less) (found_at (flip e) sides) k less more n,
      placed_here counts (found_at e sides) k more less (is_there e k h q) (omega arith),
    ))

    put_back : (k : ℕ) → k < length sides → side_of sides k ≡ flip e → Right sides p both k
    put_back k h q = rw q (omega (
      arith,
      law,
      few,
      placed_here (placed counts (found_at e sides) more less) (found_at (flip e) sides) k less more (is_there (flip e) k h q) (omega (arith, length_placed counts (found_at e sides) more less)),
    ))

    -- Each count is right then, or as before.
    put_each : (k : ℕ) → k < length sides → Right sides p both k ⊎ ((get_or both k 0 ≡ get_or counts k 0) × (side_of sides k ≡ e → ⊥) × (side_of sides k ≡ flip e → ⊥))
    put_each k h = go (ℕ_discrete (found_at (flip e) sides) (suc k)) (ℕ_discrete (found_at e sides) (suc k))
      where
        go : Dec (found_at (flip e) sides ≡ suc k) → Dec (found_at e sides ≡ suc k) → Right sides p both k ⊎ ((get_or both k 0 ≡ get_or counts k 0) × (side_of sides k ≡ e → ⊥) × (side_of sides k ≡ flip e → ⊥))
        go (yes o) s = inl (put_back k h (found_is (flip e) k o))
        go (no n) (yes s) = inl (put_there k h (found_is e k s) n)
        go (no n) (no m) = inr (
          placed_else (placed counts (found_at e sides) more less) (found_at (flip e) sides) k less more n ∙ placed_else counts (found_at e sides) k more less m,
          λ q. m (is_there e k h q),
          λ q. n (is_there (flip e) k h q),
        )

    pub put_open : ((k : ℕ) → k < length sides → Right sides p counts k ⊎ (get_or counts k 0 ≡ evenly)) → Open sides p both
    put_open o = record { number = length_placed (placed counts (found_at e sides) more less) (found_at (flip e) sides) less more ∙ length_placed counts (found_at e sides) more less ∙ number; each = λ k h. go k (o k h) (put_each k h) }
      where
        go : (k : ℕ) → Right sides p counts k ⊎ (get_or counts k 0 ≡ evenly) → Right sides p both k ⊎ ((get_or both k 0 ≡ get_or counts k 0) × (side_of sides k ≡ e → ⊥) × (side_of sides k ≡ flip e → ⊥))
            → Right sides p both k ⊎ (get_or both k 0 ≡ evenly)
        go k o (inl r) = inl r
        go k (inl r) (inr s) = inl (omega (arith, r, s.0))
        go k (inr z) (inr s) = inr (s.0 ∙ z)

    pub put_kept : Kept sides p counts both
    put_kept k h r = go (put_each k h)
      where
        go : Right sides p both k ⊎ ((get_or both k 0 ≡ get_or counts k 0) × (side_of sides k ≡ e → ⊥) × (side_of sides k ≡ flip e → ⊥)) → Right sides p both k
        go (inl s) = s
        go (inr s) = omega (arith, r, s.0)

    pub put_handled : (found_at e sides + found_at (flip e) sides ≡ 0 → ⊥) → Handled sides p both e
    put_handled n = record { settled = found (found_at e sides) refl; there = λ k h q. go k (put_each k h) (λ s. s.1 q); back = λ k h q. put_back k h q }
      where
        found : (f : ℕ) → found_at e sides ≡ f → Among same_edge e sides ⊎ Among same_edge (flip e) sides ⊎ (boundary p e ≡ pos 0)
        found zero q = inr (inl (is_found (flip e) sides (λ z. n (omega arith))))
        found (suc f) q = inl (is_found e sides (λ z. omega arith))

        go : (k : ℕ) → Right sides p both k ⊎ ((get_or both k 0 ≡ get_or counts k 0) × (side_of sides k ≡ e → ⊥) × (side_of sides k ≡ flip e → ⊥))
            → (((get_or both k 0 ≡ get_or counts k 0) × (side_of sides k ≡ e → ⊥) × (side_of sides k ≡ flip e → ⊥)) → ⊥) → Right sides p both k
        go k (inl r) f = r
        go k (inr s) f = absurd (f s)

  -- A pair that cancels is handled as it is.
  pub even_handled : (p : List Edge) (counts : List ℕ) (e : Edge) → Open sides p counts → count same_edge e p ≡ count same_edge (flip e) p → Handled sides p counts e
  even_handled p counts e o q = record {
    settled = inr (inr (boundary_zero p e q));
    there = λ k h r. go k h (o.each k h) (subst (λ z. count same_edge z p ≡ count same_edge (flip z) p) (sym r) q);
    back = λ k h r. go k h (o.each k h) (subst (λ z. count same_edge z p ≡ count same_edge (flip z) p) (sym r) (sym q));
  }
    where
      go : (k : ℕ) → k < length sides → Right sides p counts k ⊎ (get_or counts k 0 ≡ evenly) → count same_edge (side_of sides k) p ≡ count same_edge (flip (side_of sides k)) p → Right sides p counts k
      go k h (inl r) e = r
      go k h (inr z) e = omega arith

-- What is handled stays handled.
pub handled_kept : (sides p : List Edge) (before after : List ℕ) (e : Edge) → Kept sides p before after → Handled sides p before e → Handled sides p after e
handled_kept sides p before after e k h = record { settled = h.settled; there = λ i l q. k i l (h.there i l q); back = λ i l q. k i l (h.back i l q) }

-- ---- the last corner of the line before a place
module _ (corners : List ℕ) (ascend : Ascending corners) (a b : ℕ) (apart : a ≡ b → ⊥) (k : ℕ) (h : k < length corners) where
  abbrev v : ℕ
  v = get_or corners k 0

  far : point_at a ≡ point_at b → ⊥
  far q = apart (point_at-injective a b q)

  -- A corner below another stands before it.
  before : (i j : ℕ) → i < length corners → get_or corners i 0 < get_or corners j 0 → i < j
  before i j l o = go (dec_le j i)
    where
      go : Dec (j ≤ i) → i < j
      go (yes m) = absurd (same (ℕ_discrete j i))
        where
          same : Dec (j ≡ i) → ⊥
          same (yes e) = let q : get_or corners j 0 ≡ get_or corners i 0 = ap (λ z. get_or corners z 0) e in omega arith
          same (no n) = omega (arith, ascending_below corners j i ascend (omega arith) l)
      go (no m) = omega arith

  -- It and the corner there follow one another,
  pub follow_latest : (last i : ℕ) → T (lies a b v) → Before corners a b k last i → Follow corners a b last v
  follow_latest last i on l = record {
    goes_up = up;
    from_stands = (i, omega (arith, l.earlier), l.stands);
    to_stands = (k, h, refl);
    from_on = l.on;
    to_on = on;
    clear = λ c m t. inside c (among_corner corners c m) t;
  }
    where
      up : last < v
      up = omega (arith, ascending_below corners i k ascend l.earlier h, l.stands)

      inside : (c : Point) → (w : ℕ) × IsIn w corners × (c ≡ point_at w) → T (between c (pair last v)) → ⊥
      inside c w t =
          let t' : T (between (point_at w.0) (pair last v)) = subst (λ z. T (between z (pair last v))) w.2 t in
          let o = between_order w.0 last v up t' in
          let d : point_at last ≡ point_at v → ⊥ = λ q. let z = point_at-injective last v q in omega arith in
          let e = w.1.2 in
          let on-w : T (lies a b w.0) = on_lies a b w.0 (one_line (pair a b) far (point_at last) (point_at v) (point_at w.0) d (lies_on a b last l.on) (lies_on a b v on) (inside_on (pair last v) (long (pair last v) d) (point_at w.0) t')) in
          l.latest w.1.0 (before i w.1.0 (omega (arith, l.earlier)) (omega (arith, l.stands))) (before w.1.0 k w.1.1 (omega arith)) (subst (λ z. T (lies a b z)) (sym e) on-w)

  -- and no other corner is followed by it.
  pub follow_only : (last i u : ℕ) → Before corners a b k last i → Follow corners a b u v → u ≡ last
  follow_only last i u l f = go (ℕ_discrete iu i) (dec_le iu i)
    where
      iu : ℕ
      iu = f.from_stands.0

      stands : get_or corners iu 0 ≡ u
      stands = f.from_stands.2

      go : Dec (iu ≡ i) → Dec (iu ≤ i) → u ≡ last
      go (yes e) d = sym stands ∙ ap (λ z. get_or corners z 0) e ∙ l.stands
      go (no n) (yes d) = absurd (f.clear (point_at last) (stands_corner corners last (i, omega (arith, l.earlier), l.stands))
          (order_between last u v (omega (arith, stands, l.stands, ascending_below corners iu i ascend (omega arith) (omega (arith, l.earlier)))) (omega (arith, ascending_below corners i k ascend l.earlier h, l.stands))
          (level (pair a b) far (point_at u) (point_at last) (point_at v) (lies_on a b u f.from_on) (lies_on a b last l.on) (lies_on a b v f.to_on))))
      go (no n) (no d) = absurd (l.latest iu (omega arith) (before iu k f.from_stands.1 (omega (arith, f.goes_up, stands))) (subst (λ z. T (lies a b z)) (sym stands) f.from_on))

  -- Where the line has no corner before, nothing has begun.
  module _ (from to : List ℕ) (from-corners : All (λ p. IsIn p corners) from) (to-corners : All (λ q. IsIn q corners) to) (none : (j : ℕ) → j < k → T (lies a b (get_or corners j 0)) → ⊥) where
    not_yet : (c : ℕ) → IsIn c corners → (x : Bool) → (T x → T (lies a b c)) → bit (x && ltb (place_of c corners) k) ≡ 0
    not_yet c s false f = refl
    not_yet c s true f = ap bit (go (ltb (place_of c corners) k) refl)
      where
        go : (y : Bool) → ltb (place_of c corners) k ≡ y → y ≡ false
        go true e = absurd (none (place_of c corners) (ltb-true (place_of c corners) k e) (subst (λ z. T (lies a b z)) (sym (place_found corners c ascend s).1) (f tt)))
        go false e = refl

    pub none_begun : begun_by corners a b from to k ≡ 0
    none_begun = total_same (λ p. IsIn p corners) (λ q. IsIn q corners) (λ p q. bit (lie a b p q && ltb (place_of p corners) k)) (λ p q. 0) (λ p q s t. not_yet p s (lie a b p q) (and_left (lies a b p) (lies a b q))) from to from-corners to-corners
        ∙ total_none (λ p q. 0) (λ p q. refl) from to

    pub none_ended : ended_by corners a b from to k ≡ 0
    none_ended = total_same (λ p. IsIn p corners) (λ q. IsIn q corners) (λ p q. bit (lie a b p q && ltb (place_of q corners) k)) (λ p q. 0) (λ p q s t. not_yet q t (lie a b p q) (and_right (lies a b p) (lies a b q))) from to from-corners to-corners
        ∙ total_none (λ p q. 0) (λ p q. refl) from to

-- ---- one corner met
module _ (sides : List Edge) (corners index from to : List ℕ) (looked : Looked sides corners index) (cornered : Cornered corners from to) (a b : ℕ) (apart : a ≡ b → ⊥)
    (k : ℕ) (h : k < length corners) (on : T (lies a b (get_or corners k 0))) (counts : List ℕ) (still : Open sides (pieces_of corners from to) counts)
    (more less : ℕ) (begun : more ≡ begun_by corners a b from to k) (ended : less ≡ ended_by corners a b from to k) where
  abbrev w : ℕ
  w = get_or corners k 0

  abbrev P : List Edge
  P = pieces_of corners from to

  law : (u : ℕ) → Follow corners a b u w → count same_edge (pair u w) P + less ≡ count same_edge (pair w u) P + more
  law u f = omega (arith, running_law corners a b from to cornered.ascending cornered.from_stand cornered.to_stand apart u k h f)

  pub met_even : more ≡ less → Met sides corners from to a b counts counts w
  met_even e = record { still = still; kept = λ i l r. r; handled = λ u f. even_handled sides looked.once P counts (pair u w) still (omega (arith, law u f)) }

  module _ (last : ℕ) (ready : Ready corners a b k last more less) (uneven : more ≡ less → ⊥) where
    there : (i : ℕ) × Before corners a b k last i
    there = go ready
      where
        go : Ready corners a b k last more less → (i : ℕ) × Before corners a b k last i
        go (inl e) = absurd (uneven e)
        go (inr (inl l)) = l
        go (inr (inr n)) = absurd (uneven (begun ∙ none_begun corners cornered.ascending a b apart k h from to cornered.from_stand cornered.to_stand n
            ∙ sym (none_ended corners cornered.ascending a b apart k h from to cornered.from_stand cornered.to_stand n) ∙ sym ended))

    follow : Follow corners a b last w
    follow = follow_latest corners cornered.ascending a b apart k h last there.0 on there.1

    pub met_stray : found_at (pair last w) sides ≡ 0 → found_at (pair w last) sides ≡ 0 → Stray sides P
    met_stray f g = record { e = pair last w; no_side = not_found (pair last w) sides f; no_reverse = not_found (pair w last) sides g; uneven = λ z. uneven (omega (arith, law last follow, zero_boundary P (pair last w) z)) }

    pub met_put : (more ≤ 4096) × (less ≤ 4096) → (found_at (pair last w) sides + found_at (pair w last) sides ≡ 0 → ⊥) → (after : List ℕ)
        → after ≡ placed (placed counts (found_at (pair last w) sides) more less) (found_at (pair w last) sides) less more → Met sides corners from to a b counts after w
    met_put few n after q = subst (λ l. Met sides corners from to a b counts l w) (sym q) (record {
      still = put_open sides looked.once P (pair last w) more less (law last follow) few counts still.number still.each;
      kept = put_kept sides looked.once P (pair last w) more less (law last follow) few counts still.number;
      handled = λ u f. subst (λ z. Handled sides P (placed (placed counts (found_at (pair last w) sides) more less) (found_at (pair w last) sides) less more) (pair z w))
          (sym (follow_only corners cornered.ascending a b apart k h last there.0 u there.1 f)) (put_handled sides looked.once P (pair last w) more less (law last follow) few counts still.number n);
    })
