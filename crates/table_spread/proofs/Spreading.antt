-- A triangle taken in keeps what has been met, and is in each set with these counts for its boundary. The idea: the number of labels that are set is
-- the number of triangles in the group, so there is room as long as a triangle is unlabelled; and at a side the count and the own label give the label across.
-- Assumes nothing.
use mathlib.Core.Path.{◌≡◌, refl, sym, ◌∙◌, ap, subst}
use mathlib.Core.Logic.{◌⊎◌, inl, inr}
use mathlib.Core.Bool.{Bool, true, false}
use mathlib.Core.List.{List, [], ◌∷◌}
use Prim.Native.Nat.{ℕ, zero, suc, ◌+◌, ◌*◌, ◌/◌, ◌≤◌, ◌<◌}
use native.Mathlib.Omega.{arith}
use native.Mathlib.Decide.{ℕ_discrete, dec_le}
use lib.ListN.{length, get_or, set, replicate, length-set, length-replicate, get_or-eq_default}
use lib.Seq.{get_or-set_same, get_or-set_other}
use Rattle.whole.specs.Sums.{bit}
use Rattle.table.specs.Sides.{mark, across, evenly, once, Shares}
use Rattle.table.proofs.Nets.{net_is}
use Rattle.table_labels.specs.Labels.{Sided}
use Rattle.table_spread.specs.Spreading.{marked, Meeting, Taken, stays, takes, Grown, Entered, Seeded, Forced, Open, Crossed, Rounded, SpreadFrom}

-- ---- labels
pub not_both : (b : Bool) → b ≡ false → b ≡ true → ⊥
not_both b e f = let z : ◌≡◌ {A = ℕ} 0 1 = ap bit (sym e ∙ f) in omega arith

pub is_set : (b : Bool) → bit b ≡ 1 → b ≡ true
is_set true e = refl
is_set false e = absurd (omega arith)

-- ---- the number of labels that are set
marked_set : (l : List Bool) (t : ℕ) → t < length l → get_or l t false ≡ false → marked (set l t true) ≡ suc (marked l)
marked_set [] t h e = absurd (omega arith)
marked_set (true ∷ l) zero h e = absurd (not_both true e refl)
marked_set (false ∷ l) zero h e = omega arith
marked_set (b ∷ l) (suc t) h e = omega (arith, marked_set l t (omega arith) e)

marked_most : (l : List Bool) → marked l ≤ length l
marked_most [] = omega arith
marked_most (true ∷ l) = omega (arith, marked_most l)
marked_most (false ∷ l) = omega (arith, marked_most l)

marked_less : (l : List Bool) (t : ℕ) → t < length l → get_or l t false ≡ false → marked l < length l
marked_less l t h e = omega (arith, marked_set l t h e, marked_most (set l t true), length-set l t true)

marked_none : (l : List Bool) → ((t : ℕ) → get_or l t false ≡ false) → marked l ≡ 0
marked_none [] h = refl
marked_none (b ∷ l) h = omega (arith, ap bit (h 0), marked_none l (λ t. h (suc t)))

-- A labelled triangle is one of those that have a label.
pub in_table : (labels : List Bool) (t : ℕ) → get_or labels t false ≡ true → t < length labels
in_table labels t h = go (dec_le (suc t) (length labels))
  where
    go : Dec (suc t ≤ length labels) → t < length labels
    go (yes p) = p
    go (no p) = absurd (not_both (get_or labels t false) (get_or-eq_default labels false {n = t} (omega arith)) h)

-- ---- the beginning
unset : (n t : ℕ) → get_or (replicate n false) t false ≡ false
unset zero t = refl
unset (suc n) zero = refl
unset (suc n) (suc t) = unset n t

pub begins : (labels : List Bool) (group : List ℕ) (n : ℕ) → labels ≡ replicate n false → length group ≡ n → Meeting labels group 0
begins labels group n e h =
    let none : (t : ℕ) → get_or labels t false ≡ false = λ t. ap (λ l. get_or l t false) e ∙ unset n t in
    record {
      room = h ∙ sym (ap length e ∙ length-replicate n false);
      many = marked_none labels none;
      own = λ i p. absurd (omega arith);
      by = λ t p. absurd (not_both (get_or labels t false) (none t) p);
    }

pub begins_seeded : (counts : List ℕ) (labels : List Bool) (n : ℕ) → labels ≡ replicate n false → Seeded counts labels
begins_seeded counts labels n e = record { side = λ t p. absurd (not_both (get_or labels t false) (ap (λ l. get_or l t false) e ∙ unset n t) p) }

-- ---- one triangle more
module _ {labels : List Bool} {group : List ℕ} {n : ℕ} (m : Meeting labels group n) where
  room_for : (t : ℕ) → t < length labels → get_or labels t false ≡ false → n < length group
  room_for t h e = omega (arith, marked_less labels t h e, m.room, m.many)

  pub most : n ≤ length group
  most = omega (arith, marked_most labels, m.room, m.many)

  pub may_take : (t : ℕ) → t < length labels → (t < length labels) × (get_or labels t false ≡ false → n < length group)
  may_take t h = (h, room_for t h)

  pub grown_self : Grown labels group n labels group n
  grown_self = record { meeting = m; marks = refl; places = refl; more = omega arith; same = λ i h. refl; still = λ t h. h }

  -- Triangle t, which is unlabelled, is taken in.
  module _ (t : ℕ) (inside : t < length labels) (free : get_or labels t false ≡ false) where
    space : n < length group
    space = room_for t inside free

    at_new : (i : ℕ) → i ≡ n → get_or (set group n t) i 0 ≡ t
    at_new i e = rw e (get_or-set_same group n t 0 space)

    at_old : (i : ℕ) → i < n → get_or (set group n t) i 0 ≡ get_or group i 0
    at_old i p = get_or-set_other group n i t 0 (λ e. omega arith)

    new_marked : get_or (set labels t true) t false ≡ true
    new_marked = get_or-set_same labels t true false inside

    still_marked : (v : ℕ) → get_or labels v false ≡ true → get_or (set labels t true) v false ≡ true
    still_marked v q = go (ℕ_discrete v t)
      where
        go : Dec (v ≡ t) → get_or (set labels t true) v false ≡ true
        go (yes e) = rw e new_marked
        go (no e) = get_or-set_other labels t v true false e ∙ q

    -- Only t is labelled since.
    only_new : (v : ℕ) → get_or (set labels t true) v false ≡ true → (get_or labels v false ≡ true) ⊎ (t ≡ v)
    only_new v q = go (ℕ_discrete v t)
      where
        go : Dec (v ≡ t) → (get_or labels v false ≡ true) ⊎ (t ≡ v)
        go (yes e) = inr (sym e)
        go (no e) = inl (sym (get_or-set_other labels t v true false e) ∙ q)

    one_more : Grown labels group n (set labels t true) (set group n t) (suc n)
    one_more = record {
      meeting = record {
        room = omega (arith, length-set group n t, length-set labels t true, m.room);
        many = omega (arith, marked_set labels t inside free, m.many);
        own = λ i p. own_marked i p (ℕ_discrete i n);
        by = λ v q. met_by v (only_new v q);
      };
      marks = length-set labels t true;
      places = length-set group n t;
      more = omega arith;
      same = at_old;
      still = still_marked;
    }
      where
        own_marked : (i : ℕ) → i < suc n → Dec (i ≡ n) → get_or (set labels t true) (get_or (set group n t) i 0) false ≡ true
        own_marked i p (yes e) = rw (at_new i e) new_marked
        own_marked i p (no e) = rw (at_old i (omega arith)) (still_marked (get_or group i 0) (m.own i (omega arith)))

        met_by : (v : ℕ) → (get_or labels v false ≡ true) ⊎ (t ≡ v) → ((i : ℕ) × (i < suc n) × (get_or (set group n t) i 0 ≡ v))
        met_by v (inl q) = let b = m.by v q in (b.0, omega (arith, b.1), at_old b.0 b.1 ∙ b.2)
        met_by v (inr e) = (n, omega arith, at_new n refl ∙ e)

  -- A triangle that was to be taken in is labelled, and what is labelled since is that one.
  pub taken_in : (t : ℕ) → t < length labels → {labels' : List Bool} {group' : List ℕ} {n' : ℕ} → Taken t labels group n labels' group' n'
      → Grown labels group n labels' group' n' × (get_or labels' t false ≡ true) × ((v : ℕ) → get_or labels' v false ≡ true → (get_or labels v false ≡ true) ⊎ (t ≡ v))
  taken_in t h (stays e p q r) = rw (p, q, r) (grown_self, e, λ v w. inl w)
  taken_in t h (takes e p q r) = rw (p, q, r) (one_more t h e, new_marked t h e, only_new t h e)

  -- The own triangle of side k, which counts once, is taken in.
  pub entered : (counts : List ℕ) → length counts ≡ 3 * length labels → Seeded counts labels → (k : ℕ) → k < length counts → get_or counts k 0 ≡ once
      → {labels' : List Bool} {group' : List ℕ} {n' : ℕ} → Taken (k / 3) labels group n labels' group' n'
      → Grown labels group n labels' group' n' × Seeded counts labels' × Entered counts labels' k
  entered counts three seeded k h e {labels'} taken =
      let s = taken_in (k / 3) (omega arith) taken in
      (s.0, record { side = λ v w. go v (s.2 v w) }, λ q. s.1)
    where
      go : (v : ℕ) → (get_or labels v false ≡ true) ⊎ (k / 3 ≡ v) → (j : ℕ) × (j < length counts) × (get_or counts j 0 ≡ once) × (j / 3 ≡ v)
      go v (inl p) = seeded.side v p
      go v (inr p) = (k, h, e, p)

  -- The triangle across side k, which is untouched and a side of a labelled triangle, is taken in.
  module _ {opposite counts : List ℕ} (sided : Sided opposite counts (length labels)) (forced : Forced opposite counts labels) (k o : ℕ) (h : k < length opposite)
      (own : get_or labels (k / 3) false ≡ true) (even : get_or counts k 0 ≡ evenly) (e : get_or opposite k 0 ≡ suc o) where
    across_in : (s : List Bool) → Shares opposite counts s → get_or s (o / 3) false ≡ true
    across_in s share =
        let q = (net_is (get_or counts k 0) (across s (get_or opposite k 0)) (mark s (k / 3))).1 (share k h) in
        let x : across s (get_or opposite k 0) ≡ mark s (o / 3) = ap (across s) e in
        let m = ap bit (forced.in_set s share (k / 3) own) in
        is_set (get_or s (o / 3) false) (omega arith)

    pub crossed : {labels' : List Bool} {group' : List ℕ} {n' : ℕ} → Taken (o / 3) labels group n labels' group' n'
        → Grown labels group n labels' group' n' × Forced opposite counts labels' × Crossed opposite counts labels' k
    crossed {labels'} taken =
        let s = taken_in (o / 3) (omega (arith, sided.sides k o h e, sided.three)) taken in
        (s.0, record { in_set = λ z share v w. go z share v (s.2 v w) }, record { at = λ q. (o, e, s.1) })
      where
        go : (z : List Bool) → Shares opposite counts z → (v : ℕ) → (get_or labels v false ≡ true) ⊎ (o / 3 ≡ v) → get_or z v false ≡ true
        go z share v (inl p) = forced.in_set z share v p
        go z share v (inr p) = subst (λ x. get_or z x false ≡ true) p (across_in z share)

-- What grows twice has grown.
pub grown_more : {labels labels' labels'' : List Bool} {group group' group'' : List ℕ} {n n' n'' : ℕ}
    → Grown labels group n labels' group' n' → Grown labels' group' n' labels'' group'' n'' → Grown labels group n labels'' group'' n''
grown_more f g = record {
  meeting = g.meeting;
  marks = g.marks ∙ f.marks;
  places = g.places ∙ f.places;
  more = omega (arith, f.more, g.more);
  same = λ i h. g.same i (omega (arith, f.more)) ∙ f.same i h;
  still = λ t h. g.still t (f.still t h);
}

module _ {labels labels' : List Bool} {group group' : List ℕ} {n n' : ℕ} (g : Grown labels group n labels' group' n') where
  pub crossed_still : {opposite counts : List ℕ} (k : ℕ) → Crossed opposite counts labels k → Crossed opposite counts labels' k
  crossed_still k h = record { at = λ e. let c = h.at e in (c.0, c.1, g.still (c.0 / 3) c.2) }

  -- The first i triangles are spread from, and the next one.
  pub spread_one : {opposite counts : List ℕ} (i : ℕ) → i < n → SpreadFrom opposite counts labels group i → Rounded opposite counts labels' (get_or group i 0)
      → SpreadFrom opposite counts labels' group' (i + 1)
  spread_one {opposite} {counts} i h s r j p = go (ℕ_discrete j i)
    where
      go : Dec (j ≡ i) → Rounded opposite counts labels' (get_or group' j 0)
      go (yes e) = rw (e, g.same i h) r
      go (no e) = rw (g.same j (omega arith)) (λ k q. crossed_still k (s j (omega arith) k q))

-- What holds of the three sides of a triangle holds of each of its sides.
pub three_sides : (P : ℕ → Type 0) (t : ℕ) → P (3 * t) → P (3 * t + 1) → P (3 * t + 2) → (k : ℕ) → k / 3 ≡ t → P k
three_sides P t a b c k e = go (ℕ_discrete k (3 * t)) (ℕ_discrete k (3 * t + 1))
  where
    go : Dec (k ≡ 3 * t) → Dec (k ≡ 3 * t + 1) → P k
    go (yes p) d = subst P (sym p) a
    go (no p) (yes q) = subst P (sym q) b
    go (no p) (no q) = subst P (let z : 3 * t + 2 ≡ k = omega arith in z) c

-- ---- the end
-- Where a labelled triangle has a side that is untouched and has no reverse, no set has these counts for its boundary.
pub open_none : {opposite counts : List ℕ} {labels : List Bool} → Sided opposite counts (length labels) → Forced opposite counts labels → (t : ℕ) → get_or labels t false ≡ true
    → Open opposite counts t → (s : List Bool) → Shares opposite counts s → ⊥
open_none {opposite} {counts} {labels} sided forced t own w s share =
    let k = w.0 in
    let q = (net_is (get_or counts k 0) (across s (get_or opposite k 0)) (mark s (k / 3))).1 (share k (omega (arith, w.1, sided.three, in_table labels t own))) in
    let x : across s (get_or opposite k 0) ≡ 0 = ap (across s) w.2.0 in
    let m : mark s (k / 3) ≡ 1 = ap (mark s) w.1 ∙ ap bit (forced.in_set s share t own) in
    omega (arith, w.2.1)
