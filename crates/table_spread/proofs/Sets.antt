-- The labels that have spread are the only set that can have these counts for its boundary, and have them if they do at the touched sides.
-- The idea: at an untouched side both triangles are labelled or none is. A set with these counts has the labelled triangles; where a triangle of it
-- were unlabelled, so would be the ones across all its sides, and each side would have one: so marks on the labelled triangles and on those outside the set
-- spread over the whole table (`reached`, by rule A). Assumes nothing.
use mathlib.Core.Path.{◌≡◌, refl, sym, ◌∙◌, ap, subst}
use mathlib.Core.Bool.{Bool, true, false, not, ◌||◌}
use mathlib.Core.List.{List, [], ◌∷◌}
use Prim.Native.Nat.{ℕ, zero, suc, ◌+◌, ◌/◌, ◌<◌}
use native.Mathlib.Omega.{arith}
use native.Mathlib.Decide.{ℕ_discrete}
use lib.ListN.{length, get_or}
use lib.Seq.{ext_get_or}
use Rattle.whole.specs.Sums.{All, bit}
use Rattle.whole.specs.Tests.{Told}
use Rattle.whole.proofs.Sums.{all_map}
use Rattle.plane.specs.Points.{flip}
use Rattle.table.specs.Sides.{mark, across, evenly, once, SharesAt, Shares}
use Rattle.table.proofs.Nets.{net_is}
use Rattle.table.proofs.Reach.{reached}
use Rattle.table.proofs.Shares.{length_triangles, length_opposites, opposite_some, opposite_is}
use Rattle.table_spread.specs.Spreading.{touched_sides, Spreadable, Entered, Spread}
use Rattle.table_spread.proofs.TouchedSides.{touched_sides_lem, touched_at}
use Rattle.table_spread.proofs.Spreading.{not_both}

-- ---- marks on the triangles outside s and on the labelled ones
spare : List Bool → List Bool → List Bool
spare [] l = []
spare (b ∷ s) [] = []
spare (b ∷ s) (c ∷ l) = (not b || c) ∷ spare s l

length_spare : (s l : List Bool) → length s ≡ length l → length (spare s l) ≡ length s
unfolding spare
length_spare [] l e = refl
length_spare (b ∷ s) [] e = absurd (omega arith)
length_spare (b ∷ s) (c ∷ l) e = ap suc (length_spare s l (omega arith))

spare_at : (s l : List Bool) (t : ℕ) → length s ≡ length l → t < length s → get_or (spare s l) t false ≡ not (get_or s t false) || get_or l t false
unfolding spare
spare_at [] l t e h = absurd (omega arith)
spare_at (b ∷ s) [] t e h = absurd (omega arith)
spare_at (b ∷ s) (c ∷ l) zero e h = refl
spare_at (b ∷ s) (c ∷ l) (suc t) e h = spare_at s l t (omega arith) (omega arith)

-- Such a mark: a triangle of s is labelled.
spared : (b c : Bool) → (b ≡ true → c ≡ true) → not b || c ≡ true
spared true c h = h refl
spared false c h = refl

kept : (b c : Bool) → not b || c ≡ true → b ≡ true → c ≡ true
kept true c h e = h
kept false c h e = absurd (not_both false refl e)

module _ {opposite counts : List ℕ} {labels : List Bool} (p : Spreadable opposite counts (length labels)) (spread : Spread opposite counts labels) where
  many : length opposite ≡ length p.keys
  many = ap length p.found ∙ length_opposites p.keys (length labels) p.corners

  -- Where side k has the reverse o, that one has the reverse k.
  back : (k o : ℕ) → k < length opposite → get_or opposite k 0 ≡ suc o → (o < length opposite) × (get_or opposite o 0 ≡ suc k)
  back k o h e =
      let l : k < length p.keys = omega (arith, many) in
      let s = opposite_some p.keys (length labels) p.corners k o l (ap (λ z. get_or z k 0) (sym p.found) ∙ e) in
      (omega (arith, s.0, many), ap (λ z. get_or z o 0) p.found ∙ opposite_is p.keys (length labels) p.corners p.sides_once o k s.0 l (sym (ap flip s.1)))

  -- ---- the counts are those of the labelled set
  -- At an untouched side both triangles are labelled or none is.
  untouched : (k : ℕ) → k < length opposite → get_or counts k 0 ≡ evenly → SharesAt opposite counts labels k
  untouched k h e = (net_is (get_or counts k 0) (across labels (get_or opposite k 0)) (mark labels (k / 3))).0 (go (get_or labels (k / 3) false) refl (get_or opposite k 0) refl)
    where
      outside : (o : ℕ) → get_or labels (k / 3) false ≡ false → get_or opposite k 0 ≡ suc o → (c : Bool) → get_or labels (o / 3) false ≡ c → bit c ≡ 0
      outside o q r true c =
          let b = back k o h r in
          let x = (spread.crossed o c).at (p.turned k o h r e) in
          let y : x.0 ≡ k = omega (arith, x.1, b.1) in
          absurd (not_both (get_or labels (k / 3) false) q (subst (λ z. get_or labels (z / 3) false ≡ true) y x.2))
      outside o q r false c = refl

      go : (b : Bool) → get_or labels (k / 3) false ≡ b → (v : ℕ) → get_or opposite k 0 ≡ v → get_or counts k 0 + across labels (get_or opposite k 0) ≡ 2147483648 + mark labels (k / 3)
      go true q v r =
          let x = (spread.crossed k q).at e in
          omega (arith, ap bit q, ap (across labels) x.1, ap bit x.2)
      go false q zero r = omega (arith, ap bit q, ap (across labels) r)
      go false q (suc o) r = omega (arith, ap bit q, ap (across labels) r, outside o q r (get_or labels (o / 3) false) refl)

  -- Where they are at the touched sides, they are at all.
  pub all_shares : All (SharesAt opposite counts labels) (touched_sides counts) → Shares opposite counts labels
  all_shares a k h = go (ℕ_discrete (get_or counts k 0) evenly)
    where
      go : Dec (get_or counts k 0 ≡ evenly) → SharesAt opposite counts labels k
      go (yes e) = untouched k h e
      go (no n) = touched_at (SharesAt opposite counts labels) counts a k (omega (arith, p.sided.number)) n

  -- ---- and those of no other
  module _ (entered : All (Entered counts labels) (touched_sides counts)) (s : List Bool) (fits : length s ≡ length labels) (share : Shares opposite counts s) where
    at : (k : ℕ) → k < length opposite → get_or counts k 0 + across s (get_or opposite k 0) ≡ 2147483648 + mark s (k / 3)
    at k h = (net_is (get_or counts k 0) (across s (get_or opposite k 0)) (mark s (k / 3))).1 (share k h)

    -- The own triangle of a side that counts once is labelled.
    seed : (k : ℕ) → k < length opposite → get_or counts k 0 ≡ once → get_or labels (k / 3) false ≡ true
    seed k h e = touched_at (Entered counts labels) counts entered k (omega (arith, p.sided.number)) (λ q. omega arith) e

    -- A triangle of s with a side that has no reverse is labelled,
    first : (k : ℕ) → k < length opposite → get_or opposite k 0 ≡ 0 → get_or s (k / 3) false ≡ true → get_or labels (k / 3) false ≡ true
    first k h e own = seed k h (omega (arith, at k h, ap (across s) e, ap bit own))

    -- and so is one of s across a side whose own triangle, if it is one of s, is labelled.
    beyond : (k o : ℕ) → k < length opposite → get_or opposite k 0 ≡ suc o → (get_or s (k / 3) false ≡ true → get_or labels (k / 3) false ≡ true)
        → get_or s (o / 3) false ≡ true → get_or labels (o / 3) false ≡ true
    beyond k o h e own there = go (get_or s (k / 3) false) refl
      where
        b : (o < length opposite) × (get_or opposite o 0 ≡ suc k)
        b = back k o h e

        go : (c : Bool) → get_or s (k / 3) false ≡ c → get_or labels (o / 3) false ≡ true
        go true q =
            let x = (spread.crossed k (own q)).at (omega (arith, at k h, ap (across s) e, ap bit q, ap bit there)) in
            let y : x.0 ≡ o = omega (arith, x.1) in
            subst (λ z. get_or labels (z / 3) false ≡ true) y x.2
        go false q = seed o b.0 (omega (arith, at o b.0, ap (across s) b.1, ap bit q, ap bit there))

    inside : (k : ℕ) → k < length opposite → k / 3 < length s
    inside k h = omega (arith, p.sided.three)

    marks : (t : ℕ) → t < length labels → get_or (spare s labels) t false ≡ true
    marks = reached p.keys (length labels) p.corners p.area p.sides_once (spare s labels)
        (length_spare s labels fits ∙ fits ∙ sym (length_triangles p.keys (length labels) p.corners))
        (λ k h e. let l : k < length opposite = omega (arith, many) in
        spare_at s labels (k / 3) fits (inside k l) ∙ spared (get_or s (k / 3) false) (get_or labels (k / 3) false) (first k l (ap (λ z. get_or z k 0) p.found ∙ e)))
        (λ k o h m e. let l : k < length opposite = omega (arith, many) in
        let r = ap (λ z. get_or z k 0) p.found ∙ e in
        spare_at s labels (o / 3) fits (inside o (back k o l r).0)
        ∙ spared (get_or s (o / 3) false) (get_or labels (o / 3) false)
        (beyond k o l r (kept (get_or s (k / 3) false) (get_or labels (k / 3) false) (sym (spare_at s labels (k / 3) fits (inside k l)) ∙ m))))

    pub only_set : s ≡ labels
    only_set = ext_get_or false s labels fits (λ t h. go t h (get_or s t false) (get_or labels t false) refl refl)
      where
        go : (t : ℕ) → t < length s → (b c : Bool) → get_or s t false ≡ b → get_or labels t false ≡ c → get_or s t false ≡ get_or labels t false
        go t h true c e f = e ∙ sym (kept (get_or s t false) (get_or labels t false) (sym (spare_at s labels t fits h) ∙ marks t (omega arith)) e)
        go t h false true e f = absurd (not_both (get_or s t false) e (spread.forced.in_set s share t f))
        go t h false false e f = e ∙ sym f

-- Labels that have spread, of n triangles, with the answer of the comparison at the touched sides: their set has these counts for its boundary, or none has.
module _ {opposite counts : List ℕ} {labels : List Bool} {n : ℕ} (p : Spreadable opposite counts n) (e : length labels ≡ n) (spread : Spread opposite counts labels) (sides : List ℕ)
    (is : sides ≡ touched_sides counts) (before : List Bool) (entered : All (Entered counts before) sides) (still : (t : ℕ) → get_or before t false ≡ true → get_or labels t false ≡ true) where
  here : Spreadable opposite counts (length labels)
  here = subst (λ m. Spreadable opposite counts m) (sym e) p

  shares : Shares opposite counts labels → All (SharesAt opposite counts labels) sides
  shares h = subst (All (SharesAt opposite counts labels)) (sym is)
      (all_map (λ k. (k < length counts) × (get_or counts k 0 ≡ evenly → ⊥)) (SharesAt opposite counts labels) (λ k w. h k (omega (arith, w.0, p.sided.number))) (touched_sides counts) (touched_sides_lem counts))

  within : All (Entered counts labels) (touched_sides counts)
  within = subst (All (Entered counts labels)) is (all_map (Entered counts before) (Entered counts labels) (λ k h q. still (k / 3) (h q)) sides entered)

  pub spread_told : (r : Bool) → Told r (All (SharesAt opposite counts labels) sides) (All (SharesAt opposite counts labels) sides → ⊥)
      → Told r (Shares opposite counts labels) ((s : List Bool) → length s ≡ n → Shares opposite counts s → ⊥)
  spread_told true a = all_shares here spread (subst (All (SharesAt opposite counts labels)) is a)
  spread_told false a = λ s fits share. a (shares (subst (Shares opposite counts) (only_set here spread within s (fits ∙ sym e) share) share))
