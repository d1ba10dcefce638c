-- The numbers of the side and of its reverse are looked up, and where no corner is inside the edge is its only piece.
use Rattle.std.proofs.Common.{◌≡◌, sym, ◌∙◌, ap, ap₂, subst, true, false, ◌||◌, List, [], ◌∷◌, ◌++◌, ℕ, ◌+◌, ◌-◌, ◌≤◌, ◌<◌, T, length, get_or, arith}
use Rattle.plane.specs.Points.{Edge}
use Rattle.plane.specs.Keys.{pair}
use Rattle.whole_order.specs.Ascending.{Ascending, place_of}
use Rattle.whole_order.proofs.Ascending.{place_found}
use Rattle.table.specs.Opposites.{found_at}
use Rattle.table_sides.specs.Numbered.{number_in}
use Rattle.table_count.specs.Counting.{Tallied}
use Rattle.table_count.proofs.Found.{ranked, found_within}
use Rattle.table_tally.specs.Direct.{noted_at, added, Countable}
use Rattle.table_tally.proofs.Direct.{room, length_added, added_room, tallied_more, direct_edge}
use Rattle.table_tally.proofs.count_edge.Goals as goal

-- A corner stands at its place.
corner_at : (corners : List ℕ) (u a : ℕ) → Ascending corners → a ≡ number_in u corners → (a ≡ 0 → ⊥) → get_or corners (a - 1) 0 ≡ u
corner_at corners u a order e n =
    let r = ranked corners u order (λ z. n (e ∙ z)) in
    let p : a - 1 ≡ place_of u corners = omega (arith, r.place) in
    ap (λ i. get_or corners i 0) p ∙ (place_found corners u order r.stands).1

-- A number that was found among the sides is that of one of them, or 0.
few : (s : ℕ) (e : Edge) (sides : List Edge) → s ≡ found_at e sides → s ≤ length sides
few s e sides q = omega (arith, found_within e sides)

-- There is room at each count for one more and one less.
rooms : {corners index counts : List ℕ} (p : Countable corners index counts) (k : ℕ) → k < length p.sides → (1 < get_or counts k 0) × (get_or counts k 0 + 2 < 4294967296)
rooms {corners} {index} {counts} p = room p.sides p.looked.once p.counted counts p.tallied p.few

pub either_noted-requires : goal.either_noted-requires
either_noted-requires c =
    let p = c.requires.0 in
    (omega (arith, few c.side_at-s.result _ p.sides (c.side_at-s.ensures p.sides p.looked), p.looked.as_many), omega (arith, few c.side_at-o.result _ p.sides (c.side_at-o.ensures p.sides p.looked), p.looked.as_many))

pub add-requires : goal.add-requires
add-requires c =
    let p = c.requires.0 in
    let f = few c.side_at-s.result _ p.sides (c.side_at-s.ensures p.sides p.looked) in
    (omega (arith, f, p.tallied.number), λ k e. let r = rooms p k (omega (arith, f)) in (omega (arith, r), omega (arith, r)))

pub add-requires-2 : goal.add-requires-2
add-requires-2 c =
    let p = c.requires.0 in
    let f = few c.side_at-o.result _ p.sides (c.side_at-o.ensures p.sides p.looked) in
    let counts = c.args.counts.now in
    let s = c.side_at-s.result in
    let e : c.add.new.counts ≡ added counts s true = c.add.ensures in
    let n : length c.add.new.counts ≡ length p.sides = ap length e ∙ length_added counts s true ∙ p.tallied.number in (
      omega (arith, f),
      λ k q.
          let r = rooms p k (omega (arith, f)) in
          subst (λ l. (0 < get_or l k 0) × (get_or l k 0 + 1 < 4294967296)) (sym e) (added_room counts s true k (omega (arith, p.tallied.number, f)) r.0 r.1),
    )

pub returns : goal.returns
returns c = λ sides l x y looked tallied ea eb.
    let a = c.args in
    let corners = a.corners.now in
    let index = a.index.now in
    let counts = a.counts.now in
    let p = c.requires.0 in
    let ux = corner_at corners x a.a looked.ascending ea c.if-a-eq0.false in
    let vy = corner_at corners y a.b looked.ascending eb c.if-b-eq0.false in
    let t : c.side_at-s.result ≡ found_at (pair x y) sides = c.side_at-s.ensures sides looked ∙ ap₂ (λ p q. found_at (pair p q) sides) ux vy in
    let b : c.side_at-o.result ≡ found_at (pair y x) sides = c.side_at-o.ensures sides looked ∙ ap₂ (λ p q. found_at (pair p q) sides) vy ux in
    let noted : noted_at index (found_at (pair x y) sides) || noted_at index (found_at (pair y x) sides) ≡ true
    = ap₂ (λ p q. noted_at index p || noted_at index q) (sym t) (sym b) ∙ sym c.either_noted.ensures ∙ c.if-not-either_noted.false in
    let edge = direct_edge sides corners index looked x y (λ q. c.if-a-b.false (ea ∙ ap (λ z. number_in z corners) q ∙ sym eb)) (subst T (sym noted) tt) in
    let e : c.add-2.new.counts ≡ added (added counts (found_at (pair x y) sides) true) (found_at (pair y x) sides) false
    = c.add-2.ensures ∙ ap₂ (λ p q. added p q false) (c.add.ensures ∙ ap (λ p. added counts p true) t) b in
    let some : (k : ℕ) → k < length counts → 0 < get_or counts k 0 = λ k h. let r = rooms p k (omega (arith, p.tallied.number)) in omega (arith, r) in
    record { only = edge.0; on_side = edge.1; tallied = subst (Tallied sides (l ++ pair x y ∷ [])) (sym e) (tallied_more sides looked.once l counts tallied some (pair x y)) }
