-- The codes are those of the table's sides, and what is laid down of them is what looking up wants (Indexing).
use Rattle.std.proofs.Common.{◌≡◌, List, ℕ, ◌*◌, ◌≤◌, length, sym, ◌∙◌, ap, subst, arith}
use Rattle.whole.specs.Sums.{All}
use Rattle.plane.specs.Keys.{Key}
use Rattle.whole_order.specs.Ascending.{Ascending, Distinct, ascending}
use Rattle.whole_order.proofs.Ascending.{ascending_is, all_ascending, length_ascending}
use Rattle.table.specs.Sides.{tails_of, FirstRepeat}
use Rattle.table_sides.specs.Codes.{codes_of, turned_in}
use Rattle.table_chains.specs.Linking.{Within, LinkedTo}
use Rattle.table_count.specs.Indexed.{Indexed}
use Rattle.table_index.specs.Noting.{NotedTo}
use Rattle.table_index.proofs.Indexing.{many_codes, codes_within, codes_few, codes_distinct, indexing, repeat_is, repeat_not, repeat_none}
use Rattle.table_index.proofs.lay_sides.Goals as goal

-- The codes of the sides of a table with these corners.
abbrev table_codes : List ℕ → List ℕ
table_codes keys = codes_of (ascending keys) keys (tails_of keys)

-- What is laid down by the corners in order is the table's codes, as many as sides and each of two of the corners.
coded : (keys ordered laid : List ℕ) → ordered ≡ ascending keys → laid ≡ codes_of ordered keys (tails_of keys) → laid ≡ table_codes keys
coded keys ordered laid o e = e ∙ ap (λ l. codes_of l keys (tails_of keys)) o

as_many : (keys laid : List ℕ) (n : ℕ) → length keys ≡ 3 * n → length keys ≤ 3072 → laid ≡ table_codes keys → length laid ≡ length keys
as_many keys laid n three many e = ap length e ∙ many_codes keys n three many

few : (keys laid : List ℕ) (n : ℕ) → length keys ≡ 3 * n → length keys ≤ 3072 → laid ≡ table_codes keys → All (Within (length laid)) laid
few keys laid n three many e = subst (λ l. All (Within (length l)) l) (sym e) (codes_few keys n three many)

pub codes-requires : goal.codes-requires
codes-requires c =
    let k = c.args.keys.now in
    (subst Ascending (sym c.requires.3) (ascending_is k), omega (arith, c.requires.2, ap length c.requires.3, length_ascending k), c.requires.1, c.requires.4)

pub unlinked-requires : goal.unlinked-requires
unlinked-requires c =
    let p = c.requires in
    let e = coded c.args.keys.now c.args.ordered.now c.codes.new.codes p.3 c.codes.ensures in
    let m = as_many _ _ p.1.0 p.1.1 p.2 e in
    (few _ _ p.1.0 p.1.1 p.2 e, omega (arith, p.2), p.5 ∙ sym m)

pub repeated_side-requires : goal.repeated_side-requires
repeated_side-requires c =
    let p = c.requires in
    let e = coded c.args.keys.now c.args.ordered.now c.codes.new.codes p.3 c.codes.ensures in
    let m = as_many _ _ p.1.0 p.1.1 p.2 e in
    (few _ _ p.1.0 p.1.1 p.2 e, omega (arith, p.2), c.unlinked.ensures)

-- A side that repeats another breaks rule B.
pub returns-in-Some : goal.returns-in-Some
returns-in-Some c =
    let p = c.requires in
    let k = c.args.keys.now in
    let e = coded k c.args.ordered.now c.codes.new.codes p.3 c.codes.ensures in
    let f = subst (λ l. FirstRepeat l c.in-Some.t) e c.in-Some.ensures.1 in (
      sym (repeat_is k p.1.0 p.1.1 p.2 c.in-Some.t c.in-Some.ensures.0 f),
      λ once. absurd (omega (arith, repeat_none k p.1.0 p.1.1 p.2 c.in-Some.t f once, c.in-Some.ensures.0)),
    )

pub opposites-requires : goal.opposites-requires
opposites-requires c =
    let p = c.requires in
    let e = coded c.args.keys.now c.args.ordered.now c.codes.new.codes p.3 c.codes.ensures in
    let m = as_many _ _ p.1.0 p.1.1 p.2 e in
    (few _ _ p.1.0 p.1.1 p.2 e, omega (arith, p.2), c.in_default.ensures.1, p.6 ∙ sym m)

pub notes-requires : goal.notes-requires
notes-requires c =
    let p = c.requires in
    let k = c.args.keys.now in
    let laid = c.codes.new.codes in
    let e = coded k c.args.ordered.now laid p.3 c.codes.ensures in (
      subst Ascending (sym p.3) (ascending_is k),
      subst (All Key) (sym p.3) (all_ascending Key k p.0),
      subst (λ z. All (Within (length z)) laid) (sym p.3) (subst (All (Within (length (ascending k)))) (sym e) (codes_within k p.1.0 p.1.1 p.2)),
      c.opposites.auto.opposite ∙ p.6 ∙ sym (as_many k laid p.1.0 p.1.1 p.2 e),
      c.in_default.ensures.1.number,
      c.in_default.ensures.1.unnoted,
    )

pub returns : goal.returns
returns c =
    let p = c.requires in
    let k = c.args.keys.now in
    let laid = c.codes.new.codes in
    let x = c.repeated_side.new.index in
    let y = c.notes.new.index in
    let z = c.opposites.new.opposite in
    let e = coded k c.args.ordered.now laid p.3 c.codes.ensures in
    let linked = subst (λ l. LinkedTo l x (length l)) e c.in_default.ensures.1 in
    let noted = subst (λ l. NotedTo (ascending k) l x y (length l)) e (subst (λ l. NotedTo l laid x y (length laid)) p.3 c.notes.ensures) in (
      sym (repeat_not k p.1.0 p.1.1 p.2 (subst (λ l. FirstRepeat l 0) e c.in_default.ensures.0)),
      λ once.
          subst (λ l. Indexed k l y z) (sym p.3)
          (subst (Indexed k (ascending k) y) (sym (c.opposites.ensures (subst Distinct (sym e) (codes_distinct k p.1.0 p.1.1 p.2 once)) ∙ ap turned_in e))
          (indexing k p.1.0 p.1.1 p.2 x y linked noted p.0 once)),
    )
