-- The comparison of boundaries that judging and rule C use, and what it says. The idea: counts at the sides, with every other piece
-- settled, are the shares of a set exactly if the set has the boundary of the pieces; a stray piece is in no set's boundary.
-- Assumes nothing.
use mathlib.Core.Path.{◌≡◌, refl, sym, ◌∙◌, ap, ap₂, subst}
use mathlib.Core.Logic.{◌↔◌}
use mathlib.Core.Bool.{Bool}
use mathlib.Core.List.{List, [], ◌∷◌, ◌++◌, flat_map}
use Prim.Native.Nat.{ℕ, suc, ◌≤◌, ◌<◌}
use native.Mathlib.Omega.{arith}
use native.Mathlib.Decide.{dec_le}
use lib.ListN.{length, get_or, take, get_or-eq_default}
use lib.Seq.{take-length}
use Rattle.whole.specs.Sums.{count, net, Among}
use Rattle.plane.specs.Points.{Point, Edge, flip, same_point, same_edge}
use Rattle.plane.specs.Cuts.{all_pieces}
use Rattle.plane.specs.Boundaries.{boundary, SameBoundary, sides_of}
use Rattle.plane.specs.Keys.{pairs, points_at}
use Rattle.plane.proofs.Cuts.{same_corners}
use Rattle.table.specs.Table.{corners}
use Rattle.table.specs.Sets.{SetOf, chosen}
use Rattle.table.specs.Sides.{triangles_of, side_at, share, net_of, evenly, Shares}
use Rattle.table.proofs.Shares.{length_triangles, length_sides, length_opposites, side_at_lem, opposite_some, share_is, same_shares, stray_none}
use Rattle.table.proofs.Nets.{net_is}
use Rattle.table_labels.specs.Labels.{Sided}
use Rattle.table_count.specs.Counting.{side_of, pieces_of, Edged, Tallied, Settled, Stray}
use Rattle.table_count.proofs.Counted.{tallied_sum}
use Rattle.table_count.proofs.Pieces.{first_few}
use Rattle.table_count.specs.Indexed.{Indexed}

-- The pieces are those that the definitions cut.
all_pieces_lem : (cs ds : List Point) → ((c : Point) → Among same_point c cs ↔ Among same_point c ds) → (l : List Edge) → all_pieces cs l ≡ all_pieces ds l
unfolding flat_map
all_pieces_lem cs ds h [] = refl
all_pieces_lem cs ds h (e ∷ l) = ap₂ ◌++◌ (same_corners cs ds h e) (all_pieces_lem cs ds h l)

module _ (keys ordered index opposite : List ℕ) (indexed : Indexed keys ordered index opposite) where
  abbrev sides : List Edge
  sides = sides_of (triangles_of keys)

  pub pieces_are : (from to : List ℕ) (l : List Edge) → pairs from to ≡ l → pieces_of ordered from to ≡ all_pieces (corners (triangles_of keys)) l
  pieces_are from to l e = all_pieces_lem (points_at ordered) (corners (triangles_of keys)) indexed.corners_are (pairs from to) ∙ ap (all_pieces (corners (triangles_of keys))) e

  many_sides : length opposite ≡ length keys
  many_sides = ap length indexed.opposite_is ∙ length_opposites keys indexed.n indexed.three

  -- What labels are compared with.
  pub sided : (l : List Edge) (counts : List ℕ) (m : ℕ) → length counts ≡ length keys → m ≡ length (triangles_of keys) → ((k : ℕ) → get_or counts k 0 < 4294967295) → Sided opposite counts m
  sided l counts m n e room = record {
    three = omega (arith, many_sides, indexed.three, length_triangles keys indexed.n indexed.three);
    sides = λ k o h q. omega (arith, many_sides, (opposite_some keys indexed.n indexed.three k o (omega (arith, many_sides)) (ap (λ z. get_or z k 0) (sym indexed.opposite_is) ∙ q)).0);
    number = n ∙ sym many_sides;
    room = room;
  }

  -- The count at a side is the boundary there,
  at_side : (p : List Edge) (counts : List ℕ) → Tallied sides p counts → (k : ℕ) → k < length keys → net_of (get_or counts k 0) ≡ boundary p (side_at keys k)
  at_side p counts tallied k h = tallied.nets k (omega (arith, length_sides keys indexed.n indexed.three)) ∙ ap (boundary p) (side_at_lem keys indexed.n indexed.three k)

  -- and that at its reverse is the same turned round: so the reverse of a side that counts none counts none.
  pub turned : (p : List Edge) (counts : List ℕ) → Tallied sides p counts → (k o : ℕ) → k < length opposite → get_or opposite k 0 ≡ suc o → get_or counts k 0 ≡ evenly → get_or counts o 0 ≡ evenly
  unfolding net
  turned p counts tallied k o h e q =
      let r = opposite_some keys indexed.n indexed.three k o (omega (arith, many_sides)) (ap (λ z. get_or z k 0) (sym indexed.opposite_is) ∙ e) in
      let a = (net_is (get_or counts k 0) (# (flip (side_at keys k))) (# (side_at keys k))).1 (at_side p counts tallied k (omega (arith, many_sides))) in
      let b = (net_is (get_or counts o 0) (# (flip (side_at keys o))) (# (side_at keys o))).1 (at_side p counts tallied o r.0) in
      omega (arith, ap # r.1, ap (λ d. # (flip d)) r.1)
    where
      # : Edge → ℕ
      # d = count same_edge d p

  module _ (p : List Edge) (s : List Bool) (fits : SetOf (triangles_of keys) s) where
    -- A stray piece is in no set's boundary.
    pub stray_refuses : Stray sides p → SameBoundary (sides_of (chosen (triangles_of keys) s)) p → ⊥
    stray_refuses stray h = stray.uneven (stray_none keys indexed.n indexed.three indexed.once s fits p h stray.e stray.no_side stray.no_reverse)

    -- The counts are the set's shares exactly if it has the boundary of the pieces.
    module _ (counts : List ℕ) (tallied : Tallied sides p counts) where
      pub shares_from : SameBoundary (sides_of (chosen (triangles_of keys) s)) p → Shares opposite counts s
      shares_from h k l = at_side p counts tallied k (omega (arith, many_sides)) ∙ sym (h (side_at keys k)) ∙ share_is keys indexed.n indexed.three indexed.once s fits k (omega (arith, many_sides)) ∙ ap (λ o. share o s k) (sym indexed.opposite_is)

      pub shares_to : Settled sides p p → Shares opposite counts s → SameBoundary (sides_of (chosen (triangles_of keys) s)) p
      shares_to settled h = same_shares keys indexed.n indexed.three indexed.once s fits p
          (λ k l. sym (at_side p counts tallied k l) ∙ h k (omega (arith, many_sides)) ∙ ap (λ o. share o s k) indexed.opposite_is) settled

-- There is room to add 1 to each count.
pub tallied_room : (sides : List Edge) (ordered from to counts : List ℕ) → Edged from to → Tallied sides (pieces_of ordered from to) counts → (k : ℕ) → get_or counts k 0 < 4294967295
tallied_room sides ordered from to counts edged t k = go (dec_le (suc k) (length counts))
  where
    few : (e : Edge) → count same_edge e (pieces_of ordered from to) ≤ 4096
    few e = subst (λ l. count same_edge e l ≤ 4096) (ap₂ (pieces_of ordered) (take-length from) (ap (λ n. take n to) (sym edged.as_many) ∙ take-length to)) (omega (arith, first_few ordered from to edged.as_many (length from) (omega arith) e, edged.few))

    go : Dec (suc k ≤ length counts) → get_or counts k 0 < 4294967295
    go (yes h) = omega (arith, t.number, tallied_sum sides (pieces_of ordered from to) counts t k (omega (arith, t.number)), few (side_of sides k), few (flip (side_of sides k)))
    go (no h) = omega (arith, get_or-eq_default counts 0 {n = k} (omega arith))
