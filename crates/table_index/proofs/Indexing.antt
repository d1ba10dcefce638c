-- The table's corners in order and its sides by their codes can be looked up. Assumes nothing.
use mathlib.Core.Path.{◌≡◌, refl, sym, ◌∙◌, ap, ap₂, subst}
use mathlib.Core.Logic.{◌↔◌}
use mathlib.Core.List.{List, []}
use mathlib.Core.Option.{none, some}
use Prim.Native.Nat.{ℕ, zero, suc, ◌*◌, ◌/◌, ◌%◌, ◌≤◌, ◌<◌}
use native.Mathlib.Omega.{arith}
use lib.Dec.{T}
use lib.ListN.{length, get_or}
use Rattle.whole.specs.Sums.{All, Among}
use Rattle.whole.proofs.Sums.{all_map, all_at, all_from}
use Rattle.plane.specs.Points.{Point, same_point, between}
use Rattle.plane.specs.Boundaries.{sides_of}
use Rattle.plane.specs.Keys.{point_at, Key, pair, points_at}
use Rattle.table.specs.Table.{corners, RuleB, first_fault, repeats}
use Rattle.table.specs.Sides.{triangles_of, tails_of, item_of, FirstRepeat}
use Rattle.table.specs.Opposites.{found_at, opposites}
use Rattle.table.proofs.Shares.{sides_pairs, length_tails, length_sides, side_at_lem, side_once}
use Rattle.table.proofs.Faults.{fault_is, fault_none, first_repeat_is}
use Rattle.table.proofs.Bounds.{corners_points}
use Rattle.whole_order.specs.Ascending.{IsIn, Distinct, place_of, ascending}
use Rattle.whole_order.proofs.Ascending.{ascending_is, ascending_has, length_ascending, all_ascending, place_found}
use Rattle.table_sides.specs.Codes.{code_of, codes_of, turned_in}
use Rattle.table_sides.specs.Chains.{next_in, code_in, head_in, clear_in, begin_in, Last, ChainedTo}
use Rattle.table_sides.proofs.Looked.{tails_stand, codes_at, length_codes, found_code, not_found_from, not_found_to, opposites_are, codes_tell}
use Rattle.table_sides.proofs.Chains.{last_number, last_same}
use Rattle.table_chains.specs.Linking.{Within, LinkedTo}
use Rattle.table_chains.proofs.Linking.{linked_last}
use Rattle.table_count.proofs.Walked.{among_corner, corner_among}
use Rattle.table_count.specs.Counting.{side_of}
use Rattle.table_count.specs.Indexed.{Indexed}
use Rattle.table_index.specs.Noting.{NotedTo}

module _ (keys : List ℕ) (n : ℕ) (three : length keys ≡ 3 * n) (few : length keys ≤ 3072) where
  abbrev codes : List ℕ
  codes = codes_of (ascending keys) keys (tails_of keys)

  pub many_codes : length codes ≡ length keys
  many_codes = length_codes (ascending keys) keys (tails_of keys) (length_tails keys n three)

  -- A code is of two corners with places among the corners in order,
  pub codes_within : All (Within (length (ascending keys))) codes
  codes_within = all_from (Within (length (ascending keys))) 0 codes within
    where
      in_order : (u : ℕ) → IsIn u keys → place_of u (ascending keys) < length (ascending keys)
      in_order u s = (place_found (ascending keys) u (ascending_is keys) ((ascending_has keys u).1 s)).0

      within : (i : ℕ) → i < length codes → Within (length (ascending keys)) (get_or codes i 0)
      within i h =
          let l : i < length keys = omega (arith, many_codes) in
          let m = length_tails keys n three in
          let p = in_order (get_or keys i 0) (i, l, refl) in
          let q = in_order (get_or (tails_of keys) i 0) (all_at (λ v. IsIn v keys) 0 (tails_of keys) i (tails_stand keys) (omega arith)) in
          let c = length_ascending keys in
          subst (Within (length (ascending keys))) (sym (codes_at (ascending keys) keys (tails_of keys) i m l)) (omega arith, omega arith)

  -- of which there are no more than codes.
  pub codes_few : All (Within (length codes)) codes
  codes_few = all_map (Within (length (ascending keys))) (Within (length codes)) (λ c w. (omega (arith, w.0, length_ascending keys, many_codes), omega (arith, w.1, length_ascending keys, many_codes))) codes codes_within

  -- Under rule B no code stands twice.
  pub codes_distinct : RuleB (triangles_of keys) → Distinct codes
  codes_distinct once j k h g e =
      let a : j < length keys = omega (arith, many_codes) in
      let b : k < length keys = omega (arith, many_codes) in
      side_once keys n three once j k a b ((codes_tell keys (tails_of keys) (tails_stand keys) few (length_tails keys n three) j k a b).0 e)

  -- Corners in order are the corners.
  same_points : (c : Point) → Among same_point c (points_at (ascending keys)) ↔ Among same_point c (corners (triangles_of keys))
  same_points c = rw (corners_points n keys three) (to, from)
    where
      moved : (k l : List ℕ) → ((x : ℕ) → IsIn x k → IsIn x l) → Among same_point c (points_at k) → Among same_point c (points_at l)
      moved k l f a =
          let w = among_corner k c a in
          let s = f (get_or k w.0 0) (w.0, w.1, refl) in
          subst (λ z. Among same_point z (points_at l)) (ap point_at s.2 ∙ w.2) (corner_among l s.0 s.1)

      to : Among same_point c (points_at (ascending keys)) → Among same_point c (points_at keys)
      to = moved (ascending keys) keys (λ x. (ascending_has keys x).0)

      from : Among same_point c (points_at keys) → Among same_point c (points_at (ascending keys))
      from = moved keys (ascending keys) (λ x. (ascending_has keys x).1)

  -- ---- the chains
  module _ (x y : List ℕ) (linked : LinkedTo codes x (length codes)) (noted : NotedTo (ascending keys) codes x y (length codes)) where
    same_begin : (i : ℕ) → begin_in (get_or y i 0) ≡ begin_in (get_or x i 0)
    same_begin i = ap (λ z. z / 4096) (noted.codes_are i)

    as_many : length y ≡ length codes
    as_many = noted.number ∙ linked.number

    all_chained : ChainedTo y (length y)
    all_chained = subst (ChainedTo y) (sym as_many) (record {
      heads = λ c h.
          subst (Last (λ j. begin_in (get_or y j 0) ≡ c) (length codes)) (sym (noted.heads c))
          (last_same (λ j. begin_in (get_or x j 0) ≡ c) (λ j. begin_in (get_or y j 0) ≡ c) (length codes) (head_in (get_or x c 0)) (λ j l p. same_begin j ∙ p) (λ j l p. sym (same_begin j) ∙ p)
          (linked.chained.heads c (subst (λ z. c < z) noted.number h)));
      nexts = λ k h.
          subst (Last (λ j. begin_in (get_or y j 0) ≡ begin_in (get_or y k 0)) k) (sym (noted.nexts k))
          (last_same (λ j. begin_in (get_or x j 0) ≡ begin_in (get_or x k 0)) (λ j. begin_in (get_or y j 0) ≡ begin_in (get_or y k 0)) k (next_in (get_or x k 0))
          (λ j l p. same_begin j ∙ p ∙ sym (same_begin k)) (λ j l p. sym (same_begin j) ∙ p ∙ same_begin k) (linked.chained.nexts k h));
    })

    -- The side with the code of two corners is found.
    found_side : RuleB (triangles_of keys) → (u v r : ℕ) → IsIn u (ascending keys) → IsIn v (ascending keys) → Last (λ j. code_in (get_or y j 0) ≡ code_of (ascending keys) u v) (length y) r
        → r ≡ found_at (pair u v) (sides_of (triangles_of keys))
    found_side once u v r a b l =
        let c = code_of (ascending keys) u v in
        let m = last_same (λ j. code_in (get_or y j 0) ≡ c) (λ j. code_in (get_or x j 0) ≡ c) (length x) r (λ j h p. sym (noted.codes_are j) ∙ p) (λ j h p. noted.codes_are j ∙ p)
        (subst (λ n. Last (λ j. code_in (get_or y j 0) ≡ c) n r) noted.number l) in
        last_number codes c r (codes_distinct once) (linked_last codes x c r linked m) ∙ found_code keys (tails_of keys) (tails_stand keys) few u v a b ∙ ap (found_at (pair u v)) (sym (sides_pairs keys))

    -- No corner is inside a side of which that is noted.
    clear_side : (k : ℕ) → k < length (sides_of (triangles_of keys)) → 0 < clear_in (get_or y k 0) → (p : Point) → Among same_point p (points_at (ascending keys))
        → T (between p (side_of (sides_of (triangles_of keys)) k)) → ⊥
    clear_side k h g p a t =
        let l : k < length keys = omega (arith, length_sides keys n three) in
        let m = length_tails keys n three in
        let o = ascending keys in
        let u = get_or keys k 0 in
        let v = get_or (tails_of keys) k 0 in
        let s = (ascending_has keys u).1 (k, l, refl) in
        let f = (ascending_has keys v).1 (all_at (λ z. IsIn z keys) 0 (tails_of keys) k (tails_stand keys) (omega arith)) in
        let pu = place_found o u (ascending_is keys) s in
        let pv = place_found o v (ascending_is keys) f in
        let c = length_ascending keys in
        let e : get_or codes k 0 ≡ code_of o u v = codes_at o keys (tails_of keys) k m l in
        let d : get_or codes k 0 / 4096 ≡ place_of u o = omega arith in
        let r : get_or codes k 0 % 4096 ≡ place_of v o = omega arith in
        noted.clear k (omega (arith, many_codes)) g p a
        (subst (λ z. T (between p z)) (side_at_lem keys n three k ∙ ap₂ pair (sym (ap (λ z. get_or o z 0) d ∙ pu.1)) (sym (ap (λ z. get_or o z 0) r ∙ pv.1))) t)

    pub indexing : All Key keys → RuleB (triangles_of keys) → Indexed keys (ascending keys) y (turned_in codes)
    indexing in_range once = record {
      n = n;
      three = three;
      once = once;
      looked = record {
        chained = all_chained;
        as_many = as_many ∙ many_codes ∙ sym (length_sides keys n three);
        room = omega (arith, length_ascending keys, as_many, many_codes);
        ascending = ascending_is keys;
        few = omega (arith, length_ascending keys);
        in_range = all_ascending Key keys in_range;
        once = λ j k h i e. side_once keys n three once j k (omega (arith, length_sides keys n three)) (omega (arith, length_sides keys n three)) (sym (side_at_lem keys n three j) ∙ e ∙ side_at_lem keys n three k);
        found = found_side once;
        no_from = λ u v f. ap (found_at (pair u v)) (sides_pairs keys) ∙ not_found_from keys (tails_of keys) (tails_stand keys) few u v (λ s. f ((ascending_has keys u).1 s));
        no_to = λ u v f. ap (found_at (pair u v)) (sides_pairs keys) ∙ not_found_to keys (tails_of keys) (tails_stand keys) few u v (λ s. f ((ascending_has keys v).1 s));
        clear = clear_side;
      };
      corners_are = same_points;
      opposite_is = opposites_are keys (tails_of keys) (tails_stand keys) few ∙ ap opposites (sym (sides_pairs keys));
    }

  -- The first repeat among the codes is the first triangle with a side of an earlier one.
  repeat_item : (r : ℕ) → FirstRepeat codes r → r ≡ item_of (first_fault repeats [] (triangles_of keys))
  repeat_item r = first_repeat_is codes keys n many_codes three (codes_tell keys (tails_of keys) (tails_stand keys) few (length_tails keys n three)) r

  pub repeat_is : (t : ℕ) → 0 < t → FirstRepeat codes t → first_fault repeats [] (triangles_of keys) ≡ some t
  repeat_is t h f = fault_is t (first_fault repeats [] (triangles_of keys)) h (repeat_item t f)

  pub repeat_not : FirstRepeat codes 0 → first_fault repeats [] (triangles_of keys) ≡ none
  repeat_not f = fault_none repeats [] (triangles_of keys) (repeat_item 0 f)

  -- Under rule B there is none.
  pub repeat_none : (r : ℕ) → FirstRepeat codes r → RuleB (triangles_of keys) → r ≡ 0
  repeat_none zero f once = refl
  repeat_none (suc t) f once =
      let k = f.0 in
      let e = f.3 in
      let q : e.0 ≡ k = codes_distinct once e.0 k (omega (arith, e.1, f.1)) f.1 e.2 in
      absurd (omega (arith, e.1))
