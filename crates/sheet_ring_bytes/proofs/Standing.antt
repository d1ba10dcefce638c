-- Rings by number that stand one behind the other: cut apart by their ends they are the rings again, each side of theirs is one of the table, and their bytes
-- are as many as `room_of` says. Assumes nothing.
use mathlib.Core.Path.{◌≡◌, refl, sym, ◌∙◌, ap, ap₂, subst}
use mathlib.Core.Bool.{Bool, true, false, cond}
use mathlib.Core.List.{List, [], ◌∷◌, ◌++◌, map, flat_map, append_assoc}
use Prim.Native.Nat.{ℕ, zero, suc, ◌+◌, ◌-◌, ◌*◌, ◌≤◌, ◌<◌}
use native.Mathlib.Omega.{arith}
use lib.ListN.{length, get_or, take, drop, length-append, length-map}
use lib.Seq.{drop_at, take_at, get_or-take, length-take-le}
use Rattle.whole.specs.Sums.{All}
use Rattle.whole.proofs.Sums.{all_map, all-flat_map}
use Rattle.lent_little.specs.Held.{SideIn, end_of}
use Rattle.repair_regions.specs.Spreading.{Paired}
use Rattle.repair_sides.specs.Numbered.{boundary_numbers}
use Rattle.repair_sides.proofs.Laying.{bounding_below}
use Rattle.repair_follower.specs.Follower.{first_along, on_frame, clockwise, along_frame, turned_to, anticlockwise, side_before, own_side, follower}
use Rattle.repair_follower.proofs.Along.{across_below, end_below, before_below}
use Rattle.repair_ring_walk.specs.Walk.{ends_from, RingsDown}
use Rattle.repair_ring_walk.proofs.Members
use Rattle.repair_ring_walk.proofs.Ringing.{ends_many}
use Rattle.wkb_lines.specs.Room.{room_of}
use Rattle.wkb_lines.proofs.Room.{closed_room}
use Rattle.sheet_written.specs.Normal.{pair_of}
use Rattle.sheet_ring_bytes.specs.Lines.{line_bytes}
use Rattle.sheet_ring_bytes.specs.Held.{line_held, polygon_rings, rings_in, Rising, Standing}
use Rattle.sheet_ring_bytes.proofs.Putting.{ring_points}

abbrev joined : List (List ℕ) → List ℕ
joined rings = flat_map (λ r. r) rings

-- ---- cut apart by their ends
-- A list whose front is not looked at.
cut_behind : (at : ℕ) (front order : List ℕ) (rings : List (List ℕ)) → length front ≡ at → order ≡ front ++ joined rings → rings_in at order (ends_from at rings) ≡ rings
unfolding flat_map
cut_behind at front order [] e f = refl
cut_behind at front order (r ∷ rings) e f =
    let z : at + length r - at ≡ length r = omega arith in
    ap₂ (λ x y. x ∷ y)
    (ap₂ (λ n l. take n l) z (ap (drop at) f ∙ drop_at front (r ++ joined rings) at e) ∙ take_at r (joined rings) (length r) refl)
    (cut_behind (at + length r) (front ++ r) order rings (length-append front r ∙ ap (λ n. n + length r) e) (f ∙ sym (append_assoc front r (joined rings))))

pub cut_again : (rings : List (List ℕ)) → rings_in 0 (joined rings) (ends_from 0 rings) ≡ rings
cut_again rings = cut_behind 0 [] (joined rings) rings refl refl

-- The ends rise, if no ring is empty.
rising_from : (at n : ℕ) (rings : List (List ℕ)) → All (λ r. 1 ≤ length r) rings → at + length (joined rings) ≤ n → Rising at (ends_from at rings) n
unfolding flat_map
rising_from at n [] h k = tt
rising_from at n (r ∷ rings) h k =
    let e = length-append r (joined rings) in
    (omega (arith, h.0), omega (arith, e), rising_from (at + length r) n rings h.1 (omega (arith, e)))

pub rising : (rings : List (List ℕ)) → All (λ r. 1 ≤ length r) rings → Rising 0 (ends_from 0 rings) (length (joined rings))
rising rings h = rising_from 0 (length (joined rings)) rings h (omega arith)

-- ---- how many bytes
held_points : (numbers : List ℕ) (rings : List (List ℕ)) → All (λ r. 1 ≤ length r) rings
    → length (flat_map (λ l. l) (map (map pair_of) (map (line_held numbers) rings))) ≡ length (joined rings) + length rings
unfolding flat_map
held_points numbers [] h = omega arith
held_points numbers (r ∷ rings) h =
    omega (
      arith,
      length-append (map pair_of (line_held numbers r)) (flat_map (λ l. l) (map (map pair_of) (map (line_held numbers) rings))),
      length-map (line_held numbers r) pair_of,
      ring_points numbers r h.0,
      length-append r (joined rings),
      held_points numbers rings h.1,
    )

held_room : (numbers : List ℕ) (rings : List (List ℕ)) → All (λ r. 1 ≤ length r) rings → length (line_bytes (map (line_held numbers) rings)) ≡ room_of (length (joined rings)) (length rings)
held_room numbers rings h =
    let ls = map (line_held numbers) rings in
    let many = length-map ls (map pair_of) ∙ length-map rings (line_held numbers) in
    closed_room (map (map pair_of) ls) (length (joined rings)) (held_points numbers rings h ∙ ap (λ n. length (joined rings) + n) (sym many)) ∙ ap (room_of (length (joined rings))) many

-- ---- rings laid down
last_from : (at : ℕ) (r : List ℕ) (rings : List (List ℕ)) → get_or (ends_from at (r ∷ rings)) (length rings) 0 ≡ at + length (joined (r ∷ rings))
unfolding flat_map
last_from at r [] = omega (arith, length-append r [])
last_from at r (q ∷ rings) = omega (arith, last_from (at + length r) q rings, length-append r (joined (q ∷ rings)))

last_end : (rings : List (List ℕ)) → 1 ≤ length rings → get_or (ends_from 0 rings) (length rings - 1) 0 ≡ length (joined rings)
last_end [] h = absurd (omega arith)
last_end (r ∷ rings) h = let z : suc (length rings) - 1 ≡ length rings = omega arith in ap (λ m. get_or (ends_from 0 (r ∷ rings)) m 0) z ∙ last_from 0 r rings ∙ omega arith

none : (rings : List (List ℕ)) → length rings ≡ 0 → length (joined rings) ≡ 0
unfolding flat_map
none [] h = refl
none (r ∷ rings) h = absurd (omega arith)

module _ {rings : List (List ℕ)} {before endsBefore : List ℕ} {r : ℕ} {after endsAfter : List ℕ} (d : RingsDown rings before endsBefore r after endsAfter) (rest endsRest : List ℕ) where
  -- They stand at the front of the whole lists.
  pub standing : Standing rings (length (joined rings)) r (after ++ rest) (endsAfter ++ endsRest)
  standing = record { order_room = order_room; sides = sides; ends_room = ends_room; ended = ended }
    where
      order_is : after ++ rest ≡ joined rings ++ (drop (length (joined rings)) before ++ rest)
      order_is = ap (λ l. l ++ rest) d.sides ∙ append_assoc (joined rings) (drop (length (joined rings)) before) rest

      ends_are : endsAfter ++ endsRest ≡ ends_from 0 rings ++ (drop r endsBefore ++ endsRest)
      ends_are = ap (λ l. l ++ endsRest) d.ends ∙ append_assoc (ends_from 0 rings) (drop r endsBefore) endsRest

      order_room : length (joined rings) ≤ length (after ++ rest)
      order_room = omega (arith, ap length order_is, length-append (joined rings) (drop (length (joined rings)) before ++ rest))

      sides : take (length (joined rings)) (after ++ rest) ≡ joined rings
      sides = ap (take (length (joined rings))) order_is ∙ take_at (joined rings) _ (length (joined rings)) refl

      ends_room : r ≤ length (endsAfter ++ endsRest)
      ends_room = omega (arith, ap length ends_are, length-append (ends_from 0 rings) (drop r endsBefore ++ endsRest), ends_many 0 rings, d.many)

      ended : take r (endsAfter ++ endsRest) ≡ ends_from 0 rings
      ended = ap (take r) ends_are ∙ take_at (ends_from 0 rings) _ r (ends_many 0 rings ∙ sym d.many)

  -- None is laid down.
  pub standing_none : r ≡ 0 → Standing rings 0 0 (after ++ rest) (endsAfter ++ endsRest)
  standing_none e = subst (λ m. Standing rings m 0 (after ++ rest) (endsAfter ++ endsRest)) (none rings (sym d.many ∙ e)) (subst (λ m. Standing rings (length (joined rings)) m (after ++ rest) (endsAfter ++ endsRest)) e standing)

  -- The last end is how many sides they have.
  pub standing_ended : 1 ≤ r → Standing rings (get_or (endsAfter ++ endsRest) (r - 1) 0) r (after ++ rest) (endsAfter ++ endsRest)
  standing_ended h = subst (λ m. Standing rings m r (after ++ rest) (endsAfter ++ endsRest)) last standing
    where
      last : length (joined rings) ≡ get_or (endsAfter ++ endsRest) (r - 1) 0
      last = sym
          (sym (get_or-take r (endsAfter ++ endsRest) (r - 1) 0 (omega arith))
          ∙ ap (λ l. get_or l (r - 1) 0) standing.ended
          ∙ ap (λ m. get_or (ends_from 0 rings) (m - 1) 0) d.many
          ∙ last_end rings (omega (arith, d.many)))

-- What stands is as much as is told.
standing_many : {rings : List (List ℕ)} {k r : ℕ} {order ends : List ℕ} → Standing rings k r order ends → (length (joined rings) ≡ k) × (length rings ≡ r)
standing_many {rings} {k} {r} {order} {ends} s =
    (ap length (sym s.sides) ∙ length-take-le k order s.order_room, sym (ends_many 0 rings) ∙ ap length (sym s.ended) ∙ length-take-le r ends s.ends_room)

-- So their bytes are as many as that takes.
pub standing_room : (numbers : List ℕ) {rings : List (List ℕ)} {k r : ℕ} {order ends : List ℕ} → All (λ r. 1 ≤ length r) rings → Standing rings k r order ends → length (line_bytes (map (line_held numbers) rings)) ≡ room_of k r
standing_room numbers {rings} h s = let m = standing_many s in held_room numbers rings h ∙ ap₂ room_of m.0 m.1

-- ---- the sides of rings are sides of the table
module _ (opposite : List ℕ) {n : ℕ} (p : Paired opposite n) where
  along_below : (test : ℕ → Bool) (step : ℕ → ℕ) → ((k : ℕ) → k < length opposite → step k < length opposite) → (i k : ℕ) → k < length opposite → first_along test step i k < length opposite
  along_below test step stays zero k h = h
  along_below test step stays (suc i) k h = go (test k) (along_below test step stays i (step k) (stays k h))
    where
      go : (b : Bool) → first_along test step i (step k) < length opposite → cond b k (first_along test step i (step k)) < length opposite
      go true r = h
      go false r = r

  -- The side across, or the first, is one of the table.
  across : (k : ℕ) → k < length opposite → get_or opposite k 0 - 1 < length opposite
  across k h = go (get_or opposite k 0) refl
    where
      go : (o : ℕ) → get_or opposite k 0 ≡ o → get_or opposite k 0 - 1 < length opposite
      go zero e = omega arith
      go (suc o) e = across_below opposite k p (λ z. omega arith)

  turned_below : (k : ℕ) → k < length opposite → turned_to opposite k < length opposite
  turned_below k h =
      go (on_frame opposite k) (along_below (on_frame opposite) (clockwise opposite) (λ j l. end_below opposite (get_or opposite j 0 - 1) p (across j l)) (length opposite) (end_of k) (end_below opposite k p h))
    where
      go : (b : Bool) → along_frame opposite (end_of k) < length opposite → cond b (along_frame opposite (end_of k)) (get_or opposite k 0 - 1) < length opposite
      go true r = r
      go false r = across k h

  module _ (owners : List ℕ) (polygon : ℕ) where
    abbrev f : ℕ → ℕ
    f = follower opposite owners polygon

    stays_below : (k : ℕ) → k < length opposite → f k < length opposite
    stays_below k h =
        along_below (own_side owners polygon) (anticlockwise opposite) (λ j l. turned_below (side_before j) (before_below opposite j p l)) (length opposite) (turned_to opposite k) (turned_below k h)

    pub rings_in_lem : (numbers : List ℕ) → 1 + 6 * n ≤ length numbers → All (SideIn numbers) (joined (polygon_rings opposite owners polygon))
    rings_in_lem numbers h =
        let bound = boundary_numbers opposite owners polygon in
        all_map (λ k. k < length opposite) (SideIn numbers) (λ k l. omega (arith, p.sides)) (joined (polygon_rings opposite owners polygon))
        (all-flat_map (All (λ k. k < length opposite)) (λ k. k < length opposite) (λ r. r) (λ r h. h) (polygon_rings opposite owners polygon)
        (Members.rings_in_lem (λ k. k < length opposite) f stays_below (length bound) [] bound (bounding_below opposite owners polygon)))
