-- A ring's points put in reverse order where they stand: Turning is the invariant of the loop.
-- The idea: the points put in place at either end, and between them those left in reverse order, are the ring in reverse order. Assumes nothing.
use mathlib.Core.Path.{◌≡◌, refl, sym, ◌∙◌, ap, ap₂, subst}
use mathlib.Core.List.{List, [], ◌∷◌, ◌++◌, map, flat_map, reverse, reverse-cons, reverse-append, append_assoc, append-nil}
use Prim.Native.Nat.{ℕ, ◌+◌, ◌-◌, ◌*◌, ◌≤◌, ◌<◌}
use native.Mathlib.Omega.{arith}
use lib.IntN.{ℤ, pos}
use lib.ListN.{length, get_or, length-append, length-reverse}
use Rattle.std.specs.List.{swap}
use Rattle.std.proofs.lemmas.List.Edits.{swap_is}
use Rattle.whole.specs.Sums.{All}
use Rattle.whole.proofs.Sums.{flat_map-++}
use Rattle.plane.specs.Points.{Point}
use Rattle.plane.specs.Members.{Ring}
use Rattle.plane.specs.Corners.{millimetres}
use Rattle.plane.specs.Keys.{Held}
use Rattle.plane_rings.specs.Closed.{RingLimits}
use Rattle.sheet_form.specs.Numbers.{point_numbers, ring_numbers}
use Rattle.sheet_sums.proofs.Summing.{points_length}
use Rattle.sheet_older.specs.Standing.{Stands, Place, Turns, swapped}
use Rattle.sheet_older.proofs.Places.{stands_length, stands_as, stands_past, stands_count, swapped_length, swapped_held, swapped_is}

-- The points left from place i to place j: those at either end are in place, and those between them in reverse order make up the ring in reverse order.
pub record Left (front : List ℤ) (r : Ring) (rest : List ℤ) (numbers : List ℕ) (i j : ℕ) : Type 0 where
  pub before : Ring
  pub between : Ring
  pub behind : Ring
  pub goes : before ++ (reverse between ++ behind) ≡ reverse r
  pub stands : Stands numbers i (front ++ pos (length r) ∷ flat_map point_numbers before) (flat_map point_numbers between ++ (flat_map point_numbers behind ++ rest))
  pub ends : i + 2 * length between ≡ j + 2

pub record Turning (numbers₀ : List ℕ) (at : ℕ) (numbers : List ℕ) (i j : ℕ) : Type 0 where
  pub held : All Held numbers
  pub long : length numbers ≡ length numbers₀
  pub reads : (front : List ℤ) (r : Ring) (rest : List ℤ) → RingLimits r → Stands numbers₀ at front (ring_numbers r ++ rest) → Left front r rest numbers i j

-- Nothing is in place.
pub turning_begin : (numbers : List ℕ) (at : ℕ) → All Held numbers → Turning numbers at numbers (at + 1) (at + 1 + 2 * (get_or numbers at 0 - 10_000_000) - 2)
unfolding flat_map
turning_begin numbers at held = record { held = held; long = refl; reads = reads }
  where
    reads : (front : List ℤ) (r : Ring) (rest : List ℤ) → RingLimits r → Stands numbers at front (ring_numbers r ++ rest)
        → Left front r rest numbers (at + 1) (at + 1 + 2 * (get_or numbers at 0 - 10_000_000) - 2)
    reads front r rest fits w =
        let c = stands_count point_numbers r rest w in
        record {
          before = [];
          between = r;
          behind = [];
          goes = append-nil (reverse r);
          stands = stands_past (pos (length r) ∷ []) refl w;
          ends = omega (arith, c.1, fits.low);
        }

-- Two points at least: a first, a last, and those between.
pub record Ends (l : Ring) : Type 0 where
  pub first : Point
  pub between : Ring
  pub last : Point
  pub is : l ≡ first ∷ (between ++ last ∷ [])

ends_of : (l : Ring) → 1 < length l → Ends l
ends_of [] h = absurd (omega arith)
ends_of (p ∷ []) h = absurd (omega arith)
ends_of (p ∷ q ∷ []) h = record { first = p; between = []; last = q; is = refl }
ends_of (p ∷ q ∷ r ∷ l) h =
    let e = ends_of (q ∷ r ∷ l) (omega arith) in
    record { first = p; between = e.first ∷ e.between; last = e.last; is = ap (λ m. p ∷ m) e.is }

module _ {front : List ℤ} {r : Ring} {rest : List ℤ} {numbers : List ℕ} {i j : ℕ} (w : Left front r rest numbers i j) where
  left_room : i < j → (i + 3 < length numbers) × (j + 1 < length numbers) × (i + 2 ≤ j)
  left_room h =
      let e = stands_length w.stands in
      let k = length-append (flat_map point_numbers w.between) (flat_map point_numbers w.behind ++ rest) in
      let p = points_length w.between in
      (omega (arith, w.ends), omega (arith, w.ends), omega (arith, w.ends))

  -- The first and the last of the points left are exchanged.
  left_more : i < j → Left front r rest (swapped (swapped numbers i j) (i + 1) (j + 1)) (i + 2) (j - 2)
  unfolding flat_map
  left_more h = go (ends_of w.between (omega (arith, w.ends)))
    where
      go : Ends w.between → Left front r rest (swapped (swapped numbers i j) (i + 1) (j + 1)) (i + 2) (j - 2)
      go e =
          record {
            before = w.before ++ e.last ∷ [];
            between = e.between;
            behind = e.first ∷ w.behind;
            goes = goes;
            stands = stands;
            ends = omega (arith, w.ends, many);
          }
        where
          u : Point
          u = e.first

          v : Point
          v = e.last

          k : List ℤ
          k = flat_map point_numbers e.between

          z : List ℤ
          z = flat_map point_numbers w.behind ++ rest

          p : List ℤ
          p = front ++ pos (length r) ∷ flat_map point_numbers w.before

          many : length w.between ≡ length e.between + 2
          many = omega (arith, ap length e.is, length-append e.between (v ∷ []))

          goes : (w.before ++ v ∷ []) ++ (reverse e.between ++ u ∷ w.behind) ≡ reverse r
          goes =
              append_assoc w.before (v ∷ []) (reverse e.between ++ u ∷ w.behind)
              ∙ ap (λ l. w.before ++ l) (sym (append_assoc (v ∷ reverse e.between) (u ∷ []) w.behind))
              ∙ ap (λ l. w.before ++ (l ++ w.behind))
              (sym (ap reverse e.is ∙ reverse-cons u (e.between ++ v ∷ []) ∙ ap (λ l. l ++ u ∷ []) (reverse-append e.between (v ∷ []))))
              ∙ w.goes

          is₀ : map millimetres numbers ≡ p ++ u.x ∷ ((u.y ∷ k) ++ v.x ∷ v.y ∷ z)
          is₀ =
              w.stands.is
              ∙ ap (λ l. p ++ (l ++ z)) (ap (flat_map point_numbers) e.is ∙ ap (λ l. u.x ∷ u.y ∷ l) (flat_map-++ point_numbers e.between (v ∷ [])))
              ∙ ap (λ l. p ++ u.x ∷ u.y ∷ l) (append_assoc k (v.x ∷ v.y ∷ []) z)

          is₁ : map millimetres (swapped numbers i j) ≡ p ++ v.x ∷ ((u.y ∷ k) ++ u.x ∷ v.y ∷ z)
          is₁ = swapped_is numbers i j p u.x (u.y ∷ k) v.x (v.y ∷ z) is₀ w.stands.place (omega (arith, w.ends, many, points_length e.between))

          is₂ : map millimetres (swapped (swapped numbers i j) (i + 1) (j + 1)) ≡ (p ++ v.x ∷ []) ++ v.y ∷ ((k ++ u.x ∷ []) ++ u.y ∷ z)
          is₂ = swapped_is (swapped numbers i j) (i + 1) (j + 1) (p ++ v.x ∷ []) u.y (k ++ u.x ∷ []) v.y z
              (is₁ ∙ ap (λ l. p ++ v.x ∷ u.y ∷ l) (sym (append_assoc k (u.x ∷ []) (v.y ∷ z)))
              ∙ sym (append_assoc p (v.x ∷ []) (u.y ∷ ((k ++ u.x ∷ []) ++ v.y ∷ z))))
              (omega (arith, length-append p (v.x ∷ []), w.stands.place))
              (omega (arith, length-append k (u.x ∷ []), w.ends, many, points_length e.between))

          stands : Stands (swapped (swapped numbers i j) (i + 1) (j + 1)) (i + 2) (front ++ pos (length r) ∷ flat_map point_numbers (w.before ++ v ∷ []))
              (k ++ (flat_map point_numbers (u ∷ w.behind) ++ rest))
          stands = stands_as
              (append_assoc front (pos (length r) ∷ flat_map point_numbers w.before) (v.x ∷ v.y ∷ [])
              ∙ ap (λ l. front ++ pos (length r) ∷ l) (sym (flat_map-++ point_numbers w.before (v ∷ []))))
              refl
              (record {
                is =
                    is₂
                    ∙ append_assoc p (v.x ∷ []) (v.y ∷ ((k ++ u.x ∷ []) ++ u.y ∷ z))
                    ∙ ap (λ l. p ++ v.x ∷ v.y ∷ l) (append_assoc k (u.x ∷ []) (u.y ∷ z))
                    ∙ sym (append_assoc p (v.x ∷ v.y ∷ []) (k ++ u.x ∷ u.y ∷ z));
                place = omega (arith, length-append p (v.x ∷ v.y ∷ []), w.stands.place);
              })

  -- One point at most is left, which is in its place.
  left_done : j ≤ i → Stands numbers (i + 2 * length w.between + 2 * length w.behind) (front ++ ring_numbers (reverse r)) rest
  left_done h =
      record {
        is =
            w.stands.is
            ∙ append_assoc front (pos (length r) ∷ flat_map point_numbers w.before) (flat_map point_numbers w.between ++ (flat_map point_numbers w.behind ++ rest))
            ∙ ap₂ (λ n l. front ++ pos n ∷ l) (sym (length-reverse r)) points
            ∙ sym (append_assoc front (ring_numbers (reverse r)) rest);
        place = place;
      }
    where
      few : (l : Ring) → length l ≤ 1 → reverse l ≡ l
      few [] k = refl
      few (p ∷ []) k = refl
      few (p ∷ q ∷ l) k = absurd (omega arith)

      all : w.before ++ (w.between ++ w.behind) ≡ reverse r
      all = ap (λ l. w.before ++ (l ++ w.behind)) (sym (few w.between (omega (arith, w.ends)))) ∙ w.goes

      points : flat_map point_numbers w.before ++ (flat_map point_numbers w.between ++ (flat_map point_numbers w.behind ++ rest))
          ≡ flat_map point_numbers (reverse r) ++ rest
      points =
          ap (λ l. flat_map point_numbers w.before ++ l)
          (sym (append_assoc (flat_map point_numbers w.between) (flat_map point_numbers w.behind) rest) ∙ ap (λ l. l ++ rest) (sym (flat_map-++ point_numbers w.between w.behind)))
          ∙ sym (append_assoc (flat_map point_numbers w.before) (flat_map point_numbers (w.between ++ w.behind)) rest)
          ∙ ap (λ l. l ++ rest) (sym (flat_map-++ point_numbers w.before (w.between ++ w.behind)) ∙ ap (flat_map point_numbers) all)

      place : length (front ++ ring_numbers (reverse r)) ≡ i + 2 * length w.between + 2 * length w.behind
      place = omega (
        arith,
        length-append front (ring_numbers (reverse r)),
        length-append front (pos (length r) ∷ flat_map point_numbers w.before),
        points_length (reverse r),
        points_length w.before,
        ap length all,
        length-append w.before (w.between ++ w.behind),
        length-append w.between w.behind,
        w.stands.place,
      )

module _ {numbers₀ : List ℕ} {at : ℕ} {numbers : List ℕ} {i j : ℕ} (w : Turning numbers₀ at numbers i j) where
  -- Both points that are exchanged stand there.
  pub turning_room : Place ring_numbers RingLimits numbers₀ at → i < j → (i + 3 < length numbers) × (j + 1 < length numbers) × (i + 2 ≤ j)
  turning_room p h = left_room (w.reads p.front p.thing p.rest p.fits p.stands) h

  -- The same places, counted otherwise.
  pub turning_as : {i' j' : ℕ} → i ≡ i' → j ≡ j' → Turning numbers₀ at numbers i' j'
  turning_as e f = rw (e, f) at w

  pub turning_more : i < j → i + 3 < length numbers → j + 1 < length numbers → Turning numbers₀ at (swapped (swapped numbers i j) (i + 1) (j + 1)) (i + 2) (j - 2)
  turning_more h k l =
      let n = swapped_length numbers i j in
      record {
        held = swapped_held (swapped numbers i j) (i + 1) (j + 1) (omega arith) (omega arith) (swapped_held numbers i j (omega arith) (omega arith) w.held);
        long = swapped_length (swapped numbers i j) (i + 1) (j + 1) ∙ n ∙ w.long;
        reads = λ front r rest fits s. left_more (w.reads front r rest fits s) h;
      }

  pub turning_done : j ≤ i → Turns ring_numbers reverse RingLimits numbers₀ at numbers (at + 1 + 2 * (get_or numbers₀ at 0 - 10_000_000))
  turning_done h =
      record {
        held = w.held;
        long = w.long;
        reads = λ front r rest fits s. let x = left_done (w.reads front r rest fits s) h in
            let c = stands_count point_numbers r rest s in
            record {
              is = x.is;
              place = omega (arith, length-append front (ring_numbers (reverse r)), points_length (reverse r), length-reverse r, s.place, c.1);
            };
      }

-- Both numbers of the first and of the last of the points left are exchanged by the library.
pub turning_exchanged : {numbers₀ : List ℕ} {at : ℕ} {numbers numbers₁ numbers₂ : List ℕ} {i j : ℕ} → Turning numbers₀ at numbers i j → i < j → i + 3 < length numbers → j + 1 < length numbers
    → numbers₁ ≡ swap numbers i j → numbers₂ ≡ swap numbers₁ (i + 1) (j + 1) → Turning numbers₀ at numbers₂ (i + 2) (j - 2)
turning_exchanged {numbers₀} {at} {numbers} {numbers₁} {numbers₂} {i} {j} w h k l e f =
    subst (λ n. Turning numbers₀ at n (i + 2) (j - 2)) (sym last) (turning_more w h k l)
  where
    first : numbers₁ ≡ swapped numbers i j
    first = e ∙ sym (swap_is numbers i j 0 (omega arith) (omega arith))

    last : numbers₂ ≡ swapped (swapped numbers i j) (i + 1) (j + 1)
    last =
        f ∙ ap (λ n. swap n (i + 1) (j + 1)) first
        ∙ sym (swap_is (swapped numbers i j) (i + 1) (j + 1) 0 (omega (arith, swapped_length numbers i j)) (omega (arith, swapped_length numbers i j)))
