-- The rings by number are the rings of the boundary sides. The idea: sides with different numbers differ, so the walk by number and the walk by sides stop at the same
-- place; what has been taken and a further ring have no side in common, so there is room for it. Assumes nothing.
use mathlib.Core.Path.{◌≡◌, refl, sym, ◌∙◌, ap, ap₂, subst}
use mathlib.Core.Bool.{Bool, true, false, cond, true≢false}
use mathlib.Core.List.{List, [], ◌∷◌, ◌++◌, map}
use Prim.Native.Nat.{ℕ, zero, suc, ◌+◌, ◌-◌, ◌≤◌, ◌<◌}
use native.Mathlib.Omega.{arith}
use lib.Dec.{T, eqb, eqb→eq, eqb_refl}
use lib.ListN.{length, length-append, length-map}
use Rattle.whole.specs.Sums.{All, Among, any, count}
use Rattle.whole.proofs.Sums.{all-++, map-++, bool_iff}
use Rattle.plane.specs.Points.{Edge, same_edge}
use Rattle.plane.proofs.Points.{same_edge-eq, same_edge-refl}
use Rattle.whole_signs.proofs.Signs.{by_T}
use Rattle.plane_turning.specs.Turning.{following}
use Rattle.repair_rings.specs.Rings.{ring_of, rings_over}
use Rattle.repair_rings.proofs.Cycles.{fits, after, path, length_path, path_in, Ring, ring, Closed, single', closed', among_any}
use Rattle.repair_ring_walk.specs.Walk.{numbers_from, ring_numbers}
use Rattle.repair_ring_walk.proofs.Members.{ring_in}

-- Numbers of sides, each with another side, and the one that follows by number is the one that follows.
module _ (P : ℕ → Type 0) (side : ℕ → Edge) (f : ℕ → ℕ) (l : List Edge)
    (apart : (j k : ℕ) → P j → P k → side j ≡ side k → j ≡ k) (stays : (k : ℕ) → P k → P (f k)) (follows : (k : ℕ) → P k → side (f k) ≡ following l (side k)) where
  -- Equal by number, and by side.
  same : (j k : ℕ) → P j → P k → eqb j k ≡ same_edge (side j) (side k)
  same j k p q = bool_iff (eqb j k) (same_edge (side j) (side k))
      (λ t. subst (λ x. T (same_edge (side j) (side x))) (eqb→eq j k t) (same_edge-refl (side j))) (λ t. subst (λ x. T (eqb j x)) (apart j k p q (same_edge-eq (side j) (side k) t)) (eqb_refl j))

  -- The walk by number has the sides of the path, where it comes back to the first in so many steps and not before.
  numbers_path : (i n first k : ℕ) → P first → P k → i < n → ((j : ℕ) → j < i → after l (suc j) (side k) ≡ side first → ⊥) → after l (suc i) (side k) ≡ side first
      → map side (numbers_from n f first k) ≡ path l (suc i) (side k)
  numbers_path i zero first k p q h early back = absurd (omega arith)
  numbers_path zero (suc n) first k p q h early back = ap (λ b. side k ∷ map side (cond b [] (numbers_from n f first (f k))))
      (same (f k) first (stays k q) p ∙ ap₂ same_edge (follows k q ∙ back) refl ∙ by_T (same_edge (side first) (side first)) (same_edge-refl (side first)))
  numbers_path (suc i) (suc n) first k p q h early back = ap (λ b. side k ∷ map side (cond b [] (numbers_from n f first (f k)))) (other (same_edge (side (f k)) (side first)) (same (f k) first (stays k q) p) (same_edge-eq (side (f k)) (side first)))
      ∙ ap (λ m. side k ∷ m) (numbers_path i n first (f k) p (stays k q) (omega arith) (λ j w e. early (suc j) (omega arith) (sym (ap (after l (suc j)) (follows k q)) ∙ e)) (ap (after l (suc i)) (follows k q) ∙ back)
      ∙ ap (path l (suc i)) (follows k q))
    where
      other : (b : Bool) → eqb (f k) first ≡ b → (T b → side (f k) ≡ side first) → eqb (f k) first ≡ false
      other true e t = absurd (early 0 (omega arith) (sym (follows k q) ∙ t tt))
      other false e t = e

  in_taken : (k : ℕ) → P k → (m : List ℕ) → All P m → any (eqb k) m ≡ any (same_edge (side k)) (map side m)
  in_taken k p [] h = refl
  in_taken k p (j ∷ m) h = go (eqb k j) (same_edge (side k) (side j)) (same k j p h.0) (in_taken k p m h.1)
    where
      go : (b c : Bool) → b ≡ c → any (eqb k) m ≡ any (same_edge (side k)) (map side m) → ◌≡◌ {A = Bool} (elim b [ true ↦ true | false ↦ any (eqb k) m ]) (elim c [ true ↦ true | false ↦ any (same_edge (side k)) (map side m) ])
      go true true e r = refl
      go true false e r = absurd (true≢false e)
      go false true e r = absurd (true≢false (sym e))
      go false false e r = r

  -- ---- all rings
  module _ (listed : (k : ℕ) → P k → Among same_edge (side k) l) (closed : (e : Edge) → Among same_edge e l → Among same_edge (following l e) l)
      (injective : (e d : Edge) → Among same_edge e l → Among same_edge d l → following l e ≡ following l d → e ≡ d) where
    taken_in : (t : List ℕ) → All P t → All (λ x. Among same_edge x l) (map side t)
    taken_in [] h = tt
    taken_in (k ∷ t) h = (listed k h.0, taken_in t h.1)

    pub rings_numbered : (n : ℕ) (taken m : List ℕ) → All P taken → All P m → n + length taken ≡ length l → ((x : Edge) → count same_edge x (map side taken) ≤ 1)
        → Closed l closed injective (map side taken) → map (map side) (ring_numbers n f taken m) ≡ rings_over l (map side taken) (map side m)
    unfolding rings_over
    rings_numbered n taken [] p q size single c = refl
    rings_numbered n taken (k ∷ m) p q size single c = go (any (same_edge (side k)) (map side taken)) refl
        (rings_numbered n taken m p q.1 size single c) (λ s z i d. rings_numbered (n - length (numbers_from n f k k)) (numbers_from n f k k ++ taken) m s q.1 z i d)
      where
        e : Edge
        e = side k

        h : Among same_edge e l
        h = listed k q.0

        r : Ring l closed injective e
        r = ring l closed injective e h

        go : (b : Bool) → any (same_edge e) (map side taken) ≡ b → map (map side) (ring_numbers n f taken m) ≡ rings_over l (map side taken) (map side m)
            → (All P (numbers_from n f k k ++ taken) → n - length (numbers_from n f k k) + length (numbers_from n f k k ++ taken) ≡ length l
            → ((x : Edge) → count same_edge x (map side (numbers_from n f k k ++ taken)) ≤ 1) → Closed l closed injective (map side (numbers_from n f k k ++ taken))
            → map (map side) (ring_numbers (n - length (numbers_from n f k k)) f (numbers_from n f k k ++ taken) m) ≡ rings_over l (map side (numbers_from n f k k ++ taken)) (map side m))
            → map (map side) (ring_numbers n f taken (k ∷ m)) ≡ cond b (rings_over l (map side taken) (map side m)) (ring_of l e ∷ rings_over l (ring_of l e ++ map side taken) (map side m))
        go true t rest more = ap (λ b. map (map side) (cond b (ring_numbers n f taken m) (numbers_from n f k k ∷ ring_numbers (n - length (numbers_from n f k k)) f (numbers_from n f k k ++ taken) m))) (in_taken k q.0 taken p ∙ t) ∙ rest
        go false t rest more =
            ap (λ b. map (map side) (cond b (ring_numbers n f taken m) (numbers_from n f k k ∷ ring_numbers (n - length (numbers_from n f k k)) f (numbers_from n f k k ++ taken) m))) (in_taken k q.0 taken p ∙ t)
            ∙ ap₂ (λ a b. a ∷ b) walked (more (all-++ P (numbers_from n f k k) taken (ring_in P f stays n k k q.0) p) fuel
            (λ x. subst (λ s. count same_edge x s ≤ 1) (sym sides_both) (single' l closed injective e h (map side taken) fresh single c x)) (subst (Closed l closed injective) (sym sides_both) (closed' l closed injective e h (map side taken) fresh single c))
            ∙ ap (λ s. rings_over l s (map side m)) sides_both)
          where
            fresh : count same_edge e (map side taken) ≡ 0
            fresh = among_any l closed injective e (map side taken) false t

            room : suc r.k + length taken ≤ length l
            room = omega (
              arith,
              fits (ring_of l e ++ map side taken) l inside (single' l closed injective e h (map side taken) fresh single c),
              length-append (ring_of l e) (map side taken),
              length-map taken side,
              ap length r.is,
              length_path l (suc r.k) e,
            )
              where
                inside : All (λ x. Among same_edge x l) (ring_of l e ++ map side taken)
                inside = all-++ (λ x. Among same_edge x l) (ring_of l e) (map side taken) (subst (All (λ x. Among same_edge x l)) (sym r.is) (path_in l closed injective (suc r.k) e h)) (taken_in taken p)

            walked : map side (numbers_from n f k k) ≡ ring_of l e
            walked = numbers_path r.k n k k q.0 q.0 (omega (arith, room, size)) r.early r.back ∙ sym r.is

            long : length (numbers_from n f k k) ≡ suc r.k
            long = sym (length-map (numbers_from n f k k) side) ∙ ap length (walked ∙ r.is) ∙ length_path l (suc r.k) e

            fuel : n - length (numbers_from n f k k) + length (numbers_from n f k k ++ taken) ≡ length l
            fuel = omega (arith, long, room, size, length-append (numbers_from n f k k) taken)

            sides_both : map side (numbers_from n f k k ++ taken) ≡ ring_of l e ++ map side taken
            sides_both = map-++ side (numbers_from n f k k) taken ∙ ap (λ s. s ++ map side taken) walked
