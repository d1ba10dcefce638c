-- The rings that a program finds, going through the sides in order and leaving out those that a ring has, are `rings`: those from the sides that lead their rings.
-- The idea: a side is taken exactly if a side before it is in its ring. Assumes nothing.
use mathlib.Core.Path.{◌≡◌, refl, sym, ◌∙◌, ap, subst}
use mathlib.Core.Logic.{◌↔◌}
use mathlib.Core.Bool.{Bool, true, false, not, cond}
use mathlib.Core.List.{List, [], ◌∷◌, ◌++◌, map, append_assoc, append-nil}
use Prim.Native.Nat.{ℕ, zero, suc, ◌+◌, ◌≤◌, ◌<◌}
use native.Mathlib.Omega.{arith}
use native.Mathlib.Decide.{dec_le}
use lib.Dec.{T, leb, leb→le, le→leb}
use lib.ListN.{length}
use Rattle.whole.specs.Sums.{Among, any, bit, passing}
use Rattle.whole.proofs.Sums.{bool_iff, counted, all_counted, every_all, all_every}
use Rattle.plane.specs.Points.{Edge, same_edge}
use Rattle.plane.proofs.Points.{same_edge-eq, same_edge-refl}
use Rattle.table.specs.Opposites.{found_at, later}
use Rattle.repair_rings.specs.Rings.{ring_of, leads, rings, rings_over}
use Rattle.repair_rings.proofs.Cycles.{#, add, self, f, after, after_add, Reaches, closed_after, ring_first, ring_next, ring_in, ring_back, ring_reach, among_any}

-- ---- the place of a side in a list
found_early : (y : Edge) (pre m : List Edge) → Among same_edge y pre → (1 ≤ found_at y (pre ++ m)) × (found_at y (pre ++ m) ≤ length pre)
found_early y [] m h = absurd (omega arith)
found_early y (p ∷ pre) m h = go (same_edge p y) h (found_early y pre m)
  where
    next : (n : ℕ) → 1 ≤ n → later n ≡ suc n
    next zero h = absurd (omega arith)
    next (suc n) h = refl

    go : (b : Bool) → 1 ≤ bit b + # y pre → (Among same_edge y pre → (1 ≤ found_at y (pre ++ m)) × (found_at y (pre ++ m) ≤ length pre))
        → (1 ≤ cond b 1 (later (found_at y (pre ++ m)))) × (cond b 1 (later (found_at y (pre ++ m))) ≤ suc (length pre))
    go true h r = (omega arith, omega arith)
    go false h r = let s = r (omega arith) in (omega (arith, next (found_at y (pre ++ m)) s.0), omega (arith, next (found_at y (pre ++ m)) s.0, s.1))

found_later : (x : Edge) (pre m : List Edge) → # x pre ≡ 0 → 1 ≤ found_at x m → found_at x (pre ++ m) ≡ length pre + found_at x m
found_later x [] m n h = omega arith
found_later x (p ∷ pre) m n h = go (same_edge p x) n (found_later x pre m)
  where
    go : (b : Bool) → bit b + # x pre ≡ 0 → (# x pre ≡ 0 → 1 ≤ found_at x m → found_at x (pre ++ m) ≡ length pre + found_at x m) → cond b 1 (later (found_at x (pre ++ m))) ≡ suc (length pre) + found_at x m
    go true n r = absurd (omega arith)
    go false n r = let s = r (omega arith) h in next (found_at x (pre ++ m)) s
      where
        next : (k : ℕ) → k ≡ length pre + found_at x m → later k ≡ suc (length pre) + found_at x m
        next zero s = absurd (omega arith)
        next (suc k) s = omega arith

found_some : (x : Edge) (m : List Edge) → Among same_edge x m → 1 ≤ found_at x m
found_some x m h = let s = (found_early x m [] h).0 in subst (λ k. 1 ≤ found_at x k) (append-nil m) s

-- ---- going through the sides
module _ (l : List Edge) (closed : (e : Edge) → Among same_edge e l → Among same_edge (f l e) l)
    (injective : (e d : Edge) → Among same_edge e l → Among same_edge d l → f l e ≡ f l d → e ≡ d) (once : (x : Edge) → # x l ≤ 1) where
  infix 10 ◌⇒◌
  abbrev ◌⇒◌ : Edge → Edge → Type 0
  y ⇒ x = Reaches l closed injective y x

  reach_in : (e x : Edge) → Among same_edge e l → e ⇒ x → Among same_edge x (ring_of l e)
  reach_in e x h s = subst (λ y. Among same_edge y (ring_of l e)) s.1 (closed_after l closed injective (ring_of l e) (ring_next l closed injective e h) s.0 e (ring_first l closed injective e h))

  reach_back : (e x : Edge) → Among same_edge e l → e ⇒ x → x ⇒ e
  reach_back e x h s = ring_back l closed injective e h x (reach_in e x h s)

  reach_on : (e x y : Edge) → e ⇒ x → x ⇒ y → e ⇒ y
  reach_on e x y s t = (t.0 + s.0, after_add l t.0 s.0 e ∙ ap (after l t.0) s.1 ∙ t.1)

  -- The taken sides are those that a side before the present one reaches.
  abbrev Taken : (pre taken : List Edge) → Type 0
  Taken pre taken = (x : Edge) → Among same_edge x taken ↔ ((y : Edge) × Among same_edge y pre × (y ⇒ x))

  module _ (pre : List Edge) (e : Edge) (m taken : List Edge) (parts : l ≡ pre ++ e ∷ m) (so : Taken pre taken) where
    counts : (x : Edge) → # x l ≡ # x pre + (bit (same_edge e x) + # x m)
    counts x = ap (# x) parts ∙ add x pre (e ∷ m)

    here : Among same_edge e l
    here = omega (arith, counts e, self e)

    place : found_at e l ≡ suc (length pre)
    place = ap (found_at e) parts ∙ found_later e pre (e ∷ m) (omega (arith, counts e, self e, once e)) (found_some e (e ∷ m) (omega (arith, self e)))
        ∙ omega (arith, first (same_edge e e) (same_edge-refl e))
      where
        first : (b : Bool) → T b → ◌≡◌ {A = ℕ} (cond b 1 (later (found_at e m))) 1
        first true t = refl
        first false t = absurd t

    earlier : (y : Edge) → Among same_edge y pre → found_at y l < found_at e l
    earlier y h = omega (arith, place, ap (found_at y) parts, (found_early y pre (e ∷ m) h).1)

    not_earlier : (x : Edge) → Among same_edge x l → # x pre ≡ 0 → found_at e l ≤ found_at x l
    not_earlier x h n = let i = found_some x (e ∷ m) (omega (arith, counts x)) in omega (arith, place, ap (found_at x) parts, found_later x pre (e ∷ m) n i)

    leads_if : # e taken ≡ 0 → T (leads l e)
    leads_if n = all_every (λ x. leb (found_at e l) (found_at x l)) (λ x. Among same_edge x (ring_of l e)) go (ring_of l e) (all_counted same_edge same_edge-eq same_edge-refl (ring_of l e))
      where
        go : (x : Edge) → Among same_edge x (ring_of l e) → T (leb (found_at e l) (found_at x l))
        go x i = le→leb (found_at e l) (found_at x l) (not_earlier x (ring_in l closed injective e here x i) (none (dec_le 1 (# x pre))))
          where
            none : Dec (1 ≤ # x pre) → # x pre ≡ 0
            none (yes p) = absurd (omega (arith, (so e).1 (x, p, ring_back l closed injective e here x i)))
            none (no p) = omega arith

    leads_not : Among same_edge e taken → T (leads l e) → ⊥
    leads_not i t =
        let s = (so e).0 i in
        let y = s.0 in
        let y-in : Among same_edge y l = omega (arith, counts y, s.1) in
        let k = counted same_edge same_edge-eq same_edge-refl (λ x. T (leb (found_at e l) (found_at x l))) y (ring_of l e) (reach_in e y here (reach_back y e y-in s.2))
        (every_all (λ x. leb (found_at e l) (found_at x l)) (λ x. T (leb (found_at e l) (found_at x l))) (λ x t. t) (ring_of l e) t) in
        omega (arith, leb→le (found_at e l) (found_at y l) k, earlier y s.1)

    leads_is : (b : Bool) → cond b (Among same_edge e taken) (# e taken ≡ 0) → leads l e ≡ not b
    leads_is true i = bool_iff (leads l e) false (leads_not i) (λ t. absurd t)
    leads_is false n = bool_iff (leads l e) true (λ t. tt) (λ t. leads_if n)

    last : (y : Edge) → Among same_edge y (pre ++ e ∷ []) → Dec (1 ≤ # y pre) → (Among same_edge y pre → ⊥) → e ≡ y
    last y h d n = go (same_edge e y) (same_edge-eq e y) (omega (arith, add y pre (e ∷ [])))
      where
        go : (b : Bool) → (T b → e ≡ y) → 1 ≤ # y pre + (bit b + 0) → e ≡ y
        go true p h = p tt
        go false p h = absurd (n (omega arith))

    -- One side more.
    taken_more : (b : Bool) → cond b (Among same_edge e taken) (# e taken ≡ 0) → Taken (pre ++ e ∷ []) (cond b taken (ring_of l e ++ taken))
    taken_more true i x = (
      λ h. let s = (so x).0 h in (s.0, omega (arith, s.1, add s.0 pre (e ∷ [])), s.2),
      λ h. go h.0 h.1 h.2 (dec_le 1 (# h.0 pre)),
    )
      where
        go : (y : Edge) → Among same_edge y (pre ++ e ∷ []) → y ⇒ x → Dec (1 ≤ # y pre) → Among same_edge x taken
        go y a r (yes p) = (so x).1 (y, p, r)
        go y a r (no p) = let s = (so e).0 i in (so x).1 (s.0, s.1, reach_on s.0 e x s.2 (subst (λ z. z ⇒ x) (sym (last y a (no p) p)) r))
    taken_more false n x = (λ h. there (dec_le 1 (# x (ring_of l e))) h, λ h. go h.0 h.1 h.2 (dec_le 1 (# h.0 pre)))
      where
        there : Dec (1 ≤ # x (ring_of l e)) → Among same_edge x (ring_of l e ++ taken) → (y : Edge) × Among same_edge y (pre ++ e ∷ []) × (y ⇒ x)
        there (yes p) h = (e, omega (arith, self e, add e pre (e ∷ [])), ring_reach l closed injective e here x p)
        there (no p) h = let s = (so x).0 (omega (arith, add x (ring_of l e) taken)) in (s.0, omega (arith, s.1, add s.0 pre (e ∷ [])), s.2)

        go : (y : Edge) → Among same_edge y (pre ++ e ∷ []) → y ⇒ x → Dec (1 ≤ # y pre) → Among same_edge x (ring_of l e ++ taken)
        go y a r (yes p) = omega (arith, (so x).1 (y, p, r), add x (ring_of l e) taken)
        go y a r (no p) = omega (arith, reach_in e x here (subst (λ z. z ⇒ x) (sym (last y a (no p) p)) r), add x (ring_of l e) taken)

  over : (pre m taken : List Edge) → l ≡ pre ++ m → Taken pre taken → rings_over l taken m ≡ map (ring_of l) (passing (leads l) m)
  unfolding rings_over
  over pre [] taken parts so = refl
  over pre (e ∷ m) taken parts so = go (any (same_edge e) taken) (among_any l closed injective e taken (any (same_edge e) taken) refl)
      (λ t k. over (pre ++ e ∷ []) m t (parts ∙ sym (append_assoc pre (e ∷ []) m)) k)
    where
      go : (b : Bool) → cond b (Among same_edge e taken) (# e taken ≡ 0)
          → ((t : List Edge) → Taken (pre ++ e ∷ []) t → rings_over l t m ≡ map (ring_of l) (passing (leads l) m))
          → cond b (rings_over l taken m) (ring_of l e ∷ rings_over l (ring_of l e ++ taken) m) ≡ map (ring_of l) (cond (leads l e) (e ∷ passing (leads l) m) (passing (leads l) m))
      go true i r = rw (leads_is pre e m taken parts so true i) (r taken (taken_more pre e m taken parts so true i))
      go false i r = rw (leads_is pre e m taken parts so false i) (ap (λ k. ring_of l e ∷ k) (r (ring_of l e ++ taken) (taken_more pre e m taken parts so false i)))

  pub in_turn : rings_over l [] l ≡ rings l
  unfolding rings
  in_turn = over [] l [] refl (λ x. (λ h. absurd (omega arith), λ h. absurd (omega (arith, h.1))))
