-- The judging of the polygons in number order: the first that no set of triangles carries, or that has no ground, is the one that the sheet is refused for.
-- Assumes nothing.
use mathlib.Core.Path.{◌≡◌, refl, sym, ◌∙◌, ap, subst}
use mathlib.Core.Logic.{◌↔◌, ◌⊎◌, inl, inr}
use mathlib.Core.Bool.{Bool}
use mathlib.Core.List.{List, [], ◌∷◌}
use Prim.Native.Nat.{ℕ, zero, suc, ◌-◌, ◌≤◌, ◌<◌}
use native.Mathlib.Omega.{arith}
use native.Mathlib.Decide.{dec_le}
use lib.ListN.{length, get_or}
use Rattle.plane.specs.Points.{Triangle}
use Rattle.plane.specs.Members.{Member}
use Rattle.lent.specs.Stages.{Answer, value, refused}
use Rattle.table.specs.Table.{frame_edges, RuleA, RuleB, check_table}
use Rattle.table.proofs.Rules.{passes}
use Rattle.owners.specs.Judging.{Groundless, Judged, carried as carried_by, not_carried, no_ground, judge}
use Rattle.owners.specs.Owners.{judge_from}
use Rattle.owners.proofs.Carried.{answered, not_carried_lem, no_ground_lem}
use Rattle.owners.proofs.Polygons.{Refuses, FirstRefused, all_carried, first_refused, each_at}
use Rattle.demands.specs.Polygons.{NoSet, Sound, polygon, FirstFaulty}

-- A polygon that stands so far down the list is refused with the code, and those before it are carried.
refused_at : (table : List Triangle) (ms : List Member) (j c : ℕ) → FirstRefused table ms j c
    → (j < length ms) × Refuses (judge table (get_or ms j [])) c × ((i : ℕ) → i < j → (s : List Bool) × (judge table (get_or ms i []) ≡ carried_by s))
refused_at table [] j c h = absurd h
refused_at table (m ∷ ms) zero c h = (omega arith, h, λ i l. absurd (omega arith))
refused_at table (m ∷ ms) (suc j) c h = let r = refused_at table ms j c h.1 in (omega (arith, r.0), r.1, before r.2)
  where
    before : ((i : ℕ) → i < j → (s : List Bool) × (judge table (get_or ms i []) ≡ carried_by s)) → (i : ℕ) → i < suc j → (s : List Bool) × (judge table (get_or (m ∷ ms) i []) ≡ carried_by s)
    before f zero l = h.0
    before f (suc i) l = f i (omega arith)

module _ (table : List Triangle) (e : check_table (frame_edges table) table ≡ value tt) (ms : List Member) where
  area : RuleA table
  area = ((passes (frame_edges table) table).0 e).0

  once : RuleB table
  once = ((passes (frame_edges table) table).0 e).1

  sound : (m : Member) → (s : List Bool) × (judge table m ≡ carried_by s) → Sound table m
  sound m h = let o = answered table m area once h.0 h.1 in ((h.0, o.of_table, o.carries), o.ground)

  -- What refuses a polygon: no set carries it, with 20, or it has no ground, with 21.
  faulty : (m : Member) (j : Judged) (c : ℕ) → judge table m ≡ j → Refuses j c → ((c ≡ 20) × NoSet table m) ⊎ ((c ≡ 21) × Groundless table m)
  faulty m (carried_by s) c q r = absurd (r.1 s refl)
  faulty m not_carried c q r = inl (r.0, (not_carried_lem table m area once).0 q)
  faulty m no_ground c q r = inr (r.0, (no_ground_lem table m area once).0 q)

  -- The polygon that the sheet is refused for is the first that has a fault.
  pub is_first : (c k : ℕ) → judge_from table 1 ms ≡ refused c k → ((c ≡ 20) × FirstFaulty NoSet table ms k) ⊎ ((c ≡ 21) × FirstFaulty Groundless table ms k)
  is_first c k q =
      let (j, i, f) = (first_refused table ms c k).0 q in
      let (h, r, before) = refused_at table ms j c f in
      elim (faulty (get_or ms j []) (judge table (get_or ms j [])) c refl r) [ inl (n, g) ↦ inl (n, first NoSet j k i h before g) | inr (n, g) ↦ inr (n, first Groundless j k i h before g) ]
    where
      first : (Fault : List Triangle → Member → Type 0) (j k : ℕ) → k ≡ suc j → j < length ms → ((i : ℕ) → i < j → (s : List Bool) × (judge table (get_or ms i []) ≡ carried_by s))
          → Fault table (get_or ms j []) → FirstFaulty Fault table ms k
      first Fault j k i h before f =
          let z : j ≡ k - 1 = omega arith in
          record { low = omega arith; high = omega arith; fault = subst (λ i. Fault table (get_or ms i [])) z f; before = λ l a b. sound (polygon ms l) (before (l - 1) (omega arith)) }

  -- A sound polygon has no fault.
  sound_set : (m : Member) → Sound table m → NoSet table m → ⊥
  sound_set m ((s, l, h), g) n = n s l h

  sound_ground : (m : Member) → Sound table m → Groundless table m → ⊥
  sound_ground m (h, g) = g

  -- And the other way round, for a fault that no sound polygon has, and that no polygon has together with the other.
  module _ (Fault Other : List Triangle → Member → Type 0) (c d : ℕ) (fails : (m : Member) → Sound table m → Fault table m → ⊥) (other : (m : Member) → Sound table m → Other table m → ⊥)
      (apart : (m : Member) → Fault table m → Other table m → ⊥) (says : (a k : ℕ) → judge_from table 1 ms ≡ refused a k → ((a ≡ c) × FirstFaulty Fault table ms k) ⊎ ((a ≡ d) × FirstFaulty Other table ms k)) where
    first_is : (k : ℕ) → FirstFaulty Fault table ms k → judge_from table 1 ms ≡ refused c k
    first_is k h = go (judge_from table 1 ms) refl
      where
        -- No polygon before it has a fault, and it has no other.
        same : (i : ℕ) → FirstFaulty Fault table ms i → Dec (i ≤ k) → Dec (k ≤ i) → i ≡ k
        same i f (yes a) (yes b) = omega arith
        same i f (yes a) (no b) = absurd (fails (polygon ms i) (h.before i f.low (omega arith)) f.fault)
        same i f (no a) b = absurd (fails (polygon ms k) (f.before k h.low (omega arith)) h.fault)

        never : (i : ℕ) → FirstFaulty Other table ms i → Dec (i ≤ k) → Dec (k ≤ i) → ⊥
        never i f (yes a) (yes b) = let z : i ≡ k = omega arith in apart (polygon ms k) h.fault (subst (λ i. Other table (polygon ms i)) z f.fault)
        never i f (yes a) (no b) = other (polygon ms i) (h.before i f.low (omega arith)) f.fault
        never i f (no a) b = fails (polygon ms k) (f.before k h.low (omega arith)) h.fault

        go : (o : Answer (List (List Bool))) → judge_from table 1 ms ≡ o → o ≡ refused c k
        go (value l) q =
            absurd (fails (polygon ms k) (sound (polygon ms k) (get_or l (k - 1) [], each_at table area once ms l ((all_carried table ms l).0 q) (k - 1) (omega (arith, h.low, h.high)))) h.fault)
        go (refused a i) q = elim (says a i q) [ inl (n, f) ↦ λ d. refused (n d) (same i f (dec_le i k) (dec_le k i) d) | inr (n, f) ↦ absurd (never i f (dec_le i k) (dec_le k i)) ]

  -- A polygon without ground is carried by the set of no triangles, so that it has one fault only.
  one_fault : (m : Member) → NoSet table m → Groundless table m → ⊥
  one_fault m n g = let z : not_carried ≡ no_ground = sym ((not_carried_lem table m area once).1 n) ∙ (no_ground_lem table m area once).1 g in let w : ◌≡◌ {A = ℕ} 0 1 = cc z in omega arith

  pub first_no_set : (k : ℕ) → FirstFaulty NoSet table ms k → judge_from table 1 ms ≡ refused 20 k
  first_no_set = first_is NoSet Groundless 20 21 sound_set sound_ground one_fault is_first

  pub first_no_ground : (k : ℕ) → FirstFaulty Groundless table ms k → judge_from table 1 ms ≡ refused 21 k
  first_no_ground = first_is Groundless NoSet 21 20 sound_ground sound_set (λ m g n. one_fault m n g) (λ a k q. elim (is_first a k q) [ inl x ↦ inr x | inr x ↦ inl x ])
