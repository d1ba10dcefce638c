-- What an entry goes on to for a sheet with its owners: repair, and the polygon that the boundary entry is asked for. The idea: repair has an answer exactly
-- if some triangle has an owner, and the one owner of each triangle is told by what it has to be. Assumes nothing.
use mathlib.Core.Path.{◌≡◌, sym, ◌∙◌, ap, ap₂}
use mathlib.Core.Logic.Iff
use mathlib.Core.Logic.{◌↔◌, ◌⊎◌, inl, inr}
use mathlib.Core.Bool.{◌&&◌}
use mathlib.Core.List.{List, []}
use Prim.Native.Nat.{ℕ, ◌<◌}
use native.Mathlib.Omega.{arith}
use lib.Dec.{T, leb, leb→le, le→leb}
use lib.ListN.{length, get_or}
use Rattle.whole.specs.Sums.{All}
use Rattle.whole.proofs.Sums.{and_left, and_right, and_both, all_at, all_from}
use Rattle.lent.specs.Stages.{value, refused, and_then, needing}
use Rattle.lent.specs.Answered.{Written, Outcome, bytes}
use Rattle.lent.proofs.Stages.{value_refused, chain_value, chain_refused, needing_value, needing_refused}
use Rattle.sheet_form.specs.Numbers.{Sheet}
use Rattle.judged.specs.Judged.{judged_sheet, repair_of}
use Rattle.judged.proofs.Ways.{way_value}
use Rattle.outcomes.specs.Entries.{on_sheet}
use Rattle.demands.specs.Answers.{HasOwners, NoOwner, Repaired, KnownWay, OnSheet}
use Rattle.demands.proofs.Repair
use Rattle.demands.proofs.Sets.{with_owners, has_owners}

-- ---- two answers that are one
pub same_answer : (k item : ℕ) (m l : List ℕ) → (bytes k m ≡ bytes item l) ↔ ((l ≡ m) × (item ≡ k))
same_answer k item m l = (
  λ e. let w : ◌≡◌ {A = Written} (record { item = item; text = l }) (record { item = k; text = m }) = cc e in (ap (λ w. w.text) w, ap (λ w. w.item) w),
  λ (f, i) j. bytes (sym i j) (sym f j),
)

-- ---- repair of a sheet with its owners
module _ (mode : ℕ) (s : List ℕ) (all : All (λ b. b < 256) s) (n : Sheet) (owners : List (List ℕ)) (h : HasOwners mode s n owners) where
  comes : judged_sheet mode s ≡ value (with_owners n owners)
  comes = (has_owners mode s n owners).1 h

  -- What is answered after repair in a way, and when there is none.
  module _ (way : ℕ) where
    pub repaired_is : (l : List ℕ) → (repair_of way (with_owners n owners) ≡ value l) ↔ (KnownWay way × Repaired way n owners l)
    repaired_is l = (
      λ e. let known = way_value (with_owners n owners) way l e in (known, (Repair.one_owner mode s all (with_owners n owners) comes way known l).0 e),
      λ (known, p). (Repair.one_owner mode s all (with_owners n owners) comes way known l).1 p,
    )

    pub unrepaired_is : (code item : ℕ) → (repair_of way (with_owners n owners) ≡ refused code item) ↔ (((code ≡ 54) × (item ≡ 0) × (KnownWay way → ⊥)) ⊎ ((code ≡ 30) × (item ≡ 0) × KnownWay way × NoOwner owners))
    unrepaired_is code item =
        let u = Repair.in_a_way mode s all (with_owners n owners) comes way code item in (
          λ e. elim (u.0 e) [ inl (k, c, i) ↦ inl (c, i, k) | inr (k, c, i, z) ↦ inr (c, i, k, all_from (λ o. o ≡ []) [] owners z) ],
          λ h. elim h [ inl (c, i, k) ↦ u.1 (inl (k, c, i)) | inr (c, i, k, z) ↦ u.1 (inr (k, c, i, λ t l. all_at (λ o. o ≡ []) [] owners t z l)) ],
        )

    module _ (count : List ℕ → ℕ) (f : List ℕ → List ℕ) where
      abbrev next : List ℕ → Outcome
      next o = bytes (count o) (f o)

      pub after_answers : (item : ℕ) (l : List ℕ)
          → (and_then (repair_of way (with_owners n owners)) (λ o. bytes (count o) (f o)) ≡ bytes item l) ↔ (KnownWay way × (o : List ℕ) × Repaired way n owners o × (l ≡ f o) × (item ≡ count o))
      after_answers item l = (
        λ e.
            let (o, p, q) = (chain_value (repair_of way (with_owners n owners)) next (record { item = item; text = l })).0 e in
            let (k, r) = (repaired_is o).0 p in
            let (a, b) = (same_answer (count o) item (f o) l).0 q in
            (k, o, r, a, b),
        λ (k, o, p, a, b). (chain_value (repair_of way (with_owners n owners)) next (record { item = item; text = l })).1 (o, (repaired_is o).1 (k, p), (same_answer (count o) item (f o) l).1 (a, b)),
      )

      pub after_refuses : (code item : ℕ)
          → (and_then (repair_of way (with_owners n owners)) (λ o. bytes (count o) (f o)) ≡ refused code item)
          ↔ (((code ≡ 54) × (item ≡ 0) × (KnownWay way → ⊥)) ⊎ ((code ≡ 30) × (item ≡ 0) × KnownWay way × NoOwner owners))
      after_refuses code item = (
        λ e. (unrepaired_is code item).0 (elim ((chain_refused (repair_of way (with_owners n owners)) next code item).0 e) [ inl p ↦ p | inr (o, p, q) ↦ absurd (value_refused _ code item q) ]),
        λ h. (chain_refused (repair_of way (with_owners n owners)) next code item).1 (inl ((unrepaired_is code item).1 h)),
      )

-- ---- the polygon that is asked for
asked : (n : Sheet) (k : ℕ) → T (on_sheet k n) ↔ OnSheet n k
asked n k = (
  λ t. (
    omega (arith, leb→le 1 k (and_left (leb 1 k) (leb k (length n.polygons)) t)),
    leb→le k (length n.polygons) (and_right (leb 1 k) (leb k (length n.polygons)) t),
  ),
  λ (low, high). and_both (leb 1 k) (leb k (length n.polygons)) (le→leb 1 k (omega (arith, low))) (le→leb k (length n.polygons) high),
)

pub asked_passes : (n : Sheet) (k : ℕ) → (needing (on_sheet k n) 41 0 ≡ value tt) ↔ OnSheet n k
asked_passes n k = Iff.trans (needing_value (on_sheet k n) 41 0) (asked n k)

pub asked_refused : (n : Sheet) (k code item : ℕ) → (needing (on_sheet k n) 41 0 ≡ refused code item) ↔ ((code ≡ 41) × (item ≡ 0) × (OnSheet n k → ⊥))
asked_refused n k code item = (
  λ e. let (off, c, i) = (needing_refused (on_sheet k n) 41 0 code item).0 e in (c, i, λ on. off ((asked n k).1 on)),
  λ (c, i, off). (needing_refused (on_sheet k n) 41 0 code item).1 (λ t. off ((asked n k).0 t), c, i),
)
