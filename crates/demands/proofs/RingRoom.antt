-- Request No. 11, how much room for rings: the entry that tells it, and the entry of rings, lent so many bytes. The idea: both come to the same lines, and 40 is given exactly where
-- the bytes are longer than those lent. Assumes nothing.
use mathlib.Core.Path.{◌≡◌, refl, sym, ◌∙◌, ap}
use mathlib.Core.Logic.Iff
use mathlib.Core.Logic.{◌↔◌}
use mathlib.Core.List.{List, []}
use Prim.Native.Nat.{ℕ, ◌*◌, ◌/◌, ◌%◌, ◌≤◌, ◌<◌}
use native.Mathlib.Omega.{arith}
use borrow.Author.Tests.{le-leb, lt-leb}
use lib.ListN.{length}
use Rattle.whole.specs.Sums.{All}
use Rattle.lent.specs.Stages.{value, refused}
use Rattle.lent.specs.Answered.{Outcome, bytes, answer_of, Answered}
use Rattle.repair_rings.specs.Rings.{lines, rings as rings_of}
use Rattle.wkb_lines.specs.Room.{room_of, most_room}
use Rattle.sheet_form.specs.Numbers.{Sheet}
use Rattle.sheet_ring_bytes.specs.Lines.{line_bytes}
use Rattle.outcomes.specs.Entries.{owned_sides}
use Rattle.demands.specs.Answers.{HasOwners, OnSheet, KnownWay, Repaired}
use Rattle.demands.specs.Entries.{boundary, rings, ring_room, outcome_of}
use Rattle.demands.proofs.Sets.{owners_each}
use Rattle.demands.proofs.After.{same_answer}
use Rattle.demands.proofs.Listed.{code_fits, outcome_listed}
use Rattle.demands.proofs.Rings.{exact_room, most_room_lem}
use Rattle.demands.proofs.Answers.{boundary_answers, boundary_refuses, rings_answers, rings_refuses, ring_room_answers, ring_room_refuses}
use Rattle.demands.proofs.Room.{too_long}

module _ (mode : ℕ) (s : List ℕ) (all : All (λ b. b < 256) s) (way k : ℕ) where
  each : (n : Sheet) (sets : List (List ℕ)) → HasOwners mode s n sets → (o : List ℕ) → Repaired way n sets o → length o ≡ length n.table
  each n sets h o p = omega (arith, p.0.each, owners_each h)

  -- ---- sheet_ring_room and sheet_rings
  -- "The exact number, 9 + 16·S + 25 for each ring, is wanted before writing": where the boundary entry answers, with S sides, the item is that of S sides in so many rings (`room_of`),
  pub exact_number : (item : ℕ) (l : List ℕ) → (outcome_of (ring_room mode way k) s ≡ bytes item l) ↔ ((n : Sheet) × (sets : List (List ℕ)) × HasOwners mode s n sets × OnSheet n k × KnownWay way
      × (o : List ℕ) × Repaired way n sets o × (l ≡ []) × (item ≡ room_of (length (owned_sides n k o)) (length (rings_of (owned_sides n k o)))))
  exact_number item l = Iff.trans (ring_room_answers mode s all way k item l) (
    λ (n, sets, h, on, known, o, p, e, i). (n, sets, h, on, known, o, p, e, i ∙ exact_room n.table h.passes o (each n sets h o p) k),
    λ (n, sets, h, on, known, o, p, e, i). (n, sets, h, on, known, o, p, e, i ∙ sym (exact_room n.table h.passes o (each n sets h o p) k)),
  )

  -- "tied to the bytes written": it answers exactly if the entry of rings comes to as many bytes as its item says, writing none itself,
  pub room_told : (item : ℕ) (l : List ℕ) → (outcome_of (ring_room mode way k) s ≡ bytes item l) ↔ ((l ≡ []) × (m : List ℕ) × (outcome_of (rings mode way k) s ≡ bytes item m) × (length m ≡ item))
  room_told item l = (
    λ q.
        let (n, sets, h, on, known, o, p, e, i) = (ring_room_answers mode s all way k item l).0 q in
        (e, line_bytes (lines (owned_sides n k o)), (rings_answers mode s all way k item _).1 (n, sets, h, on, known, o, p, refl, i), sym i),
    λ (e, m, q, size). let (n, sets, h, on, known, o, p, f, i) = (rings_answers mode s all way k item m).0 q in (ring_room_answers mode s all way k item l).1 (n, sets, h, on, known, o, p, e, i),
  )

  -- and it is refused exactly as that one, and as the boundary entry.
  pub refused_alike : (code item : ℕ) → (outcome_of (ring_room mode way k) s ≡ refused code item) ↔ (outcome_of (rings mode way k) s ≡ refused code item)
  refused_alike code item = Iff.trans (ring_room_refuses mode s all way k code item) (Iff.symm (rings_refuses mode s all way k code item))

  pub refused_as_boundary : (code item : ℕ) → (outcome_of (ring_room mode way k) s ≡ refused code item) ↔ (outcome_of (boundary mode way k) s ≡ refused code item)
  refused_as_boundary code item = Iff.trans (ring_room_refuses mode s all way k code item) (Iff.symm (boundary_refuses mode s all way k code item))

  -- "For a member with S boundary sides, .. the ring writer of No. 3 never writes more than 9 + 16·S + 25·(S / 3, rounded down) bytes": S is what the boundary entry has as its item (`most_room`).
  pub never_more : (sides : ℕ) (l : List ℕ) → outcome_of (boundary mode way k) s ≡ bytes sides l → (item : ℕ) (m : List ℕ) → outcome_of (rings mode way k) s ≡ bytes item m → length m ≤ most_room sides
  never_more sides l b item m q =
      let (n, sets, h, on, known, o, p, e, i) = (boundary_answers mode s all way k sides l).0 b in
      let same = (same_answer _ item _ m).0 (sym ((rings_answers mode s all way k _ _).1 (n, sets, h, on, known, o, p, refl, refl)) ∙ q) in
      omega (arith, ap length same.0, i, most_room_lem n.table h.passes o (each n sets h o p) k)

  -- ---- a call of sheet_rings, answered r
  module _ (before : List ℕ) (r : ℕ) (after : List ℕ) (a : Answered (outcome_of (rings mode way k) s) before r after) where
    -- "and .. a buffer of this length is never refused 40".
    pub enough_room : (sides : ℕ) (l : List ℕ) → outcome_of (boundary mode way k) s ≡ bytes sides l → most_room sides ≤ length before → r % 256 ≡ 40 → ⊥
    enough_room sides l b h z = let (item, m, q, short) = (too_long s all (rings mode way k) before r after a).0 z in omega (arith, never_more sides l b item m q)

    -- A call of sheet_ring_room, answered t: where it isn't refused, lent as many bytes as its item says, or where it is, the entry of rings answers the same,
    module _ (t : ℕ) (told : t ≡ answer_of (outcome_of (ring_room mode way k) s) []) where
      pub exactly_enough : (t % 256 ≡ 0 → t / 256 ≤ length before) → r ≡ t
      exactly_enough h = go (outcome_of (ring_room mode way k) s) refl told
        where
          go : (o : Outcome) → outcome_of (ring_room mode way k) s ≡ o → t ≡ answer_of o [] → r ≡ t
          go (refused code item) q w = a.answer ∙ ap (λ o. answer_of o before) ((refused_alike code item).0 q) ∙ sym w
          go (value w) q e =
              let (none, m, p, size) = (room_told w.item w.text).0 q in
              let known : t ≡ w.item * 256 = e ∙ ap (λ l. answer_of (bytes w.item l) []) none in
              a.answer ∙ ap (λ o. answer_of o before) p ∙ rw (le-leb (length m) (length before) (omega (arith, size, known, h (omega (arith, known))))) (sym known)

      -- and lent one byte less, or fewer, 40.
      pub less_refused : t % 256 ≡ 0 → length before < t / 256 → r ≡ 40
      less_refused z h = go (outcome_of (ring_room mode way k) s) refl told
        where
          go : (o : Outcome) → outcome_of (ring_room mode way k) s ≡ o → t ≡ answer_of o [] → r ≡ 40
          go (refused code item) q w = absurd (omega (arith, w, code_fits code item (outcome_listed s all (ring_room mode way k) code item q)))
          go (value w) q e =
              let (none, m, p, size) = (room_told w.item w.text).0 q in
              let known : t ≡ w.item * 256 = e ∙ ap (λ l. answer_of (bytes w.item l) []) none in
              a.answer ∙ ap (λ o. answer_of o before) p ∙ rw (lt-leb (length m) (length before) (omega (arith, size, known))) refl
