-- Request No. 5: "Every reading step shall also tell the byte position it began at, and every refusal with code 1 to 8 that of the field at fault".
-- The idea: reading is refused exactly if it comes to a place where something is wrong, and what is wrong there has its position. Assumes nothing.
use mathlib.Core.Path.{◌≡◌, refl, sym, ◌∙◌, ap, ap₂, subst}
use mathlib.Core.Logic.{◌↔◌, inl, inr, ⊎_elim}
use mathlib.Core.Bool.{Bool, true, false}
use mathlib.Core.List.{List, ◌++◌}
use mathlib.Core.Option.{Option, none, some, none-ne-some}
use Prim.Native.Nat.{ℕ, ◌+◌, ◌*◌, ◌≤◌, ◌<◌}
use native.Mathlib.Omega.{arith}
use borrow.Author.Tests.{eqb-true, eqb-false, ne_eqb, le-leb}
use lib.Dec.{eqb}
use lib.ListN.{length, take, length-drop}
use Rattle.whole.specs.Sums.{All}
use Rattle.whole.proofs.Sums.{all_take}
use Rattle.wkb.specs.declared.Cursor.{Cursor}
use Rattle.wkb.specs.declared.Step.TheVariants.{Refused as StepRefused}
use Rattle.wkb.specs.Steps.{told_at}
use Rattle.wkb.specs.Faults.{Fault as StepFault, item_at}
use Rattle.lent.specs.declared.Reason.{Reason}
use Rattle.lent.specs.Refusals.{code_of}
use Rattle.lent.specs.Stages.{value, refused}
use Rattle.lent.proofs.Stages.{value_refused, same_refusal}
use Rattle.lent.specs.Answered.{Written, Outcome, answer_of}
use Rattle.sheet_form.specs.Numbers.{Sheet, members}
use Rattle.sheet.specs.Reading.{reading_of}
use Rattle.sheet.specs.Read.{read_sheet}
use Rattle.sheet.proofs.Run
use Rattle.sheet_positions.specs.Faults.{FaultIn}
use Rattle.sheet_positions.proofs.Steps as steps
use Rattle.sheet_positions.proofs.Exactly.{refused_exactly, within_bytes}
use Rattle.sheet_positions.proofs.Front.{front_read}
use Rattle.sheet_written.proofs.Held.{read_refused, read_held}
use Rattle.sheet_blob.specs.declared.Opened.{Opened}
use Rattle.std.specs.Prelude.{Ok, Err}
use Rattle.sheet_blob.specs.Opening.{Opening, fault, opening_of}
use Rattle.sheet_blob.specs.Faults.{Fault}
use Rattle.sheet_blob.proofs.Refusals.{begins_within, refused_exactly as header_refused}
use Rattle.sheet_modes.specs.Modes.{Form, plain, blob, Mode, mode_of, headed, around, behind, begins, header_by, read_by, position_in}
use Rattle.sheet_modes.proofs.Modes.{all_behind, by_refused, in_mode_refused, mode_unknown}
use Rattle.sheet_modes.proofs.Outcome.{position_behind, position_of_header}
use Rattle.outcomes.specs.declared.Wanted.{Wanted}
use Rattle.outcomes.specs.declared.Wanted.TheVariants.{OwnerSets, Owners, Boundary, Rings, RingRoom, At}
use Rattle.outcomes.specs.Entries.{first_of, form_of, with_room, telling, sheet_position}
use Rattle.outcomes.proofs.Position.{position_refused, nowhere}
use Rattle.demands.specs.Answers.{OtherEnvelope, Refused, PolygonRefused, unread, breaks_a, breaks_b, breaks_c, unframed, not_carried, no_ground}
use Rattle.demands.specs.Positions.{NextAfter, Enough, OfReading, ReadsSheet}
use Rattle.demands.specs.Entries.{Entry, numbers, areas, position, write, write_blob, owner_sets, owners, boundary, rings, ring_room, listing, owner_at, index, indexed, outcome_of}
use Rattle.demands.specs.Index.{without}
use Rattle.demands.proofs.Index.{index_refuses, before_index, same_or_53}
use Rattle.demands.proofs.Stages.{not_between, not_above, read_opened}
use Rattle.demands.proofs.Answers.{numbers_answers, numbers_refuses, areas_refuses, owner_sets_refuses, owners_refuses, boundary_refuses, rings_refuses, ring_room_refuses}
use Rattle.demands.proofs.Points.{at_refuses}

-- ---- a step
-- A step tells the place that it began at,
pub began : (s : List ℕ) (c : Cursor) → (told_at s c).began ≡ c.at
began s c = refl

-- the next place is 9 bytes ahead behind a header, 4 behind a ring's count, 16 behind a point, and within the bytes,
pub next_place : (s : List ℕ) (c : Cursor) → NextAfter s c (told_at s c).step
next_place s c = Run.step_moved s c

-- and it is refused exactly if a field is at fault there: with the fault's code and the byte that the field begins at, the code's item, and the same place.
pub step_refused : (s : List ℕ) (c : Cursor) (code item field : ℕ) (d : Cursor)
    → ((reason : Reason) × (code_of reason ≡ code) × ((told_at s c).step ≡ StepRefused reason item field d)) ↔ (StepFault s c code field × (item ≡ item_at code c) × (d ≡ c))
step_refused = steps.refused_exactly

-- ---- the bytes of a sheet
module _ (s : List ℕ) (all : All (λ b. b < 256) s) where
  -- They are refused by reading exactly if they are at fault somewhere, and code and item are the fault's,
  pub refused_where : (code item : ℕ) → (read_sheet members s ≡ refused code item) ↔ ((position : ℕ) × FaultIn members s code item position)
  refused_where code item = (to, from)
    where
      to : read_sheet members s ≡ refused code item → (position : ℕ) × FaultIn members s code item position
      to e = go (eqb (reading_of members s).code 0) refl
        where
          go : (b : Bool) → eqb (reading_of members s).code 0 ≡ b → (position : ℕ) × FaultIn members s code item position
          go true q = let (n, h, r) = read_held members (omega arith) s all (eqb-true _ 0 q) in absurd (value_refused n code item (sym r ∙ e))
          go false q =
              let z = eqb-false (reading_of members s).code 0 q in
              let (c, i) = (same_refusal {A = Sheet} _ _ code item).0 (sym (read_refused members s z) ∙ e) in
              (_, (refused_exactly members s code item _).0 (record { code_is = sym c; item_is = sym i; position_is = refl }, λ k. z (sym c ∙ k)))

      from : (position : ℕ) × FaultIn members s code item position → read_sheet members s ≡ refused code item
      from (p, f) =
          let (e, n) = (refused_exactly members s code item p).1 f in
          read_refused members s (λ z. n (sym e.code_is ∙ z)) ∙ (same_refusal {A = Sheet} _ _ code item).1 (sym e.code_is, sym e.item_is)

  -- in one place only,
  pub one_place : (code item position code' item' position' : ℕ) → FaultIn members s code item position → FaultIn members s code' item' position' → (code ≡ code') × (item ≡ item') × (position ≡ position')
  one_place code item at code' item' at' f g =
      let (e, n) = (refused_exactly members s code item at).1 f in
      let (d, m) = (refused_exactly members s code' item' at').1 g in
      (sym e.code_is ∙ d.code_is, sym e.item_is ∙ d.item_is, sym e.position_is ∙ d.position_is)

  -- which is never beyond the bytes;
  pub in_the_bytes : (code item position : ℕ) → FaultIn members s code item position → position ≤ length s
  in_the_bytes = within_bytes members s

  -- and where bytes are left behind the sheet, those before them are a sheet.
  pub sheet_before : (item position : ℕ) → FaultIn members s 7 item position → (n : Sheet) × (read_sheet members (take position s) ≡ value n)
  sheet_before item at f =
      let (c, l) = front_read members s item at f in
      let (n, h, r) = read_held members (omega arith) (take at s) (all_take (λ b. b < 256) at s all) c in
      (n, r)

-- Behind a header its position is counted from the first byte of the blob, and is never beyond the bytes either.
pub in_the_blob : (s : List ℕ) (form : Form) (o : Option Opened) → around form s ≡ value o → (code item position : ℕ) → FaultIn members (behind o s) code item position → begins o + position ≤ length s
in_the_blob s form o is code item at f = go form o is (within_bytes members (behind o s) code item at f)
  where
    go : (form : Form) (o : Option Opened) → around form s ≡ value o → at ≤ length (behind o s) → begins o + at ≤ length s
    go plain none e h = omega (arith, h)
    go plain (some r) e h = absurd (none-ne-some r (cc e))
    go blob none e h = absurd (no_header (opening_of s) e)
      where
        no_header : (t : Opening) → headed t ≡ value none → ⊥
        no_header (Ok r) e = none-ne-some r (sym (cc e))
        no_header (Err f) e = value_refused _ (code_of f.refusal.reason) 0 (sym e)
    go blob (some r) e h = omega (arith, length-drop r.at s, (begins_within s r (read_opened s r e)).1)

-- ---- "The packed answer stays; the position, 0 for any other answer, comes from a second entry that agrees with it on code and item for every input."
module _ (s : List ℕ) (all : All (λ b. b < 256) s) (mode : ℕ) where
  module _ (m : Mode) (known : mode_of mode ≡ value m) where
    -- What is told of a sheet at fault, behind what stands around it in a known mode;
    pub tells_fault : (o : Option Opened) → around m.form s ≡ value o → (code item position : ℕ) → FaultIn members (behind o s) code item position → sheet_position mode s ≡ telling (item * 256 + code) (begins o + position)
    tells_fault o is code item at f =
        let t = behind o s in
        let bytes = all_behind (λ b. b < 256) o s all in
        let (e, n) = (refused_exactly members t code item at).1 f in
        let z = ne_eqb (reading_of members t).code 0 (λ k. n (sym e.code_is ∙ k)) in
        position_refused mode s code item (begins o + at) ((in_mode_refused members s mode m o known is code item).1 ((refused_where t bytes code item).1 (at, f)))
        (ap (λ p. begins o + p) (sym e.position_is) ∙ sym (position_behind mode s m known o is z))

    -- of a blob's header at fault: 1 with the position of its field, 50 and 51 with 0;
    pub tells_header : m.form ≡ blob → (code at : ℕ) → Fault s code at → sheet_position mode s ≡ telling code at
    tells_header f code at h =
        let (reason, w, o) = (header_refused s code at).1 h in
        let (r, p) = position_of_header mode s m known f (fault reason at) o in
        let z : 0 * 256 + code ≡ code = omega arith in
        position_refused mode s code 0 at ((by_refused members s mode code 0).1 (inr (m, known, inl (r ∙ ap (λ c. refused c 0) w)))) (sym p) ∙ ap (λ c. telling c at) z

  -- of a sheet that is read, with no envelope around it that is another than the frame;
  pub tells_read : (n : Sheet) → read_by members mode s ≡ value n → (OtherEnvelope mode s n → ⊥) → sheet_position mode s ≡ telling (length (first_of (header_by mode s) ++ form_of n) * 256) 0
  tells_read n r o = ap₂ telling (ap with_room ((numbers_answers mode s all _ _).1 (n, r, o, refl, refl))) (nowhere mode s n r)

  -- of one with such an envelope: 52, and no position;
  pub tells_envelope : (n : Sheet) → read_by members mode s ≡ value n → OtherEnvelope mode s n → sheet_position mode s ≡ telling 52 0
  tells_envelope n r o = ap₂ telling (ap with_room ((numbers_refuses mode s all 52 0).1 (inr (refl, refl, n, r, o)))) (nowhere mode s n r)

  -- in an unknown mode it is 57, and no position.
  pub tells_mode : 3 < mode → sheet_position mode s ≡ telling 57 0
  tells_mode h = position_refused mode s 57 0 0 ((by_refused members s mode 57 0).1 (inl (mode_unknown mode h))) (sym (ap (λ a. position_in a s) (mode_unknown mode h)))

-- The number told is the one that the numbers entry answers where enough bytes are lent.
pub agrees : (o : Outcome) (lent : List ℕ) → Enough o lent → answer_of o lent ≡ with_room o
agrees (value w) lent h = rw (le-leb (length w.text) (length lent) h)
agrees (refused code item) lent h = refl

-- ---- the other entries that read a sheet are refused with the codes of reading as reading in their mode is
module _ (mode : ℕ) (s : List ℕ) (all : All (λ b. b < 256) s) (code item : ℕ) (of : OfReading code) where
  by_reading : {c i : ℕ} → Refused mode s c i → OfReading c → read_by members mode s ≡ refused c i
  by_reading (unread e) l = e
  by_reading (breaks_a n p f) l = absurd (not_between l (omega arith) (omega arith))
  by_reading (breaks_b n p a f) l = absurd (not_between l (omega arith) (omega arith))
  by_reading (breaks_c n p a b c) l = absurd (not_between l (omega arith) (omega arith))
  by_reading (unframed n p r w) l = absurd (not_above l (omega arith) (omega arith))
  by_reading (not_carried n p r w f) l = absurd (not_between l (omega arith) (omega arith))
  by_reading (no_ground n p r w f) l = absurd (not_between l (omega arith) (omega arith))

  -- 20, 21, 30, 41, 52, 53, 54 and 55 are no codes of reading.
  low_other : (c : ℕ) → 9 ≤ c → c ≤ 49 → {X : Type 0} → code ≡ c → X
  low_other c a b e = absurd (not_between of (omega arith) (omega arith))

  high_other : (c : ℕ) → 52 ≤ c → c ≤ 56 → {X : Type 0} → code ≡ c → X
  high_other c a b e = absurd (not_above of (omega arith) (omega arith))

  -- Those that are asked for a polygon.
  same_asked : {o : Outcome} (way k : ℕ) → (o ≡ refused code item) ↔ PolygonRefused mode s way k code item → (o ≡ refused code item) ↔ (read_by members mode s ≡ refused code item)
  same_asked way k refuses = (
    λ q. by_reading (⊎_elim (λ f. f) (⊎_elim (λ h. low_other 41 (omega arith) (omega arith) h.0) (⊎_elim (λ h. high_other 54 (omega arith) (omega arith) h.0) (λ h. low_other 30 (omega arith) (omega arith) h.0))) (refuses.0 q)) of,
    λ e. refuses.1 (inl (unread e)),
  )

  -- Those that judge.
  same_judged : (way : ℕ) (wanted : Wanted) → (outcome_of (without mode way wanted) s ≡ refused code item) ↔ (read_by members mode s ≡ refused code item)
  same_judged way OwnerSets = (
    λ q. by_reading ((owner_sets_refuses mode s all code item).0 q) of,
    λ e. (owner_sets_refuses mode s all code item).1 (unread e),
  )
  same_judged way Owners = (
    λ q. by_reading (⊎_elim (λ f. f) (⊎_elim (λ h. high_other 54 (omega arith) (omega arith) h.0) (λ h. low_other 30 (omega arith) (omega arith) h.0)) ((owners_refuses mode s all way code item).0 q)) of,
    λ e. (owners_refuses mode s all way code item).1 (inl (unread e)),
  )
  same_judged way (Boundary k) = same_asked way k (boundary_refuses mode s all way k code item)
  same_judged way (Rings k) = same_asked way k (rings_refuses mode s all way k code item)
  same_judged way (RingRoom k) = same_asked way k (ring_room_refuses mode s all way k code item)
  same_judged way (At x y) = (
    λ q. by_reading (⊎_elim (λ f. f)
        (⊎_elim (λ h. high_other 54 (omega arith) (omega arith) h.0) (⊎_elim (λ h. low_other 30 (omega arith) (omega arith) h.0) (λ h. high_other 55 (omega arith) (omega arith) h.0))) ((at_refuses mode s all way x y code item).0 q)) of,
    λ e. (at_refuses mode s all way x y code item).1 (inl (unread e)),
  )

  pub same_in_all : (e : Entry) → ReadsSheet mode e → (outcome_of e s ≡ refused code item) ↔ (read_by members mode s ≡ refused code item)
  same_in_all (numbers m) r = subst (λ k. (outcome_of (numbers k) s ≡ refused code item) ↔ (read_by members mode s ≡ refused code item)) (sym r) (
    λ q. ⊎_elim (λ e. e) (λ h. high_other 52 (omega arith) (omega arith) h.0) ((numbers_refuses mode s all code item).0 q),
    λ e. (numbers_refuses mode s all code item).1 (inl e),
  )
  same_in_all (areas m) r = subst (λ k. (outcome_of (areas k) s ≡ refused code item) ↔ (read_by members mode s ≡ refused code item)) (sym r) (
    λ q. ⊎_elim (λ e. e) (λ h. high_other 52 (omega arith) (omega arith) h.0) ((areas_refuses mode s all code item).0 q),
    λ e. (areas_refuses mode s all code item).1 (inl e),
  )
  same_in_all (position m) r = absurd r
  same_in_all write r = absurd r
  same_in_all write_blob r = absurd r
  same_in_all (owner_sets m) r = subst (λ k. (outcome_of (owner_sets k) s ≡ refused code item) ↔ (read_by members mode s ≡ refused code item)) (sym r) (same_judged 0 OwnerSets)
  same_in_all (owners m way) r = subst (λ k. (outcome_of (owners k way) s ≡ refused code item) ↔ (read_by members mode s ≡ refused code item)) (sym r) (same_judged way Owners)
  same_in_all (boundary m way k) r = subst (λ z. (outcome_of (boundary z way k) s ≡ refused code item) ↔ (read_by members mode s ≡ refused code item)) (sym r) (same_judged way (Boundary k))
  same_in_all (rings m way k) r = subst (λ z. (outcome_of (rings z way k) s ≡ refused code item) ↔ (read_by members mode s ≡ refused code item)) (sym r) (same_judged way (Rings k))
  same_in_all (ring_room m way k) r = subst (λ z. (outcome_of (ring_room z way k) s ≡ refused code item) ↔ (read_by members mode s ≡ refused code item)) (sym r) (same_judged way (RingRoom k))
  same_in_all (listing m way) r = absurd r
  same_in_all (owner_at m way x y) r = subst (λ k. (outcome_of (owner_at k way x y) s ≡ refused code item) ↔ (read_by members mode s ≡ refused code item)) (sym r) (same_judged way (At x y))
  same_in_all (index m) r = subst (λ k. (outcome_of (index k) s ≡ refused code item) ↔ (read_by members mode s ≡ refused code item)) (sym r) (
    λ q. by_reading ((index_refuses mode s code item).0 q).0 of,
    λ e. (index_refuses mode s code item).1 (unread e, λ z. low_other 20 (omega arith) (omega arith) z, λ z. low_other 21 (omega arith) (omega arith) z),
  )
  same_in_all (indexed lent m way wanted) r = subst (λ k. (outcome_of (indexed lent k way wanted) s ≡ refused code item) ↔ (read_by members mode s ≡ refused code item)) (sym r) (
    λ q. elim (same_or_53 mode s lent way wanted) [
      | inl e ↦ (same_judged way wanted).0 (sym e ∙ q)
      | inr e ↦ high_other 53 (omega arith) (omega arith) ((same_refusal {A = Written} 53 0 code item).0 (sym e ∙ q)).0
    ],
    λ e. before_index mode s lent way wanted code item ((index_refuses mode s code item).1 (unread e, λ z. low_other 20 (omega arith) (omega arith) z, λ z. low_other 21 (omega arith) (omega arith) z)),
  )

-- And in a known mode, behind what stands around the sheet, reading is refused as document 01's is.
pub same_in_modes : (mode : ℕ) (s : List ℕ) (m : Mode) (o : Option Opened) → mode_of mode ≡ value m → around m.form s ≡ value o
    → (code item : ℕ) → (read_by members mode s ≡ refused code item) ↔ (read_sheet members (behind o s) ≡ refused code item)
same_in_modes mode s = in_mode_refused members s mode
