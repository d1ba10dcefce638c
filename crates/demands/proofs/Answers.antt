-- When does an entry succeed, and with what? For each entry, of every sequence of bytes: exactly when it comes to bytes, which bytes, and with
-- which item; and exactly when it comes to a refusal, with which code and item. That the lent bytes suffice, or else 40, is in Room. Assumes nothing.
use mathlib.Core.Path.{◌≡◌, refl, sym, ◌∙◌, ap, subst}
use mathlib.Core.Logic.Iff
use mathlib.Core.Logic.{◌↔◌, ◌⊎◌, inl, inr, ⊎_elim}
use mathlib.Core.List.{List, [], ◌++◌, map, flat_map}
use mathlib.Core.Option.{Option, none, some, none-ne-some}
use Prim.Native.Nat.{ℕ, ◌+◌, ◌^◌, ◌<◌}
use native.Mathlib.Omega.{arith}
use lib.Dec.{T}
use lib.ListN.{length, length-append}
use Rattle.whole.specs.Sums.{All}
use Rattle.plane.specs.Points.{Edge}
use Rattle.plane.specs.Members.{double_area}
use Rattle.lent.specs.Stages.{Answer, value, refused, and_then, needing}
use Rattle.lent.specs.Answered.{Written, Outcome, bytes}
use Rattle.lent.proofs.Stages.{value_refused, same_refusal, chain_value, chain_refused}
use Rattle.lent_little.specs.Bytes.{set_bytes, side_bytes}
use Rattle.lent_little.proofs.Bytes.{set_length}
use Rattle.owners_marks.specs.Marks.{set_of}
use Rattle.repair_rings.specs.Rings.{lines}
use Rattle.sheet_form.specs.Numbers.{Sheet, members}
use Rattle.sheet_blob.specs.declared.Opened.{Opened}
use Rattle.sheet_blob_written.specs.Normal.{Blob, written_blob}
use Rattle.sheet_blob_written.specs.Given.{blob_form, blob_given, write_blob as write_blob_outcome}
use Rattle.sheet_blob_written.proofs.Given.{given_blob}
use Rattle.sheet_modes.specs.Modes.{header_by, read_by, framed}
use Rattle.sheet_written.specs.Fits.{sheet_fits}
use Rattle.sheet_written.specs.Given.{sheet_given, write_outcome}
use Rattle.sheet_written.specs.Normal.{written}
use Rattle.sheet_written.proofs.Given.{given_form}
use Rattle.sheet_ring_bytes.specs.Lines.{line_bytes}
use Rattle.judged.specs.Judged.{Judged, matched, judged_sheet, repair_of}
use Rattle.judged.proofs.Stages.{matched_value, matched_refused}
use Rattle.listing_lines.specs.Lines.{refused_line}
use Rattle.listing.specs.Listing.{listing_of, listing as listing_by}
use Rattle.outcomes.specs.declared.Wanted.TheVariants.{OwnerSets, Owners}
use Rattle.outcomes.specs.Entries.{u64, telling, form_of, first_of, form_outcome, read_to, i64, areas_outcome, on_sheet, owned_sides, goes_on}
use Rattle.demands.specs.Answers.{OtherEnvelope, HasOwners, HasSets, Refused, NoOwner, Repaired, KnownWay, OnSheet, PolygonRefused}
use Rattle.demands.specs.Entries.{numbers, areas, position, write, write_blob, owner_sets, owners, boundary, rings, ring_room, listing, outcome_of}
use Rattle.demands.proofs.Envelopes.{framed_no, framed_yes}
use Rattle.demands.proofs.Sets.{with_owners, has_owners, has_sets, owners_each, is_refused, answers_on, refuses_on}
use Rattle.demands.proofs.After.{same_answer, after_answers, after_refuses, asked_passes, asked_refused}

-- ---- what an entry makes of a polygon's boundary sides after repair, for a sheet with its owners: a text and its item
module _ (count : List Edge → ℕ) (text : List Edge → List ℕ) where
  abbrev made : ℕ → ℕ → Judged → Outcome
  made way k j = and_then (needing (on_sheet k j.sheet) 41 0) (λ _. and_then (repair_of way j) (λ o. bytes (count (owned_sides j.sheet k o)) (text (owned_sides j.sheet k o))))

  module _ (mode : ℕ) (s : List ℕ) (all : All (λ b. b < 256) s) (n : Sheet) (sets : List (List ℕ)) (h : HasOwners mode s n sets) (way k : ℕ) where
    abbrev then_sides : Unit {0} → Outcome
    then_sides u = and_then (repair_of way (with_owners n sets)) (λ o. bytes (count (owned_sides n k o)) (text (owned_sides n k o)))

    made_answers : (item : ℕ) (l : List ℕ)
        → (made way k (with_owners n sets) ≡ bytes item l) ↔ (OnSheet n k × KnownWay way × (o : List ℕ) × Repaired way n sets o × (l ≡ text (owned_sides n k o)) × (item ≡ count (owned_sides n k o)))
    made_answers item l =
        let w : Written = record { item = item; text = l } in
        let after = after_answers mode s all n sets h way (λ o. count (owned_sides n k o)) (λ o. text (owned_sides n k o)) item l in (
          λ e. let (u, p, q) = (chain_value (needing (on_sheet k n) 41 0) then_sides w).0 e in let (known, o, r, f, i) = after.0 q in ((asked_passes n k).0 p, known, o, r, f, i),
          λ (on, known, o, r, f, i). (chain_value (needing (on_sheet k n) 41 0) then_sides w).1 (tt, (asked_passes n k).1 on, after.1 (known, o, r, f, i)),
        )

    made_refuses : (code item : ℕ)
        → (made way k (with_owners n sets) ≡ refused code item) ↔ (((code ≡ 41) × (item ≡ 0) × (OnSheet n k → ⊥))
        ⊎ ((code ≡ 54) × (item ≡ 0) × OnSheet n k × (KnownWay way → ⊥)) ⊎ ((code ≡ 30) × (item ≡ 0) × OnSheet n k × KnownWay way × NoOwner sets))
    made_refuses code item =
        let after = after_refuses mode s all n sets h way (λ o. count (owned_sides n k o)) (λ o. text (owned_sides n k o)) code item in (
          λ e. elim ((chain_refused (needing (on_sheet k n) 41 0) then_sides code item).0 e) [
            | inl p ↦ inl ((asked_refused n k code item).0 p)
            | inr (u, p, q) ↦ inr (⊎_elim (λ (c, i, known). inl (c, i, (asked_passes n k).0 p, known)) (λ (c, i, known, z). inr (c, i, (asked_passes n k).0 p, known, z)) (after.0 q))
          ],
          ⊎_elim (λ r. (chain_refused (needing (on_sheet k n) 41 0) then_sides code item).1 (inl ((asked_refused n k code item).1 r)))
              (⊎_elim (λ (c, i, on, known). (chain_refused (needing (on_sheet k n) 41 0) then_sides code item).1 (inr (tt, (asked_passes n k).1 on, after.1 (inl (c, i, known)))))
              (λ (c, i, on, known, z). (chain_refused (needing (on_sheet k n) 41 0) then_sides code item).1 (inr (tt, (asked_passes n k).1 on, after.1 (inr (c, i, known, z)))))),
        )

  -- For every sequence of bytes.
  module _ (mode : ℕ) (s : List ℕ) (all : All (λ b. b < 256) s) (way k : ℕ) where
    polygon_answers : (item : ℕ) (l : List ℕ)
        → (and_then (judged_sheet mode s) (made way k) ≡ bytes item l) ↔ ((n : Sheet) × (sets : List (List ℕ)) × HasOwners mode s n sets × OnSheet n k × KnownWay way
        × (o : List ℕ) × Repaired way n sets o × (l ≡ text (owned_sides n k o)) × (item ≡ count (owned_sides n k o)))
    polygon_answers item l = Iff.trans (answers_on mode s (made way k) (record { item = item; text = l })) (
      λ (n, sets, h, e). let (on, known, o, p, f, i) = (made_answers mode s all n sets h way k item l).0 e in (n, sets, h, on, known, o, p, f, i),
      λ (n, sets, h, on, known, o, p, f, i). (n, sets, h, (made_answers mode s all n sets h way k item l).1 (on, known, o, p, f, i)),
    )

    polygon_refuses : (code item : ℕ) → (and_then (judged_sheet mode s) (made way k) ≡ refused code item) ↔ PolygonRefused mode s way k code item
    polygon_refuses code item = Iff.trans (refuses_on mode s (made way k) code item) (
      ⊎_elim inl (λ (n, sets, h, e). inr (⊎_elim
          (λ (c, i, off). inl (c, i, n, sets, h, off))
          (λ rest. inr (⊎_elim (λ (c, i, on, known). inl (c, i, n, sets, h, on, known)) (λ (c, i, on, known, z). inr (c, i, n, sets, h, on, known, z)) rest))
          ((made_refuses mode s all n sets h way k code item).0 e))),
      ⊎_elim inl (⊎_elim
          (λ (c, i, n, sets, h, off). inr (n, sets, h, (made_refuses mode s all n sets h way k code item).1 (inl (c, i, off))))
          (⊎_elim
          (λ (c, i, n, sets, h, on, known). inr (n, sets, h, (made_refuses mode s all n sets h way k code item).1 (inr (inl (c, i, on, known)))))
          (λ (c, i, n, sets, h, on, known, z). inr (n, sets, h, (made_refuses mode s all n sets h way k code item).1 (inr (inr (c, i, on, known, z))))))),
    )

-- ---- the entries, for every sequence of bytes
module _ (mode : ℕ) (s : List ℕ) (all : All (λ b. b < 256) s) where
  -- ---- sheet_numbers
  -- "The numbers entry writes a sheet as little-endian i32", a blob with its reference-system number first: it answers exactly if the bytes are read as a sheet
  -- and no envelope around it is another than the frame, and then the sheet's numbers form; "for the writer and the numbers entry" the item "is the number of bytes".
  abbrev header : Option Opened
  header = header_by mode s

  -- The sheet is read, no envelope around it is another than the frame, and it goes on to what is written.
  module _ (next : Sheet → Outcome) where
    abbrev then_next : Sheet → Outcome
    then_next n = and_then (matched (framed header n)) (λ _. next n)

    reads_answers : (w : Written) → (read_to next mode s ≡ value w) ↔ ((n : Sheet) × (read_by members mode s ≡ value n) × (OtherEnvelope mode s n → ⊥) × (next n ≡ value w))
    reads_answers w = (
      λ e.
          let (n, p, q) = (chain_value (read_by members mode s) then_next w).0 e in
          let (u, m, r) = (chain_value (matched (framed header n)) (λ _. next n) w).0 q in
          (n, p, (framed_yes mode s n).0 ((matched_value (framed header n)).0 m), r),
      λ (n, p, o, r). (chain_value (read_by members mode s) then_next w).1 (n, p, (chain_value (matched (framed header n)) (λ _. next n) w).1 (tt, (matched_value (framed header n)).1 ((framed_yes mode s n).1 o), r)),
    )

    reads_refuses : ((n : Sheet) (code item : ℕ) → next n ≡ refused code item → ⊥) → (code item : ℕ)
        → (read_to next mode s ≡ refused code item) ↔ ((read_by members mode s ≡ refused code item) ⊎ ((code ≡ 52) × (item ≡ 0) × (n : Sheet) × (read_by members mode s ≡ value n) × OtherEnvelope mode s n))
    reads_refuses never code item = (to, from)
      where
        to : and_then (read_by members mode s) then_next ≡ refused code item → (read_by members mode s ≡ refused code item) ⊎ ((code ≡ 52) × (item ≡ 0) × (n : Sheet) × (read_by members mode s ≡ value n) × OtherEnvelope mode s n)
        to e = elim ((chain_refused (read_by members mode s) then_next code item).0 e) [
          | inl p ↦ inl p
          | inr (n, p, q) ↦ elim ((chain_refused (matched (framed header n)) (λ _. next n) code item).0 q) [
            | inl m ↦ let (b, c, i) = (matched_refused (framed header n) code item).0 m in inr (c, i, n, p, (framed_no mode s n).0 b)
            | inr (u, m, r) ↦ absurd (never n code item r)
          ]
        ]

        from : (read_by members mode s ≡ refused code item) ⊎ ((code ≡ 52) × (item ≡ 0) × (n : Sheet) × (read_by members mode s ≡ value n) × OtherEnvelope mode s n) → and_then (read_by members mode s) then_next ≡ refused code item
        from (inl p) = (chain_refused (read_by members mode s) then_next code item).1 (inl p)
        from (inr (c, i, n, p, o)) =
            (chain_refused (read_by members mode s) then_next code item).1 (inr (n, p, (chain_refused (matched (framed header n)) (λ _. next n) code item).1 (inl ((matched_refused (framed header n) code item).1 ((framed_no mode s n).1 o, c, i)))))

  form_length : (n : Sheet) → length (first_of header) + length (form_of n) ≡ length (first_of header ++ form_of n)
  form_length n = sym (length-append (first_of header) (form_of n))

  pub numbers_answers : (item : ℕ) (l : List ℕ)
      → (outcome_of (numbers mode) s ≡ bytes item l) ↔ ((n : Sheet) × (read_by members mode s ≡ value n) × (OtherEnvelope mode s n → ⊥) × (l ≡ first_of (header_by mode s) ++ form_of n) × (item ≡ length l))
  numbers_answers item l = Iff.trans (reads_answers (form_outcome header) (record { item = item; text = l })) (
    λ (n, p, o, r). let (f, i) = (same_answer (length (first_of header) + length (form_of n)) item (first_of header ++ form_of n) l).0 r in (n, p, o, f, i ∙ form_length n ∙ ap length (sym f)),
    λ (n, p, o, f, i). (n, p, o, (same_answer (length (first_of header) + length (form_of n)) item (first_of header ++ form_of n) l).1 (f, i ∙ ap length f ∙ sym (form_length n))),
  )

  -- Otherwise it gives the refusal of reading, and then 52 for an envelope that isn't the frame: "After reading, the numbers entry has only 40."
  pub numbers_refuses : (code item : ℕ)
      → (outcome_of (numbers mode) s ≡ refused code item) ↔ ((read_by members mode s ≡ refused code item) ⊎ ((code ≡ 52) × (item ≡ 0) × (n : Sheet) × (read_by members mode s ≡ value n) × OtherEnvelope mode s n))
  numbers_refuses = reads_refuses (form_outcome header) (λ n code item e. value_refused _ code item e)

  -- ---- sheet_areas
  -- "The viewer asks for every polygon's double area": it answers exactly if the bytes are read as a sheet and no envelope around it is another than the frame, and then
  -- the double area of each polygon, in number order, as a little-endian i64; the item is the number of polygons. Nothing is judged.
  pub areas_answers : (item : ℕ) (l : List ℕ)
      → (outcome_of (areas mode) s ≡ bytes item l) ↔ ((n : Sheet) × (read_by members mode s ≡ value n) × (OtherEnvelope mode s n → ⊥) × (l ≡ flat_map i64 (map double_area n.polygons)) × (item ≡ length n.polygons))
  areas_answers item l = Iff.trans (reads_answers areas_outcome (record { item = item; text = l })) (
    λ (n, p, o, r). let (f, i) = (same_answer (length n.polygons) item (flat_map i64 (map double_area n.polygons)) l).0 r in (n, p, o, f, i),
    λ (n, p, o, f, i). (n, p, o, (same_answer (length n.polygons) item (flat_map i64 (map double_area n.polygons)) l).1 (f, i)),
  )

  -- It is refused as the numbers entry is.
  pub areas_refuses : (code item : ℕ)
      → (outcome_of (areas mode) s ≡ refused code item) ↔ ((read_by members mode s ≡ refused code item) ⊎ ((code ≡ 52) × (item ≡ 0) × (n : Sheet) × (read_by members mode s ≡ value n) × OtherEnvelope mode s n))
  areas_refuses = reads_refuses areas_outcome (λ n code item e. value_refused _ code item e)

  -- ---- sheet_position
  -- It answers for every sequence of bytes and in every mode, with two numbers of 8 bytes each; the item is 16.
  pub position_answers : (item : ℕ) (l : List ℕ) → outcome_of (position mode) s ≡ bytes item l → (item ≡ 16) × (length l ≡ 16)
  position_answers item l = two _ _
    where
      two : (answer at : ℕ) → telling answer at ≡ bytes item l → (item ≡ 16) × (length l ≡ 16)
      two answer at e =
          let (f, i) = (same_answer 16 item (u64 answer ++ u64 at) l).0 e in
          (i, omega (arith, ap length f, length-append (u64 answer) (u64 at), set_length answer, set_length at))

  -- Never is it refused.
  pub position_refuses_nothing : (code item : ℕ) → outcome_of (position mode) s ≡ refused code item → ⊥
  position_refuses_nothing code item e = value_refused _ code item e

-- ---- a writer: it is given something of which its bytes are the form, or nothing, which is refused 42
module _ {A : Type 0} (text : A → List ℕ) (outcome : Option A → Outcome) (nothing : outcome none ≡ refused 42 0) (something : (a : A) → outcome (some a) ≡ bytes (length (text a)) (text a))
    (given : Option A) (Form : A → Type 0) (says : (a : A) → (given ≡ some a) ↔ Form a) where
  writer_answers : (item : ℕ) (l : List ℕ) → (outcome given ≡ bytes item l) ↔ ((a : A) × Form a × (l ≡ text a) × (item ≡ length (text a)))
  writer_answers item l = (go given refl, λ (a, f, e, i). ap outcome ((says a).1 f) ∙ something a ∙ (same_answer _ item _ l).1 (e, i))
    where
      go : (o : Option A) → given ≡ o → outcome o ≡ bytes item l → (a : A) × Form a × (l ≡ text a) × (item ≡ length (text a))
      go none g q = absurd (value_refused _ 42 0 (sym q ∙ nothing))
      go (some a) g q = let (e, i) = (same_answer (length (text a)) item (text a) l).0 (sym (something a) ∙ q) in (a, (says a).0 g, e, i)

  writer_refuses : (code item : ℕ) → (outcome given ≡ refused code item) ↔ ((code ≡ 42) × (item ≡ 0) × ((a : A) → Form a → ⊥))
  writer_refuses code item = (to given refl, λ (c, i, f). from f given refl ∙ (same_refusal {A = Written} 42 0 code item).1 (c, i))
    where
      to : (o : Option A) → given ≡ o → outcome o ≡ refused code item → (code ≡ 42) × (item ≡ 0) × ((a : A) → Form a → ⊥)
      to none g q = let (c, i) = (same_refusal {A = Written} 42 0 code item).0 (sym nothing ∙ q) in (c, i, λ a f. none-ne-some a (sym g ∙ (says a).1 f))
      to (some a) g q = absurd (value_refused _ code item (sym (something a) ∙ q))

      from : ((a : A) → Form a → ⊥) → (o : Option A) → given ≡ o → outcome given ≡ refused 42 0
      from f none g = ap outcome g ∙ nothing
      from f (some a) g = absurd (f a ((says a).0 g))

module _ (s : List ℕ) (all : All (λ b. b < 256) s) where
  -- ---- sheet_write
  abbrev SheetForm : Sheet → Type 0
  SheetForm n = T (sheet_fits members n) × (form_of n ≡ s)

  sheet_form : (n : Sheet) → (sheet_given members s ≡ some n) ↔ SheetForm n
  sheet_form = given_form members (omega arith) s all

  -- "The writer takes this form": it answers exactly if the bytes are the numbers form of a sheet within the limits, and then the sheet's normal
  -- bytes; the item is their number.
  pub write_answers : (item : ℕ) (l : List ℕ)
      → (outcome_of write s ≡ bytes item l) ↔ ((n : Sheet) × T (sheet_fits members n) × (form_of n ≡ s) × (l ≡ written n) × (item ≡ length (written n)))
  write_answers item l = Iff.trans (writer_answers written write_outcome refl (λ n. refl) (sheet_given members s) SheetForm sheet_form item l) (λ (n, (t, f), e, i). (n, t, f, e, i), λ (n, t, f, e, i). (n, (t, f), e, i))

  -- "42: numbers given to the writer break a limit, range or closing, or don't make up a whole sheet", item 0: the bytes are the numbers form of no
  -- sheet within the limits.
  pub write_refuses : (code item : ℕ) → (outcome_of write s ≡ refused code item) ↔ ((code ≡ 42) × (item ≡ 0) × ((n : Sheet) → T (sheet_fits members n) → form_of n ≡ s → ⊥))
  write_refuses code item = Iff.trans (writer_refuses written write_outcome refl (λ n. refl) (sheet_given members s) SheetForm sheet_form code item) (λ (c, i, f). (c, i, λ n t e. f n (t, e)), λ (c, i, f). (c, i, λ n (t, e). f n t e))

  -- ---- sheet_write_blob
  abbrev BlobForm : Blob → Type 0
  BlobForm b = T (sheet_fits members b.sheet) × (b.number < 2 ^ 32) × (blob_form b ≡ s)

  blob_form_lem : (b : Blob) → (blob_given members s ≡ some b) ↔ BlobForm b
  blob_form_lem = given_blob members (omega arith) s all

  -- It answers exactly if the bytes are the numbers form of a blob, a number of 32 bits and a sheet within the limits, and then the blob's normal bytes; the item
  -- is their number.
  pub write_blob_answers : (item : ℕ) (l : List ℕ)
      → (outcome_of write_blob s ≡ bytes item l) ↔ ((b : Blob) × T (sheet_fits members b.sheet) × (b.number < 2 ^ 32) × (blob_form b ≡ s) × (l ≡ written_blob b) × (item ≡ length (written_blob b)))
  write_blob_answers item l =
      Iff.trans (writer_answers written_blob write_blob_outcome refl (λ b. refl) (blob_given members s) BlobForm blob_form_lem item l) (λ (b, (t, k, f), e, i). (b, t, k, f, e, i), λ (b, t, k, f, e, i). (b, (t, k, f), e, i))

  -- Otherwise 42, item 0: they are the numbers form of no such blob.
  pub write_blob_refuses : (code item : ℕ)
      → (outcome_of write_blob s ≡ refused code item) ↔ ((code ≡ 42) × (item ≡ 0) × ((b : Blob) → T (sheet_fits members b.sheet) → b.number < 2 ^ 32 → blob_form b ≡ s → ⊥))
  write_blob_refuses code item =
      Iff.trans (writer_refuses written_blob write_blob_outcome refl (λ b. refl) (blob_given members s) BlobForm blob_form_lem code item) (λ (c, i, f). (c, i, λ b t k e. f b (t, k, e)), λ (c, i, f). (c, i, λ b (t, k, e). f b t k e))

module _ (mode : ℕ) (s : List ℕ) (all : All (λ b. b < 256) s) where
  -- ---- the entries that judge
  -- Every sequence of bytes has owners, or is refused before any owner is known.
  pub owners_or_refused : ((n : Sheet) × (o : List (List ℕ)) × HasOwners mode s n o) ⊎ ((code : ℕ) × (item : ℕ) × Refused mode s code item)
  owners_or_refused = go (judged_sheet mode s) refl
    where
      go : (j : Answer Judged) → judged_sheet mode s ≡ j → ((n : Sheet) × (o : List (List ℕ)) × HasOwners mode s n o) ⊎ ((code : ℕ) × (item : ℕ) × Refused mode s code item)
      go (value j) e = inl (j.sheet, j.owners, (has_owners mode s j.sheet j.owners).0 e)
      go (refused code item) e = inr (code, item, (is_refused mode s code item).0 e)

  -- ---- sheet_owner_sets
  -- "The set entry writes each triangle's owners before repair, in table order, as a little-endian u64 whose bit k-1 stands for polygon k"; "the item
  -- is the number of triangles". It answers exactly if the bytes have owner sets,
  pub owner_sets_answers : (item : ℕ) (l : List ℕ)
      → (outcome_of (owner_sets mode) s ≡ bytes item l) ↔ ((n : Sheet) × (sets : List ℕ) × HasSets mode s n sets × (l ≡ flat_map set_bytes sets) × (item ≡ length n.table))
  owner_sets_answers item l = Iff.trans (answers_on mode s (goes_on 0 OwnerSets) (record { item = item; text = l })) (
    λ (n, o, h, e).
        let sets = map set_of o in
        let w = (has_sets sets).0 (o, h, refl) in
        let (f, i) = (same_answer (length sets) item (flat_map set_bytes sets) l).0 e in
        (n, sets, w, f, i ∙ w.each),
    λ (n, sets, w, f, i).
        let (o, h, e) = (has_sets sets).1 w in
        (n, o, h, ap (λ x. bytes (length x) (flat_map set_bytes x)) (sym e) ∙ (same_answer (length sets) item (flat_map set_bytes sets) l).1 (f, i ∙ sym w.each)),
  )

  -- and is refused exactly as the bytes are before any owner is known: by reading, or with 10, 11, 12, 52, 20 or 21.
  pub owner_sets_refuses : (code item : ℕ) → (outcome_of (owner_sets mode) s ≡ refused code item) ↔ Refused mode s code item
  owner_sets_refuses code item = Iff.trans (refuses_on mode s (goes_on 0 OwnerSets) code item) (
    ⊎_elim (λ r. r) (λ (n, o, h, e). absurd (value_refused _ code item e)),
    inl,
  )

  -- ---- sheet_owners
  -- "The owner entry writes one byte per triangle in table order, its number after repair"; the item is the number of triangles. It answers exactly
  -- if the bytes have owners and some triangle has one, and then the one owner of each,
  pub owners_answers : (way item : ℕ) (l : List ℕ)
      → (outcome_of (owners mode way) s ≡ bytes item l) ↔ ((n : Sheet) × (sets : List (List ℕ)) × HasOwners mode s n sets × KnownWay way × Repaired way n sets l × (item ≡ length n.table))
  owners_answers way item l = Iff.trans (answers_on mode s (goes_on way Owners) (record { item = item; text = l })) (
    λ (n, sets, h, e). let (known, o, p, f, i) = (after_answers mode s all n sets h way length (λ o. o) item l).0 e in (n, sets, h, known, subst (Repaired way n sets) (sym f) p, i ∙ p.0.each ∙ owners_each h),
    λ (n, sets, h, known, p, i). (n, sets, h, (after_answers mode s all n sets h way length (λ o. o) item l).1 (known, l, p, refl, i ∙ sym (p.0.each ∙ owners_each h))),
  )

  -- and is refused as the set entry is, then with 54 where the way is unknown, then with 30: "Repair can't be done exactly if no triangle has an owner."
  pub owners_refuses : (way code item : ℕ)
      → (outcome_of (owners mode way) s ≡ refused code item) ↔ (Refused mode s code item
      ⊎ ((code ≡ 54) × (item ≡ 0) × (n : Sheet) × (sets : List (List ℕ)) × HasOwners mode s n sets × (KnownWay way → ⊥))
      ⊎ ((code ≡ 30) × (item ≡ 0) × (n : Sheet) × (sets : List (List ℕ)) × HasOwners mode s n sets × KnownWay way × NoOwner sets))
  owners_refuses way code item = Iff.trans (refuses_on mode s (goes_on way Owners) code item) (
    ⊎_elim inl (λ (n, sets, h, e). inr (⊎_elim (λ (c, i, known). inl (c, i, n, sets, h, known)) (λ (c, i, known, z). inr (c, i, n, sets, h, known, z)) ((after_refuses mode s all n sets h way length (λ o. o) code item).0 e))),
    ⊎_elim inl (⊎_elim
        (λ (c, i, n, sets, h, known). inr (n, sets, h, (after_refuses mode s all n sets h way length (λ o. o) code item).1 (inl (c, i, known))))
        (λ (c, i, n, sets, h, known, z). inr (n, sets, h, (after_refuses mode s all n sets h way length (λ o. o) code item).1 (inr (c, i, known, z))))),
  )

  -- ---- sheet_boundary
  -- "The boundary entry writes, for a member asked by polygon number, each side uv of its triangles after repair whose vu is no side of those: ux, uy,
  -- vx, vy as little-endian i32"; the item is the number of sides. It answers exactly if the bytes have owners, the polygon is on the sheet and some
  -- triangle has an owner,
  pub boundary_answers : (way k item : ℕ) (l : List ℕ)
      → (outcome_of (boundary mode way k) s ≡ bytes item l) ↔ ((n : Sheet) × (sets : List (List ℕ)) × HasOwners mode s n sets × OnSheet n k × KnownWay way
      × (o : List ℕ) × Repaired way n sets o × (l ≡ flat_map side_bytes (owned_sides n k o)) × (item ≡ length (owned_sides n k o)))
  boundary_answers way k item l = polygon_answers length (flat_map side_bytes) mode s all way k item l

  -- and is refused as the set entry is, then with 41 where the "asked member isn't on the sheet", then with 54, then with 30.
  pub boundary_refuses : (way k code item : ℕ) → (outcome_of (boundary mode way k) s ≡ refused code item) ↔ PolygonRefused mode s way k code item
  boundary_refuses way k code item = polygon_refuses length (flat_map side_bytes) mode s all way k code item

  -- ---- sheet_rings
  -- "Join the sides of one repaired member into closed rings and write them as a WKB MultiLineString"; "the item is their number", that of the bytes. It answers exactly if
  -- the boundary entry does,
  pub rings_answers : (way k item : ℕ) (l : List ℕ)
      → (outcome_of (rings mode way k) s ≡ bytes item l) ↔ ((n : Sheet) × (sets : List (List ℕ)) × HasOwners mode s n sets × OnSheet n k × KnownWay way
      × (o : List ℕ) × Repaired way n sets o × (l ≡ line_bytes (lines (owned_sides n k o))) × (item ≡ length (line_bytes (lines (owned_sides n k o)))))
  rings_answers way k item l = polygon_answers (λ sides. length (line_bytes (lines sides))) (λ sides. line_bytes (lines sides)) mode s all way k item l

  -- "Refusals as for the boundary entry."
  pub rings_refuses : (way k code item : ℕ) → (outcome_of (rings mode way k) s ≡ refused code item) ↔ PolygonRefused mode s way k code item
  rings_refuses way k code item = polygon_refuses (λ sides. length (line_bytes (lines sides))) (λ sides. line_bytes (lines sides)) mode s all way k code item

  -- ---- sheet_ring_room
  -- "The exact number .. is wanted before writing, tied to the bytes written": it answers exactly if the boundary entry does, with the number of the bytes that the rings have as
  -- the item, and no bytes,
  pub ring_room_answers : (way k item : ℕ) (l : List ℕ)
      → (outcome_of (ring_room mode way k) s ≡ bytes item l) ↔ ((n : Sheet) × (sets : List (List ℕ)) × HasOwners mode s n sets × OnSheet n k × KnownWay way
      × (o : List ℕ) × Repaired way n sets o × (l ≡ []) × (item ≡ length (line_bytes (lines (owned_sides n k o)))))
  ring_room_answers way k item l = polygon_answers (λ sides. length (line_bytes (lines sides))) (λ sides. []) mode s all way k item l

  -- and is refused as it is.
  pub ring_room_refuses : (way k code item : ℕ) → (outcome_of (ring_room mode way k) s ≡ refused code item) ↔ PolygonRefused mode s way k code item
  ring_room_refuses way k code item = polygon_refuses (λ sides. length (line_bytes (lines sides))) (λ sides. []) mode s all way k code item

  -- ---- sheet_listing
  -- It answers for every sequence of bytes, and the item is the number of bytes: the listing of the sheet with its owners; "an earlier refusal prints
  -- only `refused` code item".
  pub listing_answers : (way item : ℕ) (l : List ℕ)
      → (outcome_of (listing mode way) s ≡ bytes item l) ↔ ((item ≡ length l) × (((n : Sheet) × (o : List (List ℕ)) × HasOwners mode s n o × (l ≡ listing_of way (record { sheet = n; owners = o })))
      ⊎ ((code : ℕ) × (k : ℕ) × Refused mode s code k × (l ≡ refused_line code k))))
  listing_answers way item l = (to (judged_sheet mode s) refl, λ (i, text). from i text)
    where
      to : (j : Answer Judged) → judged_sheet mode s ≡ j → bytes (length (listing_by way j)) (listing_by way j) ≡ bytes item l
          → (item ≡ length l) × (((n : Sheet) × (o : List (List ℕ)) × HasOwners mode s n o × (l ≡ listing_of way (record { sheet = n; owners = o }))) ⊎ ((code : ℕ) × (k : ℕ) × Refused mode s code k × (l ≡ refused_line code k)))
      to (value j) p e = let (f, i) = (same_answer _ item _ l).0 e in (i ∙ ap length (sym f), inl (j.sheet, j.owners, (has_owners mode s j.sheet j.owners).0 p, f))
      to (refused code k) p e = let (f, i) = (same_answer _ item _ l).0 e in (i ∙ ap length (sym f), inr (code, k, (is_refused mode s code k).0 p, f))

      prints : (j : Answer Judged) → judged_sheet mode s ≡ j → item ≡ length l → l ≡ listing_by way j → outcome_of (listing mode way) s ≡ bytes item l
      prints j e i f = ap (λ j. bytes (length (listing_by way j)) (listing_by way j)) e ∙ (same_answer _ item _ l).1 (f, i ∙ ap length f)

      from : item ≡ length l → ((n : Sheet) × (o : List (List ℕ)) × HasOwners mode s n o × (l ≡ listing_of way (record { sheet = n; owners = o }))) ⊎ ((code : ℕ) × (k : ℕ) × Refused mode s code k × (l ≡ refused_line code k))
          → outcome_of (listing mode way) s ≡ bytes item l
      from i (inl (n, o, h, f)) = prints (value (with_owners n o)) ((has_owners mode s n o).1 h) i f
      from i (inr (code, k, r, f)) = prints (refused code k) ((is_refused mode s code k).1 r) i f

  pub listing_always : (way : ℕ) → (l : List ℕ) × (outcome_of (listing mode way) s ≡ bytes (length l) l)
  listing_always way = (listing_by way (judged_sheet mode s), refl)

  -- Never is it refused.
  pub listing_refuses_nothing : (way code item : ℕ) → outcome_of (listing mode way) s ≡ refused code item → ⊥
  listing_refuses_nothing way code item e = value_refused _ code item e
