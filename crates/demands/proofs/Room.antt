-- "40: the answer is longer than the lent bytes": when it is given, and the room in which it never is. The idea: no entry comes to 40 by itself, and
-- the limits of a sheet bound every answer. Assumes nothing.
use mathlib.Core.Path.{◌≡◌, refl, sym, ◌∙◌, ap}
use mathlib.Core.Logic.{◌↔◌, inl, inr, ⊎_elim}
use mathlib.Core.Bool.{Bool, true, false, cond}
use mathlib.Core.List.{List, [], ◌∷◌, ◌++◌, map, flat_map}
use mathlib.Core.Option.{Option, none, some}
use Prim.Native.Nat.{ℕ, zero, suc, ◌+◌, ◌*◌, ◌%◌, ◌≤◌, ◌<◌}
use native.Mathlib.Omega.{arith}
use borrow.Author.Tests.{leb-true, leb-false, lt-leb}
use lib.Dec.{leb}
use lib.IntN.{ℤ, pos}
use lib.ListN.{length, length-append, length-map}
use mir.Syntax.{w64}
use mir.Val.{of_z}
use Rattle.whole.specs.Sums.{All}
use Rattle.whole.proofs.Sums.{all-++}
use Rattle.plane.specs.Points.{Edge}
use Rattle.plane.specs.Members.{double_area}
use Rattle.lent.specs.Stages.{value, refused}
use Rattle.lent.specs.Answered.{Written, Outcome, bytes, answer_of, Answered}
use Rattle.lent.proofs.Stages.{value_refused, same_refusal}
use Rattle.lent_little.specs.Ordered.{bytes as bytes_of}
use Rattle.lent_little.specs.Bytes.{set_bytes, side_bytes}
use Rattle.lent_little.proofs.Bytes.{set_length, all_length}
use Rattle.lent_little.proofs.Ordered.{length_bytes, bytes_below}
use Rattle.sheet_form.specs.Numbers.{numbers_of, members}
use Rattle.listing_lines.specs.Lines.{refused_word}
use Rattle.sheet_blob.specs.declared.Opened.{Opened}
use Rattle.sheet_blob_written.specs.Normal.{Blob, written_blob, opened_of}
use Rattle.sheet_blob_written.specs.Given.{blob_form}
use Rattle.sheet_blob_written.proofs.Trip.{blob_length, blob_bytes}
use Rattle.sheet_modes.specs.Modes.{present, header_by, read_by}
use Rattle.sheet_modes.proofs.Modes.{by_present, by_fits}
use Rattle.sheet_written.specs.Normal.{written}
use Rattle.sheet_written.proofs.Given.{form_length, form_bytes}
use Rattle.sheet_written.proofs.Held.{read_sheet_is}
use Rattle.sheet_written.proofs.Largest.{largest, largest_fits, largest_numbers, largest_written}
use Rattle.sheet_written.proofs.Sized.{written_small}
use Rattle.sheet_written.proofs.Trip.{written_bytes, round_trip, form_small}
use Rattle.outcomes.specs.declared.Wanted.{Wanted}
use Rattle.outcomes.specs.declared.Wanted.TheVariants.{OwnerSets, Owners, Boundary, Rings, RingRoom, At}
use Rattle.outcomes.specs.Entries.{first_of, form_of, i64, owned_sides}
use Rattle.outcomes.proofs.Sized.{line_most, listing_most, sides_most}
use Rattle.demands.specs.Answers.{Refused, PolygonRefused, unread, breaks_a, breaks_b, breaks_c, unframed, not_carried, no_ground}
use Rattle.demands.specs.Entries.{Entry, numbers, areas, position, write, write_blob, owner_sets, owners, boundary, rings, ring_room, listing, owner_at, index, indexed, outcome_of, room_of}
use Rattle.demands.specs.Index.{without}
use Rattle.demands.proofs.Neighbours.{six_each}
use Rattle.demands.proofs.Index.{index_answers, index_refuses, same_or_53}
use Rattle.demands.proofs.Stages.{of_reading, not_between, read_limits}
use Rattle.demands.proofs.Envelopes.{no_envelope}
use Rattle.demands.proofs.Sets.{with_owners, owners_each}
use Rattle.demands.proofs.After.{same_answer}
use Rattle.demands.proofs.Blobs.{header_back, sheet_back, never_52}
use Rattle.demands.proofs.Listed.{code_fits, outcome_listed}
use Rattle.demands.proofs.Rings.{exact_room, a_third}
use Rattle.demands.proofs.Answers.{numbers_answers, numbers_refuses, areas_answers, areas_refuses, position_answers, position_refuses_nothing, write_answers, write_refuses, write_blob_answers, write_blob_refuses, owner_sets_answers, owner_sets_refuses, owners_answers, owners_refuses, boundary_answers, boundary_refuses, rings_answers, rings_refuses, ring_room_answers, ring_room_refuses, listing_answers, listing_refuses_nothing}
use Rattle.demands.proofs.Points.{at_answers, at_refuses}

-- The number in front of a blob's numbers has 4 bytes, and in front of a sheet's there is none.
first_length : (mode : ℕ) (s : List ℕ) → 65_800 + length (first_of (header_by mode s)) ≤ room_of (numbers mode)
first_length zero s = omega arith
first_length (suc zero) s = omega arith
first_length (suc (suc mode)) s = rw (lt-leb (suc (suc mode)) 1 (omega arith)) (go (header_by (suc (suc mode)) s))
  where
    go : (o : Option Opened) → 65_800 + length (first_of o) ≤ 65_804
    go none = omega arith
    go (some r) = omega (arith, length_bytes 4 r.number)

-- The bytes of double areas, 8 each.
areas_length : (l : List ℤ) → length (flat_map i64 l) ≡ 8 * length l
unfolding flat_map
areas_length [] = omega arith
areas_length (z ∷ l) = omega (arith, length-append (i64 z) (flat_map i64 l), set_length (of_z w64 z), areas_length l)

-- The bytes of sides, 16 each.
sides_length : (l : List Edge) → length (flat_map side_bytes l) ≡ 16 * length l
unfolding flat_map bytes_of
sides_length [] = omega arith
sides_length (e ∷ l) = omega (arith, length-append (side_bytes e) (flat_map side_bytes l), sides_length l)

module _ (mode : ℕ) (s : List ℕ) (all : All (λ b. b < 256) s) where
  -- ---- no entry comes to 40
  unread_other : (code item : ℕ) → read_by members mode s ≡ refused code item → code ≡ 40 → ⊥
  unread_other code item e z = not_between (of_reading mode s code item e) (omega arith) (omega arith)

  refused_other : {code item : ℕ} → Refused mode s code item → code ≡ 40 → ⊥
  refused_other (unread {code} {item} e) z = unread_other code item e z
  refused_other (breaks_a n p f) z = omega arith
  refused_other (breaks_b n p a f) z = omega arith
  refused_other (breaks_c n p a b c) z = omega arith
  refused_other (unframed n p r w) z = omega arith
  refused_other (not_carried n p r w f) z = omega arith
  refused_other (no_ground n p r w f) z = omega arith

module _ (s : List ℕ) (all : All (λ b. b < 256) s) where
  asked_not_forty : {mode way k code item : ℕ} → PolygonRefused mode s way k code item → code ≡ 40 → ⊥
  asked_not_forty {mode = mode} r z = ⊎_elim (λ r. refused_other mode s all r z) (⊎_elim (λ h. omega (arith, h.0)) (⊎_elim (λ h. omega (arith, h.0)) (λ h. omega (arith, h.0)))) r

  judged_not_forty : (mode way : ℕ) (wanted : Wanted) (code item : ℕ) → outcome_of (without mode way wanted) s ≡ refused code item → code ≡ 40 → ⊥
  judged_not_forty mode way OwnerSets code item q z = refused_other mode s all ((owner_sets_refuses mode s all code item).0 q) z
  judged_not_forty mode way Owners code item q z = ⊎_elim (λ r. refused_other mode s all r z) (⊎_elim (λ h. omega (arith, h.0)) (λ h. omega (arith, h.0))) ((owners_refuses mode s all way code item).0 q)
  judged_not_forty mode way (Boundary k) code item q z = asked_not_forty ((boundary_refuses mode s all way k code item).0 q) z
  judged_not_forty mode way (Rings k) code item q z = asked_not_forty ((rings_refuses mode s all way k code item).0 q) z
  judged_not_forty mode way (RingRoom k) code item q z = asked_not_forty ((ring_room_refuses mode s all way k code item).0 q) z
  judged_not_forty mode way (At x y) code item q z =
      ⊎_elim (λ r. refused_other mode s all r z) (⊎_elim (λ h. omega (arith, h.0)) (⊎_elim (λ h. omega (arith, h.0)) (λ h. omega (arith, h.0)))) ((at_refuses mode s all way x y code item).0 q)

  not_forty : (e : Entry) (code item : ℕ) → outcome_of e s ≡ refused code item → code ≡ 40 → ⊥
  not_forty (numbers mode) code item q z = ⊎_elim (λ p. unread_other mode s all code item p z) (λ h. omega (arith, h.0)) ((numbers_refuses mode s all code item).0 q)
  not_forty (areas mode) code item q z = ⊎_elim (λ p. unread_other mode s all code item p z) (λ h. omega (arith, h.0)) ((areas_refuses mode s all code item).0 q)
  not_forty (position mode) code item q z = position_refuses_nothing mode s all code item q
  not_forty write code item q z = omega (arith, ((write_refuses s all code item).0 q).0)
  not_forty write_blob code item q z = omega (arith, ((write_blob_refuses s all code item).0 q).0)
  not_forty (owner_sets mode) code item q z = judged_not_forty mode 0 OwnerSets code item q z
  not_forty (owners mode way) code item q z = judged_not_forty mode way Owners code item q z
  not_forty (boundary mode way k) code item q z = judged_not_forty mode way (Boundary k) code item q z
  not_forty (rings mode way k) code item q z = judged_not_forty mode way (Rings k) code item q z
  not_forty (ring_room mode way k) code item q z = judged_not_forty mode way (RingRoom k) code item q z
  not_forty (listing mode way) code item q z = listing_refuses_nothing mode s all way code item q
  not_forty (owner_at mode way x y) code item q z = judged_not_forty mode way (At x y) code item q z
  not_forty (index mode) code item q z = refused_other mode s all ((index_refuses mode s code item).0 q).0 z
  not_forty (indexed lent mode way wanted) code item q z = elim (same_or_53 mode s lent way wanted) [
    | inl e ↦ judged_not_forty mode way wanted code item (sym e ∙ q) z
    | inr e ↦ omega (arith, ((same_refusal {A = Written} 53 0 code item).0 (sym e ∙ q)).0)
  ]

  -- ---- how long the answers are at most
  judged_fits : (mode way : ℕ) (wanted : Wanted) (item : ℕ) (l : List ℕ) → outcome_of (without mode way wanted) s ≡ bytes item l → length l ≤ room_of (without mode way wanted)
  judged_fits mode way OwnerSets item l q =
      let (n, sets, h, e, i) = (owner_sets_answers mode s all item l).0 q in
      omega (arith, ap length e, all_length 8 set_bytes set_length sets, h.each, (read_limits mode s all n h.read).few)
  judged_fits mode way Owners item l q =
      let (n, sets, h, known, p, i) = (owners_answers mode s all way item l).0 q in
      omega (arith, p.0.each, owners_each h, (read_limits mode s all n h.read).few)
  judged_fits mode way (Boundary k) item l q =
      let (n, sets, h, on, known, o, p, e, i) = (boundary_answers mode s all way k item l).0 q in
      omega (arith, ap length e, sides_length (owned_sides n k o), sides_most n k o, (read_limits mode s all n h.read).few)
  judged_fits mode way (Rings k) item l q =
      let (n, sets, h, on, known, o, p, e, i) = (rings_answers mode s all way k item l).0 q in
      let many : length o ≡ length n.table = omega (arith, p.0.each, owners_each h) in
      omega (arith, ap length e, exact_room n.table h.passes o many k, a_third n.table h.passes o many k, sides_most n k o, (read_limits mode s all n h.read).few)
  judged_fits mode way (RingRoom k) item l q = let (n, sets, h, on, known, o, p, e, i) = (ring_room_answers mode s all way k item l).0 q in omega (arith, ap length e)
  judged_fits mode way (At x y) item l q = let (n, sets, h, known, o, p, k, t, i, e) = (at_answers mode s all way x y item l).0 q in omega (arith, ap length e)

  -- An entry has the same room with an index as without.
  same_room : (lent : List ℕ) (mode way : ℕ) (wanted : Wanted) → room_of (indexed lent mode way wanted) ≡ room_of (without mode way wanted)
  same_room lent mode way OwnerSets = refl
  same_room lent mode way Owners = refl
  same_room lent mode way (Boundary k) = refl
  same_room lent mode way (Rings k) = refl
  same_room lent mode way (RingRoom k) = refl
  same_room lent mode way (At x y) = refl

  pub fits : (e : Entry) (item : ℕ) (l : List ℕ) → outcome_of e s ≡ bytes item l → length l ≤ room_of e
  fits (numbers mode) item l q =
      let (n, r, o, e, i) = (numbers_answers mode s all item l).0 q in
      let first = first_of (header_by mode s) in
      omega (arith, ap length e, length-append first (form_of n), first_length mode s, form_length (numbers_of n), form_small members (omega arith) n (by_fits members s (omega arith) all mode n r))
  fits (areas mode) item l q =
      let (n, r, o, e, i) = (areas_answers mode s all item l).0 q in
      omega (arith, ap length e, areas_length (map double_area n.polygons), length-map n.polygons double_area, (read_limits mode s all n r).few_polygons)
  fits (position mode) item l q = omega (arith, (position_answers mode s all item l q).1)
  fits write item l q = let (n, t, f, e, i) = (write_answers s all item l).0 q in omega (arith, ap length e, written_small members n t)
  fits write_blob item l q = let (b, t, k, f, e, i) = (write_blob_answers s all item l).0 q in omega (arith, ap length e, blob_length b, written_small members b.sheet t)
  fits (owner_sets mode) item l q = judged_fits mode 0 OwnerSets item l q
  fits (owners mode way) item l q = judged_fits mode way Owners item l q
  fits (boundary mode way k) item l q = judged_fits mode way (Boundary k) item l q
  fits (rings mode way k) item l q = judged_fits mode way (Rings k) item l q
  fits (ring_room mode way k) item l q = judged_fits mode way (RingRoom k) item l q
  fits (listing mode way) item l q =
      ⊎_elim (λ (n, o, h, e). omega (arith, ap length e, listing_most way (with_owners n o) (omega (arith, (read_limits mode s all n h.read).few_polygons)))) (λ (code, k, r, e). omega (arith, ap length e, line_most refused_word code (pos k)))
      ((listing_answers mode s all way item l).0 q).1
  fits (owner_at mode way x y) item l q = judged_fits mode way (At x y) item l q
  fits (index mode) item l q =
      let (n, r, p, o, e, i) = (index_answers mode s item l).0 q in
      omega (arith, ap length e, six_each n.table, (read_limits mode s all n r).few)
  fits (indexed lent mode way wanted) item l q = elim (same_or_53 mode s lent way wanted) [
    | inl e ↦ omega (arith, same_room lent mode way wanted, judged_fits mode way wanted item l (sym e ∙ q))
    | inr e ↦ absurd (value_refused _ 53 0 (sym q ∙ e))
  ]

  -- ---- a call that comes to what the entry comes to, answered r and left the lent bytes as `after`
  module _ (e : Entry) (before : List ℕ) (r : ℕ) (after : List ℕ) (a : Answered (outcome_of e s) before r after) where
    -- "40: the answer is longer than the lent bytes": exactly then.
    pub too_long : (r % 256 ≡ 40) ↔ ((item : ℕ) × (l : List ℕ) × (outcome_of e s ≡ bytes item l) × (length before < length l))
    too_long = go (outcome_of e s) refl a.answer
      where
        short : (item : ℕ) (l : List ℕ) → outcome_of e s ≡ bytes item l → (b : Bool) → leb (length l) (length before) ≡ b → r ≡ cond b (item * 256) 40
            → (r % 256 ≡ 40) ↔ ((item : ℕ) × (l : List ℕ) × (outcome_of e s ≡ bytes item l) × (length before < length l))
        short item l q true t w = (λ z. absurd (omega arith), λ (i, m, p, h). absurd (omega (arith, ap length ((same_answer i item m l).0 (sym p ∙ q)).0, leb-true (length l) (length before) t)))
        short item l q false t w = (λ z. (item, l, q, leb-false (length l) (length before) t), λ h. omega arith)

        go : (o : Outcome) → outcome_of e s ≡ o → r ≡ answer_of o before
            → (r % 256 ≡ 40) ↔ ((item : ℕ) × (l : List ℕ) × (outcome_of e s ≡ bytes item l) × (length before < length l))
        go (refused code item) q w = (
          λ z. absurd (not_forty e code item q (omega (arith, (code_fits code item (outcome_listed s all e code item q)).1))),
          λ (i, l, p, h). absurd (value_refused _ code item (sym p ∙ q)),
        )
        go (value w) q a = short w.item w.text q (leb (length w.text) (length before)) refl a

    -- So an entry that is lent its room never answers 40.
    pub room_enough : room_of e ≤ length before → r % 256 ≡ 40 → ⊥
    room_enough h z = let (item, l, q, m) = too_long.0 z in omega (arith, fits e item l q)

-- The rooms of the numbers entry and of the writers are the least: some answer is as long.
pub least_numbers : (s : List ℕ) × All (λ b. b < 256) s × (item : ℕ) × (l : List ℕ) × (outcome_of (numbers 0) s ≡ bytes item l) × (length l ≡ room_of (numbers 0))
least_numbers =
    let r = (read_sheet_is members (written largest) largest).1 (round_trip members (omega arith) largest largest_fits) in
    (written largest, written_bytes largest, _, _, (numbers_answers 0 (written largest) (written_bytes largest) _ _).1 (largest, by_present members (written largest) ∙ r, no_envelope 0 (omega arith) (written largest) largest, refl, refl), omega (arith, form_length (numbers_of largest), largest_numbers))

pub least_write : (s : List ℕ) × All (λ b. b < 256) s × (item : ℕ) × (l : List ℕ) × (outcome_of write s ≡ bytes item l) × (length l ≡ room_of write)
least_write =
    let b = form_bytes (numbers_of largest) in
    (form_of largest, b, _, _, (write_answers (form_of largest) b _ _).1 (largest, largest_fits, refl, refl, refl), largest_written)

-- And so are those for blobs.
abbrev largest_blob : Blob
largest_blob = record { number = 0; sheet = largest }

pub least_blob_numbers : (s : List ℕ) × All (λ b. b < 256) s × (item : ℕ) × (l : List ℕ) × (outcome_of (numbers 2) s ≡ bytes item l) × (length l ≡ room_of (numbers 2))
least_blob_numbers =
    let b = largest_blob in
    let h = header_back b (omega arith) largest_fits 2 present refl in (
      written_blob b,
      blob_bytes b,
      _,
      _,
      (numbers_answers 2 (written_blob b) (blob_bytes b) _ _).1 (largest, sheet_back b (omega arith) largest_fits 2 present refl, never_52 b (omega arith) largest_fits 2 present refl, refl, refl),
      omega (arith, ap (λ o. length (first_of o ++ form_of largest)) h, length-append (first_of (some (opened_of b))) (form_of largest), length_bytes 4 0, form_length (numbers_of largest), largest_numbers),
    )

pub least_write_blob : (s : List ℕ) × All (λ b. b < 256) s × (item : ℕ) × (l : List ℕ) × (outcome_of write_blob s ≡ bytes item l) × (length l ≡ room_of write_blob)
least_write_blob =
    let b = largest_blob in
    let all = all-++ (λ x. x < 256) (bytes_of 4 0) (form_of largest) (bytes_below 4 0) (form_bytes (numbers_of largest)) in
    (blob_form b, all, _, _, (write_blob_answers (blob_form b) all _ _).1 (b, largest_fits, omega arith, refl, refl, refl), omega (arith, blob_length b, largest_written))
