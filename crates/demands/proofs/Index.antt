-- Request No. 6, the entries: building the index, and the entries that take one. "With the table's own index all answers equal those without it, refusals included";
-- "53 for an index that differs from the table's own in length or content, right before 20". The idea: the stages before the index are those of building it.
-- Assumes nothing.
use mathlib.Core.Path.{◌≡◌, refl, sym, ◌∙◌, ap, subst}
use mathlib.Core.Logic.{◌↔◌, ◌⊎◌, inl, inr, ⊎_elim}
use mathlib.Core.Bool.{Bool, true, false}
use mathlib.Core.List.{List}
use Prim.Native.Nat.{ℕ, ◌*◌, ◌<◌}
use native.Mathlib.Omega.{arith}
use lib.Dec.{T}
use lib.ListN.{length}
use Rattle.whole.specs.Sums.{All}
use Rattle.lent.specs.Stages.{value, refused, and_then, needing}
use Rattle.lent.specs.Answered.{Written, Outcome, bytes}
use Rattle.lent.proofs.Stages.{value_refused, same_refusal, chain_value, chain_refused}
use Rattle.table.specs.Table.{frame_edges}
use Rattle.table.proofs.Rules.{passes, refused_as}
use Rattle.table_neighbours.specs.Neighbours.{own_index, same_bytes}
use Rattle.table_neighbours.proofs.Same.{same_is}
use Rattle.sheet_form.specs.Numbers.{Sheet, members}
use Rattle.sheet_modes.specs.Modes.{read_by}
use Rattle.judged.specs.Judged.{check_framed, judged_sheet}
use Rattle.judged.proofs.Stages.{framed_value, framed_refused, sheet_refused, whole_around, judged_refused}
use Rattle.outcomes.specs.declared.Wanted.{Wanted}
use Rattle.outcomes.specs.declared.Wanted.TheVariants.{OwnerSets, Owners, Boundary, Rings, RingRoom, At}
use Rattle.outcomes.specs.Entries.{text_outcome, index_outcome, goes_on}
use Rattle.outcomes.proofs.Index.{with_index}
use Rattle.demands.specs.Triangles.{Passes}
use Rattle.demands.specs.Answers.{OtherEnvelope, Refused, PolygonRefused, unread, breaks_a, breaks_b, breaks_c, unframed, not_carried, no_ground}
use Rattle.demands.specs.Entries.{index, indexed, outcome_of}
use Rattle.demands.specs.Index.{without}
use Rattle.demands.proofs.Points.{at_refuses}
use Rattle.demands.proofs.Stages.{of_reading, not_between, not_above}
use Rattle.demands.proofs.Envelopes.{framed_yes}
use Rattle.demands.proofs.Order.{is_first}
use Rattle.demands.proofs.Sets.{is_refused}
use Rattle.demands.proofs.After.{same_answer}
use Rattle.demands.proofs.Answers.{owner_sets_refuses, owners_refuses, boundary_refuses, rings_refuses, ring_room_refuses}
use Rattle.demands.proofs.Neighbours.{six_each}

module _ (mode : ℕ) (s : List ℕ) where
  abbrev whole : Sheet → Bool
  whole n = whole_around mode s n

  abbrev on : Sheet → Outcome
  on n = index_outcome (whole n) n

  abbrev told : Sheet → Unit {0} → Outcome
  told n u = text_outcome (own_index n.table)

  -- ---- sheet_index
  -- "It is built after rules A to C pass (item: its length in bytes)": it answers exactly if the bytes are read as a sheet, its table passes the rules and no envelope
  -- around it is another than the frame, and then the table's own index, 6 bytes for each triangle.
  pub index_answers : (item : ℕ) (l : List ℕ) → (outcome_of (index mode) s ≡ bytes item l)
      ↔ ((n : Sheet) × (read_by members mode s ≡ value n) × Passes n.table × (OtherEnvelope mode s n → ⊥) × (l ≡ own_index n.table) × (item ≡ 6 * length n.table))
  index_answers item l = (to, from)
    where
      to : outcome_of (index mode) s ≡ bytes item l → (n : Sheet) × (read_by members mode s ≡ value n) × Passes n.table × (OtherEnvelope mode s n → ⊥) × (l ≡ own_index n.table) × (item ≡ 6 * length n.table)
      to e =
          let (n, p, q) = (chain_value (read_by members mode s) on (record { item = item; text = l })).0 e in
          let (u, r, z) = (chain_value (check_framed (whole n) n) (told n) (record { item = item; text = l })).0 q in
          let (c, b) = (framed_value (whole n) n).0 r in
          let (f, i) = (same_answer (length (own_index n.table)) item (own_index n.table) l).0 z in
          (n, p, (passes (frame_edges n.table) n.table).0 c, (framed_yes mode s n).0 b, f, i ∙ six_each n.table)

      from : (n : Sheet) × (read_by members mode s ≡ value n) × Passes n.table × (OtherEnvelope mode s n → ⊥) × (l ≡ own_index n.table) × (item ≡ 6 * length n.table) → outcome_of (index mode) s ≡ bytes item l
      from (n, p, r, o, f, i) =
          (chain_value (read_by members mode s) on (record { item = item; text = l })).1 (
            n,
            p,
            (chain_value (check_framed (whole n) n) (told n) (record { item = item; text = l })).1 (
              tt,
              (framed_value (whole n) n).1 ((passes (frame_edges n.table) n.table).1 r, (framed_yes mode s n).1 o),
              (same_answer (length (own_index n.table)) item (own_index n.table) l).1 (f, i ∙ sym (six_each n.table)),
            ),
          )

  -- Where building the index is refused, so is judging, in the same way,
  stops : (code item : ℕ) → outcome_of (index mode) s ≡ refused code item → judged_sheet mode s ≡ refused code item
  stops code item e = (judged_refused mode s code item).1 (elim ((chain_refused (read_by members mode s) on code item).0 e) [
    | inl p ↦ inl p
    | inr (n, p, q) ↦ inr (
      n,
      p,
      elim ((chain_refused (check_framed (whole n) n) (told n) code item).0 q) [
        | inl r ↦ (sheet_refused (whole n) n code item).1 (⊎_elim inl (λ w. inr (inl w)) ((framed_refused (whole n) n code item).0 r))
        | inr (u, r, z) ↦ absurd (value_refused _ code item z)
      ],
    )
  ])

  -- and not for a polygon.
  no_polygon : (code item : ℕ) → outcome_of (index mode) s ≡ refused code item → (code ≡ 20 → ⊥) × (code ≡ 21 → ⊥)
  no_polygon code item e = elim ((chain_refused (read_by members mode s) on code item).0 e) [
    | inl p ↦ let r = of_reading mode s code item p in (λ z. not_between r (omega arith) (omega arith), λ z. not_between r (omega arith) (omega arith))
    | inr (n, p, q) ↦ elim ((chain_refused (check_framed (whole n) n) (told n) code item).0 q) [
      | inl r ↦ elim ((framed_refused (whole n) n code item).0 r) [
        | inl c ↦ elim ((refused_as (frame_edges n.table) n.table code item).0 c) [
          | inl a ↦ (λ z. omega (arith, a.0), λ z. omega (arith, a.0))
          | inr (inl b) ↦ (λ z. omega (arith, b.0), λ z. omega (arith, b.0))
          | inr (inr d) ↦ (λ z. omega (arith, d.0), λ z. omega (arith, d.0))
        ]
        | inr w ↦ (λ z. omega (arith, w.2), λ z. omega (arith, w.2))
      ]
      | inr (u, r, z) ↦ absurd (value_refused _ code item z)
    ]
  ]

  -- It is refused exactly as the set entry is before any polygon is judged: by reading, or with 10, 11, 12 or 52.
  pub index_refuses : (code item : ℕ) → (outcome_of (index mode) s ≡ refused code item) ↔ (Refused mode s code item × (code ≡ 20 → ⊥) × (code ≡ 21 → ⊥))
  index_refuses code item = (λ e. let (a, b) = no_polygon code item e in ((is_refused mode s code item).0 (stops code item e), a, b), from)
    where
      from : Refused mode s code item × (code ≡ 20 → ⊥) × (code ≡ 21 → ⊥) → outcome_of (index mode) s ≡ refused code item
      from (r, a, b) = elim ((judged_refused mode s code item).0 ((is_refused mode s code item).1 r)) [
        | inl p ↦ (chain_refused (read_by members mode s) on code item).1 (inl p)
        | inr (n, p, q) ↦ (chain_refused (read_by members mode s) on code item).1 (inr (
          n,
          p,
          (chain_refused (check_framed (whole n) n) (told n) code item).1 (inl (elim ((sheet_refused (whole n) n code item).0 q) [
            | inl c ↦ (framed_refused (whole n) n code item).1 (inl c)
            | inr (inl w) ↦ (framed_refused (whole n) n code item).1 (inr w)
            | inr (inr (c, w, f)) ↦ absurd (⊎_elim (λ h. a h.0) (λ h. b h.0) (is_first n.table c n.polygons code item f))
          ])),
        ))
      ]

  -- ---- the entries that take an index
  module _ (lent : List ℕ) (way : ℕ) where
    -- The index is compared with the one that is built, and then comes what comes without one.
    abbrev compare : Outcome → Written → Outcome
    compare next w = and_then (needing (same_bytes lent w.text) 53 0) (λ _. next)

    plain : (wanted : Wanted) → and_then (judged_sheet mode s) (goes_on way wanted) ≡ outcome_of (without mode way wanted) s
    plain OwnerSets = refl
    plain Owners = refl
    plain (Boundary polygon) = refl
    plain (Rings polygon) = refl
    plain (RingRoom polygon) = refl
    plain (At x y) = refl

    module _ (wanted : Wanted) where
      by_building : outcome_of (indexed lent mode way wanted) s ≡ and_then (outcome_of (index mode) s) (compare (outcome_of (without mode way wanted) s))
      by_building = ap (λ j. and_then j (goes_on way wanted)) (with_index lent mode s) ∙ go (outcome_of (index mode) s)
        where
          then : (b : Bool) → and_then (and_then (needing b 53 0) (λ _. judged_sheet mode s)) (goes_on way wanted) ≡ and_then (needing b 53 0) (λ _. outcome_of (without mode way wanted) s)
          then true = plain wanted
          then false = refl

          go : (o : Outcome) → and_then (and_then o (λ w. and_then (needing (same_bytes lent w.text) 53 0) (λ _. judged_sheet mode s))) (goes_on way wanted) ≡ and_then o (compare (outcome_of (without mode way wanted) s))
          go (value w) = then (same_bytes lent w.text)
          go (refused code item) = refl

      -- "Where building it is refused", for anything but 40, which is no outcome, the entry with any index "gives that same refusal".
      pub before_index : (code item : ℕ) → outcome_of (index mode) s ≡ refused code item → outcome_of (indexed lent mode way wanted) s ≡ refused code item
      before_index code item e = by_building ∙ ap (λ o. and_then o (compare (outcome_of (without mode way wanted) s))) e

      -- "With the table's own index all answers equal those without it, refusals included."
      pub own_index_lem : (item : ℕ) → outcome_of (index mode) s ≡ bytes item lent → outcome_of (indexed lent mode way wanted) s ≡ outcome_of (without mode way wanted) s
      own_index_lem item e = by_building ∙ ap (λ o. and_then o (compare (outcome_of (without mode way wanted) s))) e ∙ go (same_bytes lent lent) ((same_is lent lent).1 refl)
        where
          go : (b : Bool) → T b → and_then (needing b 53 0) (λ _. outcome_of (without mode way wanted) s) ≡ outcome_of (without mode way wanted) s
          go true t = refl
          go false t = absurd t

      -- Another one is refused 53.
      other_index : (item : ℕ) (own : List ℕ) → outcome_of (index mode) s ≡ bytes item own → (lent ≡ own → ⊥) → outcome_of (indexed lent mode way wanted) s ≡ refused 53 0
      other_index item own e n = by_building ∙ ap (λ o. and_then o (compare (outcome_of (without mode way wanted) s))) e ∙ go (same_bytes lent own) (λ t. n ((same_is lent own).0 t))
        where
          go : (b : Bool) → (T b → ⊥) → and_then (needing b 53 0) (λ _. outcome_of (without mode way wanted) s) ≡ refused 53 0
          go true f = absurd (f tt)
          go false f = refl

      -- So an entry with an index comes to what it comes to without one, or to 53.
      pub same_or_53 : (outcome_of (indexed lent mode way wanted) s ≡ outcome_of (without mode way wanted) s) ⊎ (outcome_of (indexed lent mode way wanted) s ≡ refused 53 0)
      same_or_53 = go (outcome_of (index mode) s) refl
        where
          tried : (item : ℕ) (own : List ℕ) → outcome_of (index mode) s ≡ bytes item own → (b : Bool) → same_bytes lent own ≡ b
              → (outcome_of (indexed lent mode way wanted) s ≡ outcome_of (without mode way wanted) s) ⊎ (outcome_of (indexed lent mode way wanted) s ≡ refused 53 0)
          tried item own e true q = inl (own_index_lem item (e ∙ ap (bytes item) (sym ((same_is lent own).0 (subst T (sym q) tt)))))
          tried item own e false q = inr (other_index item own e (λ h. subst T q ((same_is lent own).1 h)))

          go : (o : Outcome) → outcome_of (index mode) s ≡ o → (outcome_of (indexed lent mode way wanted) s ≡ outcome_of (without mode way wanted) s) ⊎ (outcome_of (indexed lent mode way wanted) s ≡ refused 53 0)
          go (value w) e = tried w.item w.text e (same_bytes lent w.text) refl
          go (refused code item) e = inl (before_index code item e ∙ sym (ap (λ j. and_then j (goes_on way wanted)) (stops code item e)) ∙ plain wanted)

module _ (mode : ℕ) (s : List ℕ) (all : All (λ b. b < 256) s) where
  -- ---- 53
  not_53 : {code item : ℕ} → Refused mode s code item → code ≡ 53 → ⊥
  not_53 (unread {code} {item} e) z = not_above (of_reading mode s code item e) (omega arith) (omega arith)
  not_53 (breaks_a n p f) z = omega arith
  not_53 (breaks_b n p a f) z = omega arith
  not_53 (breaks_c n p a b c) z = omega arith
  not_53 (unframed n p r w) z = omega arith
  not_53 (not_carried n p r w f) z = omega arith
  not_53 (no_ground n p r w f) z = omega arith

  never_asked : {way k item : ℕ} → PolygonRefused mode s way k 53 item → ⊥
  never_asked = ⊎_elim (λ r. not_53 r refl) (⊎_elim (λ h. omega (arith, h.0)) (⊎_elim (λ h. omega (arith, h.0)) (λ h. omega (arith, h.0))))

  never_53 : (way : ℕ) (wanted : Wanted) (item : ℕ) → outcome_of (without mode way wanted) s ≡ refused 53 item → ⊥
  never_53 way OwnerSets item e = not_53 ((owner_sets_refuses mode s all 53 item).0 e) refl
  never_53 way Owners item e = ⊎_elim (λ r. not_53 r refl) (⊎_elim (λ h. omega (arith, h.0)) (λ h. omega (arith, h.0))) ((owners_refuses mode s all way 53 item).0 e)
  never_53 way (Boundary k) item e = never_asked ((boundary_refuses mode s all way k 53 item).0 e)
  never_53 way (Rings k) item e = never_asked ((rings_refuses mode s all way k 53 item).0 e)
  never_53 way (RingRoom k) item e = never_asked ((ring_room_refuses mode s all way k 53 item).0 e)
  never_53 way (At x y) item e = ⊎_elim (λ r. not_53 r refl) (⊎_elim (λ h. omega (arith, h.0)) (⊎_elim (λ h. omega (arith, h.0)) (λ h. omega (arith, h.0)))) ((at_refuses mode s all way x y 53 item).0 e)

  -- "53 for an index that differs from the table's own in length or content": exactly then, and only where there is one.
  pub fifty_three : (lent : List ℕ) (way : ℕ) (wanted : Wanted) (k : ℕ) → (outcome_of (indexed lent mode way wanted) s ≡ refused 53 k)
      ↔ ((k ≡ 0) × (item : ℕ) × (own : List ℕ) × (outcome_of (index mode) s ≡ bytes item own) × (lent ≡ own → ⊥))
  fifty_three lent way wanted k = (
    λ e. go (outcome_of (index mode) s) refl e,
    λ (z, item, own, q, n). other_index mode s lent way wanted item own q n ∙ ap (refused 53) (sym z),
  )
    where
      go : (o : Outcome) → outcome_of (index mode) s ≡ o → outcome_of (indexed lent mode way wanted) s ≡ refused 53 k → (k ≡ 0) × (item : ℕ) × (own : List ℕ) × (outcome_of (index mode) s ≡ bytes item own) × (lent ≡ own → ⊥)
      go (value w) q e = (
        ⊎_elim (λ h. absurd (never_53 way wanted k (sym h ∙ e))) (λ h. ((same_refusal {A = Written} 53 0 53 k).0 (sym h ∙ e)).1) (same_or_53 mode s lent way wanted),
        w.item,
        w.text,
        q,
        λ h. never_53 way wanted k (sym (own_index_lem mode s lent way wanted w.item (q ∙ ap (bytes w.item) (sym h))) ∙ e),
      )
      go (refused code item) q e =
          let (c, i) = (same_refusal {A = Written} code item 53 k).0 (sym (before_index mode s lent way wanted code item q) ∙ e) in
          absurd (not_53 ((index_refuses mode s code item).0 q).0 (sym c))
