-- Which stage of the road stopped: reading, the table rules, the envelope, or the judging of the polygons; and what each has where none did. Assumes nothing.
use mathlib.Core.Path.{◌≡◌, refl, sym, ◌∙◌, ap, subst}
use mathlib.Core.Logic.{◌↔◌, ◌⊎◌, inl, inr}
use mathlib.Core.Bool.{Bool, true, false}
use mathlib.Core.List.{List}
use mathlib.Core.Option.{Option}
use Prim.Native.Nat.{ℕ}
use lib.ListN.{length}
use Rattle.lent.specs.Stages.{Answer, value, refused, and_then}
use Rattle.lent.proofs.Stages.{value_refused, same_refusal, chain_value, chain_refused}
use Rattle.plane.specs.Points.{Triangle}
use Rattle.plane.specs.Members.{Member}
use Rattle.table.specs.Table.{frame_edges, check_table}
use Rattle.table_neighbours.specs.Neighbours.{indexed}
use Rattle.owners_marks.specs.Marks.{owners_from}
use Rattle.owners.specs.Owners.{judge_from, judge_polygons}
use Rattle.sheet_form.specs.Numbers.{Sheet, members}
use Rattle.sheet_modes.specs.Modes.{read_by, header_by, framed}
use Rattle.judged.specs.Judged.{Judged, matched, check_framed, judge_indexed, judged_with, judged_sheet}
use Rattle.judged.specs.Held.{judge_framed, judge_sheet}

-- The stage of the table rules.
abbrev pub checked : Sheet → Answer (Unit {0})
checked n = check_table (frame_edges n.table) n.table

-- ---- the polygons
module _ (table : List Triangle) (ms : List Member) where
  pub polygons_value : (owners : List (List ℕ)) → (judge_polygons table ms ≡ value owners) ↔ ((l : List (List Bool)) × (judge_from table 1 ms ≡ value l) × (owners_from (length table) 1 l ≡ owners))
  unfolding judge_polygons
  polygons_value owners = (
    λ e. let (l, p, q) = (chain_value (judge_from table 1 ms) (λ l. value (owners_from (length table) 1 l)) owners).0 e in (l, p, cc q),
    λ (l, p, q). (chain_value (judge_from table 1 ms) (λ l. value (owners_from (length table) 1 l)) owners).1 (l, p, ap value q),
  )

  pub polygons_refused : (code item : ℕ) → (judge_polygons table ms ≡ refused code item) ↔ (judge_from table 1 ms ≡ refused code item)
  unfolding judge_polygons
  polygons_refused code item = (
    λ e. elim ((chain_refused (judge_from table 1 ms) (λ l. value (owners_from (length table) 1 l)) code item).0 e) [ inl p ↦ p | inr (l, p, q) ↦ absurd (value_refused _ code item q) ],
    λ p. (chain_refused (judge_from table 1 ms) (λ l. value (owners_from (length table) 1 l)) code item).1 (inl p),
  )

-- ---- the envelope
-- It passes exactly if it is the frame, and is refused exactly if it isn't, 52 with item 0.
pub matched_value : (whole : Bool) → (matched whole ≡ value tt) ↔ (whole ≡ true)
matched_value true = (λ e. refl, λ e. refl)
matched_value false = (λ e. absurd (value_refused tt 52 0 (sym e)), ap matched)

pub matched_refused : (whole : Bool) (code item : ℕ) → (matched whole ≡ refused code item) ↔ ((whole ≡ false) × (code ≡ 52) × (item ≡ 0))
matched_refused whole code item = (to whole, λ (b, c, i). ap matched b ∙ (same_refusal {A = Unit {0}} 52 0 code item).1 (c, i))
  where
    to : (whole : Bool) → matched whole ≡ refused code item → (whole ≡ false) × (code ≡ 52) × (item ≡ 0)
    to true e = absurd (value_refused tt code item e)
    to false e = let (c, i) = (same_refusal {A = Unit {0}} 52 0 code item).0 e in (refl, c, i)

-- ---- a sheet, and whether its envelope is the frame
module _ (whole : Bool) (n : Sheet) where
  abbrev framing : Unit {0} → Answer (Unit {0})
  framing u = matched whole

  -- The table passes and the envelope is the frame.
  pub framed_value : (check_framed whole n ≡ value tt) ↔ ((checked n ≡ value tt) × (whole ≡ true))
  framed_value = (
    λ e. let (u, p, q) = (chain_value (checked n) framing tt).0 e in (p, (matched_value whole).0 q),
    λ (p, q). (chain_value (checked n) framing tt).1 (tt, p, ap matched q),
  )

  -- Refused by the table rules, or, where they pass, 52 with item 0 for the envelope.
  abbrev pub Unframed : ℕ → ℕ → Type 0
  Unframed code item = (checked n ≡ value tt) × (whole ≡ false) × (code ≡ 52) × (item ≡ 0)

  pub framed_refused : (code item : ℕ) → (check_framed whole n ≡ refused code item) ↔ ((checked n ≡ refused code item) ⊎ Unframed code item)
  framed_refused code item = (to, from)
    where
      to : check_framed whole n ≡ refused code item → (checked n ≡ refused code item) ⊎ Unframed code item
      to e = elim ((chain_refused (checked n) framing code item).0 e) [ inl p ↦ inl p | inr (u, p, q) ↦ let (b, c, i) = (matched_refused whole code item).0 q in inr (p, b, c, i) ]

      from : (checked n ≡ refused code item) ⊎ Unframed code item → check_framed whole n ≡ refused code item
      from (inl p) = (chain_refused (checked n) framing code item).1 (inl p)
      from (inr (p, b, c, i)) = (chain_refused (checked n) framing code item).1 (inr (tt, p, (matched_refused whole code item).1 (b, c, i)))

  abbrev with_owners : List (List ℕ) → Answer Judged
  with_owners owners = value (record { sheet = n; owners = owners })

  abbrev polygons : Unit {0} → Answer Judged
  polygons u = and_then (judge_polygons n.table n.polygons) with_owners

  -- A sheet is judged exactly if its table passes, its envelope is the frame, and its polygons have owners.
  pub framed_judged : (j : Judged)
      → (judge_framed whole n ≡ value j) ↔ ((j.sheet ≡ n) × (checked n ≡ value tt) × (whole ≡ true) × (judge_polygons n.table n.polygons ≡ value j.owners))
  unfolding judge_indexed
  framed_judged j = (to, from)
    where
      to : and_then (check_framed whole n) polygons ≡ value j → (j.sheet ≡ n) × (checked n ≡ value tt) × (whole ≡ true) × (judge_polygons n.table n.polygons ≡ value j.owners)
      to e =
          let (u, p, q) = (chain_value (check_framed whole n) polygons j).0 e in
          let (o, r, s) = (chain_value (judge_polygons n.table n.polygons) with_owners j).0 q in
          let i : n ≡ j.sheet = cc s in
          let w : o ≡ j.owners = cc s in
          let (c, b) = framed_value.0 p in
          (sym i, c, b, r ∙ ap value w)

      from : (j.sheet ≡ n) × (checked n ≡ value tt) × (whole ≡ true) × (judge_polygons n.table n.polygons ≡ value j.owners) → and_then (check_framed whole n) polygons ≡ value j
      from (i, c, b, r) =
          (chain_value (check_framed whole n) polygons j).1
          (tt, framed_value.1 (c, b), (chain_value (judge_polygons n.table n.polygons) with_owners j).1 (j.owners, r, λ k. value (record { sheet = sym i k; owners = j.owners })))

  -- It is refused by the table rules, or, where they pass, by its envelope, or else by a polygon.
  pub sheet_refused : (code item : ℕ)
      → (judge_framed whole n ≡ refused code item) ↔ ((checked n ≡ refused code item) ⊎ (Unframed code item ⊎ ((checked n ≡ value tt) × (whole ≡ true) × (judge_from n.table 1 n.polygons ≡ refused code item))))
  unfolding judge_indexed
  sheet_refused code item = (to, from)
    where
      Said : Type 0
      Said = (checked n ≡ refused code item) ⊎ (Unframed code item ⊎ ((checked n ≡ value tt) × (whole ≡ true) × (judge_from n.table 1 n.polygons ≡ refused code item)))

      to : and_then (check_framed whole n) polygons ≡ refused code item → Said
      to e = elim ((chain_refused (check_framed whole n) polygons code item).0 e) [
        | inl p ↦ elim ((framed_refused code item).0 p) [ inl q ↦ inl q | inr q ↦ inr (inl q) ]
        | inr (u, p, q) ↦ elim ((chain_refused (judge_polygons n.table n.polygons) with_owners code item).0 q) [
          | inl r ↦ let (c, b) = framed_value.0 p in inr (inr (c, b, (polygons_refused n.table n.polygons code item).0 r))
          | inr (o, r, s) ↦ absurd (value_refused _ code item s)
        ]
      ]

      from : Said → and_then (check_framed whole n) polygons ≡ refused code item
      from (inl p) = (chain_refused (check_framed whole n) polygons code item).1 (inl ((framed_refused code item).1 (inl p)))
      from (inr (inl p)) = (chain_refused (check_framed whole n) polygons code item).1 (inl ((framed_refused code item).1 (inr p)))
      from (inr (inr (c, b, q))) =
          (chain_refused (check_framed whole n) polygons code item).1
          (inr (tt, framed_value.1 (c, b), (chain_refused (judge_polygons n.table n.polygons) with_owners code item).1 (inl ((polygons_refused n.table n.polygons code item).1 q))))

-- A sheet by itself is judged exactly if its table passes and its polygons have owners.
pub sheet_value : (n : Sheet) (j : Judged) → (judge_sheet n ≡ value j) ↔ ((j.sheet ≡ n) × (checked n ≡ value tt) × (judge_polygons n.table n.polygons ≡ value j.owners))
sheet_value n j = (λ e. let (i, c, b, o) = (framed_judged true n j).0 e in (i, c, o), λ (i, c, o). (framed_judged true n j).1 (i, c, refl, o))

-- With an envelope it is judged as by itself, where the envelope is the frame.
pub envelope_value : (whole : Bool) (n : Sheet) (j : Judged) → (judge_framed whole n ≡ value j) ↔ ((judge_sheet n ≡ value j) × (whole ≡ true))
envelope_value whole n j = (
  λ e. let (i, c, b, o) = (framed_judged whole n j).0 e in ((framed_judged true n j).1 (i, c, refl, o), b),
  λ (e, b). ap (λ w. judge_framed w n) b ∙ e,
)

-- ---- with an index that is lent, or none
module _ (index : Option (List ℕ)) (whole : Bool) (n : Sheet) where
  abbrev then_index : Unit {0} → Answer Judged
  then_index u = and_then (indexed index n.table) (polygons whole n)

  -- With an index a sheet is judged as without, where the index passes.
  pub indexed_value : (j : Judged) → (judge_indexed index whole n ≡ value j) ↔ ((judge_framed whole n ≡ value j) × (indexed index n.table ≡ value tt))
  unfolding judge_indexed
  indexed_value j = (
    λ e.
        let (u, p, q) = (chain_value (check_framed whole n) then_index j).0 e in
        let (v, i, r) = (chain_value (indexed index n.table) (polygons whole n) j).0 q in
        ((chain_value (check_framed whole n) (polygons whole n) j).1 (tt, p, r), i),
    λ (e, i).
        let (u, p, q) = (chain_value (check_framed whole n) (polygons whole n) j).0 e in
        (chain_value (check_framed whole n) then_index j).1 (tt, p, (chain_value (indexed index n.table) (polygons whole n) j).1 (tt, i, q)),
  )

  -- It is refused before the index is looked at, or, where nothing is, for the index, or else by a polygon.
  pub indexed_refused : (code item : ℕ) → ((check_framed whole n ≡ refused code item) ⊎ ((check_framed whole n ≡ value tt)
      × ((indexed index n.table ≡ refused code item) ⊎ ((indexed index n.table ≡ value tt) × (judge_from n.table 1 n.polygons ≡ refused code item))))) → judge_indexed index whole n ≡ refused code item
  unfolding judge_indexed
  indexed_refused code item (inl p) = (chain_refused (check_framed whole n) then_index code item).1 (inl p)
  indexed_refused code item (inr (p, inl i)) = (chain_refused (check_framed whole n) then_index code item).1 (inr (tt, p, (chain_refused (indexed index n.table) (polygons whole n) code item).1 (inl i)))
  indexed_refused code item (inr (p, inr (i, q))) =
      (chain_refused (check_framed whole n) then_index code item).1
      (inr (
        tt,
        p,
        (chain_refused (indexed index n.table) (polygons whole n) code item).1
            (inr (tt, i, (chain_refused (judge_polygons n.table n.polygons) (with_owners whole n) code item).1 (inl ((polygons_refused n.table n.polygons code item).1 q)))),
      ))

-- ---- bytes
module _ (mode : ℕ) (s : List ℕ) where
  -- The envelope around the sheet is the frame of its table, or there is none.
  abbrev pub whole_around : Sheet → Bool
  whole_around n = framed (header_by mode s) n

  abbrev judging : Sheet → Answer Judged
  judging n = judge_framed (whole_around n) n

  -- Bytes come to a judged sheet exactly if they are read as its sheet, that is judged so, and what stands around it agrees.
  pub judged_value : (j : Judged) → (judged_sheet mode s ≡ value j) ↔ ((read_by members mode s ≡ value j.sheet) × (judge_sheet j.sheet ≡ value j) × (whole_around j.sheet ≡ true))
  unfolding judged_with
  judged_value j = (to, λ (p, q, b). (chain_value (read_by members mode s) judging j).1 (j.sheet, p, (envelope_value (whole_around j.sheet) j.sheet j).1 (q, b)))
    where
      to : and_then (read_by members mode s) judging ≡ value j → (read_by members mode s ≡ value j.sheet) × (judge_sheet j.sheet ≡ value j) × (whole_around j.sheet ≡ true)
      to e =
          let (n, p, q) = (chain_value (read_by members mode s) judging j).0 e in
          let (v, b) = (envelope_value (whole_around n) n j).0 q in
          let i = sym ((sheet_value n j).0 v).0 in
          (p ∙ ap value i, subst (λ n. judge_sheet n ≡ value j) i v, subst (λ n. whole_around n ≡ true) i b)

  -- They are refused by reading, or read as a sheet that is refused.
  pub judged_refused : (code item : ℕ)
      → (judged_sheet mode s ≡ refused code item) ↔ ((read_by members mode s ≡ refused code item) ⊎ ((n : Sheet) × (read_by members mode s ≡ value n) × (judge_framed (whole_around n) n ≡ refused code item)))
  unfolding judged_with
  judged_refused code item = chain_refused (read_by members mode s) judging code item

  -- With an index bytes come to a judged sheet as without, where the index passes.
  module _ (index : Option (List ℕ)) where
    abbrev judging_with : Sheet → Answer Judged
    judging_with n = judge_indexed index (whole_around n) n

    pub with_value : (j : Judged) → (judged_sheet mode s ≡ value j) × (indexed index j.sheet.table ≡ value tt) → judged_with index mode s ≡ value j
    unfolding judged_with
    with_value j (e, i) = let (p, q, b) = (judged_value j).0 e in (chain_value (read_by members mode s) judging_with j).1 (j.sheet, p, (indexed_value index (whole_around j.sheet) j.sheet j).1 ((envelope_value (whole_around j.sheet) j.sheet j).1 (q, b), i))

    pub with_refused : (code item : ℕ) → (read_by members mode s ≡ refused code item) ⊎ ((n : Sheet) × (read_by members mode s ≡ value n) × (judge_indexed index (whole_around n) n ≡ refused code item)) → judged_with index mode s ≡ refused code item
    unfolding judged_with
    with_refused code item = (chain_refused (read_by members mode s) judging_with code item).1
