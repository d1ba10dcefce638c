-- What the judging of a sheet that was read comes to. The idea: each stage's answer as the code has it is the definition's,
-- and the owner sets are the 64-bit form of the owners. Assumes nothing.
use mathlib.Core.Path.{◌≡◌, refl, sym, ◌∙◌, ap}
use mathlib.Core.Logic.{inl, inr}
use mathlib.Core.Bool.{Bool}
use mathlib.Core.List.{List, map}
use mathlib.Core.Option.{Option}
use Prim.Native.Nat.{ℕ}
use native.Mathlib.Omega.{arith}
use lib.ListN.{length, take}
use Rattle.std.specs.Prelude.{Result, Ok, Err}
use Rattle.lent.specs.declared.Refusal.{Refusal}
use Rattle.lent.specs.Refusals.{code_of}
use Rattle.lent.specs.Stages.{Answer, value, and_then}
use Rattle.lent.proofs.Stages.{value_refused, chain_value, chain_refused}
use Rattle.table.specs.Table.{frame_edges}
use Rattle.table.proofs.Rules.{passes}
use Rattle.table_neighbours.specs.Neighbours.{indexed}
use Rattle.owners_marks.specs.Marks.{owners_from}
use Rattle.owners_marks.specs.Sets.{owner_sets, owners_of}
use Rattle.owners_marks.proofs.Owners.{sets_are, owners_are}
use Rattle.owners.specs.Owners.{judge_from}
use Rattle.owners.proofs.Polygons.{all_carried, marks_fit}
use Rattle.sheet_form.specs.Numbers.{Sheet, members}
use Rattle.sheet.specs.Held.{SheetHeld}
use Rattle.sheet_turned.specs.Rings.{RingsFit}
use Rattle.sheet_modes.specs.Modes.{read_by}
use Rattle.judged_sets.specs.Owning.{held_sets}
use Rattle.judged.specs.Judged.{Judged, check_framed}
use Rattle.judged.specs.Judging.{OwnedOf}
use Rattle.judged.specs.Held.{judge_sheet, JudgedAs}
use Rattle.judged.proofs.Stages.{framed_value, polygons_value, sheet_value, whole_around, judged_value, indexed_refused, with_value, with_refused}

-- ---- what the judging of the sheet read comes to
module _ (index : Option (List ℕ)) (mode : ℕ) (s : List ℕ) (n : Sheet) (r : read_by members mode s ≡ value n) (size : ℕ) (numbers : List ℕ) (held : SheetHeld members n (take size numbers)) (rings : RingsFit n) (opposite l : List ℕ) where
  abbrev whole : Bool
  whole = whole_around mode s n

  abbrev held_polygons : Unit {0} → Answer (List ℕ)
  held_polygons u = held_sets n.table n.polygons

  abbrev then_index : Unit {0} → Answer (List ℕ)
  then_index u = and_then (indexed index n.table) held_polygons

  -- With its marks.
  with_marks : (t : ℕ) → OwnedOf index whole n (Ok t) opposite l → check_framed whole n ≡ value tt → indexed index n.table ≡ value tt → (marks : List (List Bool)) → judge_from n.table 1 n.polygons ≡ value marks
      → owner_sets (length n.table) marks ≡ take t l → JudgedAs index mode s (Ok t) numbers opposite l
  with_marks t w p i marks u v =
      let j : Judged = record { sheet = n; owners = owners_from (length n.table) 1 marks } in
      let f = (framed_value whole n).0 p in
      let c : judge_sheet n ≡ value j = (sheet_value n j).1 (refl, f.0, (polygons_value n.table n.polygons j.owners).1 (marks, u, refl)) in
      let rules = (passes (frame_edges n.table) n.table).0 f.0 in
      let few = (marks_fit n.table rules.0 rules.1 n.polygons marks ((all_carried n.table n.polygons marks).0 u)).0 in (
        j,
        with_value mode s index j ((judged_value mode s j).1 (r, c, f.1), i),
        sym w.each,
        record {
          size = size;
          held = held;
          rings = rings;
          comes = c;
          crossed = w.crossed;
          sets_are = sym v ∙ sets_are (length n.table) marks;
          owners_are = ap (map owners_of) (sym v) ∙ owners_are (length n.table) marks (omega (arith, few, held.few_polygons));
        },
      )

  pub judged_as : (o : Result ℕ Refusal) → OwnedOf index whole n o opposite l → JudgedAs index mode s o numbers opposite l
  judged_as (Ok t) w =
      let (u, p, z) = (chain_value (check_framed whole n) then_index (take t l)).0 (sym w.is) in
      let (v, i, q) = (chain_value (indexed index n.table) held_polygons (take t l)).0 z in
      let (marks, f, g) = (chain_value (judge_from n.table 1 n.polygons) (λ sets. value (owner_sets (length n.table) sets)) (take t l)).0 q in
      with_marks t w p i marks f (cc g)
  judged_as (Err stop) w = with_refused mode s index (code_of stop.reason) stop.item (inr (
    n,
    r,
    indexed_refused index whole n (code_of stop.reason) stop.item (elim ((chain_refused (check_framed whole n) then_index (code_of stop.reason) stop.item).0 (sym w.is)) [
      | inl p ↦ inl p
      | inr (u, p, q) ↦ inr (
        p,
        elim ((chain_refused (indexed index n.table) held_polygons (code_of stop.reason) stop.item).0 q) [
          | inl i ↦ inl i
          | inr (v, i, q) ↦ inr (
            i,
            elim ((chain_refused (judge_from n.table 1 n.polygons) (λ sets. value (owner_sets (length n.table) sets)) (code_of stop.reason) stop.item).0 q) [
              | inl f ↦ f
              | inr (marks, f, g) ↦ absurd (value_refused _ (code_of stop.reason) stop.item g)
            ],
          )
        ],
      )
    ]),
  ))
