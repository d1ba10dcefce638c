-- Demand 3, with request No. 2: "Take any table of triangles that passes the three table rules, and any polygon of the sheet with no refused one before it. The
-- polygon is refused as not carried exactly if no set of triangles has the polygon's boundary as its own. Otherwise there is just one such
-- set, it is the set answered, and its triangles' areas add up to the area worked out from the polygon's corners alone." What it says of the set answered
-- "holds for polygons refused neither 20 nor 21." Assumes nothing.
use mathlib.Core.Path.{◌≡◌, refl, sym, ◌∙◌, ap, subst}
use mathlib.Core.Logic.{◌↔◌, ◌⊎◌, inl, inr}
use mathlib.Core.Bool.{Bool, true, false}
use mathlib.Core.List.{List, []}
use Prim.Native.Nat.{ℕ, suc, ◌-◌, ◌≤◌, ◌<◌}
use native.Mathlib.Omega.{arith}
use lib.Dec.{eqb}
use lib.IntN.{pos}
use lib.ListN.{length, get_or}
use lib.Signed.{◌<ℤ◌}
use Rattle.std.specs.Prelude.{Result, Ok}
use Rattle.whole.specs.Sums.{Among}
use Rattle.plane.specs.Points.{Triangle}
use Rattle.plane.specs.Members.{Member, double_area}
use Rattle.lent.specs.Stages.{Answer, value, refused}
use Rattle.table.specs.Table.{frame_edges, RuleA, RuleB, RuleC, check_table}
use Rattle.table.specs.Sets.{SetOf}
use Rattle.table.proofs.Rules.{passes as by_rules, refused_as}
use Rattle.owners_marks.specs.Marks.{owners_from}
use Rattle.owners.specs.Judging.{Carries, Groundless, carried as carried_by, not_carried, no_ground, code, judge, AreaOfOwnership}
use Rattle.owners.specs.Owners.{judge_from}
use Rattle.owners.proofs.Carried.{answered, answers, not_carried_lem, no_ground_lem as by_boundary, not_empty, area_above}
use Rattle.owners_judge.specs.declared.Unowned.{Unowned}
use Rattle.owners_judge.specs.Judged.{judged_of}
use Rattle.owners_judge.proofs.Judged.{judging_says as code_says}
use Rattle.sheet_form.specs.Numbers.{Sheet, members}
use Rattle.sheet_modes.specs.Modes.{read_by}
use Rattle.judged.specs.Judged.{Judged, judged_sheet}
use Rattle.judged.proofs.Stages.{polygons_value, sheet_value, sheet_refused, whole_around, judged_value, judged_refused}
use Rattle.judged.proofs.Repaired.{rules, owners_of}
use Rattle.demands.specs.Triangles.{NoArea, RepeatsSide, First}
use Rattle.demands.specs.Polygons.{NoSet, polygon, EachSound, FirstFaulty}
use Rattle.demands.specs.Answers.{OtherEnvelope}
use Rattle.demands.proofs.Table.{refused_a, refused_b, refused_c}
use Rattle.demands.proofs.Stages.{of_reading, not_between}
use Rattle.demands.proofs.Envelopes.{framed_yes}
use Rattle.demands.proofs.Order.{is_first, first_no_set, first_no_ground}

-- A table passes exactly if the three table rules hold.
pub passes : (table : List Triangle) → (check_table (frame_edges table) table ≡ value tt) ↔ (RuleA table × RuleB table × RuleC (frame_edges table) table)
passes table = by_rules (frame_edges table) table

-- Otherwise it is refused: "10: rule A, first such triangle",
pub breaks_a : (table : List Triangle) (k : ℕ) → (check_table (frame_edges table) table ≡ refused 10 k) ↔ First NoArea table k
breaks_a = refused_a

-- then "11: rule B, first triangle with a side of an earlier one",
pub breaks_b : (table : List Triangle) (k : ℕ) → (check_table (frame_edges table) table ≡ refused 11 k) ↔ (RuleA table × First RepeatsSide table k)
breaks_b = refused_b

-- then "12: rule C", item 0.
pub breaks_c : (table : List Triangle) (k : ℕ) → (check_table (frame_edges table) table ≡ refused 12 k) ↔ ((k ≡ 0) × RuleA table × RuleB table × (RuleC (frame_edges table) table → ⊥))
breaks_c = refused_c

-- The judging of one polygon, whatever stands before it. AreaOfOwnership says: it is a set of the table's triangles, it has the polygon's boundary, no
-- other set has it, and the double areas of its triangles add up to the polygon's. (Rules A and B suffice, so that it holds for any outline.)
pub carried : (table : List Triangle) → RuleA table → RuleB table → (m : Member)
    → ((judge table m ≡ not_carried) ↔ NoSet table m)
    × ((judge table m ≡ no_ground) ↔ Groundless table m)
    × ((s : List Bool) → SetOf table s → Carries table s m → (Groundless table m → ⊥) → judge table m ≡ carried_by s)
    × ((s : List Bool) → judge table m ≡ carried_by s → AreaOfOwnership table m s)
carried table area once m = (not_carried_lem table m area once, by_boundary table m area once, answers table m area once, answered table m area once)

-- The set of a polygon that is refused neither way is not empty, and the polygon has a double area above 0.
pub has_ground : (table : List Triangle) → RuleA table → RuleB table → (m : Member) (s : List Bool) → AreaOfOwnership table m s
    → ((t : ℕ) × (t < length s) × (get_or s t false ≡ true)) × (pos 0 <ℤ double_area m)
has_ground table area once m s o = (not_empty table m area once s o, area_above table m area once s o)

-- So for the code that judges a polygon, which answers 20, 21 or its labels: 20 exactly if no set has the polygon's boundary, 21 exactly if that is zero
-- everywhere, and else the labels are its set.
pub judging_says : (table : List Triangle) → RuleA table → RuleB table → (m : Member) (r : Result (Unit {0}) Unowned) (labels : List Bool) → judged_of r labels ≡ judge table m
    → ((code (judged_of r labels) ≡ 20) ↔ NoSet table m) × ((code (judged_of r labels) ≡ 21) ↔ Groundless table m) × (r ≡ Ok tt → AreaOfOwnership table m labels)
judging_says table area once m = code_says table m area once

-- ---- whole sheets
-- The number given with 20 is that of the first polygon that no set of triangles carries, the number given with 21 that of the first without ground, where
-- those before it are refused neither way; and each is given exactly if there is one, in a sheet that is read, whose table passes the rules and around which no
-- envelope is another than the frame.
pub first_refused : (mode : ℕ) (s : List ℕ) (code k : ℕ) → ((code ≡ 20) ⊎ (code ≡ 21))
    → (judged_sheet mode s ≡ refused code k) ↔ ((n : Sheet) × (read_by members mode s ≡ value n) × (check_table (frame_edges n.table) n.table ≡ value tt) × (OtherEnvelope mode s n → ⊥)
    × (((code ≡ 20) × FirstFaulty NoSet n.table n.polygons k) ⊎ ((code ≡ 21) × FirstFaulty Groundless n.table n.polygons k)))
first_refused mode s code k which = (to, from)
  where
    high : (20 ≤ code) × (code ≤ 21)
    high = elim which [ inl e ↦ (omega arith, omega arith) | inr e ↦ (omega arith, omega arith) ]

    to : judged_sheet mode s ≡ refused code k → (n : Sheet) × (read_by members mode s ≡ value n) × (check_table (frame_edges n.table) n.table ≡ value tt) × (OtherEnvelope mode s n → ⊥)
        × (((code ≡ 20) × FirstFaulty NoSet n.table n.polygons k) ⊎ ((code ≡ 21) × FirstFaulty Groundless n.table n.polygons k))
    to e = elim ((judged_refused mode s code k).0 e) [
      | inl r ↦ absurd (not_between (of_reading mode s code k r) (omega (arith, high.0)) (omega (arith, high.1)))
      | inr (n, p, q) ↦ elim ((sheet_refused (whole_around mode s n) n code k).0 q) [
        | inl r ↦ absurd (elim ((refused_as (frame_edges n.table) n.table code k).0 r) [ inl a ↦ omega (arith, a.0, high.0) | inr (inl b) ↦ omega (arith, b.0, high.0) | inr (inr c) ↦ omega (arith, c.0, high.0) ])
        | inr (inl u) ↦ absurd (omega (arith, u.2, high.1))
        | inr (inr (r, b, f)) ↦ (n, p, r, (framed_yes mode s n).0 b, is_first n.table r n.polygons code k f)
      ]
    ]

    from : (n : Sheet) × (read_by members mode s ≡ value n) × (check_table (frame_edges n.table) n.table ≡ value tt) × (OtherEnvelope mode s n → ⊥)
        × (((code ≡ 20) × FirstFaulty NoSet n.table n.polygons k) ⊎ ((code ≡ 21) × FirstFaulty Groundless n.table n.polygons k)) → judged_sheet mode s ≡ refused code k
    from (n, p, e, w, f) = (judged_refused mode s code k).1 (inr (
      n,
      p,
      (sheet_refused (whole_around mode s n) n code k).1 (inr (inr (
        e,
        (framed_yes mode s n).1 w,
        elim f [
          | inl (c, g) ↦ first_no_set n.table e n.polygons k g ∙ ap (λ c. refused c k) (sym c)
          | inr (c, g) ↦ first_no_ground n.table e n.polygons k g ∙ ap (λ c. refused c k) (sym c)
        ],
      ))),
    ))

-- A sheet has owners exactly if it is read, its table passes the rules, no envelope around it is another than the frame and each polygon is refused neither way.
pub all_sound : (mode : ℕ) (s : List ℕ) (n : Sheet)
    → ((owners : List (List ℕ)) × (judged_sheet mode s ≡ value (record { sheet = n; owners = owners })))
    ↔ ((read_by members mode s ≡ value n) × (check_table (frame_edges n.table) n.table ≡ value tt) × (OtherEnvelope mode s n → ⊥) × EachSound n.table n.polygons)
all_sound mode s n = (to, from)
  where
    to : (owners : List (List ℕ)) × (judged_sheet mode s ≡ value (record { sheet = n; owners = owners }))
        → (read_by members mode s ≡ value n) × (check_table (frame_edges n.table) n.table ≡ value tt) × (OtherEnvelope mode s n → ⊥) × EachSound n.table n.polygons
    to (owners, e) =
        let j : Judged = record { sheet = n; owners = owners } in
        let (p, q, b) = (judged_value mode s j).0 e in
        (p, ((sheet_value n j).0 q).1, (framed_yes mode s n).0 b, λ k low high. let o = owners_of {j = j} q (k - 1) (omega arith) in ((o.marks, o.of_polygon.of_table, o.of_polygon.carries), o.of_polygon.ground))

    from : (read_by members mode s ≡ value n) × (check_table (frame_edges n.table) n.table ≡ value tt) × (OtherEnvelope mode s n → ⊥) × EachSound n.table n.polygons
        → (owners : List (List ℕ)) × (judged_sheet mode s ≡ value (record { sheet = n; owners = owners }))
    from (p, e, w, each) = go (judge_from n.table 1 n.polygons) refl
      where
        go : (o : Answer (List (List Bool))) → judge_from n.table 1 n.polygons ≡ o → (owners : List (List ℕ)) × (judged_sheet mode s ≡ value (record { sheet = n; owners = owners }))
        go (value l) q =
            let owners = owners_from (length n.table) 1 l in
            let j : Judged = record { sheet = n; owners = owners } in
            (owners, (judged_value mode s j).1 (p, (sheet_value n j).1 (refl, e, (polygons_value n.table n.polygons owners).1 (l, q, refl)), (framed_yes mode s n).1 w))
        go (refused c k) q = absurd (elim (is_first n.table e n.polygons c k q) [
          | inl (z, f) ↦ let ((t, u, v), g) = each k f.low f.high in f.fault t u v
          | inr (z, f) ↦ (each k f.low f.high).1 f.fault
        ])

-- Then the triangles that polygon k owns are the set answered for it, of which the first theorem speaks.
pub sets_answered : (mode : ℕ) (s : List ℕ) (j : Judged) → judged_sheet mode s ≡ value j → (k : ℕ) → 1 ≤ k → k ≤ length j.sheet.polygons
    → (marks : List Bool) × (judge j.sheet.table (polygon j.sheet.polygons k) ≡ carried_by marks) × ((t : ℕ) → Among eqb k (get_or j.owners t []) ↔ (get_or marks t false ≡ true))
sets_answered mode s j e k low high =
    let q = ((judged_value mode s j).0 e).1 in
    let b = owners_of q (k - 1) (omega arith) in
    let r = rules q in
    let n : suc (k - 1) ≡ k = omega arith in (
      b.marks,
      answers j.sheet.table (polygon j.sheet.polygons k) r.0 r.1 b.marks b.of_polygon.of_table b.of_polygon.carries b.of_polygon.ground,
      λ t. subst (λ i. Among eqb i (get_or j.owners t []) ↔ (get_or b.marks t false ≡ true)) n (b.are t),
    )
