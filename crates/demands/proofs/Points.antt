-- Request No. 8: "What is at this point?" A point of the frame belongs to exactly one triangle, any other to none; the entry answers that triangle's owner after repair;
-- and a polygon owns the triangle before repair exactly if its rings wind once round the point: ownership is the ground that the polygon's corners go round.
-- Assumes nothing.
use mathlib.Core.Path.{◌≡◌, refl, sym, ◌∙◌, ap, subst}
use mathlib.Core.Logic.Iff
use mathlib.Core.Logic.{◌↔◌, ◌⊎◌, inl, inr, ⊎_elim}
use mathlib.Core.Bool.{Bool, true, false}
use mathlib.Core.List.{List, [], ◌∷◌}
use mathlib.Core.Option.{Option, none, some, none-ne-some, some-injective}
use Prim.Native.Nat.{ℕ, suc, ◌-◌, ◌≤◌, ◌<◌}
use native.Mathlib.Omega.{arith}
use borrow.Author.Tests.{lt-leb}
use lib.Dec.{T, eqb}
use lib.IntN.{ℤ, pos}
use lib.ListN.{length, get_or}
use Rattle.whole.specs.Sums.{All, Among, bit}
use Rattle.plane.specs.Points.{Point, Edge, Triangle}
use Rattle.plane.specs.Members.{member_edges}
use Rattle.plane_winding.specs.Winding.{belongs, coverage, winding}
use Rattle.lent.specs.Stages.{value, refused}
use Rattle.lent.specs.Answered.{Written, Outcome, bytes, answer_of, left_of, Answered}
use Rattle.lent.proofs.Stages.{value_refused, same_refusal, chain_value, chain_refused}
use Rattle.table.specs.Table.{corners, frame_of, RuleA, RuleC}
use Rattle.table_points.specs.Points.{triangle_of, in_frame}
use Rattle.table_points.proofs.Covered.{covered}
use Rattle.table_points.proofs.Points.{OnlyOne, NoneOf, exactly_one, elsewhere_none, only_found, found_nowhere, winds_as_marked, winds_not}
use Rattle.repair.specs.OneOwner.{owners_at}
use Rattle.repair_point.specs.Point.{owner_there}
use Rattle.sheet_form.specs.Numbers.{Sheet}
use Rattle.sheet_written.specs.Fits.{origin}
use Rattle.judged.specs.Judged.{Judged, judged_sheet, repair_of}
use Rattle.judged.specs.Held.{judge_sheet}
use Rattle.judged.proofs.Stages.{judged_value}
use Rattle.judged.proofs.Repaired
use Rattle.outcomes.specs.declared.Wanted.TheVariants.{At}
use Rattle.outcomes.specs.Entries.{goes_on}
use Rattle.demands.specs.Triangles.{Passes, triangle}
use Rattle.demands.specs.Polygons.{polygon}
use Rattle.demands.specs.Points.{OnlyTriangle, InFrame}
use Rattle.demands.specs.Answers.{HasOwners, Refused, NoOwner, Repaired as RepairedTo, KnownWay}
use Rattle.demands.specs.Entries.{owner_at, outcome_of}
use Rattle.demands.proofs.Sets.{with_owners, answers_on, refuses_on}
use Rattle.demands.proofs.After.{same_answer, repaired_is, unrepaired_is}

-- ---- from tests to what they say
holds : (b : Bool) → T b → b ≡ true
holds true t = refl
holds false t = absurd t

fails : (b : Bool) → (T b → ⊥) → b ≡ false
fails true f = absurd (f tt)
fails false f = refl

says : {b : Bool} → b ≡ true → T b
says e = subst T (sym e) tt

abbrev none_there : Triangle
none_there = record { a = origin; b = origin; c = origin }

-- ---- No. 14's statement, of which that of No. 8 is an instance: for a table with rule C against any outline,
-- "a grid point belongs to as many triangles as" the outline's edges "wind round it".
pub covered_as_wound : (outline : List Edge) (table : List Triangle) → RuleA table → RuleC outline table → (z : Point) → coverage z table ≡ winding z outline
covered_as_wound outline table area framed z = covered z table table outline area framed

module _ (table : List Triangle) (passes : Passes table) (z : Point) where
  abbrev framed : Bool
  framed = in_frame z (frame_of (corners table))

  only_is : (t : ℕ) → OnlyOne z none_there table t ↔ OnlyTriangle table z (suc t)
  only_is t = (
    λ o.
        let e : suc t - 1 ≡ t = omega arith in
        record { low = omega arith; high = omega (arith, o.within); there = says (ap (λ i. belongs z (get_or table i none_there)) e ∙ o.there); only = λ j a b h. let i = o.only (j - 1) (omega arith) (holds _ h) in omega (arith, i) },
    λ o.
        let e : suc t - 1 ≡ t = omega arith in
        record {
          within = omega (arith, o.high);
          there = ap (λ i. belongs z (get_or table i none_there)) (sym e) ∙ holds _ o.there;
          only = λ u h b. let f : suc u - 1 ≡ u = omega arith in let i = o.only (suc u) (omega arith) (omega arith) (says (ap (λ i. belongs z (get_or table i none_there)) f ∙ b)) in omega (arith, i);
        },
  )

  -- "In a table that passes rules A to C, every grid point from the frame's least x and y up to but not including the greatest belongs to exactly one triangle,
  pub one_triangle : InFrame table z → (k : ℕ) × OnlyTriangle table z k
  one_triangle h = let (t, o) = exactly_one z none_there table passes.0 passes.2 (holds framed h) in (suc t, (only_is t).0 o)

  -- and grid points elsewhere to none."
  pub no_triangle : (InFrame table z → ⊥) → (k : ℕ) → 1 ≤ k → k ≤ length table → T (belongs z (triangle table k)) → ⊥
  no_triangle h k low high t = let e = elsewhere_none z none_there table passes.0 passes.2 (fails framed h) (k - 1) (omega arith) in subst T e t

  none_of : (InFrame table z → ⊥) → NoneOf z none_there table (length table)
  none_of h = elsewhere_none z none_there table passes.0 passes.2 (fails framed h)

  -- So the triangle that is found is the only one, and none is found exactly off the half-open frame.
  pub found_is : (k : ℕ) → (triangle_of z table ≡ some k) ↔ OnlyTriangle table z k
  found_is k = (to framed refl, from k)
    where
      to : (b : Bool) → framed ≡ b → triangle_of z table ≡ some k → OnlyTriangle table z k
      to true e f =
          let (t, o) = exactly_one z none_there table passes.0 passes.2 e in
          subst (OnlyTriangle table z) (some-injective (suc t) k (sym (only_found z none_there table t o) ∙ f)) ((only_is t).0 o)
      to false e f = absurd (none-ne-some k (sym (found_nowhere z none_there table (elsewhere_none z none_there table passes.0 passes.2 e)) ∙ f))

      from : (k : ℕ) → OnlyTriangle table z k → triangle_of z table ≡ some k
      from k o =
          let e : suc (k - 1) ≡ k = omega (arith, o.low) in
          only_found z none_there table (k - 1) ((only_is (k - 1)).1 (subst (OnlyTriangle table z) (sym e) o)) ∙ ap some e

  pub none_found : (triangle_of z table ≡ none) ↔ (InFrame table z → ⊥)
  none_found = (
    λ e h. let (k, o) = one_triangle h in none-ne-some k (sym e ∙ (found_is k).1 o),
    λ h. found_nowhere z none_there table (none_of h),
  )

-- ---- ownership is coverage, for a judged sheet, before repair
module _ (mode : ℕ) (s : List ℕ) (j : Judged) (e : judged_sheet mode s ≡ value j) (z : Point) where
  table : List Triangle
  table = j.sheet.table

  comes : judge_sheet j.sheet ≡ value j
  comes = ((judged_value mode s j).0 e).1

  -- The rings of polygon k wind round a point of the frame once if the polygon owns the point's triangle, and else never,
  pub owned_where_wound : (t k : ℕ) → OnlyTriangle j.sheet.table z t → 1 ≤ k → k ≤ length j.sheet.polygons
      → (Among eqb k (owners_at j.owners (t - 1)) ↔ (winding z (member_edges (polygon j.sheet.polygons k)) ≡ pos 1))
      × ((winding z (member_edges (polygon j.sheet.polygons k)) ≡ pos 0) ⊎ (winding z (member_edges (polygon j.sheet.polygons k)) ≡ pos 1))
  unfolding table
  owned_where_wound t k o low high =
      let rules = Repaired.rules comes in
      let w = Repaired.owners_of comes (k - 1) (omega arith) in
      let c : suc (k - 1) ≡ k = omega (arith, low) in
      let d : suc (t - 1) ≡ t = omega (arith, o.low) in
      let one = (only_is j.sheet.table rules z (t - 1)).1 (subst (OnlyTriangle j.sheet.table z) (sym d) o) in
      let u = winds_as_marked z none_there j.sheet.table rules.0 w.marks w.of_polygon.of_table (member_edges (polygon j.sheet.polygons k)) w.of_polygon.carries (t - 1) one in
      marked (get_or w.marks (t - 1) false) (subst (λ i. Among eqb i (owners_at j.owners (t - 1)) ↔ (get_or w.marks (t - 1) false ≡ true)) c (w.are (t - 1))) u
    where
      marked : {A : Type 0} {n : ℤ} (b : Bool) → A ↔ (b ≡ true) → n ≡ pos (bit b) → (A ↔ (n ≡ pos 1)) × ((n ≡ pos 0) ⊎ (n ≡ pos 1))
      marked true f e = ((λ a. e, λ q. f.1 refl), inr e)
      marked {n = n} false f e = ((λ a. absurd (let z = f.0 a in subst T (sym z) tt), λ q. absurd (let z : pos 0 ≡ pos 1 = sym e ∙ q in let y : ◌≡◌ {A = ℕ} 0 1 = cc z in omega arith)), inl e)

  -- and round a point off the frame never.
  pub not_wound_off : (InFrame j.sheet.table z → ⊥) → (k : ℕ) → 1 ≤ k → k ≤ length j.sheet.polygons → winding z (member_edges (polygon j.sheet.polygons k)) ≡ pos 0
  not_wound_off h k low high =
      let rules = Repaired.rules comes in
      let w = Repaired.owners_of comes (k - 1) (omega arith) in
      winds_not z none_there j.sheet.table rules.0 w.marks w.of_polygon.of_table (member_edges (polygon j.sheet.polygons k)) w.of_polygon.carries (none_of j.sheet.table rules z h)

-- ---- sheet_at
module _ (mode : ℕ) (s : List ℕ) (all : All (λ b. b < 256) s) (way : ℕ) (x y : ℤ) where
  abbrev z : Point
  z = record { x = x; y = y }

  -- What is found for a sheet with its owners.
  abbrev there : Sheet → List ℕ → Outcome
  there n o = owner_there (triangle_of z n.table) o

  found_value : (n : Sheet) (o : List ℕ) (item : ℕ) (l : List ℕ) → Passes n.table → (there n o ≡ bytes item l) ↔ ((k : ℕ) × OnlyTriangle n.table z k × (item ≡ get_or o (k - 1) 0) × (l ≡ []))
  found_value n o item l p = (to (triangle_of z n.table) refl, λ (k, t, i, f). ap (λ r. owner_there r o) ((found_is n.table p z k).1 t) ∙ (same_answer _ item [] l).1 (f, i))
    where
      to : (r : Option ℕ) → triangle_of z n.table ≡ r → owner_there r o ≡ bytes item l → (k : ℕ) × OnlyTriangle n.table z k × (item ≡ get_or o (k - 1) 0) × (l ≡ [])
      to none f q = absurd (value_refused _ 55 0 (sym q))
      to (some k) f q = let (g, i) = (same_answer (get_or o (k - 1) 0) item [] l).0 q in (k, (found_is n.table p z k).0 f, i, g)

  found_refused : (n : Sheet) (o : List ℕ) (code item : ℕ) → Passes n.table → (there n o ≡ refused code item) ↔ ((code ≡ 55) × (item ≡ 0) × (InFrame n.table z → ⊥))
  found_refused n o code item p = (to (triangle_of z n.table) refl, λ (c, i, h). ap (λ r. owner_there r o) ((none_found n.table p z).1 h) ∙ (same_refusal {A = Written} 55 0 code item).1 (c, i))
    where
      to : (r : Option ℕ) → triangle_of z n.table ≡ r → owner_there r o ≡ refused code item → (code ≡ 55) × (item ≡ 0) × (InFrame n.table z → ⊥)
      to none f q = let (c, i) = (same_refusal {A = Written} 55 0 code item).0 q in (c, i, (none_found n.table p z).0 f)
      to (some k) f q = absurd (value_refused _ code item q)

  -- "Counter staff click on a sheet and want the owner after repair, as the item": it answers exactly if the bytes have owners, some triangle has one, and the point belongs
  -- to a triangle, the only one; then that triangle's owner after repair, and no bytes.
  pub at_answers : (item : ℕ) (l : List ℕ)
      → (outcome_of (owner_at mode way x y) s ≡ bytes item l) ↔ ((n : Sheet) × (sets : List (List ℕ)) × HasOwners mode s n sets × KnownWay way × (o : List ℕ) × RepairedTo way n sets o
      × (k : ℕ) × OnlyTriangle n.table (record { x = x; y = y }) k × (item ≡ get_or o (k - 1) 0) × (l ≡ []))
  at_answers item l = Iff.trans (answers_on mode s (goes_on way (At x y)) (record { item = item; text = l })) (
    λ (n, sets, h, e).
        let (o, p, q) = (chain_value (repair_of way (with_owners n sets)) (there n) (record { item = item; text = l })).0 e in
        let (known, r) = (repaired_is mode s all n sets h way o).0 p in
        let (k, t, i, f) = (found_value n o item l h.passes).0 q in
        (n, sets, h, known, o, r, k, t, i, f),
    λ (n, sets, h, known, o, r, k, t, i, f).
        (n, sets, h, (chain_value (repair_of way (with_owners n sets)) (there n) (record { item = item; text = l })).1 (o, (repaired_is mode s all n sets h way o).1 (known, r), (found_value n o item l h.passes).1 (k, t, i, f))),
  )

  -- And it is refused as the owner entry is, then with "55 for a point that belongs to none, after 30": exactly for points off the half-open frame.
  pub at_refuses : (code item : ℕ)
      → (outcome_of (owner_at mode way x y) s ≡ refused code item) ↔ (Refused mode s code item
      ⊎ ((code ≡ 54) × (item ≡ 0) × (n : Sheet) × (sets : List (List ℕ)) × HasOwners mode s n sets × (KnownWay way → ⊥))
      ⊎ ((code ≡ 30) × (item ≡ 0) × (n : Sheet) × (sets : List (List ℕ)) × HasOwners mode s n sets × KnownWay way × NoOwner sets)
      ⊎ ((code ≡ 55) × (item ≡ 0) × (n : Sheet) × (sets : List (List ℕ)) × HasOwners mode s n sets × KnownWay way × (o : List ℕ) × RepairedTo way n sets o × (InFrame n.table (record { x = x; y = y }) → ⊥)))
  at_refuses code item = Iff.trans (refuses_on mode s (goes_on way (At x y)) code item) (
    ⊎_elim inl (λ (n, sets, h, e). inr (elim ((chain_refused (repair_of way (with_owners n sets)) (there n) code item).0 e) [
      | inl p ↦ ⊎_elim (λ (c, i, known). inl (c, i, n, sets, h, known)) (λ (c, i, known, v). inr (inl (c, i, n, sets, h, known, v))) ((unrepaired_is mode s all n sets h way code item).0 p)
      | inr (o, p, q) ↦
          let (known, r) = (repaired_is mode s all n sets h way o).0 p in
          let (c, i, off) = (found_refused n o code item h.passes).0 q in
          inr (inr (c, i, n, sets, h, known, o, r, off))
    ])),
    ⊎_elim inl (⊎_elim
        (λ (c, i, n, sets, h, known). inr (n, sets, h, (chain_refused (repair_of way (with_owners n sets)) (there n) code item).1 (inl ((unrepaired_is mode s all n sets h way code item).1 (inl (c, i, known))))))
        (⊎_elim
        (λ (c, i, n, sets, h, known, v). inr (n, sets, h, (chain_refused (repair_of way (with_owners n sets)) (there n) code item).1 (inl ((unrepaired_is mode s all n sets h way code item).1 (inr (c, i, known, v))))))
        (λ (c, i, n, sets, h, known, o, r, off).
        inr (n, sets, h, (chain_refused (repair_of way (with_owners n sets)) (there n) code item).1 (inr (o, (repaired_is mode s all n sets h way o).1 (known, r), (found_refused n o code item h.passes).1 (c, i, off))))))),
  )

-- A call that is lent no bytes: what all entries promise holds of it.
pub nothing_lent : (o : Outcome) (r : ℕ) → r ≡ answer_of o [] → Answered o [] r []
nothing_lent (refused code item) r e = record { answer = e; left = refl }
nothing_lent (value w) r e = record { answer = e; left = stays w.text }
  where
    stays : (l : List ℕ) → [] ≡ left_of (bytes w.item l) []
    stays [] = refl
    stays (b ∷ l) = sym (rw (lt-leb (length (b ∷ l)) 0 (omega arith)) refl)
