-- The judging of all polygons is made of the judging of each. The idea: each polygon's answer stands before those of the polygons behind it;
-- the first that is refused hides what comes behind it, and no answer depends on another polygon. Assumes nothing.
use mathlib.Core.Path.{◌≡◌, refl, sym, ◌∙◌, ap, subst}
use mathlib.Core.Logic.{◌↔◌, inl, inr}
use mathlib.Core.Bool.{Bool, true, false}
use mathlib.Core.List.{List, [], ◌∷◌}
use Prim.Native.Nat.{ℕ, zero, suc, ◌+◌, ◌<◌}
use native.Mathlib.Omega.{arith}
use lib.Dec.{eqb}
use lib.ListN.{length, get_or}
use Rattle.whole.specs.Sums.{All, Among}
use Rattle.plane.specs.Points.{Triangle}
use Rattle.plane.specs.Members.{Member}
use Rattle.lent.specs.Stages.{Answer, value, refused, and_then}
use Rattle.lent.proofs.Stages.{value_refused, same_refusal, chain_value, chain_refused}
use Rattle.table.specs.Table.{RuleA, RuleB}
use Rattle.owners_marks.specs.Marks.{owners_from}
use Rattle.owners_marks.proofs.Owners.{owner_is}
use Rattle.owners.specs.Judging.{Judged, carried, not_carried, no_ground, code, judge, AreaOfOwnership}
use Rattle.owners.specs.Owners.{stage_of, judge_from}
use Rattle.owners.proofs.Carried.{answered}

-- Each polygon is carried by its set.
abbrev pub EachCarried : List Triangle → List Member → List (List Bool) → Type 0
EachCarried table [] [] = Unit {0}
EachCarried table [] (s ∷ l) = ⊥
EachCarried table (m ∷ ms) [] = ⊥
EachCarried table (m ∷ ms) (s ∷ l) = (judge table m ≡ carried s) × EachCarried table ms l

-- The answer refuses the polygon, with the code.
abbrev pub Refuses : Judged → ℕ → Type 0
Refuses j c = (c ≡ code j) × ((s : List Bool) → j ≡ carried s → ⊥)

-- Polygon number k + j is refused with the code, and the j polygons before it, the first being number k, are carried.
abbrev pub FirstRefused : List Triangle → List Member → ℕ → ℕ → Type 0
FirstRefused table [] j c = ⊥
FirstRefused table (m ∷ ms) zero c = Refuses (judge table m) c
FirstRefused table (m ∷ ms) (suc j) c = ((s : List Bool) × (judge table m ≡ carried s)) × FirstRefused table ms j c

stage_value : (k : ℕ) (j : Judged) (s : List Bool) → stage_of k j ≡ value s → j ≡ carried s
stage_value k (carried t) s e = cc e
stage_value k not_carried s e = absurd (value_refused s 20 k (sym e))
stage_value k no_ground s e = absurd (value_refused s 21 k (sym e))

-- The stage is refused exactly if the answer refuses, with the polygon's number.
stage_refused : (k : ℕ) (j : Judged) (c i : ℕ) → (stage_of k j ≡ refused c i) ↔ (Refuses j c × (i ≡ k))
stage_refused k (carried s) c i = (λ e. absurd (value_refused s c i e), λ (r, e). absurd (r.1 s refl))
stage_refused k not_carried c i = (λ e. let (p, q) = (same_refusal {A = List Bool} 20 k c i).0 e in ((p, λ s f. absurd (let z : ◌≡◌ {A = ℕ} 0 1 = cc f in omega arith)), q), λ (r, e). (same_refusal {A = List Bool} 20 k c i).1 (r.0, e))
stage_refused k no_ground c i = (λ e. let (p, q) = (same_refusal {A = List Bool} 21 k c i).0 e in ((p, λ s f. absurd (let z : ◌≡◌ {A = ℕ} 0 1 = cc f in omega arith)), q), λ (r, e). (same_refusal {A = List Bool} 21 k c i).1 (r.0, e))

module _ (table : List Triangle) where
  -- What comes behind polygon k with the set s.
  abbrev behind : ℕ → List Member → List Bool → Answer (List (List Bool))
  behind k ms s = and_then (judge_from table (suc k) ms) (λ sets. value (s ∷ sets))

  -- All are answered exactly if each is carried, by its own set.
  each_from : (k : ℕ) (ms : List Member) (l : List (List Bool)) → judge_from table k ms ≡ value l → EachCarried table ms l
  each_from k [] l e = let p : [] ≡ l = cc e in subst (EachCarried table []) p tt
  each_from k (m ∷ ms) l e =
      let (s, p, q) = (chain_value (stage_of k (judge table m)) (behind k ms) l).0 e in
      let (r, u, v) = (chain_value (judge_from table (suc k) ms) (λ sets. value (s ∷ sets)) l).0 q in
      let w : s ∷ r ≡ l = cc v in
      subst (EachCarried table (m ∷ ms)) w (stage_value k (judge table m) s p, each_from (suc k) ms r u)

  from_each : (k : ℕ) (ms : List Member) (l : List (List Bool)) → EachCarried table ms l → judge_from table k ms ≡ value l
  from_each k [] [] h = refl
  from_each k [] (s ∷ l) h = absurd h
  from_each k (m ∷ ms) [] h = absurd h
  from_each k (m ∷ ms) (s ∷ l) h = ap (λ j. and_then (stage_of k j) (behind k ms)) h.0 ∙ ap (λ r. and_then r (λ sets. value (s ∷ sets))) (from_each (suc k) ms l h.1)

  pub all_carried : (ms : List Member) (l : List (List Bool)) → (judge_from table 1 ms ≡ value l) ↔ EachCarried table ms l
  all_carried ms l = (each_from 1 ms l, from_each 1 ms l)

  -- A refusal is that of the first polygon that is refused.
  refused_from : (k : ℕ) (ms : List Member) (c i : ℕ) → judge_from table k ms ≡ refused c i → (j : ℕ) × (i ≡ k + j) × FirstRefused table ms j c
  refused_from k [] c i e = absurd (value_refused [] c i e)
  refused_from k (m ∷ ms) c i e = elim ((chain_refused (stage_of k (judge table m)) (behind k ms) c i).0 e) [
    | inl p ↦ let (r, e) = (stage_refused k (judge table m) c i).0 p in (0, omega arith, r)
    | inr (s, p, q) ↦ elim ((chain_refused (judge_from table (suc k) ms) (λ sets. value (s ∷ sets)) c i).0 q) [
      | inl r ↦ let (j, h, f) = refused_from (suc k) ms c i r in (suc j, omega arith, ((s, stage_value k (judge table m) s p), f))
      | inr (sets, r, z) ↦ absurd (value_refused (s ∷ sets) c i z)
    ]
  ]

  from_refused : (k : ℕ) (ms : List Member) (j c : ℕ) → FirstRefused table ms j c → judge_from table k ms ≡ refused c (k + j)
  from_refused k [] j c h = absurd h
  from_refused k (m ∷ ms) zero c h = (chain_refused (stage_of k (judge table m)) (behind k ms) c (k + 0)).1 (inl ((stage_refused k (judge table m) c (k + 0)).1 (h, omega arith)))
  from_refused k (m ∷ ms) (suc j) c ((s, p), h) =
      ap (λ j. and_then (stage_of k j) (behind k ms)) p
      ∙ ap (λ r. and_then r (λ sets. value (s ∷ sets))) (from_refused (suc k) ms j c h)
      ∙ ap (refused c) (let n : suc k + j ≡ k + suc j = omega arith in n)

  pub first_refused : (ms : List Member) (c i : ℕ) → (judge_from table 1 ms ≡ refused c i) ↔ ((j : ℕ) × (i ≡ suc j) × FirstRefused table ms j c)
  first_refused ms c i = (
    λ e. let (j, h, f) = refused_from 1 ms c i e in (j, omega arith, f),
    λ (j, h, f). from_refused 1 ms j c f ∙ ap (refused c) (let n : 1 + j ≡ i = omega arith in n),
  )

-- ---- demand 3 for a whole sheet
module _ (table : List Triangle) (area : RuleA table) (once : RuleB table) where
  -- As many sets as polygons, each a set of the table's triangles.
  pub marks_fit : (ms : List Member) (l : List (List Bool)) → EachCarried table ms l → (length l ≡ length ms) × All (λ s. length s ≡ length table) l
  marks_fit [] [] h = (refl, tt)
  marks_fit [] (s ∷ l) h = absurd h
  marks_fit (m ∷ ms) [] h = absurd h
  marks_fit (m ∷ ms) (s ∷ l) h = let (n, f) = marks_fit ms l h.1 in (omega arith, ((answered table m area once s h.0).of_table, f))

  pub each_at : (ms : List Member) (l : List (List Bool)) → EachCarried table ms l → (k : ℕ) → k < length ms → judge table (get_or ms k []) ≡ carried (get_or l k [])
  each_at [] [] h k m = absurd (omega arith)
  each_at [] (s ∷ l) h k m = absurd h
  each_at (m ∷ ms) [] h k n = absurd h
  each_at (m ∷ ms) (s ∷ l) h zero n = h.0
  each_at (m ∷ ms) (s ∷ l) h (suc k) n = each_at ms l h.1 k (omega arith)

  -- Polygon k + 1 is an owner of the triangles of one set; that set is the only one that carries the polygon, and its triangles' double areas
  -- add up to the polygon's.
  pub record OwnersAre (ms : List Member) (owners : List (List ℕ)) (k : ℕ) : Type 0 where
    pub marks : List Bool
    pub of_polygon : AreaOfOwnership table (get_or ms k []) marks
    pub are : (t : ℕ) → Among eqb (suc k) (get_or owners t []) ↔ (get_or marks t false ≡ true)

  pub owners_are : (ms : List Member) (l : List (List Bool)) → EachCarried table ms l → (k : ℕ) → k < length ms → OwnersAre ms (owners_from (length table) 1 l) k
  owners_are ms l c k h =
      record {
        marks = get_or l k [];
        of_polygon = answered table (get_or ms k []) area once (get_or l k []) (each_at ms l c k h);
        are =
            λ t. let n : 1 + k ≡ suc k = omega arith in
            subst (λ i. Among eqb i (get_or (owners_from (length table) 1 l) t []) ↔ (get_or (get_or l k []) t false ≡ true)) n (owner_is (length table) 1 l (marks_fit ms l c).1 k t);
      }
