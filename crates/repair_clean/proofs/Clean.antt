-- A sheet whose members have the rings of the polygons after repair is clean: each triangle has exactly one owner, the member with the rings of the polygon that owns it.
-- The idea: each member is carried by the triangles that its polygon owns, so a triangle's owners are the places where its owner number stands in the list of polygon numbers, and
-- it stands there once. Assumes nothing.
use mathlib.Core.Path.{◌≡◌, refl, sym, ◌∙◌, ap, ap₂, subst}
use mathlib.Core.Bool.{Bool, true, false, cond}
use mathlib.Core.List.{List, [], ◌∷◌, map}
use Prim.Native.Nat.{ℕ, suc, ◌+◌}
use native.Mathlib.Omega.{arith}
use lib.Dec.{T, eqb, eqb→eq, eqb_refl}
use lib.ListN.{length, replicate}
use Rattle.whole.specs.Sums.{All, Among, bit, count}
use Rattle.whole.proofs.Sums.{bool_iff}
use Rattle.plane.specs.Points.{Triangle}
use Rattle.plane.specs.Members.{Member}
use Rattle.lent.specs.Stages.{value, and_then}
use Rattle.table.specs.Table.{frame_edges, RuleA, RuleB, RuleC}
use Rattle.table.specs.Opposites.{later}
use Rattle.table_sides.specs.Numbered.{number_in}
use Rattle.owners_marks.specs.Marks.{with_owner, owners_from}
use Rattle.owners.specs.Owners.{judge_polygons}
use Rattle.owners.proofs.Polygons.{EachCarried, all_carried}
use Rattle.repair_sides.specs.Sides.{owned_by}
use Rattle.repair_clean.specs.Clean.{rings_after, EachHasRings}
use Rattle.repair_clean.proofs.Rings.{rings_judged, as_one_polygon}

-- ---- where an owner number stands
-- The places, the first being number j, at which o stands in a list.
abbrev places_from : ℕ → List ℕ → ℕ → List ℕ
places_from j [] o = []
places_from j (p ∷ ps) o = cond (eqb o p) (j ∷ places_from (suc j) ps o) (places_from (suc j) ps o)

-- The owners of each triangle by the sets of the polygons' triangles are these places.
owners_places : (j : ℕ) (ps owners : List ℕ) → owners_from (length owners) j (map (λ p. owned_by p owners) ps) ≡ map (places_from j ps) owners
owners_places j [] owners = none owners
  where
    none : (l : List ℕ) → replicate (length l) [] ≡ map (places_from j []) l
    none [] = refl
    none (o ∷ l) = ap (λ (r : List (List ℕ)). [] ∷ r) (none l)
owners_places j (p ∷ ps) owners = ap (with_owner j (owned_by p owners)) (owners_places (suc j) ps owners) ∙ before owners
  where
    before : (l : List ℕ) → with_owner j (owned_by p l) (map (places_from (suc j) ps) l) ≡ map (places_from j (p ∷ ps)) l
    before [] = refl
    before (o ∷ l) = ap (λ (r : List (List ℕ)). places_from j (p ∷ ps) o ∷ r) (before l)

eqb_turned : (m n : ℕ) → eqb m n ≡ eqb n m
eqb_turned m n = bool_iff (eqb m n) (eqb n m) (over m n) (over n m)
  where
    over : (m n : ℕ) → T (eqb m n) → T (eqb n m)
    over m n t = subst (λ k. T (eqb k m)) (eqb→eq m n t) (eqb_refl m)

-- A number that stands nowhere has no place,
no_places : (j : ℕ) (ps : List ℕ) (o : ℕ) → count eqb o ps ≡ 0 → places_from j ps o ≡ []
no_places j [] o h = refl
no_places j (p ∷ ps) o h = rw (eqb_turned o p) (go (eqb p o) h (no_places (suc j) ps o))
  where
    go : (b : Bool) → bit b + count eqb o ps ≡ 0 → (count eqb o ps ≡ 0 → places_from (suc j) ps o ≡ []) → cond b (j ∷ places_from (suc j) ps o) (places_from (suc j) ps o) ≡ []
    go true h r = absurd (omega arith)
    go false h r = r (omega arith)

-- and one that stands once has one.
abbrev OnePlace : ℕ → ℕ → List ℕ → Type 0
OnePlace j number places = (k : ℕ) × (number ≡ suc k) × (places ≡ (j + k) ∷ [])

one_place : (j : ℕ) (ps : List ℕ) (o : ℕ) → count eqb o ps ≡ 1 → OnePlace j (number_in o ps) (places_from j ps o)
one_place j [] o h = absurd (omega arith)
one_place j (p ∷ ps) o h = rw (eqb_turned o p) (go (eqb p o) h (one_place (suc j) ps o))
  where
    go : (b : Bool) → bit b + count eqb o ps ≡ 1 → (count eqb o ps ≡ 1 → OnePlace (suc j) (number_in o ps) (places_from (suc j) ps o))
        → OnePlace j (cond b 1 (later (number_in o ps))) (cond b (j ∷ places_from (suc j) ps o) (places_from (suc j) ps o))
    go true h r = (0, refl, ap₂ (λ (i : ℕ) (r : List ℕ). i ∷ r) (omega arith) (no_places (suc j) ps o (omega arith)))
    go false h r = let (k, e, f) = r (omega arith) in (suc k, ap later e, f ∙ ap (λ (i : ℕ). i ∷ []) (omega arith))

single_places : (ps owners : List ℕ) → All (λ o. count eqb o ps ≡ 1) owners → map (places_from 1 ps) owners ≡ map (λ o. number_in o ps ∷ []) owners
single_places ps [] h = refl
single_places ps (o ∷ l) h = ap₂ (λ (i : List ℕ) (r : List (List ℕ)). i ∷ r) (let (k, e, f) = one_place 1 ps o h.0 in f ∙ ap (λ (i : ℕ). i ∷ []) (omega arith)) (single_places ps l h.1)

-- ---- the sheet
module _ (table : List Triangle) (area : RuleA table) (once : RuleB table) (framed : RuleC (frame_edges table) table) (owners : List ℕ) (fit : length owners ≡ length table) where
  each_carried : (ps : List ℕ) (ms : List Member) → All (λ p. Among eqb p owners) ps → EachHasRings table owners ps ms → EachCarried table ms (map (λ p. owned_by p owners) ps)
  each_carried [] [] a h = tt
  each_carried [] (m ∷ ms) a h = absurd h
  each_carried (p ∷ ps) [] a h = absurd h
  each_carried (p ∷ ps) (m ∷ ms) a h = (rings_judged table area once framed owners fit p m h.0 a.0, each_carried ps ms a.1 h.1)

  -- The rings of each polygon taken as one polygon make such a sheet.
  pub as_polygons : (ps : List ℕ) → EachHasRings table owners ps (map (λ p. rings_after table owners p ∷ []) ps)
  as_polygons [] = tt
  as_polygons (p ∷ ps) = (as_one_polygon table area once framed owners fit p, as_polygons ps)

  -- Polygon numbers of which each owns a triangle, and in which each triangle's owner stands once: a sheet with a member for each, which has its rings, is judged to have exactly one
  -- owner for each triangle, the member for the triangle's owner.
  pub repaired_clean : (ps : List ℕ) (ms : List Member) → All (λ p. Among eqb p owners) ps → All (λ o. count eqb o ps ≡ 1) owners → EachHasRings table owners ps ms
      → judge_polygons table ms ≡ value (map (λ o. number_in o ps ∷ []) owners)
  unfolding judge_polygons
  repaired_clean ps ms a one h =
      ap (λ r. and_then r (λ sets. value (owners_from (length table) 1 sets))) ((all_carried table ms (map (λ p. owned_by p owners) ps)).1 (each_carried ps ms a h))
      ∙ ap value (ap (λ n. owners_from n 1 (map (λ p. owned_by p owners) ps)) (sym fit) ∙ owners_places 1 ps owners ∙ single_places ps owners one)
