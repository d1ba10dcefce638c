-- Marks that spread over the numbered sides reach every triangle: marked is each triangle with a side that has no reverse, and with a
-- triangle the one across each of its sides. The idea: a side has one number, so this is `all_reached` with numbers for pairs. Assumes nothing.
use mathlib.Core.Path.{◌≡◌, refl, sym, ◌∙◌, ap, subst}
use mathlib.Core.Bool.{Bool, true, false}
use mathlib.Core.List.{List}
use Prim.Native.Nat.{ℕ, suc, ◌*◌, ◌/◌, ◌≤◌, ◌<◌}
use native.Mathlib.Omega.{arith}
use lib.ListN.{length, get_or}
use Rattle.whole.specs.Sums.{Among, bit, count}
use Rattle.whole.proofs.Sums.{all_at}
use Rattle.plane.specs.Points.{Edge, flip, same_edge}
use Rattle.plane.specs.Boundaries.{sides_of}
use Rattle.table.specs.Table.{RuleA, RuleB}
use Rattle.table.specs.Sets.{SetOf, chosen}
use Rattle.table.specs.Sides.{triangles_of, side_at}
use Rattle.table.specs.Opposites.{opposites}
use Rattle.table.proofs.Sets.{all_reached}
use Rattle.table.proofs.Shares.{length_triangles, among_side, opposite_no, opposite_is, fewer_sides, side_count}

marked : (b : Bool) → 1 ≤ bit b → b ≡ true
marked true h = refl
marked false h = absurd (omega arith)

pub reached : (keys : List ℕ) (n : ℕ) → length keys ≡ 3 * n → RuleA (triangles_of keys) → RuleB (triangles_of keys) → (marks : List Bool) → SetOf (triangles_of keys) marks
    → ((k : ℕ) → k < length keys → get_or (opposites (sides_of (triangles_of keys))) k 0 ≡ 0 → get_or marks (k / 3) false ≡ true)
    → ((k o : ℕ) → k < length keys → get_or marks (k / 3) false ≡ true → get_or (opposites (sides_of (triangles_of keys))) k 0 ≡ suc o → get_or marks (o / 3) false ≡ true)
    → (t : ℕ) → t < n → get_or marks t false ≡ true
reached keys n whole area once marks fits start spread t h =
    all_at (λ b. b ≡ true) false marks t (all_reached (triangles_of keys) area once marks fits starts spreads) (omega (arith, length_triangles keys n whole))
  where
    in_set : (e : Edge) (k : ℕ) → k < length keys → side_at keys k ≡ e → get_or marks (k / 3) false ≡ true → Among same_edge e (sides_of (chosen (triangles_of keys) marks))
    in_set e k p q m = subst (λ d. 1 ≤ count same_edge d (sides_of (chosen (triangles_of keys) marks))) q (omega (arith, side_count keys n whole once marks fits k p, ap bit m))

    of_set : (e : Edge) (k : ℕ) → k < length keys → side_at keys k ≡ e → Among same_edge e (sides_of (chosen (triangles_of keys) marks)) → get_or marks (k / 3) false ≡ true
    of_set e k p q a = marked (get_or marks (k / 3) false)
        (omega (arith, side_count keys n whole once marks fits k p, ap (λ d. count same_edge d (sides_of (chosen (triangles_of keys) marks))) q))

    starts : (e : Edge) → Among same_edge e (sides_of (triangles_of keys)) → (Among same_edge (flip e) (sides_of (triangles_of keys)) → ⊥)
        → Among same_edge e (sides_of (chosen (triangles_of keys) marks))
    starts e a no-back =
        let k = (among_side keys n whole e).0 a in
        in_set e k.0 k.1 k.2
        (start k.0 k.1 (opposite_no keys n whole k.0 k.1 (λ j p q. no-back ((among_side keys n whole (flip e)).1 (j, p, q ∙ ap flip k.2)))))

    spreads : (e : Edge) → Among same_edge e (sides_of (chosen (triangles_of keys) marks)) → Among same_edge (flip e) (sides_of (triangles_of keys))
        → Among same_edge (flip e) (sides_of (chosen (triangles_of keys) marks))
    spreads e a b =
        let k = (among_side keys n whole e).0 (omega (arith, fewer_sides (triangles_of keys) marks e)) in
        let o = (among_side keys n whole (flip e)).0 b in
        in_set (flip e) o.0 o.1 o.2
        (spread k.0 o.0 k.1 (of_set e k.0 k.1 k.2 a) (opposite_is keys n whole once k.0 o.0 k.1 o.1 (o.2 ∙ ap flip (sym k.2))))
