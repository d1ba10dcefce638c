-- Demand 3 about the definitions. In a table with rules A and B, for any member: it is judged "not carried" exactly if no set of
-- triangles has its boundary, and "no ground" exactly if its boundary is zero everywhere; otherwise exactly one set has it, that is the one answered, it
-- is not empty, and the double areas of its triangles add up to the member's double area, which is above 0.
-- The idea: the search goes through all sets; two sets with one boundary are one set, and a boundary that is zero is that of no triangles; px·qy - qx·py adds
-- up to the same over the member's edges, over their pieces, and over the sides of a set with the same boundary. Assumes nothing.
use mathlib.Core.Path.{◌≡◌, refl, sym, ◌∙◌, ap, subst}
use mathlib.Core.Logic.{◌↔◌}
use mathlib.Core.Bool.{Bool, true, false, not}
use mathlib.Core.List.{List, [], ◌∷◌, map, flat_map}
use mathlib.Core.Option.{Option, none, some}
use Prim.Native.Nat.{ℕ, zero, suc, ◌<◌}
use native.Mathlib.Omega.{arith}
use lib.Dec.{T}
use lib.IntN.{pos}
use lib.ListN.{length, get_or, length-map}
use lib.Signed.{◌<ℤ◌}
use Rattle.whole.specs.Sums.{All, sum, net}
use Rattle.whole.proofs.Sums.{all_map, all-++, all_left, all_right, all_image}
use Rattle.plane.specs.Points.{Triangle, double, cross}
use Rattle.plane.specs.Cuts.{all_pieces}
use Rattle.plane.specs.Boundaries.{boundary, agree, sides_of}
use Rattle.plane.specs.Members.{Member, member_edges, double_area}
use Rattle.plane.proofs.Boundaries.{agree_is, areas, cross_flip, cross_adds}
use Rattle.plane.proofs.Cuts.{pieces_sum}
use Rattle.table.specs.Table.{corners, RuleA, RuleB}
use Rattle.table.specs.Sets.{SetOf, chosen, all_sets}
use Rattle.table.proofs.Sets.{one_set, all_chosen, sum_above}
use Rattle.owners.specs.Judging.{Carries, Groundless, Judged, carried, not_carried, no_ground, search, judged_by, judge, AreaOfOwnership}

-- ---- the list of all sets has all sets
sets_are : (table : List Triangle) → All (SetOf table) (all_sets table)
sets_are [] = (refl, tt)
sets_are (t ∷ l) = all-++ (SetOf (t ∷ l)) (map (λ s. true ∷ s) (all_sets l)) (map (λ s. false ∷ s) (all_sets l)) (longer true (sets_are l)) (longer false (sets_are l))
  where
    longer : (b : Bool) → All (SetOf l) (all_sets l) → All (SetOf (t ∷ l)) (map (λ s. b ∷ s) (all_sets l))
    longer b h = all_image (λ s. b ∷ s) (SetOf (t ∷ l)) (all_sets l) (all_map (SetOf l) (λ s. SetOf (t ∷ l) (b ∷ s)) (λ s h. ap suc h) (all_sets l) h)

unmapped : {A B : Type 0} (f : A → B) (P : B → Type 0) (l : List A) → All P (map f l) → All (λ a. P (f a)) l
unmapped f P [] h = tt
unmapped f P (a ∷ l) h = (h.0, unmapped f P l h.1)

every_set : (P : List Bool → Type 0) (table : List Triangle) → All P (all_sets table) → (s : List Bool) → SetOf table s → P s
every_set P [] h [] e = h.0
every_set P [] h (b ∷ s) e = absurd (omega arith)
every_set P (t ∷ l) h [] e = absurd (omega arith)
every_set P (t ∷ l) h (true ∷ s) e =
    every_set (λ s. P (true ∷ s)) l (unmapped (λ s. true ∷ s) P (all_sets l) (all_left P (map (λ s. true ∷ s) (all_sets l)) (map (λ s. false ∷ s) (all_sets l)) h)) s (omega arith)
every_set P (t ∷ l) h (false ∷ s) e =
    every_set (λ s. P (false ∷ s)) l (unmapped (λ s. false ∷ s) P (all_sets l) (all_right P (map (λ s. true ∷ s) (all_sets l)) (map (λ s. false ∷ s) (all_sets l)) h)) s (omega arith)

-- ---- the search
-- What a search by a test finds in a list of sets that all have a property.
abbrev Found : (List Bool → Bool) → (List Bool → Type 0) → List (List Bool) → Option (List Bool) → Type 0
Found p P l none = All (λ s. T (p s) → ⊥) l
Found p P l (some s) = T (p s) × P s

found : (p : List Bool → Bool) (P : List Bool → Type 0) (l : List (List Bool)) → All P l → Found p P l (search p l)
found p P [] h = tt
found p P (s ∷ l) h = go (p s) refl (search p l) (found p P l h.1)
  where
    go : (b : Bool) → p s ≡ b → (o : Option (List Bool)) → Found p P l o → Found p P (s ∷ l) (elim b [ true ↦ some s | false ↦ o ])
    go true e o r = (subst T (sym e) tt, h.0)
    go false e none r = (subst (λ b. T b → ⊥) (sym e) (λ t. t), r)
    go false e (some t) r = r

-- ---- the set of no triangles
chosen_nothing : (table : List Triangle) → chosen table (map (λ t. false) table) ≡ []
chosen_nothing [] = refl
chosen_nothing (t ∷ l) = chosen_nothing l

-- A set that has triangles has one.
some_chosen : {A : Type 0} (l : List A) (s : List Bool) → (chosen l s ≡ [] → ⊥) → (t : ℕ) × (t < length s) × (get_or s t false ≡ true)
some_chosen [] s n = absurd (n refl)
some_chosen (a ∷ l) [] n = absurd (n refl)
some_chosen (a ∷ l) (true ∷ s) n = (0, omega arith, refl)
some_chosen (a ∷ l) (false ∷ s) n = let (t, h, e) = some_chosen l s n in (suc t, omega arith, e)

module _ (table : List Triangle) (m : Member) where
  -- The triangles of a set that carries the member have its double area, in any table.
  pub carried_area : (s : List Bool) → Carries table s m → sum double (chosen table s) ≡ double_area m
  unfolding double_area
  carried_area s h = areas (chosen table s) (all_pieces (corners table) (member_edges m)) h ∙ pieces_sum cross cross_flip cross_adds (corners table) (member_edges m)

  test : List Bool → Bool
  test s = agree (sides_of (chosen table s)) (all_pieces (corners table) (member_edges m))

  tested : (s : List Bool) → T (test s) ↔ Carries table s m
  unfolding test
  tested s = agree_is (sides_of (chosen table s)) (all_pieces (corners table) (member_edges m))

  -- The member has no ground exactly if its boundary is that of no edges.
  bare : T (agree [] (all_pieces (corners table) (member_edges m))) ↔ Groundless table m
  unfolding net
  bare = let a = agree_is [] (all_pieces (corners table) (member_edges m)) in (λ t e. sym (a.0 t e), λ g. a.1 (λ e. sym (g e)))

  -- What the answer says.
  abbrev Says : Judged → Type 0
  Says (carried s) = T (test s) × SetOf table s × (Groundless table m → ⊥)
  Says not_carried = All (λ s. T (test s) → ⊥) (all_sets table)
  Says no_ground = Groundless table m

  says : (o : Option (List Bool)) → Found test (SetOf table) (all_sets table) o → (b : Bool) → T b ↔ Groundless table m → Says (judged_by (not b) o)
  says none f b g = f
  says (some s) f true g = g.0 tt
  says (some s) f false g = (f.0, f.1, g.1)

  judged : Says (judge table m)
  unfolding test judge
  judged = says (search test (all_sets table)) (found test (SetOf table) (all_sets table) (sets_are table)) (agree [] (all_pieces (corners table) (member_edges m))) bare

  -- Where there is no ground the set of no triangles carries the member; and a member that it carries has none.
  nothing_carries : Groundless table m → Carries table (map (λ t. false) table) m
  unfolding net flat_map
  nothing_carries g e = ap (λ l. boundary (sides_of l) e) (chosen_nothing table) ∙ sym (g e)

  pub empty_groundless : (s : List Bool) → chosen table s ≡ [] → Carries table s m → Groundless table m
  unfolding net flat_map
  empty_groundless s n h e = sym (h e) ∙ ap (λ l. boundary (sides_of l) e) n

  module _ (area : RuleA table) (once : RuleB table) where
    pub owned : (s : List Bool) → SetOf table s → Carries table s m → (Groundless table m → ⊥) → AreaOfOwnership table m s
    owned s l h g = record { of_table = l; carries = h; only = λ t k c. one_set table area once t s k l (λ e. c e ∙ sym (h e)); area = carried_area s h; ground = g }

    -- The set answered is the only set that carries the member, and its triangles' double areas add up to the member's.
    pub answered : (s : List Bool) → judge table m ≡ carried s → AreaOfOwnership table m s
    answered s e = let (t, l, g) = subst Says e judged in owned s l ((tested s).0 t) g

    -- A set that carries a member with ground is the one answered.
    pub answers : (s : List Bool) → SetOf table s → Carries table s m → (Groundless table m → ⊥) → judge table m ≡ carried s
    answers s l h g = go (judge table m) judged
      where
        go : (j : Judged) → Says j → j ≡ carried s
        go (carried t) (f, k, n) = ap carried ((owned s l h g).only t k ((tested t).0 f))
        go not_carried f = absurd (every_set (λ s. T (test s) → ⊥) table f s l ((tested s).1 h))
        go no_ground f = absurd (g f)

    -- Not carried exactly if no set of triangles carries the member.
    pub not_carried_lem : (judge table m ≡ not_carried) ↔ ((s : List Bool) → SetOf table s → Carries table s m → ⊥)
    not_carried_lem = (λ e s l h. every_set (λ s. T (test s) → ⊥) table (subst Says e judged) s l ((tested s).1 h), λ n. go n (judge table m) judged)
      where
        go : ((s : List Bool) → SetOf table s → Carries table s m → ⊥) → (j : Judged) → Says j → j ≡ not_carried
        go n (carried s) (f, k, g) = absurd (n s k ((tested s).0 f))
        go n not_carried f = refl
        go n no_ground g = absurd (n (map (λ t. false) table) (length-map table (λ t. false)) (nothing_carries g))

    -- No ground exactly if its boundary is zero everywhere.
    pub no_ground_lem : (judge table m ≡ no_ground) ↔ Groundless table m
    no_ground_lem = (λ e. subst Says e judged, λ g. go g (judge table m) judged)
      where
        go : Groundless table m → (j : Judged) → Says j → j ≡ no_ground
        go g (carried s) (f, k, n) = absurd (n g)
        go g not_carried f = absurd (every_set (λ s. T (test s) → ⊥) table f (map (λ t. false) table) (length-map table (λ t. false)) ((tested (map (λ t. false) table)).1 (nothing_carries g)))
        go g no_ground f = refl

    -- An area of ownership is not empty, and its double area is above 0.
    module _ (s : List Bool) (o : AreaOfOwnership table m s) where
      filled : chosen table s ≡ [] → ⊥
      filled n = o.ground (empty_groundless s n o.carries)

      pub not_empty : (t : ℕ) × (t < length s) × (get_or s t false ≡ true)
      not_empty = some_chosen table s filled

      pub area_above : pos 0 <ℤ double_area m
      area_above = subst (λ z. pos 0 <ℤ z) o.area (sum_above (chosen table s) (all_chosen (λ t. pos 0 <ℤ double t) table s area) filled)
