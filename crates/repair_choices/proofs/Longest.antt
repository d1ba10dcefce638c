-- The longest shared boundary: of the numbers that some sides touch there is one with none longer, and of those as long none larger; it is the choice. The idea: the greatest
-- shared length is that of a number touched, so that there is a largest of those which have it; and two numbers that are each no less than the other are one.
-- Assumes nothing.
use mathlib.Core.Path.{◌≡◌, refl, sym, ◌∙◌, ap, subst}
use mathlib.Core.Logic.{◌↔◌, ◌⊎◌, inl, inr}
use mathlib.Core.Bool.{Bool, true, false, not}
use mathlib.Core.List.{List, [], ◌∷◌, map}
use Prim.Native.Nat.{ℕ, ◌+◌, ◌/◌, ◌≤◌, ◌<◌}
use native.Mathlib.Omega.{arith}
use native.Mathlib.Decide.{ℕ_discrete}
use borrow.Author.Tests.{eqb-true, eq-eqb, ne_eqb}
use lib.Dec.{eqb}
use lib.ListN.{length, get_or}
use Rattle.whole.specs.Sums.{passing}
use Rattle.repair_choices.specs.Choices.{greatest, total, across, sides_in, touched, shared, favoured, longest}
use Rattle.repair_choices.specs.Choosing.{FoundAcross, Chooses, In, Favoured}
use Rattle.repair_choices.proofs.Lists.{in_passing, in_map, greatest_above, greatest_in}
use Rattle.repair_choices.proofs.Largest.{side_of}

-- ---- the numbers that some sides touch
module _ (opposite numbers sides : List ℕ) (m : ℕ) where
  -- Those across a side, but 0.
  pub touched_is : In m (touched opposite numbers sides) ↔ ((m ≡ 0 → ⊥) × (k : ℕ) × In k sides × (across opposite numbers k ≡ m))
  touched_is =
      let p = in_passing (λ m. not (eqb m 0)) (map (across opposite numbers) sides) m in
      let q = in_map (across opposite numbers) sides m in (
        λ i. let (j, t) = p.0 i in let (k, l, e) = q.0 j in (λ z. off (eqb m 0) (eq-eqb m 0 z) t, k, l, e),
        λ (n, k, l, e). p.1 (q.1 (k, l, e), ap not (ne_eqb m 0 n)),
      )
    where
      off : (b : Bool) → b ≡ true → not b ≡ true → ⊥
      off true e t = let w : ◌≡◌ {A = ℕ} 0 1 = cc t in omega arith
      off false e t = let w : ◌≡◌ {A = ℕ} 0 1 = cc e in omega arith

module _ (lengths opposite numbers sides : List ℕ) where
  abbrev there : List ℕ
  there = touched opposite numbers sides

  abbrev long : ℕ → ℕ
  long = shared lengths opposite numbers sides

  -- The numbers touched that have the greatest shared length.
  abbrev best : List ℕ
  best = passing (λ m. eqb (long m) (greatest (map long there))) there

  in-best : (m : ℕ) → In m best ↔ (In m there × (eqb (long m) (greatest (map long there)) ≡ true))
  in-best = in_passing (λ m. eqb (long m) (greatest (map long there))) there

  -- The number chosen is one touched with none longer, and none as long is larger.
  pub favoured_is : Favoured lengths opposite numbers sides (favoured lengths opposite numbers sides)
  favoured_is = go there refl
    where
      go : (l : List ℕ) → there ≡ l → Favoured lengths opposite numbers sides (greatest best)
      go [] e =
          let out : (m : ℕ) → In m there → ⊥ = λ m i. subst (In m) e i in
          record { one = inl (subst (λ l. greatest (passing (λ m. eqb (long m) (greatest (map long there))) l) ≡ 0) (sym e) refl, out); none_longer = λ m i. absurd (out m i); none_larger = λ m i. absurd (out m i) }
      go (x ∷ l) e =
          let first : In x there = subst (In x) (sym e) (inl refl) in
          let (m, i, s) = (in_map long there (greatest (map long there))).0 (greatest_in (map long there) (long x) ((in_map long there (long x)).1 (x, first, refl))) in
          let chosen = (in-best (greatest best)).0 (greatest_in best m ((in-best m).1 (i, eq-eqb (long m) (greatest (map long there)) s))) in
          let most : long (greatest best) ≡ greatest (map long there) = eqb-true (long (greatest best)) (greatest (map long there)) chosen.1 in
          record {
            one = inr chosen.0;
            none_longer = λ n j. omega (arith, most, greatest_above (map long there) (long n) ((in_map long there (long n)).1 (n, j, refl)));
            none_larger = λ n j q. greatest_above best n ((in-best n).1 (j, eq-eqb (long n) (greatest (map long there)) (q ∙ most)));
          }

  -- There is one such number only.
  pub only_favoured : (r s : ℕ) → Favoured lengths opposite numbers sides r → Favoured lengths opposite numbers sides s → r ≡ s
  only_favoured r s f g = go f.one g.one
    where
      go : ((r ≡ 0) × ((m : ℕ) → In m there → ⊥)) ⊎ In r there → ((s ≡ 0) × ((m : ℕ) → In m there → ⊥)) ⊎ In s there → r ≡ s
      go (inl (z, n)) (inl (w, o)) = omega arith
      go (inl (z, n)) (inr j) = absurd (n s j)
      go (inr i) (inl (w, o)) = absurd (o r i)
      go (inr i) (inr j) =
          let same : long r ≡ long s = omega (arith, f.none_longer s j, g.none_longer r i) in
          omega (arith, g.none_larger r i same, f.none_larger s j (sym same))

-- The same for sides that touch the same numbers, each with the same shared length.
pub favoured_same : {lengths opposite numbers : List ℕ} (sides sides' : List ℕ) → ((m : ℕ) → In m (touched opposite numbers sides') ↔ In m (touched opposite numbers sides))
    → ((m : ℕ) → shared lengths opposite numbers sides' m ≡ shared lengths opposite numbers sides m) → (r : ℕ) → Favoured lengths opposite numbers sides r → Favoured lengths opposite numbers sides' r
favoured_same {lengths} {opposite} {numbers} sides sides' t e r f = record {
  one = elim f.one [ inl (z, n) ↦ inl (z, λ m i. n m ((t m).0 i)) | inr i ↦ inr ((t r).1 i) ];
  none_longer = λ m i. omega (arith, e m, e r, f.none_longer m ((t m).0 i));
  none_larger = λ m i q. f.none_larger m ((t m).0 i) (sym (e m) ∙ q ∙ e r);
}

-- ---- the longest shared boundary is a choice
pub longest_chooses : (lengths opposite : List ℕ) → Chooses opposite (longest lengths opposite)
longest_chooses lengths opposite = record { found = found; none = none }
  where
    found : (numbers : List ℕ) (group : List Bool) → FoundAcross opposite numbers group (longest lengths opposite numbers group)
    found numbers group = elim (favoured_is lengths opposite numbers (sides_in opposite numbers group)).one [
      | inl (z, n) ↦ inl z
      | inr i ↦
          let (s, k, j, e) = (touched_is opposite numbers (sides_in opposite numbers group) (longest lengths opposite numbers group)).0 i in
          let (h, t) = (side_of opposite numbers group k).0 j in
          inr (k, h, t, e)
    ]

    none : (numbers : List ℕ) (group : List Bool) → longest lengths opposite numbers group ≡ 0 → (k : ℕ) → k < length opposite → get_or group (k / 3) false ≡ true → across opposite numbers k ≡ 0
    none numbers group z k h t = go (across opposite numbers k) refl
      where
        sides : List ℕ
        sides = sides_in opposite numbers group

        go : (m : ℕ) → across opposite numbers k ≡ m → across opposite numbers k ≡ 0
        go m e = elim (ℕ_discrete m 0) [
          | yes s ↦ e ∙ s
          | no s ↦ elim (favoured_is lengths opposite numbers sides).one [
            | inl (w, n) ↦ absurd (n m ((touched_is opposite numbers sides m).1 (s, k, (side_of opposite numbers group k).1 (h, t), e)))
            | inr i ↦ absurd (((touched_is opposite numbers sides (longest lengths opposite numbers group)).0 i).0 z)
          ]
        ]

-- ---- a touching number is never lost
-- Where each side is at least 1 long, so is the shared length of a number that a side touches.
pub shared_some : (lengths opposite numbers : List ℕ) → ((k : ℕ) → k < length lengths → 1 ≤ get_or lengths k 0) → (sides : List ℕ) (k : ℕ) → k < length lengths → In k sides
    → 1 ≤ shared lengths opposite numbers sides (across opposite numbers k)
shared_some lengths opposite numbers long sides k h i =
    total_some (passing (λ j. eqb (across opposite numbers j) (across opposite numbers k)) sides)
    ((in_passing (λ j. eqb (across opposite numbers j) (across opposite numbers k)) sides k).1 (i, eq-eqb (across opposite numbers k) (across opposite numbers k) refl))
  where
    total_some : (l : List ℕ) → In k l → 1 ≤ total (map (λ k. get_or lengths k 0) l)
    total_some (j ∷ l) i = go i (λ i. total_some l i)
      where
        go : (j ≡ k) ⊎ In k l → (In k l → 1 ≤ total (map (λ k. get_or lengths k 0) l)) → 1 ≤ get_or lengths j 0 + total (map (λ k. get_or lengths k 0) l)
        go (inl e) f = omega (arith, long k h, ap (λ j. get_or lengths j 0) e)
        go (inr i) f = omega (arith, f i)
    total_some [] i = elim i [ ]
