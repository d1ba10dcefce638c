-- The lengths added up side by side: after each side the sums are the shared lengths of the sides met, and the number preferred is the one favoured by them. The idea: the sum
-- of one number grows, and those of the others stay; so the number favoured is that one or the one favoured before. Assumes nothing.
use mathlib.Core.Path.{◌≡◌, refl, sym, ◌∙◌, ap, subst}
use mathlib.Core.Logic.{◌⊎◌, inl, inr}
use mathlib.Core.Bool.{cond}
use mathlib.Core.List.{List, [], ◌∷◌}
use Prim.Native.Nat.{ℕ, zero, suc, ◌+◌, ◌*◌, ◌≤◌, ◌<◌}
use native.Mathlib.Omega.{arith}
use native.Mathlib.Decide.{ℕ_discrete}
use borrow.Author.Tests.{ltb-true, ltb-false, eq-eqb, ne_eqb}
use lib.Dec.{eqb, ltb}
use lib.ListN.{length, get_or, set, replicate, length-set, length-replicate}
use lib.Seq.{get_or-set_same, get_or-set_other}
use Rattle.whole.proofs.Tests.{by_equal}
use Rattle.repair_choices.specs.Choices.{greater, across, touched, shared}
use Rattle.repair_choices.specs.Choosing.{In, Favoured}
use Rattle.repair_choices.specs.Adding.{preferred, Adding}
use Rattle.repair_choices.proofs.Lists.{greater_left, greater_right, greater_one}
use Rattle.repair_choices.proofs.Longest.{touched_is}
use Rattle.repair_choices.proofs.Rearranged.{shared_parts}

module _ {lengths opposite numbers : List ℕ} where
  -- No side has been met.
  pub adding_none : Adding lengths opposite numbers [] (replicate 65 0) 0
  adding_none = record {
    many = length-replicate {A = ℕ} 65 0;
    none = refl;
    are = λ m l h. at m;
    small = λ m. omega (arith, at m);
    up_to = omega arith;
    favours = record { one = inl (refl, λ m i. i); none_longer = λ m i. absurd i; none_larger = λ m i. absurd i };
  }
    where
      at : (m : ℕ) → ◌≡◌ {A = ℕ} (get_or (replicate 65 0) m 0) 0
      at m = zeros 65 m
        where
          zeros : (n m : ℕ) → ◌≡◌ {A = ℕ} (get_or (replicate n 0) m 0) 0
          zeros zero m = refl
          zeros (suc n) zero = refl
          zeros (suc n) (suc m) = zeros n m

  -- ---- one side more
  module _ {sides sums : List ℕ} {best : ℕ} (is : Adding lengths opposite numbers sides sums best) (k : ℕ) where
    abbrev long : ℕ → ℕ
    long = shared lengths opposite numbers sides

    abbrev long' : ℕ → ℕ
    long' = shared lengths opposite numbers (k ∷ sides)

    -- It adds to the number across it, and to no other.
    grows : (m : ℕ) → across opposite numbers k ≡ m → long' m ≡ get_or lengths k 0 + long m
    grows m e =
        let on : cond (eqb (across opposite numbers k) m) (get_or lengths k 0) 0 ≡ get_or lengths k 0 = ap (λ b. cond b (get_or lengths k 0) 0) (eq-eqb (across opposite numbers k) m e) in
        omega (arith, shared_parts lengths opposite numbers m (k ∷ sides), shared_parts lengths opposite numbers m sides, on)

    stays : (m : ℕ) → (across opposite numbers k ≡ m → ⊥) → long' m ≡ long m
    stays m e =
        let off : cond (eqb (across opposite numbers k) m) (get_or lengths k 0) 0 ≡ 0 = ap (λ b. cond b (get_or lengths k 0) 0) (ne_eqb (across opposite numbers k) m e) in
        omega (arith, shared_parts lengths opposite numbers m (k ∷ sides), shared_parts lengths opposite numbers m sides, off)

    -- A number touched is the one across it, or was touched before.
    touched_more : (m : ℕ) → In m (touched opposite numbers (k ∷ sides)) → ((across opposite numbers k ≡ m) × (m ≡ 0 → ⊥)) ⊎ In m (touched opposite numbers sides)
    touched_more m i =
        let (z, j, l, e) = (touched_is opposite numbers (k ∷ sides) m).0 i in
        elim l [ inl s ↦ inl (ap (across opposite numbers) s ∙ e, z) | inr l ↦ inr ((touched_is opposite numbers sides m).1 (z, j, l, e)) ]

    touched_still : (m : ℕ) → In m (touched opposite numbers sides) → In m (touched opposite numbers (k ∷ sides))
    touched_still m i = let (z, j, l, e) = (touched_is opposite numbers sides m).0 i in (touched_is opposite numbers (k ∷ sides) m).1 (z, j, inr l, e)

    -- Where a number was touched, so was the one favoured, which is not 0.
    best_some : (m : ℕ) → In m (touched opposite numbers sides) → 1 ≤ best
    best_some m i = elim is.favours.one [
      | inl (z, n) ↦ absurd (n m i)
      | inr j ↦ let z = ((touched_is opposite numbers sides best).0 j).0 in elim (ℕ_discrete best 0) [ yes e ↦ absurd (z e) | no e ↦ omega arith ]
    ]

    best_in : 1 ≤ best → In best (touched opposite numbers (k ∷ sides))
    best_in h = elim is.favours.one [ inl (z, n) ↦ absurd (omega arith) | inr j ↦ touched_still best j ]

    -- A side that touches no number changes nothing.
    pub adding_nothing : across opposite numbers k ≡ 0 → Adding lengths opposite numbers (k ∷ sides) sums best
    adding_nothing e = record {
      many = is.many;
      none = is.none;
      are = λ m l h. is.are m l h ∙ sym (same m l);
      small = λ m. omega (arith, is.small m);
      up_to = is.up_to;
      favours = record {
        one = elim is.favours.one [ inl (z, n) ↦ inl (z, λ m i. n m (before m i).0) | inr i ↦ inr (touched_still best i) ];
        none_longer = λ m i. let (j, s, b) = before m i in omega (arith, same m s, same best b, is.favours.none_longer m j);
        none_larger = λ m i q. let (j, s, b) = before m i in is.favours.none_larger m j (sym (same m s) ∙ q ∙ same best b);
      };
    }
      where
        same : (m : ℕ) → 1 ≤ m → long' m ≡ long m
        same m h = stays m (λ q. omega arith)

        before : (m : ℕ) → In m (touched opposite numbers (k ∷ sides)) → In m (touched opposite numbers sides) × (1 ≤ m) × (1 ≤ best)
        before m i = elim (touched_more m i) [
          | inl (q, z) ↦ absurd (z (sym q ∙ e))
          | inr j ↦ (j, some m ((touched_is opposite numbers sides m).0 j).0, best_some m j)
        ]
          where
            some : (m : ℕ) → (m ≡ 0 → ⊥) → 1 ≤ m
            some m z = elim (ℕ_discrete m 0) [ yes e ↦ absurd (z e) | no e ↦ omega arith ]

    -- ---- a side that touches number m
    module _ (m : ℕ) (e : across opposite numbers k ≡ m) (some : 1 ≤ m) (few : m ≤ 64) (short : get_or lengths k 0 ≤ 30_000_000) where
      abbrev sums' : List ℕ
      sums' = set sums m (get_or sums m 0 + get_or lengths k 0)

      at_m : get_or sums' m 0 ≡ long' m
      at_m = get_or-set_same sums m (get_or sums m 0 + get_or lengths k 0) 0 (omega (arith, is.many)) ∙ omega (arith, is.are m some few, grows m e)

      at_other : (n : ℕ) → (n ≡ m → ⊥) → get_or sums' n 0 ≡ get_or sums n 0
      at_other n z = get_or-set_other sums m n (get_or sums m 0 + get_or lengths k 0) 0 z

      other : (n : ℕ) → (n ≡ m → ⊥) → long' n ≡ long n
      other n z = stays n (λ q. z (sym q ∙ e))

      sums_are : (n : ℕ) → 1 ≤ n → n ≤ 64 → get_or sums' n 0 ≡ long' n
      sums_are n l h = elim (ℕ_discrete n m) [ yes q ↦ subst (λ n. get_or sums' n 0 ≡ long' n) (sym q) at_m | no q ↦ at_other n q ∙ is.are n l h ∙ sym (other n q) ]

      sums_small : (n : ℕ) → get_or sums' n 0 ≤ 30_000_000 * length (k ∷ sides)
      sums_small n = elim (ℕ_discrete n m) [
        | yes q ↦ omega (arith, ap (λ n. get_or sums' n 0) q, get_or-set_same sums m (get_or sums m 0 + get_or lengths k 0) 0 (omega (arith, is.many)), is.small m)
        | no q ↦ omega (arith, at_other n q, is.small n)
      ]

      -- The shared length of the number favoured so far may have grown.
      grown : long best ≤ long' best
      grown = elim (ℕ_discrete best m) [ yes q ↦ omega (arith, grows best (e ∙ sym q)) | no q ↦ omega (arith, other best q) ]

      m_in : In m (touched opposite numbers (k ∷ sides))
      m_in = (touched_is opposite numbers (k ∷ sides) m).1 ((λ z. omega arith), k, inl refl, e)

      -- Another number touched was touched before, and is no longer than the one favoured then.
      earlier : (n : ℕ) → In n (touched opposite numbers (k ∷ sides)) → (n ≡ m → ⊥) → (1 ≤ best) × (long' n ≤ long best) × (long' n ≡ long best → n ≤ best)
      earlier n i z = elim (touched_more n i) [
        | inl (q, w) ↦ absurd (z (sym q ∙ e))
        | inr j ↦ (best_some n j, omega (arith, other n z, is.favours.none_longer n j), λ q. is.favours.none_larger n j (sym (other n z) ∙ q))
      ]

      -- It stays, where m is no longer and, if as long, no larger;
      stays_favoured : 1 ≤ best → long' m ≤ long' best → (long' m ≡ long' best → m ≤ best) → Favoured lengths opposite numbers (k ∷ sides) best
      stays_favoured h no_longer no-larger = record {
        one = inr (best_in h);
        none_longer = λ n i. elim (ℕ_discrete n m) [ yes q ↦ subst (λ n. long' n ≤ long' best) (sym q) no_longer | no q ↦ omega (arith, (earlier n i q).1, grown) ];
        none_larger = λ n i s. elim (ℕ_discrete n m) [ yes q ↦ subst (λ n. long' n ≡ long' best → n ≤ best) (sym q) no-larger s | no q ↦ (earlier n i q).2 (omega (arith, (earlier n i q).1, grown)) ];
      }

      -- m takes its place, where it is no longer than m and, if as long, no larger.
      is_favoured : (1 ≤ best → long' best ≤ long' m) → (1 ≤ best → long' best ≡ long' m → best ≤ m) → Favoured lengths opposite numbers (k ∷ sides) m
      is_favoured no_longer no-larger = record {
        one = inr m_in;
        none_longer = λ n i. elim (ℕ_discrete n m) [ yes q ↦ subst (λ n. long' n ≤ long' m) (sym q) (omega arith) | no q ↦ let (b, l, g) = earlier n i q in omega (arith, l, grown, no_longer b) ];
        none_larger = λ n i s. elim (ℕ_discrete n m) [
          | yes q ↦ omega arith
          | no q ↦ let (b, l, g) = earlier n i q in omega (arith, g (omega (arith, l, grown, no_longer b)), no-larger b (omega (arith, l, grown, no_longer b)))
        ];
      }

      -- The one with the greater sum, and on equal sums the larger.
      abbrev next : ℕ
      next = preferred sums' best m

      abbrev Right : ℕ → Type 0
      Right r = (r ≤ 64) × Favoured lengths opposite numbers (k ∷ sides) r

      best_sum : 1 ≤ best → get_or sums' best 0 ≡ long' best
      best_sum h = sums_are best h is.up_to

      -- (0 has no sum.)
      some_sum : get_or sums' m 0 < get_or sums' best 0 → 1 ≤ best
      some_sum l = elim (ℕ_discrete best 0) [
        | yes z ↦ absurd (omega (arith, l, ap (λ n. get_or sums' n 0) z, at_other 0 (λ q. omega arith), is.none))
        | no z ↦ omega arith
      ]

      right : Right next
      right =
          by_equal Right (ltb (get_or sums' m 0) (get_or sums' best 0)) best (cond (ltb (get_or sums' best 0) (get_or sums' m 0)) m (greater best m))
          (λ t. let l = ltb-true (get_or sums' m 0) (get_or sums' best 0) t in let h = some_sum l in (is.up_to, stays_favoured h (omega (arith, at_m, best_sum h)) (λ q. absurd (omega (arith, at_m, best_sum h)))))
          (λ f. let l = ltb-false (get_or sums' m 0) (get_or sums' best 0) f in
          by_equal Right (ltb (get_or sums' best 0) (get_or sums' m 0)) m (greater best m)
          (λ t. let g = ltb-true (get_or sums' best 0) (get_or sums' m 0) t in (few, is_favoured (λ h. omega (arith, at_m, best_sum h)) (λ h q. absurd (omega (arith, at_m, best_sum h)))))
          (λ f. equal (omega (arith, l, ltb-false (get_or sums' best 0) (get_or sums' m 0) f)) (greater_one best m)))
        where
          equal : get_or sums' best 0 ≡ get_or sums' m 0 → (greater best m ≡ best) ⊎ (greater best m ≡ m) → Right (greater best m)
          equal s (inl q) =
              let h : 1 ≤ best = omega (arith, greater_right best m) in
              subst Right (sym q) (is.up_to, stays_favoured h (omega (arith, at_m, best_sum h)) (λ w. omega (arith, greater_right best m)))
          equal s (inr q) = subst Right (sym q) (few, is_favoured (λ h. omega (arith, at_m, best_sum h)) (λ h w. omega (arith, greater_left best m)))

      pub adding_side : Adding lengths opposite numbers (k ∷ sides) (set sums m (get_or sums m 0 + get_or lengths k 0)) (preferred (set sums m (get_or sums m 0 + get_or lengths k 0)) best m)
      adding_side = record {
        many = length-set sums m (get_or sums m 0 + get_or lengths k 0) ∙ is.many;
        none = at_other 0 (λ q. omega arith) ∙ is.none;
        are = sums_are;
        small = sums_small;
        up_to = right.0;
        favours = right.1;
      }
