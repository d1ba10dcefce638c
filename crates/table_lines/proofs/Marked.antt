-- Marking one edge more. The idea: one more at a corner's place, and none elsewhere. Assumes nothing.
use mathlib.Core.Path.{◌≡◌, refl, sym, ◌∙◌, ap, subst}
use mathlib.Core.Logic.{◌⊎◌, inl, inr}
use mathlib.Core.Bool.{Bool, true, false, ◌&&◌}
use mathlib.Core.List.{List}
use Prim.Native.Nat.{ℕ, suc, ◌+◌, ◌≤◌, ◌<◌}
use native.Mathlib.Omega.{arith}
use native.Mathlib.Decide.{ℕ_discrete}
use borrow.Author.Tests.{eq-eqb, ne_eqb}
use lib.Dec.{T, eqb}
use lib.ListN.{length, get_or, set, take, length-set, length-take}
use lib.Seq.{get_or-set_same, get_or-set_other, take_all}
use Rattle.whole.specs.Sums.{All, bit}
use Rattle.whole.proofs.Sums.{all_at, bit_small}
use Rattle.whole_order.specs.Ascending.{place_of}
use Rattle.table_lines.specs.Lines.{lie, begins_at, ends_at, Begins, Ends, DoneBy, Spans, Wider}
use Rattle.table_lines.proofs.Follows.{total_more, total_few, total_first, total_at, total_none}

plus_none : (n : ℕ) → n ≡ n + 0
plus_none n = omega arith

off_bit : (x y : Bool) → (T x → ⊥) → bit (x && y) ≡ 0
off_bit false y n = refl
off_bit true y n = absurd (n tt)

-- One more at a place.
pub more_at : (marks : List ℕ) (at k : ℕ) → k < length marks → get_or (set marks at (get_or marks at 0 + 1)) k 0 ≡ get_or marks k 0 + bit (eqb at k)
more_at marks at k h = go (ℕ_discrete at k)
  where
    go : Dec (at ≡ k) → get_or (set marks at (get_or marks at 0 + 1)) k 0 ≡ get_or marks k 0 + bit (eqb at k)
    go (yes e) = rw (eq-eqb at k e, e) (get_or-set_same marks k (get_or marks k 0 + 1) 0 h)
    go (no n) = rw (ne_eqb at k n) (get_or-set_other marks at k (get_or marks at 0 + 1) 0 (λ q. n (sym q)) ∙ plus_none (get_or marks k 0))

module _ (corners : List ℕ) (a b : ℕ) (from to : List ℕ) where
  -- No edge of the line among the first ones, no marks.
  pub begins_first : (marks : List ℕ) (i : ℕ) → i ≤ length from → i ≤ length to → ((j : ℕ) → j < i → T (lie a b (get_or from j 0) (get_or to j 0)) → ⊥) → length marks ≡ length corners → All (λ n. n ≡ 0) marks → Begins corners a b (take i from) (take i to) marks
  begins_first marks i h g u n z = record { number = n; each = λ k l. all_at (λ n. n ≡ 0) 0 marks k z (omega arith) ∙ sym (total_first (λ p q. bit (lie a b p q && eqb (place_of p corners) k)) from to i h g (λ j m. off_bit (lie a b (get_or from j 0) (get_or to j 0)) (eqb (place_of (get_or from j 0) corners) k) (u j m))) }

  pub ends_first : (marks : List ℕ) (i : ℕ) → i ≤ length from → i ≤ length to → ((j : ℕ) → j < i → T (lie a b (get_or from j 0) (get_or to j 0)) → ⊥) → length marks ≡ length corners → All (λ n. n ≡ 0) marks → Ends corners a b (take i from) (take i to) marks
  ends_first marks i h g u n z = record { number = n; each = λ k l. all_at (λ n. n ≡ 0) 0 marks k z (omega arith) ∙ sym (total_first (λ p q. bit (lie a b p q && eqb (place_of q corners) k)) from to i h g (λ j m. off_bit (lie a b (get_or from j 0) (get_or to j 0)) (eqb (place_of (get_or to j 0) corners) k) (u j m))) }

  -- All edges.
  pub begins_all : (marks : List ℕ) (j : ℕ) → length from ≤ j → length to ≤ j → Begins corners a b (take j from) (take j to) marks → Begins corners a b from to marks
  begins_all marks j h k m = rw (take_all j from h, take_all j to k) at m

  pub ends_all : (marks : List ℕ) (j : ℕ) → length from ≤ j → length to ≤ j → Ends corners a b (take j from) (take j to) marks → Ends corners a b from to marks
  ends_all marks j h k m = rw (take_all j from h, take_all j to k) at m

  module _ (j : ℕ) (h : j < length from) (g : j < length to) where
    abbrev p : ℕ
    p = get_or from j 0

    abbrev q : ℕ
    q = get_or to j 0

    begins_step : (k : ℕ) → begins_at corners a b (take (j + 1) from) (take (j + 1) to) k ≡ begins_at corners a b (take j from) (take j to) k + bit (lie a b p q && eqb (place_of p corners) k)
    begins_step k = let e : j + 1 ≡ suc j = omega arith in rw e (total_more (λ p q. bit (lie a b p q && eqb (place_of p corners) k)) from to j h g)

    ends_step : (k : ℕ) → ends_at corners a b (take (j + 1) from) (take (j + 1) to) k ≡ ends_at corners a b (take j from) (take j to) k + bit (lie a b p q && eqb (place_of q corners) k)
    ends_step k = let e : j + 1 ≡ suc j = omega arith in rw e (total_more (λ p q. bit (lie a b p q && eqb (place_of q corners) k)) from to j h g)

    -- An edge that is not on the line.
    pub begins_off : (marks : List ℕ) → lie a b p q ≡ false → Begins corners a b (take j from) (take j to) marks → Begins corners a b (take (j + 1) from) (take (j + 1) to) marks
    begins_off marks e m = record { number = m.number; each = λ k l. omega (arith, m.each k l, begins_step k, ap (λ t. bit (t && eqb (place_of p corners) k)) e) }

    pub ends_off : (marks : List ℕ) → lie a b p q ≡ false → Ends corners a b (take j from) (take j to) marks → Ends corners a b (take (j + 1) from) (take (j + 1) to) marks
    ends_off marks e m = record { number = m.number; each = λ k l. omega (arith, m.each k l, ends_step k, ap (λ t. bit (t && eqb (place_of q corners) k)) e) }

    -- An edge on it.
    pub begins_on : (marks marks' : List ℕ) → marks' ≡ set marks (place_of p corners) (get_or marks (place_of p corners) 0 + 1) → lie a b p q ≡ true → Begins corners a b (take j from) (take j to) marks
        → Begins corners a b (take (j + 1) from) (take (j + 1) to) marks'
    begins_on marks marks' r e m = subst (Begins corners a b (take (j + 1) from) (take (j + 1) to)) (sym r) (record {
      number = length-set marks (place_of p corners) (get_or marks (place_of p corners) 0 + 1) ∙ m.number;
      each = λ k l. omega (arith, m.each k l, more_at marks (place_of p corners) k (omega (arith, m.number)), begins_step k, ap (λ t. bit (t && eqb (place_of p corners) k)) e);
    })

    pub ends_on : (marks marks' : List ℕ) → marks' ≡ set marks (place_of q corners) (get_or marks (place_of q corners) 0 + 1) → lie a b p q ≡ true → Ends corners a b (take j from) (take j to) marks
        → Ends corners a b (take (j + 1) from) (take (j + 1) to) marks'
    ends_on marks marks' r e m = subst (Ends corners a b (take (j + 1) from) (take (j + 1) to)) (sym r) (record {
      number = length-set marks (place_of q corners) (get_or marks (place_of q corners) 0 + 1) ∙ m.number;
      each = λ k l. omega (arith, m.each k l, more_at marks (place_of q corners) k (omega (arith, m.number)), ends_step k, ap (λ t. bit (t && eqb (place_of q corners) k)) e);
    })

  -- There is room for one more.
  pub begins_room : (j k : ℕ) (marks : List ℕ) → length from ≤ 4096 → k < length corners → Begins corners a b (take j from) (take j to) marks → get_or marks k 0 + 1 < 4294967296
  begins_room j k marks few h m = omega (arith, m.each k h, length-take j from, total_few (λ p q. bit (lie a b p q && eqb (place_of p corners) k)) (λ p q. bit_small (lie a b p q && eqb (place_of p corners) k)) (take j from) (take j to))

  pub ends_room : (j k : ℕ) (marks : List ℕ) → length from ≤ 4096 → k < length corners → Ends corners a b (take j from) (take j to) marks → get_or marks k 0 + 1 < 4294967296
  ends_room j k marks few h m = omega (arith, m.each k h, length-take j from, total_few (λ p q. bit (lie a b p q && eqb (place_of q corners) k)) (λ p q. bit_small (lie a b p q && eqb (place_of q corners) k)) (take j from) (take j to))

  -- ---- what is done
  pub done_first : (done : List Bool) (i : ℕ) → ((k : ℕ) → k < i → T (lie a b (get_or from k 0) (get_or to k 0)) → ⊥) → DoneBy a b from to i done done
  done_first done i u = record { number = refl; on = λ k h t. absurd (u k h t); kept = λ k e. e; others = λ k e. inl e; later = λ k h. refl }

  -- ---- the span
  abbrev Within : ℕ → ℕ → ℕ → Type 0
  Within low stop i = (low ≤ place_of (get_or from i 0) corners) × (low ≤ place_of (get_or to i 0) corners) × (place_of (get_or from i 0) corners < stop) × (place_of (get_or to i 0) corners < stop)

  pub spans_first : (i low stop : ℕ) → ((k : ℕ) → k < i → T (lie a b (get_or from k 0) (get_or to k 0)) → ⊥) → Spans corners a b from to i low stop
  spans_first i low stop u k h t = absurd (u k h t)

  pub spans_off : (j low stop : ℕ) → lie a b (get_or from j 0) (get_or to j 0) ≡ false → Spans corners a b from to j low stop → Spans corners a b from to (j + 1) low stop
  spans_off j low stop e s i l t = go (ℕ_discrete i j)
    where
      go : Dec (i ≡ j) → Within low stop i
      go (yes q) = absurd (subst T (ap (λ i. lie a b (get_or from i 0) (get_or to i 0)) q ∙ e) t)
      go (no n) = s i (omega arith) t

  pub spans_on : (j low stop low' stop' x y : ℕ) → x ≡ place_of (get_or from j 0) corners → y ≡ place_of (get_or to j 0) corners → Wider low stop x y low' stop'
      → Spans corners a b from to j low stop → Spans corners a b from to (j + 1) low' stop'
  spans_on j low stop low' stop' x y p q w s i l t = go (ℕ_discrete i j)
    where
      go : Dec (i ≡ j) → Within low' stop' i
      go (yes e) = subst (Within low' stop') (sym e) (omega (arith, w.low_x), omega (arith, w.low_y), omega (arith, w.stop_x), omega (arith, w.stop_y))
      go (no n) = let r = s i (omega arith) t in (omega (arith, r, w.lower), omega (arith, r, w.lower), omega (arith, r, w.higher), omega (arith, r, w.higher))

  -- Outside it no corner is marked.
  module _ (low stop : ℕ) (as_many : length to ≡ length from) (spans : Spans corners a b from to (length from) low stop) (k : ℕ) (l : k < length corners) (outside : (k < low) ⊎ (stop ≤ k)) where
    apart_at : (x : Bool) (i : ℕ) → (T x → (low ≤ i) × (i < stop)) → bit (x && eqb i k) ≡ 0
    apart_at false i f = refl
    apart_at true i f = ap bit (ne_eqb i k (λ e. go outside e))
      where
        go : (k < low) ⊎ (stop ≤ k) → i ≡ k → ⊥
        go (inl h) e = omega (arith, f tt)
        go (inr h) e = omega (arith, f tt)

    pub begins_outside : (marks : List ℕ) → Begins corners a b from to marks → get_or marks k 0 ≡ 0
    begins_outside marks m = m.each k l ∙ total_at (λ p q. bit (lie a b p q && eqb (place_of p corners) k)) (λ p q. 0) from to as_many (λ i h. apart_at (lie a b (get_or from i 0) (get_or to i 0)) (place_of (get_or from i 0) corners) (λ t. ((spans i h t).0, (spans i h t).2)))
        ∙ total_none (λ p q. 0) (λ p q. refl) from to

    pub ends_outside : (marks : List ℕ) → Ends corners a b from to marks → get_or marks k 0 ≡ 0
    ends_outside marks m = m.each k l ∙ total_at (λ p q. bit (lie a b p q && eqb (place_of q corners) k)) (λ p q. 0) from to as_many (λ i h. apart_at (lie a b (get_or from i 0) (get_or to i 0)) (place_of (get_or to i 0) corners) (λ t. ((spans i h t).1, (spans i h t).3)))
        ∙ total_none (λ p q. 0) (λ p q. refl) from to

-- What is not so is answered no.
pub not_so : (x : Bool) → (T x → ⊥) → x ≡ false
not_so false n = refl
not_so true n = absurd (n tt)
