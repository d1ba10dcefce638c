-- Each side of the chain that is passed is no earlier one that is side k; the side that is hung is the last one of its chain; after the last side none repeats, and all hang in chains.
use Rattle.std.proofs.Common.{◌≡◌, List, ℕ, ◌-◌, ◌<◌, length, get_or, refl, sym, ◌∙◌, ap, not, subst, add-one, arith, below_more, ◌/◌, ◌%◌}
use Rattle.whole.specs.Sums.{All}
use Rattle.whole.proofs.Sums.{all_at}
use Rattle.whole.proofs.Tests.{told_no}
use Rattle.table_sides.specs.Chains.{next_in, begin_in}
use Rattle.table_sides.proofs.Chains.{step_on}
use Rattle.table_chains.specs.Linking.{Within, LinkedTo}
use Rattle.table_chains.proofs.Linking.{linked_more}
use Rattle.table_chains.proofs.repeated_side.Goals as goal

-- A side begins at the corner that its code has.
begins : (codes index : List ℕ) (n i : ℕ) → LinkedTo codes index n → i < length codes → begin_in (get_or index i 0) ≡ get_or codes i 0 / 4096
begins codes index n i t h = ap (λ x. x / 4096) (t.codes_are i h)

corner_in : (codes index : List ℕ) (n k : ℕ) → All (Within (length codes)) codes → LinkedTo codes index n → k < length codes → get_or codes k 0 / 4096 < length index
corner_in codes index n k w t h = omega (arith, (all_at (Within (length codes)) 0 codes k w h).0, t.number)

pub loop-j-init : goal.loop-j-init
loop-j-init c =
    let k = c.search.k in
    let codes = c.args.codes.now in
    let t = c.search.invariant.linked in
    let l = t.chained.heads (get_or codes k 0 / 4096) (corner_in codes c.search.index k k c.requires.0 t (omega arith)) in
    let e = c.head-j.ensures in
    record {
      none = c.search.invariant.none;
      below = omega (arith, l.within);
      begins = λ i q. sym (begins codes c.search.index k i t (omega (arith, l.within))) ∙ l.there i (sym e ∙ q);
      passed = λ m h g q. l.none m (omega arith) (omega arith) (begins codes c.search.index k m t (omega arith) ∙ ap (λ x. x / 4096) q);
    }

pub loop-j-preserved : goal.loop-j-preserved
loop-j-preserved c =
    let k = c.search.k in
    let codes = c.args.codes.now in
    let x = c.search.index in
    let t = c.search.invariant.linked in
    let l = c.loop-j in
    let j = l.j - 1 in
    let before = t.chained.nexts j (omega (arith, l.invariant.below)) in
    let here = l.invariant.begins j (omega arith) in
    let e = c.next-j.ensures in
    let same = begins codes x k j t (omega (arith, l.invariant.below)) in
    let other = told_no _ _ c.is_repeat.result (ap not c.if-is_repeat.false) c.is_repeat.ensures in
    record {
      none = l.invariant.none;
      below = omega (arith, before.within, l.invariant.below);
      begins = λ i q. sym (begins codes x k i t (omega (arith, before.within, l.invariant.below))) ∙ before.there i (sym e ∙ q) ∙ same ∙ here;
      passed = λ m h g q.
          step_on (λ i. begin_in (get_or x i 0) ≡ begin_in (get_or x j 0)) (λ i. (i < k - k % 3) × (get_or codes i 0 ≡ get_or codes k 0)) (k - k % 3) l.j (next_in (get_or x j 0))
          (λ i p. begins codes x k i t (omega (arith, p.0)) ∙ ap (λ z. z / 4096) p.1 ∙ sym here ∙ sym same) before (λ p. other p.0 p.1) (λ i a b p. l.invariant.passed i a b p.1) m (omega arith) g (g, q);
    }

pub search-preserved : goal.search-preserved
search-preserved c =
    let k = c.search.k in
    let l = c.loop-j.invariant in
    let codes = c.args.codes.now in
    let p = corner_in codes c.search.index k k c.requires.0 c.search.invariant.linked (omega arith) in
    record {
      none = l.none;
      once = below_more _ _ c.search.invariant.once (λ e. l.passed e.0 (omega arith) (omega (arith, e.1)) e.2);
      linked = subst (LinkedTo codes c.link.new.index) (sym (add-one k)) (linked_more codes c.search.index c.link.new.index (get_or codes k 0 / 4096) k c.link.ensures p (omega arith) refl c.search.invariant.linked);
    }

pub returns-after-search : goal.returns-after-search
returns-after-search c =
    let e : c.search.k ≡ length c.args.codes.now = omega arith in
    rw c.search.invariant.none
    (λ k h. c.search.invariant.once k (omega arith), subst (LinkedTo c.args.codes.now c.search.index) e c.search.invariant.linked)
