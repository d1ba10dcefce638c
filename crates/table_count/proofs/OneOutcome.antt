-- Two outcomes that the contract of `tally` allows are equal: the answer, and where all pieces settle every count. The idea: a pair that doesn't cancel, or its
-- reverse, is among the pieces, so that pieces that settle have no stray one. Assumes nothing.
use mathlib.Core.Path.{◌≡◌, refl, sym, ◌∙◌, ap}
use mathlib.Core.Logic.{◌⊎◌, ⊎_elim}
use mathlib.Core.Bool.{Bool, true, false, false≢true}
use mathlib.Core.List.{List}
use Prim.Native.Nat.{ℕ, ◌≤◌}
use native.Mathlib.Omega.{arith}
use native.Mathlib.Decide.{dec_le}
use lib.IntN.{pos, ◌+ℤ◌}
use lib.ListN.{get_or}
use lib.Seq.{ext_get_or}
use Rattle.whole.specs.Tests.{Told}
use Rattle.whole.specs.Sums.{Among, count}
use Rattle.whole.specs.Polynomials.{◌:+◌, ◌:-◌, ◌:=◌}
use Rattle.whole.proofs.Ring.{solve}
use Rattle.whole.proofs.Sums.{counted}
use Rattle.plane.specs.Points.{Edge, flip, same_edge}
use Rattle.plane.specs.Boundaries.{boundary}
use Rattle.plane.proofs.Points.{same_edge-eq, same_edge-refl}
use Rattle.table.specs.Sides.{net_of}
use Rattle.table_count.specs.Counting.{Tallied, Settled, Stray}
use Rattle.table_count.proofs.Pieces.{boundary_zero, zero_boundary}

module _ (sides p : List Edge) where
  -- Pieces that settle have no stray one.
  clash : Settled sides p p → Stray sides p → ⊥
  clash settled stray = go (dec_le 1 (count same_edge stray.e p)) (dec_le 1 (count same_edge (flip stray.e) p))
    where
      settles : (e : Edge) → Among same_edge e p → Among same_edge e sides ⊎ Among same_edge (flip e) sides ⊎ (boundary p e ≡ pos 0)
      settles e h = counted same_edge same_edge-eq same_edge-refl (λ x. Among same_edge x sides ⊎ Among same_edge (flip x) sides ⊎ (boundary p x ≡ pos 0)) e p h settled

      go : Dec (1 ≤ count same_edge stray.e p) → Dec (1 ≤ count same_edge (flip stray.e) p) → ⊥
      go (yes h) d = ⊎_elim stray.no_side (⊎_elim stray.no_reverse stray.uneven) (settles stray.e h)
      go (no h) (yes k) =
          ⊎_elim stray.no_reverse (⊎_elim stray.no_side (λ z. stray.uneven (boundary_zero p stray.e (sym (zero_boundary p (flip stray.e) z))))) (settles (flip stray.e) k)
      go (no h) (no k) = stray.uneven (boundary_zero p stray.e (omega arith))

  -- A count is told by the net count that it holds.
  net_tells : (m n : ℕ) → net_of m ≡ net_of n → m ≡ n
  net_tells m n e = cc (sym (again m) ∙ ap (λ z. z +ℤ pos 2147483648) e ∙ again n)
    where
      again : (k : ℕ) → net_of k +ℤ pos 2147483648 ≡ pos k
      again k = solve 2 (λ k o. (k :- o) :+ o := k) tt (pos k) (pos 2147483648)

  same_counts : (a b : List ℕ) → Tallied sides p a → Tallied sides p b → a ≡ b
  same_counts a b s t =
      ext_get_or 0 a b (s.number ∙ sym t.number) (λ k h. net_tells (get_or a k 0) (get_or b k 0) (s.nets k (omega (arith, s.number)) ∙ sym (t.nets k (omega (arith, s.number)))))

  pub one_outcome : (a b : List ℕ) (r r' : Bool) → Told r (Tallied sides p a × Settled sides p p) (Stray sides p) → Told r' (Tallied sides p b × Settled sides p p) (Stray sides p)
      → (r ≡ r') × (r ≡ true → a ≡ b)
  one_outcome a b true true s t = (refl, λ e. same_counts a b s.0 t.0)
  one_outcome a b true false s t = absurd (clash s.1 t)
  one_outcome a b false true s t = absurd (clash t.1 s)
  one_outcome a b false false s t = (refl, λ e. absurd (false≢true e))
