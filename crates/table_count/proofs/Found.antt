-- How a pair of corners is found among the sides. Assumes nothing.
use mathlib.Core.Path.{◌≡◌, sym, ◌∙◌, ap}
use mathlib.Core.Logic.{inl, inr}
use mathlib.Core.List.{List}
use Prim.Native.Nat.{ℕ, suc, ◌≤◌, ◌<◌}
use native.Mathlib.Omega.{arith}
use lib.ListN.{length}
use Rattle.whole.specs.Sums.{count, Among}
use Rattle.plane.specs.Points.{Edge, same_edge}
use Rattle.plane.specs.Keys.{pair}
use Rattle.table.specs.Opposites.{found_at}
use Rattle.table.proofs.Shares.{Found, found_at_lem}
use Rattle.whole_order.specs.Ascending.{Ascending, IsIn, place_of}
use Rattle.whole_order.proofs.Ascending.{place_of_lem}
use Rattle.table_sides.specs.Numbered.{number_in}
use Rattle.table_count.proofs.Ranked.{number_at, number_stands}

-- ---- corners
-- A corner's number is one more than its place.
pub record Ranked (corners : List ℕ) (u : ℕ) : Type 0 where
  pub stands : IsIn u corners
  pub place : number_in u corners ≡ suc (place_of u corners)
  pub within : place_of u corners < length corners

pub ranked : (corners : List ℕ) (u : ℕ) → Ascending corners → (number_in u corners ≡ 0 → ⊥) → Ranked corners u
ranked corners u order n =
    let s = number_stands u corners (omega arith) in
    let p : place_of u corners ≡ s.0 = sym (ap (λ z. place_of z corners) s.2) ∙ place_of_lem corners s.0 order s.1 in
    record { stands = s; place = ap (λ z. number_in z corners) (sym s.2) ∙ number_at corners s.0 order s.1 ∙ ap suc (sym p); within = omega (arith, s.1) }

pub not_ranked : (corners : List ℕ) (u : ℕ) → Ascending corners → number_in u corners ≡ 0 → IsIn u corners → ⊥
not_ranked corners u order e s = omega (arith, number_at corners s.0 order s.1, ap (λ z. number_in z corners) s.2)

-- ---- sides
-- A pair that is not found is no side; one that is found is.
pub not_found : (e : Edge) (sides : List Edge) → found_at e sides ≡ 0 → Among same_edge e sides → ⊥
not_found e sides q a = go (found_at_lem e sides (pair 0 0))
  where
    go : Found e sides (pair 0 0) (found_at e sides) (count same_edge e sides) → ⊥
    go (inl f) = omega (arith, f.1)
    go (inr f) = omega (arith, f.1)

pub is_found : (e : Edge) (sides : List Edge) → (found_at e sides ≡ 0 → ⊥) → Among same_edge e sides
is_found e sides q = go (found_at_lem e sides (pair 0 0))
  where
    go : Found e sides (pair 0 0) (found_at e sides) (count same_edge e sides) → Among same_edge e sides
    go (inl f) = absurd (q f.0)
    go (inr f) = f.2

pub found_within : (e : Edge) (sides : List Edge) → found_at e sides ≤ length sides
found_within e sides = go (found_at_lem e sides (pair 0 0))
  where
    go : Found e sides (pair 0 0) (found_at e sides) (count same_edge e sides) → found_at e sides ≤ length sides
    go (inl f) = omega (arith, f.0)
    go (inr f) = omega (arith, f.1, f.3)
