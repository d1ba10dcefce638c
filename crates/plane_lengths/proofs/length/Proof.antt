-- `plane_lengths::length` meets its contract: the squares of ways up to 20,000,000 add up to 800,000,000,000,000 at most. Assumes nothing.
use mathlib.Core.Path.{◌≡◌, sym, ◌∙◌, ap₂, subst}
use Prim.Native.Nat.{ℕ, ◌+◌, ◌*◌, ◌≤◌}
use native.Mathlib.Omega.{arith}
use borrow.Author.Rules.{rules}
use Rattle.whole_root.specs.Root.{root}
use Rattle.plane.specs.Points.{Edge, ◌⟶◌}
use Rattle.plane.specs.Keys.{point}
use Rattle.plane_lengths.specs.Lengths.{dx, dy, length_of}
use Rattle.plane_lengths.proofs.Lengths.{square_most, length_most}
use Rattle.plane_lengths.proofs.length.Statement.{statement}
use Rattle.plane_lengths.proofs.length.Tie as tie

-- The root of the two squares is the length.
is_length : (e : Edge) (a b r : ℕ) → a ≡ dx e → b ≡ dy e → r ≡ root (a * a + b * b) → r ≡ length_of e
unfolding length_of
is_length e a b r p q s = s ∙ ap₂ (λ a b. root (a * a + b * b)) p q

-- The squares of the two ways, which were found by the two calls.
squares : (c : tie.After-apart-dy) → (c.apart-dx.result * c.apart-dx.result ≤ 400_000_000_000_000) × (c.apart-dy.result * c.apart-dy.result ≤ 400_000_000_000_000)
squares c = (square_most _ 20_000_000 c.apart-dx.ensures.1, square_most _ 20_000_000 c.apart-dy.ensures.1)

root_requires : tie.Need-root-requires
root_requires c κs = let s = squares c in omega (arith, s.0, s.1)

returns : tie.Need-returns
returns c =
    let b = c in
    let a = b.args in
    let e = point a.u ⟶ point a.v in
    let x = b.apart-dx.ensures in
    let y = b.apart-dy.ensures in
    let r = is_length e _ _ _ x.0 y.0 c.root.ensures in
    (r, subst (λ n. n ≤ 28_284_271) (sym r) (length_most e (omega (arith, x.0, x.1)) (omega (arith, y.0, y.1))))

pub length_spec : {M : Type 1} → statement M
length_spec =
    tie.close
    (tie.spec
    (λ c κs. search rules)
    (λ c κs. search rules)
    (λ c. let s = squares c in record { fits = omega (arith, s.0) })
    (λ c. let s = squares c in record { fits = omega (arith, s.1) })
    (λ c. let s = squares c in record { fits = omega (arith, s.0, s.1) })
    root_requires
    returns)
