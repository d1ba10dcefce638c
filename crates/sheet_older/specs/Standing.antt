-- A thing of the numbers form stands among held numbers with others before it and behind it, and is turned where it stands.
use Rattle.std.specs.Prelude.{◌≡◌, Bool, cond, List, ◌++◌, map, ℕ, ℤ, length, get_or, set}
use Rattle.whole.specs.Sums.{All}
use Rattle.plane.specs.Members.{Ring}
use Rattle.plane.specs.Corners.{millimetres}
use Rattle.plane.specs.Keys.{Held}
use Rattle.plane_rings.specs.Turning.{outward, inward}

-- The numbers z stand from a place on to the end, the numbers before them at the front.
pub record Stands (numbers : List ℕ) (at : ℕ) (front z : List ℤ) : Type 0 where
  pub is : map millimetres numbers ≡ front ++ z
  pub place : length front ≡ at

-- A thing that fits stands at the place, and every number is one of a coordinate.
pub record Place {A : Type 0} (f : A → List ℤ) (Fit : A → Type 0) (numbers : List ℕ) (at : ℕ) : Type 0 where
  pub held : All Held numbers
  pub front : List ℤ
  pub thing : A
  pub rest : List ℤ
  pub fits : Fit thing
  pub stands : Stands numbers at front (f thing ++ rest)

-- Of the thing that stands at the place, whichever it is, what it is turned to stands there, before and behind it is what was, and next is the place behind it.
pub record Turns {A : Type 0} (f : A → List ℤ) (g : A → A) (Fit : A → Type 0) (numbers₀ : List ℕ) (at : ℕ) (numbers : List ℕ) (next : ℕ) : Type 0 where
  pub held : All Held numbers
  pub long : length numbers ≡ length numbers₀
  pub reads : (front : List ℤ) (a : A) (rest : List ℤ) → Fit a → Stands numbers₀ at front (f a ++ rest) → Stands numbers next (front ++ f (g a)) rest

-- A first ring as it is turned, or a later one.
abbrev pub turn_ring : Bool → Ring → Ring
turn_ring first r = cond first (outward r) (inward r)

-- The numbers at two places exchanged.
abbrev pub swapped : List ℕ → ℕ → ℕ → List ℕ
swapped l i j = set (set l i (get_or l j 0)) j (get_or l i 0)
