-- A thing of the numbers form stands among held numbers, and its edges are laid down in two lists of corners as numbers.
use Rattle.std.specs.Prelude.{◌≡◌, List, ◌++◌, map, ℕ, ◌+◌, ◌≤◌, ℤ, length, get_or, take, drop}
use Rattle.std.proofs.lemmas.List.Edits.{sets}
use Rattle.whole.specs.Sums.{All}
use Rattle.plane.specs.declared.Corner.{Corner}
use Rattle.plane.specs.Points.{Edge}
use Rattle.plane.specs.Members.{Member, member_edges}
use Rattle.plane.specs.Corners.{millimetres}
use Rattle.plane.specs.Keys.{Held, Key, pairs}
use Rattle.sheet_form.specs.Numbers.{member_numbers}
use Rattle.sheet_edges.specs.declared.Laid.{Laid}

-- The numbers form of a thing stands in the held numbers at a place, and rest behind it.
abbrev pub NumbersAt : {A : Type 0} → (A → List ℤ) → List ℕ → ℕ → A → List ℤ → Type 0
NumbersAt f numbers at a rest = map millimetres (drop at numbers) ≡ f a ++ rest

-- The corner whose two coordinates stand at a place.
abbrev pub corner_at : List ℕ → ℕ → Corner
corner_at numbers at = record { x = get_or numbers at 0; y = get_or numbers (at + 1) 0 }

-- A thing stands at the place, every number is one of a coordinate, and from place fill on both lists have room for the thing's edges.
pub record Room {A : Type 0} (f : A → List ℤ) (e : A → List Edge) (numbers : List ℕ) (at fill : ℕ) (from to : List ℕ) : Type 0 where
  pub held : All Held numbers
  pub thing : A
  pub rest : List ℤ
  pub numbers_at : NumbersAt f numbers at thing rest
  pub from_room : fill + length (e thing) ≤ length from
  pub to_room : fill + length (e thing) ≤ length to

-- The corners `starts` and `ends`, as many of the one as of the other, are stored from place fill on, in from₀ and to₀; next is the place behind them.
pub record Stored (from₀ to₀ : List ℕ) (fill : ℕ) (starts ends from to : List ℕ) (next : ℕ) : Type 0 where
  pub from_is : from ≡ sets from₀ fill starts
  pub to_is : to ≡ sets to₀ fill ends
  pub next_is : next ≡ fill + length starts
  pub as_many : length starts ≡ length ends
  pub from_keys : All Key starts
  pub to_keys : All Key ends

-- Stored are the edges of the thing that stands at the place, whichever it is, and r has the place behind it.
pub record Lays {A : Type 0} (f : A → List ℤ) (e : A → List Edge) (numbers : List ℕ) (at fill : ℕ) (from₀ to₀ from to : List ℕ) (r : Laid) : Type 0 where
  pub starts : List ℕ
  pub ends : List ℕ
  pub stored : Stored from₀ to₀ fill starts ends from to r.fill
  pub reads : (a : A) (rest : List ℤ) → NumbersAt f numbers at a rest → (pairs starts ends ≡ e a) × (map millimetres (drop r.at numbers) ≡ rest) × (r.at ≤ length numbers)

-- Of the polygon that stands at the place, whichever it is, the edges are laid down at the front of both lists, and r has their number and the place behind the polygon.
-- Behind the edges both lists are as they were.
pub record LaysDown (numbers : List ℕ) (at : ℕ) (from₀ to₀ from to : List ℕ) (r : Laid) : Type 0 where
  pub many : (m : Member) (rest : List ℤ) → NumbersAt member_numbers numbers at m rest → r.fill ≡ length (member_edges m)
  pub edges : (m : Member) (rest : List ℤ) → NumbersAt member_numbers numbers at m rest → pairs (take r.fill from) (take r.fill to) ≡ member_edges m
  pub behind : (m : Member) (rest : List ℤ) → NumbersAt member_numbers numbers at m rest → map millimetres (drop r.at numbers) ≡ rest
  pub within : (m : Member) (rest : List ℤ) → NumbersAt member_numbers numbers at m rest → r.at ≤ length numbers
  pub from_keys : All Key (take r.fill from)
  pub to_keys : All Key (take r.fill to)
  pub from_behind : drop r.fill from ≡ drop r.fill from₀
  pub to_behind : drop r.fill to ≡ drop r.fill to₀
  pub from_length : length from ≡ length from₀
  pub to_length : length to ≡ length to₀
