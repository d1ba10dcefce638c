-- The pieces of the first edges of a list, one edge more; and when a boundary is 0. The idea: an edge has a piece once at most. Assumes nothing.
use mathlib.Core.Path.{◌≡◌, refl, sym, ◌∙◌, ap}
use mathlib.Core.Logic.{◌⊎◌, inl, inr}
use mathlib.Core.List.{List, [], ◌∷◌, ◌++◌, flat_map, append-nil}
use Prim.Native.Nat.{ℕ, zero, suc, ◌+◌, ◌≤◌, ◌<◌}
use native.Mathlib.Omega.{arith}
use lib.IntN.{pos}
use lib.ListN.{length, get_or, take}
use Rattle.whole.specs.Sums.{Among, count, net}
use Rattle.whole.proofs.Ring.{difference}
use Rattle.whole.proofs.Int.{zify}
use Rattle.whole.proofs.Sums.{count-++, flat_map-++}
use Rattle.plane.specs.Points.{Point, Edge, flip, same_edge}
use Rattle.plane.specs.Cuts.{pieces, all_pieces}
use Rattle.plane.specs.Boundaries.{boundary}
use Rattle.plane.specs.Keys.{pair, pairs, points_at}
use Rattle.plane.proofs.Points.{same_edge-eq, same_edge-refl}
use Rattle.plane.proofs.Ways.{piece_once}
use Rattle.table_count.specs.Counting.{first_pieces}

-- ---- the first edges of a list
pub pairs_more : (k l : List ℕ) (j : ℕ) → j < length k → j < length l → pairs (take (suc j) k) (take (suc j) l) ≡ pairs (take j k) (take j l) ++ pair (get_or k j 0) (get_or l j 0) ∷ []
pairs_more [] l j h g = absurd (omega arith)
pairs_more (u ∷ k) [] j h g = absurd (omega arith)
pairs_more (u ∷ k) (v ∷ l) zero h g = refl
pairs_more (u ∷ k) (v ∷ l) (suc j) h g = ap (λ m. pair u v ∷ m) (pairs_more k l j (omega arith) (omega arith))

-- The pieces of all edges and of one more.
pub pieces_more : (cs : List Point) (l : List Edge) (x : Edge) (e : Edge) → count same_edge e (all_pieces cs (l ++ x ∷ [])) ≡ count same_edge e (all_pieces cs l) + count same_edge e (pieces cs x)
unfolding flat_map
pieces_more cs l x e = ap (count same_edge e) (flat_map-++ (pieces cs) l (x ∷ []))
    ∙ omega (arith, count-++ same_edge same_edge-eq same_edge-refl e (flat_map (pieces cs) l) (pieces cs x ++ []), count-++ same_edge same_edge-eq same_edge-refl e (pieces cs x) [])

pub count_more : (cs : List Point) (k l : List ℕ) (j n : ℕ) (e : Edge) → n ≡ suc j → j < length k → j < length l
    → count same_edge e (all_pieces cs (pairs (take n k) (take n l))) ≡ count same_edge e (all_pieces cs (pairs (take j k) (take j l))) + count same_edge e (pieces cs (pair (get_or k j 0) (get_or l j 0)))
count_more cs k l j n e q h g = rw (q, pairs_more k l j h g) (pieces_more cs (pairs (take j k) (take j l)) (pair (get_or k j 0) (get_or l j 0)) e)

-- ---- a boundary is 0 exactly if the pair stands as often as its reverse
pub boundary_zero : (l : List Edge) (e : Edge) → count same_edge e l ≡ count same_edge (flip e) l → boundary l e ≡ pos 0
unfolding net
boundary_zero l e h = rw h (simp zify (omega arith))

pub zero_boundary : (l : List Edge) (e : Edge) → boundary l e ≡ pos 0 → count same_edge e l ≡ count same_edge (flip e) l
unfolding net
zero_boundary l e h = cc (difference (pos (count same_edge e l)) (pos (count same_edge (flip e) l)) h)

-- ---- a settled pair and its reverse
-- The pair is a side, or the reverse of one, or cancels in p.
abbrev pub Settles : List Edge → List Edge → Edge → Type 0
Settles sides p e = Among same_edge e sides ⊎ Among same_edge (flip e) sides ⊎ (boundary p e ≡ pos 0)

pub settles_flip : (sides p : List Edge) (e : Edge) → Settles sides p e → Settles sides p (flip e)
settles_flip sides p e (inl h) = inr (inl h)
settles_flip sides p e (inr (inl h)) = inl h
settles_flip sides p e (inr (inr h)) = inr (inr (boundary_zero p (flip e) (sym (zero_boundary p e h))))

-- ---- one edge more
module _ (corners from to : List ℕ) (as_many : length to ≡ length from) where
  abbrev cs : List Point
  cs = points_at corners

  pub first_more : (i : ℕ) → i < length from → first_pieces corners from to (suc i) ≡ first_pieces corners from to i ++ pieces cs (pair (get_or from i 0) (get_or to i 0))
  unfolding flat_map
  first_more i h =
      ap (all_pieces cs) (pairs_more from to i h (omega arith))
      ∙ flat_map-++ (pieces cs) (pairs (take i from) (take i to)) (pair (get_or from i 0) (get_or to i 0) ∷ [])
      ∙ ap (λ l. first_pieces corners from to i ++ l) (append-nil (pieces cs (pair (get_or from i 0) (get_or to i 0))))

  -- No pair is a piece of the first i edges more often than i times.
  pub first_few : (i : ℕ) → i ≤ length from → (e : Edge) → count same_edge e (first_pieces corners from to i) ≤ i
  unfolding flat_map
  first_few zero h e = omega arith
  first_few (suc i) h e =
      omega (
        arith,
        ap (count same_edge e) (first_more i (omega arith)),
        count-++ same_edge same_edge-eq same_edge-refl e (first_pieces corners from to i) (pieces cs (pair (get_or from i 0) (get_or to i 0))),
        piece_once cs e (pair (get_or from i 0) (get_or to i 0)),
        first_few i (omega arith) e,
      )
