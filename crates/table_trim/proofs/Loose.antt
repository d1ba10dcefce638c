-- What holds of the edges from corner to corner holds of all edges with the same boundary. The idea: a pair cancels in both or in none. And a loose pair has an
-- end that is no corner, so it is no side and no piece of an edge from corner to corner. Assumes nothing.
use mathlib.Core.Path.{◌≡◌, sym, ◌∙◌, ap, subst}
use mathlib.Core.Logic.{◌⊎◌, inl, inr}
use mathlib.Core.List.{List}
use Prim.Native.Nat.{ℕ, ◌≤◌}
use native.Mathlib.Omega.{arith}
use native.Mathlib.Decide.{dec_le, ℕ_discrete}
use lib.IntN.{pos}
use lib.ListN.{get_or}
use Rattle.whole.specs.Sums.{All, Among, count}
use Rattle.whole.proofs.Sums.{all_at, all_of, counted}
use Rattle.plane.specs.Points.{Edge, flip, same_edge}
use Rattle.plane.specs.Cuts.{pieces}
use Rattle.plane.specs.Boundaries.{boundary}
use Rattle.plane.specs.Keys.{point_at, pair, points_at}
use Rattle.plane.proofs.Points.{same_edge-eq, same_edge-refl}
use Rattle.plane.proofs.Keys.{point_at-injective}
use Rattle.plane.proofs.Cuts.{no_length}
use Rattle.whole_order.specs.Ascending.{IsIn}
use Rattle.table_lines.specs.Lines.{Cornered, Follow}
use Rattle.table_lines.proofs.Follows.{follows}
use Rattle.table_count.specs.Counting.{Looked, side_of, pieces_of, Tallied, Settled, Stray}
use Rattle.table_count.proofs.Pieces.{boundary_zero, zero_boundary}
use Rattle.table_count.proofs.Found.{not_found}
use Rattle.table_runs.proofs.Walks.{all_pieces_lem, own_line}
use Rattle.table_trim.specs.Trimming.{Loose, Cornerly, Reduced}

pub cornerly_flip : (corners : List ℕ) (e : Edge) → Cornerly corners e → Cornerly corners (flip e)
cornerly_flip corners e c = record { u = c.v; v = c.u; is = ap flip c.is; from_stands = c.to_stands; to_stands = c.from_stands }

-- No pair is both.
pub not_both : (corners : List ℕ) (e : Edge) → Loose corners e → Cornerly corners e → ⊥
not_both corners e l c = go l.off
  where
    same : pair l.u l.v ≡ pair c.u c.v
    same = sym l.is ∙ c.is

    go : (IsIn l.u corners → ⊥) ⊎ (IsIn l.v corners → ⊥) → ⊥
    go (inl n) = n (subst (λ z. IsIn z corners) (sym (point_at-injective l.u c.u (ap (λ e. e.from) same))) c.from_stands)
    go (inr n) = n (subst (λ z. IsIn z corners) (sym (point_at-injective l.v c.v (ap (λ e. e.to) same))) c.to_stands)

-- The pieces of an edge from corner to corner are pairs of corners.
pub edge_cornerly : (corners : List ℕ) (p q : ℕ) → IsIn p corners → IsIn q corners → (e : Edge) → Among same_edge e (pieces (points_at corners) (pair p q)) → Cornerly corners e
edge_cornerly corners p q sp sq e m = go (ℕ_discrete p q)
  where
    found : (u v : ℕ) → Follow corners p q u v → (e ≡ pair u v) ⊎ (e ≡ pair v u) → Cornerly corners e
    found u v f (inl r) = record { u = u; v = v; is = r; from_stands = f.from_stands; to_stands = f.to_stands }
    found u v f (inr r) = record { u = v; v = u; is = r; from_stands = f.to_stands; to_stands = f.from_stands }

    go : Dec (p ≡ q) → Cornerly corners e
    go (yes r) = absurd (omega (arith, ap (count same_edge e) (no_length (points_at corners) (point_at p)), subst (λ z. 1 ≤ count same_edge e (pieces (points_at corners) (pair p z))) (sym r) m))
    go (no n) = let w = follows corners p q n p q (own_line p q) sp sq e m in found w.0 w.1 w.2 w.3

pub pieces_cornerly : (corners from to : List ℕ) → Cornered corners from to → All (Cornerly corners) (pieces_of corners from to)
pieces_cornerly corners from to c = all_pieces_lem (points_at corners) (Cornerly corners) from to (λ j h e m. edge_cornerly corners (get_or from j 0) (get_or to j 0) (all_at (λ p. IsIn p corners) 0 from j c.from_stand h) (all_at (λ q. IsIn q corners) 0 to j c.to_stand (omega (arith, c.as_many))) e m)

pub loose_flip : (corners : List ℕ) (e : Edge) → Loose corners e → Loose corners (flip e)
loose_flip corners e l = record { u = l.v; v = l.u; is = ap flip l.is; off = go l.off }
  where
    go : (IsIn l.u corners → ⊥) ⊎ (IsIn l.v corners → ⊥) → (IsIn l.v corners → ⊥) ⊎ (IsIn l.u corners → ⊥)
    go (inl n) = inr n
    go (inr n) = inl n

-- A loose pair is no side, nor the reverse of one.
pub loose_side : (sides : List Edge) (corners index : List ℕ) → Looked sides corners index → (e : Edge) → Loose corners e → (Among same_edge e sides → ⊥) × (Among same_edge (flip e) sides → ⊥)
loose_side sides corners index looked e l = go l.off
  where
    go : (IsIn l.u corners → ⊥) ⊎ (IsIn l.v corners → ⊥) → (Among same_edge e sides → ⊥) × (Among same_edge (flip e) sides → ⊥)
    go (inl n) = (
      subst (λ z. Among same_edge z sides → ⊥) (sym l.is) (not_found (pair l.u l.v) sides (looked.no_from l.u l.v n)),
      subst (λ z. Among same_edge (flip z) sides → ⊥) (sym l.is) (not_found (pair l.v l.u) sides (looked.no_to l.v l.u n)),
    )
    go (inr n) = (
      subst (λ z. Among same_edge z sides → ⊥) (sym l.is) (not_found (pair l.u l.v) sides (looked.no_to l.u l.v n)),
      subst (λ z. Among same_edge (flip z) sides → ⊥) (sym l.is) (not_found (pair l.v l.u) sides (looked.no_from l.v l.u n)),
    )

-- ---- what holds of the edges from corner to corner
module _ (sides : List Edge) (corners index from to inner-from inner-to : List ℕ) (looked : Looked sides corners index) (reduced : Reduced corners from to inner-from inner-to) where
  abbrev P : List Edge
  P = pieces_of corners from to

  abbrev Q : List Edge
  Q = pieces_of corners inner-from inner-to

  pub reduced_tallied : (counts : List ℕ) → Tallied sides Q counts → Tallied sides P counts
  reduced_tallied counts t = record { number = t.number; nets = λ k h. t.nets k h ∙ sym (reduced.boundary (side_of sides k)) }

  -- A pair of the one is settled as in the other, or it cancels.
  pub reduced_settled : Settled sides Q Q → Settled sides P P
  reduced_settled s = all_of (λ e. Among same_edge e sides ⊎ Among same_edge (flip e) sides ⊎ (boundary P e ≡ pos 0)) (λ e. go e (dec_le 1 (count same_edge e Q)) (dec_le 1 (count same_edge (flip e) Q))) P
    where
      found : (e : Edge) → Among same_edge e Q → Among same_edge e sides ⊎ Among same_edge (flip e) sides ⊎ (boundary Q e ≡ pos 0)
      found e m = counted same_edge same_edge-eq same_edge-refl (λ e. Among same_edge e sides ⊎ Among same_edge (flip e) sides ⊎ (boundary Q e ≡ pos 0)) e Q m s

      here : (e : Edge) → Among same_edge e sides ⊎ Among same_edge (flip e) sides ⊎ (boundary Q e ≡ pos 0) → Among same_edge e sides ⊎ Among same_edge (flip e) sides ⊎ (boundary P e ≡ pos 0)
      here e (inl a) = inl a
      here e (inr (inl a)) = inr (inl a)
      here e (inr (inr z)) = inr (inr (reduced.boundary e ∙ z))

      back : (e : Edge) → Among same_edge (flip e) sides ⊎ Among same_edge e sides ⊎ (boundary Q (flip e) ≡ pos 0) → Among same_edge e sides ⊎ Among same_edge (flip e) sides ⊎ (boundary P e ≡ pos 0)
      back e (inl a) = inr (inl a)
      back e (inr (inl a)) = inl a
      back e (inr (inr z)) = inr (inr (reduced.boundary e ∙ boundary_zero Q e (sym (zero_boundary Q (flip e) z))))

      go : (e : Edge) → Dec (1 ≤ count same_edge e Q) → Dec (1 ≤ count same_edge (flip e) Q) → Among same_edge e sides ⊎ Among same_edge (flip e) sides ⊎ (boundary P e ≡ pos 0)
      go e (yes m) d = here e (found e m)
      go e (no n) (yes m) = back e (found (flip e) m)
      go e (no n) (no m) = inr (inr (reduced.boundary e ∙ boundary_zero Q e (omega arith)))

  pub reduced_stray : Stray sides Q → Stray sides P
  reduced_stray s = record { e = s.e; no_side = s.no_side; no_reverse = s.no_reverse; uneven = λ z. s.uneven (sym (reduced.boundary s.e) ∙ z) }
