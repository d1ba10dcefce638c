-- The laws of edges by the straight line they lie on. The idea: two different points of a line are on one line only, so a pair on the line is a piece of no
-- edge that isn't on it; of an edge from corner to corner on the line, a pair of corners that follow one another is a piece exactly if one end of the edge is
-- before the pair's second corner and the other is not; so the pair's net count is what begins before that corner less what ends before it. Assumes nothing.
use mathlib.Core.Path.{◌≡◌, refl, sym, ◌∙◌, ap, subst}
use mathlib.Core.Logic.{inl, inr}
use mathlib.Core.Bool.{Bool, true, false, ◌&&◌}
use mathlib.Core.List.{List, [], ◌∷◌, flat_map}
use Prim.Native.Nat.{ℕ, ◌+◌, ◌≤◌, ◌<◌}
use native.Mathlib.Omega.{arith}
use native.Mathlib.Decide.{dec_le, ℕ_discrete}
use borrow.Author.Tests.{ltb-true, ltb-false}
use lib.Dec.{T, ltb}
use lib.IntN.{ℤ, pos, ◌-ℤ◌, ◌*ℤ◌}
use lib.Signed.{◌<ℤ◌, <ℤ-≤ℤ_trans}
use Rattle.whole.specs.Sums.{All, Among, bit, count, net}
use Rattle.whole.specs.Polynomials.{Expr, con, ◌:+◌, ◌:-◌, ◌:*◌, ◌:=◌}
use Rattle.whole.proofs.Int.{zify, unscale_zero, lt_le, Order, less, equal, more, order, eq_z-eq}
use Rattle.whole.proofs.Ring.{solve}
use Rattle.whole.proofs.Sums.{and_left, and_right, and_both, count-++, counted}
use Rattle.plane.specs.Points.{Point, Edge, ◌⟶◌, same_point, same_edge, turn, between}
use Rattle.plane.specs.Cuts.{pieces, all_pieces}
use Rattle.plane.specs.Boundaries.{boundary}
use Rattle.plane.specs.Keys.{point_at, pair, pairs}
use Rattle.plane.proofs.Points.{same_edge-eq, same_edge-refl, turnₑ}
use Rattle.plane.proofs.Line.{along, On, on_from, on_to, along_from, long, equal_on, inner_intro}
use Rattle.plane.proofs.Cuts.{Clear, no_length}
use Rattle.plane.proofs.Ways.{Stop, Part, inside_on, pieces_parts, pieces_flip}
use Rattle.plane.proofs.Keys.{point_at-injective, between_order, stops_at, stops_at-is, piece_count, piece_wrong_way}
use Rattle.table_lines.specs.Lines.{lies, lie, begun, ended}

-- ---- points of one line
-- Three points of a line that two different points fix make no turn.
abbrev alongₑ : (ux uy vx vy cx cy : Expr) → Expr
alongₑ ux uy vx vy cx cy = (cx :- ux) :* (vx :- ux) :+ (cy :- uy) :* (vy :- uy)

turn_is : (e : Edge) (a b c : Point) → along e e.to *ℤ turn a b c
    ≡ (turn e.from b e.to -ℤ turn e.from a e.to) *ℤ (along e c -ℤ along e a) -ℤ (along e b -ℤ along e a) *ℤ (turn e.from c e.to -ℤ turn e.from a e.to)
unfolding along turn
turn_is e a b c = solve 10 (λ ux uy vx vy ax ay bx by cx cy. alongₑ ux uy vx vy vx vy :* turnₑ ax ay bx by cx cy
    := (turnₑ ux uy bx by vx vy :- turnₑ ux uy ax ay vx vy) :* (alongₑ ux uy vx vy cx cy :- alongₑ ux uy vx vy ax ay)
    :- (alongₑ ux uy vx vy bx by :- alongₑ ux uy vx vy ax ay) :* (turnₑ ux uy cx cy vx vy :- turnₑ ux uy ax ay vx vy)) tt
    e.from.x e.from.y e.to.x e.to.y a.x a.y b.x b.y c.x c.y

pub level : (e : Edge) → (e.from ≡ e.to → ⊥) → (a b c : Point) → On e a → On e b → On e c → turn a b c ≡ pos 0
level e n a b c h k l = unscale_zero (along e e.to) (turn a b c) (long e n) (turn_is e a b c ∙ rw (h, k, l) (zero_out (along e c -ℤ along e a) (along e b -ℤ along e a)))
  where
    zero_out : (m n : ℤ) → (pos 0 -ℤ pos 0) *ℤ m -ℤ n *ℤ (pos 0 -ℤ pos 0) ≡ pos 0
    zero_out = solve 2 (λ m n. (con (pos 0) :- con (pos 0)) :* m :- n :* (con (pos 0) :- con (pos 0)) := con (pos 0)) tt

-- Two different points of a line fix it: what is on the line through them is on it.
pub one_line : (m : Edge) → (m.from ≡ m.to → ⊥) → (a b c : Point) → (a ≡ b → ⊥) → On m a → On m b → On (a ⟶ b) c → On m c
one_line m n a b c d h k l = level (a ⟶ b) d m.from c m.to (level m n a m.from b h (on_from m) k) l (level m n a m.to b h (on_to m) k)

-- ---- the order of the numbers is the order along a line
-- A corner on the line of two others and between them in number is strictly between them.
pub order_between : (c u v : ℕ) → u < c → c < v → On (pair u v) (point_at c) → T (between (point_at c) (pair u v))
order_between c u v h k on = go (order (along e (point_at c)) (along e e.from)) (order (along e (point_at c)) (along e e.to))
  where
    e : Edge
    e = pair u v

    l : pos 0 <ℤ along e e.to
    l = long e (λ q. let n = point_at-injective u v q in omega arith)

    whole : along e e.from <ℤ along e e.to
    whole = rw (along_from e) l

    go : Order (along e (point_at c)) (along e e.from) → Order (along e (point_at c)) (along e e.to) → T (between (point_at c) (pair u v))
    go (more a) (less b) = inner_intro e l e.from e.to (on_from e) (on_to e) whole (point_at c) on a b
    go (equal a) b = absurd (let n = point_at-injective c u (equal_on e l (point_at c) e.from on (on_from e) a) in omega arith)
    go (more a) (equal b) = absurd (let n = point_at-injective c v (equal_on e l (point_at c) e.to on (on_to e) b) in omega arith)
    go (less a) b = absurd (let n = between_order u c v k (inner_intro e l (point_at c) e.to on (on_to e) (<ℤ-≤ℤ_trans a (lt_le (along e e.from) (along e e.to) whole)) e.from (on_from e) a whole) in omega arith)
    go (more a) (more b) = absurd (let n = between_order v u c h (inner_intro e l e.from (point_at c) (on_from e) on a e.to (on_to e) whole b) in omega arith)

-- The test says what it is made of.
pub lies_on : (a b c : ℕ) → T (lies a b c) → On (pair a b) (point_at c)
unfolding lies
lies_on a b c t = eq_z-eq (turn (point_at a) (point_at c) (point_at b)) (pos 0) t

pub on_lies : (a b c : ℕ) → On (pair a b) (point_at c) → T (lies a b c)
unfolding lies
on_lies a b c h = rw h tt

-- ---- one edge, and a pair of corners that follow one another on a line
module _ (cs : List Point) (a b : ℕ) (apart : a ≡ b → ⊥) (u v : ℕ) (up : u < v) (on-u : T (lies a b u)) (on-v : T (lies a b v))
    (corner-u : Among same_point (point_at u) cs) (corner-v : Among same_point (point_at v) cs) (clear : Clear cs (pair u v)) where
  abbrev m : Edge
  m = pair a b

  far : point_at a ≡ point_at b → ⊥
  far q = apart (point_at-injective a b q)

  -- Corners of the line lie on one line with any two others of it.
  three : (p q r : ℕ) → T (lies a b p) → T (lies a b q) → T (lies a b r) → On (pair p q) (point_at r)
  three p q r h k l = level m far (point_at p) (point_at r) (point_at q) (lies_on a b p h) (lies_on a b r l) (lies_on a b q k)

  -- An edge with this pair as a piece lies on the line.
  stop_on : (e : Edge) → (e.from ≡ e.to → ⊥) → (w c : Point) → On e w → Stop cs e w c → On e c
  stop_on e n w c h (inl q) = subst (On e) (sym q) h
  stop_on e n w c h (inr s) = inside_on e (long e n) c s.1

  pub piece_on : (p q : ℕ) → (p ≡ q → ⊥) → Among same_edge (pair u v) (pieces cs (pair p q)) → T (lies a b p) × T (lies a b q)
  piece_on p q n h =
      let e = pair p q in
      let f : e.from ≡ e.to → ⊥ = λ r. n (point_at-injective p q r) in
      let k : Part cs e (pair u v) = counted same_edge same_edge-eq same_edge-refl (Part cs e) (pair u v) (pieces cs e) h (pieces_parts cs e) in
      let on-from-u : On e (point_at u) = stop_on e f e.from (point_at u) (on_from e) k.begins in
      let on-to-v : On e (point_at v) = stop_on e f e.to (point_at v) (on_to e) k.ends in
      let d : point_at u ≡ point_at v → ⊥ = λ r. let z = point_at-injective u v r in omega arith in
      let on : (r : ℕ) → On e (point_at r) → T (lies a b r) = λ r o. on_lies a b r (one_line m far (point_at u) (point_at v) (point_at r) d (lies_on a b u on-u) (lies_on a b v on-v) (level e f (point_at u) (point_at r) (point_at v) on-from-u o on-to-v)) in
      (on p (on_from e), on q (on_to e))

  -- A corner of the line is not strictly between the two: it is before the second exactly if it is not after the first.
  aside : (p : ℕ) → T (lies a b p) → Among same_point (point_at p) cs → p < v → p ≤ u
  aside p h c k = go (dec_le p u)
    where
      go : Dec (p ≤ u) → p ≤ u
      go (yes l) = l
      go (no l) = absurd (clear (point_at p) c (order_between p u v (omega arith) k (three u v p on-u on-v h)))

  -- An edge that goes up along the line, from corner to corner.
  module _ (p q : ℕ) (goes : p < q) (on_p : T (lies a b p)) (on_q : T (lies a b q)) (corner-p : Among same_point (point_at p) cs) where
    abbrev e : Edge
    e = pair p q

    inner : (c : ℕ) → T (lies a b c) → p < c → c < q → T (between (point_at c) e)
    inner c h k l = order_between c p q k l (three p q c on_p on_q h)

    begins : p ≤ u → v ≤ q → Stop cs e (point_at p) (point_at u)
    begins h k = go (ℕ_discrete u p)
      where
        go : Dec (u ≡ p) → Stop cs e (point_at p) (point_at u)
        go (yes r) = inl (ap point_at r)
        go (no n) = inr (corner-u, inner u on-u (omega arith) (omega arith))

    ends : p ≤ u → v ≤ q → Stop cs e (point_at q) (point_at v)
    ends h k = go (ℕ_discrete v q)
      where
        go : Dec (v ≡ q) → Stop cs e (point_at q) (point_at v)
        go (yes r) = inl (ap point_at r)
        go (no n) = inr (corner-v, inner v on-v (omega arith) (omega arith))

    ends_by : Stop cs e (point_at q) (point_at v) → v ≤ q
    ends_by (inl r) = let z = point_at-injective v q r in omega arith
    ends_by (inr s) = let z = between_order v p q goes s.1 in omega arith

    begins_by : Stop cs e (point_at p) (point_at u) → p ≤ u
    begins_by (inl r) = let z = point_at-injective u p r in omega arith
    begins_by (inr s) = let z = between_order u p q goes s.1 in omega arith

    up_law : count same_edge (pair u v) (pieces cs e) + bit (ltb q v) ≡ bit (ltb p v)
    up_law = go (ltb p v) refl (ltb q v) refl (stops_at cs e p u && stops_at cs e q v) (piece_count cs u v p q goes up clear)
        (λ t. (begins_by ((stops_at-is cs e p u).0 (and_left (stops_at cs e p u) (stops_at cs e q v) t)), ends_by ((stops_at-is cs e q v).0 (and_right (stops_at cs e p u) (stops_at cs e q v) t))))
        (λ h k. and_both (stops_at cs e p u) (stops_at cs e q v) ((stops_at-is cs e p u).1 (begins h k)) ((stops_at-is cs e q v).1 (ends h k)))
      where
        go : (x : Bool) → ltb p v ≡ x → (y : Bool) → ltb q v ≡ y → (z : Bool) → count same_edge (pair u v) (pieces cs e) ≡ bit z → (T z → (p ≤ u) × (v ≤ q)) → (p ≤ u → v ≤ q → T z)
            → count same_edge (pair u v) (pieces cs e) + bit y ≡ bit x
        go true h true k true n f g = absurd (let z = f tt in omega (arith, ltb-true q v k))
        go true h true k false n f g = omega arith
        go true h false k true n f g = omega arith
        go true h false k false n f g = absurd (g (aside p on_p corner-p (ltb-true p v h)) (ltb-false q v k))
        go false h true k z n f g = absurd (omega (arith, ltb-false p v h, ltb-true q v k))
        go false h false k true n f g = absurd (let z = f tt in omega (arith, ltb-false p v h))
        go false h false k false n f g = omega arith

  -- An edge that goes up from corner to corner, whether on the line or not.
  pub edge_up : (p q : ℕ) → p < q → Among same_point (point_at p) cs → count same_edge (pair u v) (pieces cs (pair p q)) + bit (lie a b p q && ltb q v) ≡ bit (lie a b p q && ltb p v)
  edge_up p q h c = go (lie a b p q) refl
    where
      go : (t : Bool) → lie a b p q ≡ t → count same_edge (pair u v) (pieces cs (pair p q)) + bit (t && ltb q v) ≡ bit (t && ltb p v)
      go true r = let s : T (lie a b p q) = subst T (sym r) tt in up_law p q h (and_left (lies a b p) (lies a b q) s) (and_right (lies a b p) (lies a b q) s) c
      go false r = none (dec_le 1 (count same_edge (pair u v) (pieces cs (pair p q))))
        where
          none : Dec (1 ≤ count same_edge (pair u v) (pieces cs (pair p q))) → count same_edge (pair u v) (pieces cs (pair p q)) + 0 ≡ 0
          none (yes k) = let o = piece_on p q (λ z. omega arith) k in absurd (subst T r (and_both (lies a b p) (lies a b q) o.0 o.1))
          none (no k) = omega arith

  -- An edge from corner to corner: the pair less its reverse is what begins before the pair's second corner less what ends before it.
  pub edge_law : (p q : ℕ) → Among same_point (point_at p) cs → Among same_point (point_at q) cs
      → count same_edge (pair u v) (pieces cs (pair p q)) + bit (lie a b p q && ltb q v) ≡ count same_edge (pair v u) (pieces cs (pair p q)) + bit (lie a b p q && ltb p v)
  edge_law p q c d = go (ltb p q) refl (ltb q p) refl
    where
      turned : (x y z : Bool) → bit ((x && y) && z) ≡ bit ((y && x) && z)
      turned true true z = refl
      turned true false z = refl
      turned false true z = refl
      turned false false z = refl

      go : (s : Bool) → ltb p q ≡ s → (t : Bool) → ltb q p ≡ t
          → count same_edge (pair u v) (pieces cs (pair p q)) + bit (lie a b p q && ltb q v) ≡ count same_edge (pair v u) (pieces cs (pair p q)) + bit (lie a b p q && ltb p v)
      go true h t k = omega (arith, edge_up p q (ltb-true p q h) c, piece_wrong_way cs u v p q (ltb-true p q h) up)
      go false h true k = omega (
        arith,
        edge_up q p (ltb-true q p k) d,
        pieces_flip cs (pair q p) (pair u v),
        pieces_flip cs (pair q p) (pair v u),
        piece_wrong_way cs u v q p (ltb-true q p k) up,
        turned (lies a b p) (lies a b q) (ltb q v),
        turned (lies a b p) (lies a b q) (ltb p v),
      )
      go false h false k =
          let same : p ≡ q = omega (arith, ltb-false p q h, ltb-false q p k) in
          subst (λ z. count same_edge (pair u v) (pieces cs (pair p z)) + bit (lie a b p z && ltb z v) ≡ count same_edge (pair v u) (pieces cs (pair p z)) + bit (lie a b p z && ltb p v)) same
          (omega (arith, ap (count same_edge (pair u v)) (no_length cs (point_at p)), ap (count same_edge (pair v u)) (no_length cs (point_at p))))

  -- All edges, each from corner to corner.
  pub line_law : (from to : List ℕ) → All (λ p. Among same_point (point_at p) cs) from → All (λ q. Among same_point (point_at q) cs) to
      → count same_edge (pair u v) (all_pieces cs (pairs from to)) + ended a b v from to ≡ count same_edge (pair v u) (all_pieces cs (pairs from to)) + begun a b v from to
  unfolding flat_map
  line_law [] l h k = refl
  line_law (p ∷ from) [] h k = refl
  line_law (p ∷ from) (q ∷ to) h k = omega (
    arith,
    edge_law p q h.0 k.0,
    line_law from to h.1 k.1,
    count-++ same_edge same_edge-eq same_edge-refl (pair u v) (pieces cs (pair p q)) (all_pieces cs (pairs from to)),
    count-++ same_edge same_edge-eq same_edge-refl (pair v u) (pieces cs (pair p q)) (all_pieces cs (pairs from to)),
  )

  pub line_boundary : (from to : List ℕ) → All (λ p. Among same_point (point_at p) cs) from → All (λ q. Among same_point (point_at q) cs) to
      → boundary (all_pieces cs (pairs from to)) (pair u v) ≡ pos (begun a b v from to) -ℤ pos (ended a b v from to)
  unfolding net
  line_boundary from to h k = simp zify (omega (arith, line_law from to h k))
