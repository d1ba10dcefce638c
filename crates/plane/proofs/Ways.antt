-- How the pieces of an edge follow one another: past a corner strictly between the edge's ends, up to its last point, each once, and
-- on the way back.
-- The idea: a piece begins and ends at an end of the edge or at a corner strictly between; a part of an edge between two such points
-- has its pieces among the edge's; and one list only is a cutting (Cuts). Assumes nothing.
use mathlib.Core.Path.{◌≡◌, refl, sym, ◌∙◌, ap, subst}
use mathlib.Core.Logic.{◌⊎◌, inl, inr, ⊎_elim}
use mathlib.Core.Bool.{Bool, true, false, ◌&&◌}
use mathlib.Core.List.{List, [], ◌∷◌, ◌++◌}
use Prim.Native.Nat.{◌+◌, ◌≤◌}
use native.Mathlib.Omega.{arith}
use lib.Dec.{T}
use lib.IntN.{pos, neg_ℤ, ◌-ℤ◌}
use lib.Signed.{◌<ℤ◌, ◌≤ℤ◌, ≤ℤ_refl, <ℤ_irrefl, <ℤ-≤ℤ_trans}
use Rattle.whole.specs.Sums.{All, Among, bit, count}
use Rattle.whole.specs.Polynomials.{◌:+◌, ◌:-◌, ◌:*◌, :-◌, ◌:=◌}
use Rattle.whole.proofs.Int.{gap_pos, lt_le, ≤-<-trans, ≤_trans}
use Rattle.whole.proofs.Ring.{solve}
use Rattle.whole.proofs.Sums.{all_map, all-++, bit_yes, count-++, not_counted}
use Rattle.plane.specs.Points.{Point, Edge, ◌⟶◌, flip, same_point, same_edge, turn, onward, between}
use Rattle.plane.specs.Cuts.{pieces}
use Rattle.plane.proofs.Points.{turnₑ, onwardₑ, same_or_other, same_edge-eq, same_edge-refl, between_line, between_onward, between_intro}
use Rattle.plane.proofs.Between.{between_means}
use Rattle.plane.proofs.Chains.{Chain, chain-++}
use Rattle.plane.proofs.Line.{along, On, on_from, on_to, along_from, long, inner_on, inner_order, inner_intro}
use Rattle.plane.proofs.Cuts.{Piece, Clear, pieces_cut, pieces_only, no_length}

-- ---- points strictly between the ends of an edge
-- The ends of an edge with a point strictly between them differ.
pub between_apart : (c u v : Point) → T (between c (u ⟶ v)) → u ≡ v → ⊥
between_apart c u v t = ((between_means c (u ⟶ v)).0 t).0

module _ (e : Edge) (length : pos 0 <ℤ along e e.to) where
  whole : along e e.from <ℤ along e e.to
  whole = rw along_from length

  -- Where a point strictly between the ends of the edge is,
  pub inside_on : (c : Point) → T (between c e) → On e c
  inside_on c t = inner_on e length e.from e.to (on_from e) (on_to e) whole c t

  pub inside_order : (c : Point) → T (between c e) → (pos 0 <ℤ along e c) × (along e c <ℤ along e e.to)
  inside_order c t = let o = inner_order e length e.from e.to (on_from e) (on_to e) whole c t in (rw along_from at o.0, o.1)

  -- and the other way round.
  pub inside_intro : (c : Point) → On e c → pos 0 <ℤ along e c → along e c <ℤ along e e.to → T (between c e)
  inside_intro c p h k = inner_intro e length e.from e.to (on_from e) (on_to e) whole c p (rw along_from h) k

  -- Of two points strictly between the ends the one that comes first is strictly between the edge's first point and the other,
  -- and the other strictly between it and the edge's last.
  pub first_inside : (c d : Point) → T (between c e) → T (between d e) → along e c <ℤ along e d → T (between c (e.from ⟶ d))
  first_inside c d s t h = inner_intro e length e.from d (on_from e) (inside_on d t) (rw along_from (inside_order d t).0) c (inside_on c s) (rw along_from (inside_order c s).0) h

  pub second_inside : (c d : Point) → T (between c e) → T (between d e) → along e c <ℤ along e d → T (between d (c ⟶ e.to))
  second_inside c d s t h = inner_intro e length c e.to (inside_on c s) (on_to e) (inside_order c s).1 d (inside_on d t) h (inside_order d t).1

  -- A point strictly inside a part of the edge is strictly between its ends.
  within : (a b c : Point) → On e a → On e b → pos 0 ≤ℤ along e a → along e a <ℤ along e b → along e b ≤ℤ along e e.to → T (between c (a ⟶ b)) → T (between c e)
  within a b c p q h k j t =
      let o = inner_order e length a b p q k c t in
      inside_intro c (inner_on e length a b p q k c t) (≤-<-trans (pos 0) (along e a) (along e c) h o.0) (<ℤ-≤ℤ_trans o.1 j)

-- What is strictly inside the first of the two parts into which a point cuts an edge is strictly inside the edge.
pub between_first : (c d u v : Point) → T (between c (u ⟶ v)) → T (between d (u ⟶ c)) → T (between d (u ⟶ v))
between_first c d u v t s =
    let e = u ⟶ v in
    let l = long e (between_apart c u v t) in
    let o = inside_order e l c t in
    within e l u c d (on_from e) (inside_on e l c t) (rw (along_from e) (≤ℤ_refl (pos 0))) (rw (along_from e) o.0) (lt_le (along e c) (along e v) o.1) s

-- A point strictly between differs from both ends.
pub between_ends : (c u v : Point) → T (between c (u ⟶ v)) → (u ≡ c → ⊥) × (c ≡ v → ⊥)
between_ends c u v t =
    let e = u ⟶ v in
    let o = inside_order e (long e (between_apart c u v t)) c t in
    (λ q. <ℤ_irrefl (subst (λ z. pos 0 <ℤ z) (along_from e) (subst (λ z. pos 0 <ℤ along e z) (sym q) o.0)), λ q. <ℤ_irrefl (subst (λ z. along e z <ℤ along e v) q o.1))

-- ---- where a piece begins and where it ends
-- c is the point w, or a corner strictly between the ends of the edge.
abbrev pub Stop : List Point → Edge → Point → Point → Type 0
Stop cs e w c = (c ≡ w) ⊎ (Among same_point c cs × T (between c e))

-- A way forward along e, from its first point or a corner to its last or a corner.
pub record Part (cs : List Point) (e p : Edge) : Type 0 where
  pub begins : Stop cs e e.from p.from
  pub ends : Stop cs e e.to p.to
  pub forward : along e p.from <ℤ along e p.to

-- A piece begins where the one before it ends: not at the edge's end, so at a corner.
parts : (cs : List Point) (e : Edge) (b : Point) (l : List Edge) → Chain b e.to l → All (Piece cs e) l → Stop cs e e.from b → All (Part cs e) l
parts cs e b [] h k s = tt
parts cs e b (x ∷ l) h k s = (
  record { begins = subst (Stop cs e e.from) (sym h.0) s; ends = k.0.ends; forward = k.0.forward },
  rest l h.1 k.1 (parts cs e x.to l h.1 k.1) k.0.ends,
)
  where
    rest : (m : List Edge) → Chain x.to e.to m → All (Piece cs e) m → (Stop cs e e.from x.to → All (Part cs e) m) → Stop cs e e.to x.to → All (Part cs e) m
    rest [] h k r s = tt
    rest (y ∷ m) h k r (inl q) = absurd (<ℤ_irrefl (<ℤ-≤ℤ_trans (subst (λ z. along e z <ℤ along e y.to) (h.0 ∙ q) k.0.forward) k.0.before))
    rest (y ∷ m) h k r (inr s) = r (inr s)

-- Each piece is a part.
pub pieces_parts : (cs : List Point) (e : Edge) → All (Part cs e) (pieces cs e)
pieces_parts cs e = let k = pieces_cut cs e in parts cs e e.from (pieces cs e) k.joined k.onwards (inl refl)

module _ (cs : List Point) (e : Edge) (length : pos 0 <ℤ along e e.to) where
  -- Where a part begins and where it ends lies on the edge, within its ends.
  begin_on : (c : Point) → Stop cs e e.from c → On e c × (pos 0 ≤ℤ along e c)
  begin_on c (inl q) = subst (λ z. On e z × (pos 0 ≤ℤ along e z)) (sym q) (on_from e, rw along_from (≤ℤ_refl (pos 0)))
  begin_on c (inr s) = (inside_on e length c s.1, lt_le (pos 0) (along e c) (inside_order e length c s.1).0)

  end_on : (c : Point) → Stop cs e e.to c → On e c × (along e c ≤ℤ along e e.to)
  end_on c (inl q) = subst (λ z. On e z × (along e z ≤ℤ along e e.to)) (sym q) (on_to e, ≤ℤ_refl (along e e.to))
  end_on c (inr s) = (inside_on e length c s.1, lt_le (along e c) (along e e.to) (inside_order e length c s.1).1)

  part_piece : (p : Edge) → Part cs e p → Piece cs e p
  part_piece p h =
      let b = begin_on p.from h.begins in
      let t = end_on p.to h.ends in
      record { from_on = b.0; to_on = t.0; after = b.1; forward = h.forward; before = t.1; ends = h.ends }

  -- A part of a part is a part.
  module _ (d : Edge) (s : Part cs e d) where
    i : Piece cs e d
    i = part_piece d s

    inner : (c : Point) → T (between c d) → T (between c e)
    inner c t = within e length d.from d.to c i.from_on i.to_on i.after i.forward i.before t

    order_in : (c : Point) → T (between c d) → (along e d.from <ℤ along e c) × (along e c <ℤ along e d.to)
    order_in c t = inner_order e length d.from d.to i.from_on i.to_on i.forward c t

    length_in : pos 0 <ℤ along d d.to
    length_in = long d (λ q. <ℤ_irrefl (subst (λ z. along e d.from <ℤ along e z) (sym q) i.forward))

    narrow : (w c z : Point) → Stop cs e w z → Stop cs d z c → Stop cs e w c
    narrow w c z b (inl q) = subst (Stop cs e w) (sym q) b
    narrow w c z b (inr k) = inr (k.0, inner c k.1)

    ahead : (p : Edge) → Stop cs d d.from p.from → Stop cs d d.to p.to → along d p.from <ℤ along d p.to → along e p.from <ℤ along e p.to
    ahead p (inl q) (inl r) h = rw (q, r) i.forward
    ahead p (inl q) (inr k) h = rw q (order_in p.to k.1).0
    ahead p (inr j) (inl r) h = rw r (order_in p.from j.1).1
    ahead p (inr j) (inr k) h = (inner_order e length d.from p.to i.from_on (inside_on e length p.to (inner p.to k.1)) (order_in p.to k.1).0 p.from
        (first_inside d length_in p.from p.to j.1 k.1 h)).1

    part_part : (p : Edge) → Part cs d p → Part cs e p
    part_part p h = record {
      begins = narrow e.from p.from d.from s.begins h.begins;
      ends = narrow e.to p.to d.to s.ends h.ends;
      forward = ahead p h.begins h.ends h.forward;
    }

    piece_part : (p : Edge) → Part cs d p → Piece cs e p
    piece_part p h = part_piece p (part_part p h)

-- ---- the pieces one after another
-- The pieces of an edge up to a corner strictly between its ends, then those from there on.
pub split_pieces : (cs : List Point) (u c v : Point) → Among same_point c cs → T (between c (u ⟶ v)) → pieces cs (u ⟶ v) ≡ pieces cs (u ⟶ c) ++ pieces cs (c ⟶ v)
split_pieces cs u c v m t =
    let e = u ⟶ v in
    let l = long e (between_apart c u v t) in
    let o = inside_order e l c t in
    let j = pieces_cut cs (u ⟶ c) in
    let k = pieces_cut cs (c ⟶ v) in
    let first : Part cs e (u ⟶ c) = record { begins = inl refl; ends = inr (m, t); forward = rw (along_from e) o.0 } in
    let second : Part cs e (c ⟶ v) = record { begins = inr (m, t); ends = inl refl; forward = o.1 } in
    sym (pieces_only cs e (pieces cs (u ⟶ c) ++ pieces cs (c ⟶ v)) (record {
      joined = chain-++ u c v (pieces cs (u ⟶ c)) (pieces cs (c ⟶ v)) j.joined k.joined;
      onwards = all-++ (Piece cs e) (pieces cs (u ⟶ c)) (pieces cs (c ⟶ v))
          (all_map (Part cs (u ⟶ c)) (Piece cs e) (piece_part cs e l (u ⟶ c) first) (pieces cs (u ⟶ c)) (pieces_parts cs (u ⟶ c)))
          (all_map (Part cs (c ⟶ v)) (Piece cs e) (piece_part cs e l (c ⟶ v) second) (pieces cs (c ⟶ v)) (pieces_parts cs (c ⟶ v)));
      clear = all-++ (Clear cs) (pieces cs (u ⟶ c)) (pieces cs (c ⟶ v)) j.clear k.clear;
    }))

-- An edge with no corner strictly between its ends is its one piece.
pub last_piece : (cs : List Point) (u v : Point) → (u ≡ v → ⊥) → Clear cs (u ⟶ v) → pieces cs (u ⟶ v) ≡ (u ⟶ v) ∷ []
last_piece cs u v n h =
    let e = u ⟶ v in
    let l = long e n in
    sym (pieces_only cs e (e ∷ []) (record { joined = (refl, refl); onwards = (part_piece cs e l e (record { begins = inl refl; ends = inl refl; forward = whole e l }), tt); clear = (h, tt) }))

-- The first piece of an edge goes to the corner strictly between its ends with no corner before it.
pub next_piece : (cs : List Point) (u c v : Point) → Among same_point c cs → T (between c (u ⟶ v)) → Clear cs (u ⟶ c) → pieces cs (u ⟶ v) ≡ (u ⟶ c) ∷ pieces cs (c ⟶ v)
next_piece cs u c v m t h = split_pieces cs u c v m t ∙ ap (λ l. l ++ pieces cs (c ⟶ v)) (last_piece cs u c (between_ends c u v t).0 h)

-- So a pair from an edge's first point to a stop of the edge is a piece of it, if no corner is inside the pair.
pub first_counted : (cs : List Point) (u c v : Point) → (u ≡ c → ⊥) → Clear cs (u ⟶ c) → Stop cs (u ⟶ v) v c → Among same_edge (u ⟶ c) (pieces cs (u ⟶ v))
first_counted cs u c v n h s = go s
  where
    one : 1 ≤ bit (same_edge (u ⟶ c) (u ⟶ c))
    one = omega (arith, bit_yes (same_edge (u ⟶ c) (u ⟶ c)) (same_edge-refl (u ⟶ c)))

    go : Stop cs (u ⟶ v) v c → 1 ≤ count same_edge (u ⟶ c) (pieces cs (u ⟶ v))
    go (inl q) = subst (λ z. 1 ≤ count same_edge (u ⟶ c) (pieces cs (u ⟶ z))) q (rw (last_piece cs u c n h) (omega (arith, one)))
    go (inr k) = rw (next_piece cs u c v k.0 k.1 h) (omega (arith, one))

-- ---- each piece once
-- Pieces that join up from b on begin at b or after it.
later : (cs : List Point) (e : Edge) (b : Point) (l : List Edge) → Chain b e.to l → All (Piece cs e) l → All (λ p. along e b ≤ℤ along e p.from) l
later cs e b [] h k = tt
later cs e b (x ∷ l) h k = (
  rw h.0 (≤ℤ_refl (along e b)),
  all_map (λ p. along e x.to ≤ℤ along e p.from) (λ p. along e b ≤ℤ along e p.from)
      (λ p j. ≤_trans (along e b) (along e x.to) (along e p.from) (subst (λ z. along e z ≤ℤ along e x.to) h.0 (lt_le (along e x.from) (along e x.to) k.0.forward)) j)
      l (later cs e x.to l h.1 k.1),
)

-- So none comes twice.
once : (cs : List Point) (e p : Edge) (b : Point) (l : List Edge) → Chain b e.to l → All (Piece cs e) l → count same_edge p l ≤ 1
once cs e p b [] h k = omega arith
once cs e p b (x ∷ l) h k = go (same_edge x p) (same_edge-eq x p) (once cs e p x.to l h.1 k.1)
  where
    go : (t : Bool) → (T t → x ≡ p) → count same_edge p l ≤ 1 → bit t + count same_edge p l ≤ 1
    go true f r = omega (
      arith,
      (not_counted same_edge same_edge-eq same_edge-refl p l).0
          (all_map (λ y. along e x.to ≤ℤ along e y.from) (λ y. T (same_edge p y) → ⊥)
          (λ y j s. <ℤ_irrefl (<ℤ-≤ℤ_trans k.0.forward (subst (λ z. along e x.to ≤ℤ along e z.from) (sym (f tt ∙ same_edge-eq p y s)) j)))
          l (later cs e x.to l h.1 k.1)),
    )
    go false f r = omega arith

pub piece_once : (cs : List Point) (e d : Edge) → count same_edge e (pieces cs d) ≤ 1
piece_once cs e d = let k = pieces_cut cs d in once cs d e d.from (pieces cs d) k.joined k.onwards

-- ---- the way back
-- Strictly between two points is strictly between them the other way round.
pub between_flip : (c : Point) (e : Edge) → T (between c e) → T (between c (flip e))
unfolding turn onward
between_flip c e t = between_intro c (flip e)
    (solve 6 (λ ux uy cx cy vx vy. turnₑ vx vy cx cy ux uy := :- turnₑ ux uy cx cy vx vy) tt e.from.x e.from.y c.x c.y e.to.x e.to.y ∙ ap neg_ℤ (between_line c e t))
    (subst (λ z. pos 0 <ℤ z) (solve 6 (λ ux uy cx cy vx vy. onwardₑ ux uy cx cy vx vy := onwardₑ vx vy cx cy ux uy) tt e.from.x e.from.y c.x c.y e.to.x e.to.y) (between_onward c e t))

along_flip : (e : Edge) (p q : Point) → along (flip e) p -ℤ along (flip e) q ≡ along e q -ℤ along e p
unfolding along
along_flip e p q = solve 8 (λ ux uy vx vy px py qx qy. ((px :- vx) :* (ux :- vx) :+ (py :- vy) :* (uy :- vy)) :- ((qx :- vx) :* (ux :- vx) :+ (qy :- vy) :* (uy :- vy))
    := ((qx :- ux) :* (vx :- ux) :+ (qy :- uy) :* (vy :- uy)) :- ((px :- ux) :* (vx :- ux) :+ (py :- uy) :* (vy :- uy))) tt
    e.from.x e.from.y e.to.x e.to.y p.x p.y q.x q.y

-- The pairs turned round, in the opposite order.
back : List Edge → List Edge
back [] = []
back (x ∷ l) = back l ++ (flip x ∷ [])

chain_back : (p q : Point) (l : List Edge) → Chain p q l → Chain q p (back l)
unfolding back
chain_back p q [] h = sym h
chain_back p q (x ∷ l) h = chain-++ q x.to p (back l) (flip x ∷ []) (chain_back x.to q l h.1) (refl, h.0)

all_back : (P Q : Edge → Type 0) → ((x : Edge) → P x → Q (flip x)) → (l : List Edge) → All P l → All Q (back l)
unfolding back
all_back P Q f [] h = tt
all_back P Q f (x ∷ l) h = all-++ Q (back l) (flip x ∷ []) (all_back P Q f l h.1) (f x h.0, tt)

count_back : (e : Edge) (l : List Edge) → count same_edge e (back l) ≡ count same_edge (flip e) l
unfolding back
count_back e [] = refl
count_back e (x ∷ l) = omega (arith, count-++ same_edge same_edge-eq same_edge-refl e (back l) (flip x ∷ []), count_back e l, swap (same_point x.to e.from) (same_point x.from e.to))
  where
    swap : (b c : Bool) → bit (b && c) ≡ bit (c && b)
    swap true true = refl
    swap true false = refl
    swap false true = refl
    swap false false = refl

part_flip : (cs : List Point) (e p : Edge) → Part cs e p → Part cs (flip e) (flip p)
part_flip cs e p h = record {
  begins = turned p.to e.to h.ends;
  ends = turned p.from e.from h.begins;
  forward = (gap_pos (along (flip e) p.to) (along (flip e) p.from)).1
      (subst (λ z. pos 0 <ℤ z) (sym (along_flip e p.from p.to)) ((gap_pos (along e p.from) (along e p.to)).0 h.forward));
}
  where
    turned : (c w : Point) → Stop cs e w c → Stop cs (flip e) w c
    turned c w s = ⊎_elim inl (λ k. inr (k.0, between_flip c e k.1)) s

-- The pieces of an edge turned round are its pieces turned round.
pub pieces_flip : (cs : List Point) (d e : Edge) → count same_edge e (pieces cs (flip d)) ≡ count same_edge (flip e) (pieces cs d)
pieces_flip cs d e = go (same_or_other d.from d.to)
  where
    turned : (d.from ≡ d.to → ⊥) → back (pieces cs d) ≡ pieces cs (flip d)
    turned n = let k = pieces_cut cs d in pieces_only cs (flip d) (back (pieces cs d)) (record {
      joined = chain_back d.from d.to (pieces cs d) k.joined;
      onwards = all_back (Part cs d) (Piece cs (flip d)) (λ p h. part_piece cs (flip d) (long (flip d) (λ q. n (sym q))) (flip p) (part_flip cs d p h)) (pieces cs d) (pieces_parts cs d);
      clear = all_back (Clear cs) (Clear cs) (λ p h c m t. h c m (between_flip c (flip p) t)) (pieces cs d) k.clear;
    })

    go : Dec (d.from ≡ d.to) → count same_edge e (pieces cs (flip d)) ≡ count same_edge (flip e) (pieces cs d)
    go (yes q) = subst (λ w. count same_edge e (pieces cs (w ⟶ d.from)) ≡ count same_edge (flip e) (pieces cs (d.from ⟶ w))) q
        (ap (count same_edge e) (no_length cs d.from) ∙ sym (ap (count same_edge (flip e)) (no_length cs d.from)))
    go (no n) = ap (count same_edge e) (sym (turned n)) ∙ count_back e (pieces cs d)
