-- Cutting an edge at corners. The pieces run in order from the edge's first point to its last, join up and have no corner strictly
-- inside; one list only is like that, so the order and the repetition of the corners don't matter.
-- The idea: on the edge's line a point is one number (Line), so that cutting is the refining of an interval at numbers inside it.
-- Assumes nothing.
use mathlib.Core.Path.{◌≡◌, refl, sym, ◌∙◌, ap, ap₂, subst}
use mathlib.Core.Logic.{◌↔◌, ◌⊎◌, inl, inr, ⊎_elim}
use mathlib.Core.Bool.{Bool, true, false, cond}
use mathlib.Core.List.{List, [], ◌∷◌, flat_map}
use Prim.Native.Nat.{◌+◌, ◌≤◌}
use native.Mathlib.Omega.{arith}
use lib.Dec.{T}
use lib.IntN.{ℤ, pos, neg_ℤ, ◌+ℤ◌, +ℤ_idr}
use lib.Signed.{◌<ℤ◌, ◌≤ℤ◌, ≤ℤ_refl, <ℤ_irrefl, <ℤ-≤ℤ_trans}
use Rattle.whole.specs.Sums.{All, sum, bit, count, Among}
use Rattle.whole.proofs.Int.{self_neg, lt_le, ≤-<-trans, Order, less, equal, more, order}
use Rattle.whole.specs.Polynomials.{con, ◌:+◌, ◌:-◌, ◌:*◌, :-◌, ◌:=◌}
use Rattle.whole.proofs.Ring.{solve}
use Rattle.whole.proofs.Sums.{all_map, all-flat_map, sum-flat_map, bit_yes}
use Rattle.plane.specs.Points.{Point, Edge, ◌⟶◌, flip, same_point, between}
use Rattle.plane.specs.Cuts.{halves, cut, pieces, all_pieces}
use Rattle.plane.proofs.Points.{same_point-eq, same_point-refl}
use Rattle.plane.proofs.Chains.{Chain, chain-++}
use Rattle.plane.proofs.Line.{along, On, on_from, on_to, along_from, long, equal_on, inner_on, inner_order, inner_intro}

-- p is a way forward along e, within its ends, to e's end or to a corner strictly between them.
pub record Piece (cs : List Point) (e p : Edge) : Type 0 where
  pub from_on : On e p.from
  pub to_on : On e p.to
  pub after : pos 0 ≤ℤ along e p.from
  pub forward : along e p.from <ℤ along e p.to
  pub before : along e p.to ≤ℤ along e e.to
  pub ends : (p.to ≡ e.to) ⊎ (Among same_point p.to cs × T (between p.to e))

-- No point of the list is strictly inside the edge p.
abbrev pub Clear : List Point → Edge → Type 0
Clear cs p = (c : Point) → Among same_point c cs → T (between c p) → ⊥

-- What cutting an edge at corners has to give: pieces in order from its first point to its last that join up, with no corner strictly
-- inside a piece.
pub record Cutting (cs : List Point) (e : Edge) (l : List Edge) : Type 0 where
  pub joined : Chain e.from e.to l
  pub onwards : All (Piece cs e) l
  pub clear : All (Clear cs) l

-- ---- one corner more
halves_chain : (c : Point) (x : Edge) → Chain x.from x.to (halves c x)
unfolding halves
halves_chain c x = go (between c x)
  where
    go : (b : Bool) → Chain x.from x.to (cond b ((x.from ⟶ c) ∷ (c ⟶ x.to) ∷ []) (x ∷ []))
    go true = (refl, (refl, refl))
    go false = (refl, refl)

chain_halves : (c p q : Point) (l : List Edge) → Chain p q l → Chain p q (flat_map (halves c) l)
unfolding flat_map
chain_halves c p q [] h = h
chain_halves c p q (x ∷ l) h = chain-++ p x.to q (halves c x) (flat_map (halves c) l) (subst (λ z. Chain z x.to (halves c x)) h.0 (halves_chain c x)) (chain_halves c x.to q l h.1)

among_head : (c : Point) (cs : List Point) → Among same_point c (c ∷ cs)
among_head c cs = omega (arith, bit_yes (same_point c c) (same_point-refl c))

among_tail : (c d : Point) (cs : List Point) → Among same_point c cs → Among same_point c (d ∷ cs)
among_tail c d cs h = omega arith

-- A corner of a longer list is its first or one of the others.
among_cases : (c d : Point) (cs : List Point) → Among same_point c (d ∷ cs) → (d ≡ c) ⊎ Among same_point c cs
among_cases c d cs h = go (same_point d c) (same_point-eq d c) h
  where
    go : (b : Bool) → (T b → d ≡ c) → 1 ≤ bit b + count same_point c cs → (d ≡ c) ⊎ Among same_point c cs
    go true f h = inl (f tt)
    go false f h = inr (omega arith)

-- What holds of the edge where it is not cut and of its two parts where it is, holds of what one corner leaves.
by_halves : (P : Edge → Type 0) (c : Point) (x : Edge) → ((T (between c x) → ⊥) → P x) → (T (between c x) → P (x.from ⟶ c) × P (c ⟶ x.to)) → All P (halves c x)
unfolding halves
by_halves P c x f g = go (between c x) f g
  where
    go : (b : Bool) → ((T b → ⊥) → P x) → (T b → P (x.from ⟶ c) × P (c ⟶ x.to)) → All P (cond b ((x.from ⟶ c) ∷ (c ⟶ x.to) ∷ []) (x ∷ []))
    go true f g = ((g tt).0, ((g tt).1, tt))
    go false f g = (f (λ t. t), tt)

module _ (e : Edge) (length : pos 0 <ℤ along e e.to) where
  -- A point strictly between the ends of a piece of e is strictly between the ends of e.
  piece_between : (cs : List Point) (x : Edge) (c : Point) → Piece cs e x → T (between c x) → T (between c e)
  piece_between cs x c p t =
      let o = inner_order e length x.from x.to p.from_on p.to_on p.forward c t in
      inner_intro e length e.from e.to (on_from e) (on_to e) (rw along_from length) c (inner_on e length x.from x.to p.from_on p.to_on p.forward c t)
      (rw along_from (≤-<-trans (pos 0) (along e x.from) (along e c) p.after o.0)) (<ℤ-≤ℤ_trans o.1 p.before)

  wider : (cs : List Point) (d : Point) (x : Edge) → Piece cs e x → Piece (d ∷ cs) e x
  wider cs d x p = record {
    from_on = p.from_on;
    to_on = p.to_on;
    after = p.after;
    forward = p.forward;
    before = p.before;
    ends = ⊎_elim inl (λ h. inr (among_tail x.to d cs h.0, h.1)) p.ends;
  }

  halves_piece : (cs : List Point) (c : Point) (x : Edge) → Piece cs e x → All (Piece (c ∷ cs) e) (halves c x)
  halves_piece cs c x p = by_halves (Piece (c ∷ cs) e) c x (λ f. wider cs c x p) (λ t.
      let o = inner_order e length x.from x.to p.from_on p.to_on p.forward c t in
      let on-c = inner_on e length x.from x.to p.from_on p.to_on p.forward c t in (
        record {
          from_on = p.from_on;
          to_on = on-c;
          after = p.after;
          forward = o.0;
          before = lt_le (along e c) (along e e.to) (<ℤ-≤ℤ_trans o.1 p.before);
          ends = inr (among_head c cs, piece_between cs x c p t);
        },
        record {
          from_on = on-c;
          to_on = p.to_on;
          after = lt_le (pos 0) (along e c) (≤-<-trans (pos 0) (along e x.from) (along e c) p.after o.0);
          forward = o.1;
          before = p.before;
          ends = (wider cs c x p).ends;
        },
      ))

  -- A point strictly inside a half of a piece is strictly inside the piece, and is not the corner.
  halves_inside : (cs : List Point) (c d : Point) (x : Edge) → Piece cs e x → T (between c x)
      → (T (between d (x.from ⟶ c)) → T (between d x) × (d ≡ c → ⊥)) × (T (between d (c ⟶ x.to)) → T (between d x) × (d ≡ c → ⊥))
  halves_inside cs c d x p t =
      let on-c = inner_on e length x.from x.to p.from_on p.to_on p.forward c t in
      let o = inner_order e length x.from x.to p.from_on p.to_on p.forward c t in (
        λ s.
            let k = inner_order e length x.from c p.from_on on-c o.0 d s in (
              inner_intro e length x.from x.to p.from_on p.to_on p.forward d (inner_on e length x.from c p.from_on on-c o.0 d s)
                  k.0 (<ℤ-≤ℤ_trans k.1 (lt_le (along e c) (along e x.to) o.1)),
              λ q. <ℤ_irrefl (subst (λ z. along e z <ℤ along e c) q k.1),
            ),
        λ s.
            let k = inner_order e length c x.to on-c p.to_on o.1 d s in (
              inner_intro e length x.from x.to p.from_on p.to_on p.forward d (inner_on e length c x.to on-c p.to_on o.1 d s)
                  (<ℤ-≤ℤ_trans o.0 (lt_le (along e c) (along e d) k.0)) k.1,
              λ q. <ℤ_irrefl (subst (λ z. along e c <ℤ along e z) q k.0),
            ),
      )

  halves_clear : (cs : List Point) (c : Point) (x : Edge) → Piece cs e x → Clear cs x → All (Clear (c ∷ cs)) (halves c x)
  halves_clear cs c x p h = by_halves (Clear (c ∷ cs)) c x
      (λ f d m t. ⊎_elim (λ q. f (subst (λ z. T (between z x)) (sym q) t)) (λ k. h d k t) (among_cases d c cs m))
      (λ t. (
        λ d m s. ⊎_elim (λ q. ((halves_inside cs c d x p t).0 s).1 (sym q)) (λ k. h d k ((halves_inside cs c d x p t).0 s).0) (among_cases d c cs m),
        λ d m s. ⊎_elim (λ q. ((halves_inside cs c d x p t).1 s).1 (sym q)) (λ k. h d k ((halves_inside cs c d x p t).1 s).0) (among_cases d c cs m),
      ))

  cut_is : (cs : List Point) → Cutting cs e (cut cs e)
  unfolding cut
  cut_is [] = record {
    joined = (refl, refl);
    onwards = (record { from_on = on_from e; to_on = on_to e; after = rw along_from (≤ℤ_refl (pos 0)); forward = rw along_from length; before = ≤ℤ_refl (along e e.to); ends = inl refl }, tt);
    clear = (λ c m t. absurd (omega arith), tt);
  }
  cut_is (c ∷ cs) =
      let h = cut_is cs in
      record {
        joined = chain_halves c e.from e.to (cut cs e) h.joined;
        onwards = all-flat_map (Piece cs e) (Piece (c ∷ cs) e) (halves c) (halves_piece cs c) (cut cs e) h.onwards;
        clear = all-flat_map (λ x. Piece cs e x × Clear cs x) (Clear (c ∷ cs)) (halves c) (λ x p. halves_clear cs c x p.0 p.1) (cut cs e) (both (cut cs e) h.onwards h.clear);
      }
    where
      both : (l : List Edge) → All (Piece cs e) l → All (Clear cs) l → All (λ x. Piece cs e x × Clear cs x) l
      both [] h k = tt
      both (x ∷ l) h k = ((h.0, k.0), both l h.1 k.1)

  -- ---- one list only is a cutting
  -- Of two pieces that begin alike neither ends before the other: its end would be a corner strictly inside the other.
  not_shorter : (cs : List Point) (x y : Edge) → x.from ≡ y.from → Piece cs e x → Piece cs e y → Clear cs y → along e x.to <ℤ along e y.to → ⊥
  not_shorter cs x y b p q k h = ⊎_elim
      (λ s. <ℤ_irrefl (<ℤ-≤ℤ_trans (subst (λ z. along e z <ℤ along e y.to) s h) q.before))
      (λ s. k x.to s.0 (inner_intro e length y.from y.to q.from_on q.to_on q.forward x.to p.to_on (subst (λ z. along e z <ℤ along e x.to) b p.forward) h))
      p.ends

  alike : (cs : List Point) (x y : Edge) → x.from ≡ y.from → Piece cs e x → Piece cs e y → Clear cs x → Clear cs y → x.to ≡ y.to
  alike cs x y b p q j k = go (order (along e x.to) (along e y.to))
    where
      go : Order (along e x.to) (along e y.to) → x.to ≡ y.to
      go (less h) = absurd (not_shorter cs x y b p q k h)
      go (equal h) = equal_on e length x.to y.to p.to_on q.to_on h
      go (more h) = absurd (not_shorter cs y x (sym b) q p j h)

  -- At the edge's end no piece begins.
  at_end : (cs : List Point) (x : Edge) → Piece cs e x → x.from ≡ e.to → ⊥
  at_end cs x p b = <ℤ_irrefl (<ℤ-≤ℤ_trans (subst (λ z. along e z <ℤ along e x.to) b p.forward) p.before)

  cut_only : (cs : List Point) (b : Point) (l m : List Edge) → Chain b e.to l → Chain b e.to m
      → All (Piece cs e) l → All (Piece cs e) m → All (Clear cs) l → All (Clear cs) m → l ≡ m
  cut_only cs b [] [] h k p q i j = refl
  cut_only cs b [] (y ∷ m) h k p q i j = absurd (at_end cs y q.0 (k.0 ∙ h))
  cut_only cs b (x ∷ l) [] h k p q i j = absurd (at_end cs x p.0 (h.0 ∙ k))
  cut_only cs b (x ∷ l) (y ∷ m) h k p q i j =
      let f = h.0 ∙ sym k.0 in
      let t = alike cs x y f p.0 q.0 i.0 j.0 in
      ap₂ ◌∷◌ (λ n. f n ⟶ t n) (cut_only cs x.to l m h.1 (subst (λ z. Chain z e.to m) (sym t) k.1) p.1 q.1 i.1 j.1)

-- ---- an edge of no length
along_nothing : (u c : Point) → along (u ⟶ u) c ≡ pos 0
unfolding along
along_nothing u c = solve 4 (λ ux uy cx cy. (cx :- ux) :* (ux :- ux) :+ (cy :- uy) :* (uy :- uy) := con (pos 0)) tt u.x u.y c.x c.y

nothing_only : (cs : List Point) (u : Point) (l : List Edge) → All (Piece cs (u ⟶ u)) l → l ≡ []
nothing_only cs u [] h = refl
nothing_only cs u (x ∷ l) h = absurd (<ℤ_irrefl (rw (along_nothing u x.from, along_nothing u x.to) at h.0.forward))

pub no_length : (cs : List Point) (u : Point) → pieces cs (u ⟶ u) ≡ []
unfolding pieces
no_length cs u = go (same_point u u) (same_point-refl u)
  where
    go : (b : Bool) → T b → cond b [] (cut cs (u ⟶ u)) ≡ []
    go true t = refl
    go false t = absurd t

-- An edge has no length, or its pieces are what cutting it gives.
by_length : (P : List Edge → Type 0) (cs : List Point) (e : Edge) → (e.from ≡ e.to → P []) → ((e.from ≡ e.to → ⊥) → P (cut cs e)) → P (pieces cs e)
unfolding pieces
by_length P cs e f g = go (same_point e.from e.to) (same_point-eq e.from e.to) (λ q. subst (λ z. T (same_point e.from z)) q (same_point-refl e.from))
  where
    go : (b : Bool) → (T b → e.from ≡ e.to) → (e.from ≡ e.to → T b) → P (cond b [] (cut cs e))
    go true h k = f (h tt)
    go false h k = g k

-- ---- the theorems of cutting
-- The pieces of an edge run in order from its first point to its last, join up, and have no corner strictly inside;
pub pieces_cut : (cs : List Point) (e : Edge) → Cutting cs e (pieces cs e)
pieces_cut cs e = by_length (Cutting cs e) cs e (λ q. record { joined = q; onwards = tt; clear = tt }) (λ n. cut_is e (long e n) cs)

-- no other list of ordered pairs does;
pub pieces_only : (cs : List Point) (e : Edge) (l : List Edge) → Cutting cs e l → l ≡ pieces cs e
pieces_only cs e l h = by_length (λ m. l ≡ m) cs e
    (λ q. nothing_only cs e.from l (subst (λ z. All (Piece cs (e.from ⟶ z)) l) (sym q) h.onwards))
    (λ n. let k = cut_is e (long e n) cs in cut_only e (long e n) cs e.from l (cut cs e) h.joined k.joined h.onwards k.onwards h.clear k.clear)

-- and lists with the same corners give the same pieces, in whatever order and however often a corner stands in them.
pub same_corners : (cs ds : List Point) → ((c : Point) → Among same_point c cs ↔ Among same_point c ds) → (e : Edge) → pieces cs e ≡ pieces ds e
same_corners cs ds h e = pieces_only ds e (pieces cs e) (let k = pieces_cut cs e in record {
  joined = k.joined;
  onwards = all_map (Piece cs e) (Piece ds e) (λ p i. record {
    from_on = i.from_on;
    to_on = i.to_on;
    after = i.after;
    forward = i.forward;
    before = i.before;
    ends = ⊎_elim inl (λ a. inr ((h p.to).0 a.0, a.1)) i.ends;
  }) (pieces cs e) k.onwards;
  clear = all_map (Clear cs) (Clear ds) (λ p f c m. f c ((h c).1 m)) (pieces cs e) k.clear;
})

-- ---- sums over pieces
-- A function that changes its sign with the direction and adds up at a cut has the same sum over the pieces.
module _ (f : Edge → ℤ) (odd : (e : Edge) → f (flip e) ≡ neg_ℤ (f e)) (adds : (e : Edge) (c : Point) → T (between c e) → f (e.from ⟶ c) +ℤ f (c ⟶ e.to) ≡ f e) where
  halves_sum : (c : Point) (e : Edge) → sum f (halves c e) ≡ f e
  unfolding halves
  halves_sum c e = go (between c e) (adds e c)
    where
      go : (b : Bool) → (T b → f (e.from ⟶ c) +ℤ f (c ⟶ e.to) ≡ f e) → sum f (cond b ((e.from ⟶ c) ∷ (c ⟶ e.to) ∷ []) (e ∷ [])) ≡ f e
      go true h = ap (λ z. f (e.from ⟶ c) +ℤ z) (+ℤ_idr (f (c ⟶ e.to))) ∙ h tt
      go false h = +ℤ_idr (f e)

  cut_sum : (cs : List Point) (e : Edge) → sum f (cut cs e) ≡ f e
  unfolding cut
  cut_sum [] e = +ℤ_idr (f e)
  cut_sum (c ∷ cs) e = sum-flat_map f (halves c) f (halves_sum c) (cut cs e) ∙ cut_sum cs e

  pub piece_sum : (cs : List Point) (e : Edge) → sum f (pieces cs e) ≡ f e
  piece_sum cs e = by_length (λ l. sum f l ≡ f e) cs e (λ q. sym (no_way e q)) (λ n. cut_sum cs e)
    where
      no_way : (e : Edge) → e.from ≡ e.to → f e ≡ pos 0
      no_way e q = self_neg (f e) (ap f (λ i. q i ⟶ sym q i) ∙ odd e)

  pub pieces_sum : (cs : List Point) (l : List Edge) → sum f (all_pieces cs l) ≡ sum f l
  pieces_sum cs l = sum-flat_map f (pieces cs) f (piece_sum cs) l

-- ---- the pieces of edges that join up join up
pub pieces_chain : (cs : List Point) (p q : Point) (l : List Edge) → Chain p q l → Chain p q (all_pieces cs l)
unfolding flat_map
pieces_chain cs p q [] h = h
pieces_chain cs p q (e ∷ l) h =
    chain-++ p e.to q (pieces cs e) (flat_map (pieces cs) l) (subst (λ z. Chain z e.to (pieces cs e)) h.0 (pieces_cut cs e).joined) (pieces_chain cs e.to q l h.1)
