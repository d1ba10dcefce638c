-- Trimming one edge more. The idea: its pieces are the loose pairs that are taken off and the pieces of what is left, so that the boundary of all pieces stays that
-- of the inner edges and the open pairs; a pair that stays open is no piece of an inner edge, and so a stray one. Assumes nothing.
use mathlib.Core.Path.{◌≡◌, refl, sym, ◌∙◌, ap, subst}
use mathlib.Core.Logic.{◌⊎◌, inl, inr}
use mathlib.Core.Bool.{Bool, true, false}
use mathlib.Core.List.{List, [], ◌∷◌, ◌++◌}
use Prim.Native.Nat.{ℕ, zero, suc, ◌+◌, ◌≤◌, ◌<◌}
use native.Mathlib.Omega.{arith}
use native.Mathlib.Decide.{dec_le, ℕ_discrete}
use borrow.Author.Tests.{eq-eqb, ne_eqb, eqb-false}
use lib.Dec.{T, eqb}
use lib.ListN.{length, get_or, take, length-append}
use lib.Seq.{take_all}
use Rattle.whole.specs.Sums.{All, Among, count}
use Rattle.whole.proofs.Sums.{all-++, all_map, all_counted, bit_yes, counted, count-++}
use Rattle.plane.specs.Points.{Edge, flip, same_edge}
use Rattle.plane.specs.Cuts.{pieces}
use Rattle.plane.specs.Boundaries.{SameBoundary}
use Rattle.plane.specs.Keys.{point_at, Key, pair, pairs, points_at}
use Rattle.plane.proofs.Points.{same_edge-eq, same_edge-refl}
use Rattle.plane.proofs.Cuts.{no_length}
use Rattle.whole_order.specs.Ascending.{IsIn}
use Rattle.table_count.specs.Counting.{pieces_of, first_pieces}
use Rattle.table_count.proofs.Pieces.{count_more, pieces_more, zero_boundary}
use Rattle.table_loose.specs.Loose.{way, Came}
use Rattle.table_loose.proofs.Coming.{same_from, same_counts}
use Rattle.table_trim.specs.Trimming.{Loose, Cornerly, Left, unless, Trimmed, Astray}
use Rattle.table_trim.proofs.Loose.{loose_flip, loose_side, not_both, pieces_cornerly}

-- How often a pair stands in two lists, one behind the other.
both : (e : Edge) (l m : List Edge) → count same_edge e (l ++ m) ≡ count same_edge e l + count same_edge e m
both = count-++ same_edge same_edge-eq same_edge-refl

-- What comes is loose, so what is open then is.
pub came_loose : (P : Edge → Type 0) (l before after : List Edge) → Came l before after → All P l → All P before → All P after
came_loose P l before after c h g = all_map (λ e. Among same_edge e after) P (λ e m. counted same_edge same_edge-eq same_edge-refl P e (l ++ before) (omega (arith, c.from_there e)) (all-++ P l before h g)) after (all_counted same_edge same_edge-eq same_edge-refl after)

-- ---- one edge behind the others, unless it has no length
all_unless : (P : ℕ → Type 0) (b : Bool) (l : List ℕ) (x : ℕ) → All P l → (b ≡ false → P x) → All P (l ++ unless b x)
all_unless P true l x h p = all-++ P l [] h tt
all_unless P false l x h p = all-++ P l (x ∷ []) h (p refl, tt)

length_unless : (b : Bool) (k l : List ℕ) (x y : ℕ) → length l ≡ length k → length (l ++ unless b y) ≡ length (k ++ unless b x)
length_unless true k l x y e = omega (arith, length-append l [], length-append k [])
length_unless false k l x y e = omega (arith, length-append l (y ∷ []), length-append k (x ∷ []))

few_unless : (b : Bool) (k : List ℕ) (x : ℕ) → length (k ++ unless b x) ≤ length k + 1
few_unless true k x = omega (arith, length-append k [])
few_unless false k x = omega (arith, length-append k (x ∷ []))

long_unless : (b : Bool) (k l : List ℕ) (x y : ℕ) → length l ≡ length k → ((j : ℕ) → j < length k → get_or k j 0 ≡ get_or l j 0 → ⊥) → (b ≡ false → x ≡ y → ⊥)
    → (j : ℕ) → j < length (k ++ unless b x) → get_or (k ++ unless b x) j 0 ≡ get_or (l ++ unless b y) j 0 → ⊥
long_unless true [] [] x y e h p j m q = omega arith
long_unless false [] [] x y e h p zero m q = p refl q
long_unless false [] [] x y e h p (suc j) m q = omega arith
long_unless b [] (d ∷ l) x y e h p j m q = omega arith
long_unless b (c ∷ k) [] x y e h p j m q = omega arith
long_unless b (c ∷ k) (d ∷ l) x y e h p zero m q = h 0 (omega arith) q
long_unless b (c ∷ k) (d ∷ l) x y e h p (suc j) m q = long_unless b k l x y (omega arith) (λ i n. h (suc i) (omega arith)) p j (omega arith) q

pairs_behind : (k l : List ℕ) (x y : ℕ) → length l ≡ length k → pairs (k ++ x ∷ []) (l ++ y ∷ []) ≡ pairs k l ++ pair x y ∷ []
pairs_behind [] [] x y e = refl
pairs_behind [] (b ∷ l) x y e = absurd (omega arith)
pairs_behind (a ∷ k) [] x y e = absurd (omega arith)
pairs_behind (a ∷ k) (b ∷ l) x y e = ap (λ z. pair a b ∷ z) (pairs_behind k l x y (omega arith))

pub nothing_behind : (l : List ℕ) → l ++ [] ≡ l
nothing_behind [] = refl
nothing_behind (x ∷ l) = ap (λ z. x ∷ z) (nothing_behind l)

count_behind : (corners k l : List ℕ) (s t : ℕ) (e : Edge) → length l ≡ length k
    → count same_edge e (pieces_of corners (k ++ unless (eqb s t) s) (l ++ unless (eqb s t) t)) ≡ count same_edge e (pieces_of corners k l) + count same_edge e (pieces (points_at corners) (pair s t))
count_behind corners k l s t e n = go (ℕ_discrete s t)
  where
    go : Dec (s ≡ t) → count same_edge e (pieces_of corners (k ++ unless (eqb s t) s) (l ++ unless (eqb s t) t)) ≡ count same_edge e (pieces_of corners k l) + count same_edge e (pieces (points_at corners) (pair s t))
    go (yes q) = rw (eq-eqb s t q, nothing_behind k, nothing_behind l) (omega (arith, subst (λ z. count same_edge e (pieces (points_at corners) (pair s z)) ≡ 0) q (ap (count same_edge e) (no_length (points_at corners) (point_at s)))))
    go (no m) = rw (ne_eqb s t m, pairs_behind k l s t n) (pieces_more (points_at corners) (pairs k l) (pair s t) e)

-- ---- one edge more
pub trimmed_more : (corners from to : List ℕ) (i : ℕ) → i < length from → i < length to → i < 4096 → (fs ts : List ℕ) (l m n : List Edge) (s t : ℕ) → Trimmed corners from to i fs ts l
    → Left corners (get_or from i 0) (get_or to i 0) s t → Came (way (get_or from i 0) s) l m → Came (way t (get_or to i 0)) m n
    → Trimmed corners from to (i + 1) (fs ++ unless (eqb s t) s) (ts ++ unless (eqb s t) t) n
trimmed_more corners from to i h g few fs ts l m n s t w rest first second =
    let c = w.cornered in
    let loose-m = came_loose (Loose corners) (way p s) l m first rest.loose_from w.each_loose in
    record {
      cornered = record {
        ascending = c.ascending;
        few_corners = c.few_corners;
        corner_keys = c.corner_keys;
        from_keys = all_unless Key (eqb s t) fs s c.from_keys (λ e. rest.from_key);
        to_keys = all_unless Key (eqb s t) ts t c.to_keys (λ e. rest.to_key);
        from_stand = all_unless (λ p. IsIn p corners) (eqb s t) fs s c.from_stand (λ e. (stands e rest.ends).0);
        to_stand = all_unless (λ p. IsIn p corners) (eqb s t) ts t c.to_stand (λ e. (stands e rest.ends).1);
        as_many = length_unless (eqb s t) fs ts s t c.as_many;
        few = omega (arith, few_unless (eqb s t) fs s, w.number);
        long = long_unless (eqb s t) fs ts s t c.as_many c.long (eqb-false s t);
      };
      number = omega (arith, few_unless (eqb s t) fs s, w.number);
      boundary = λ e. same_from (first_pieces corners from to (i + 1)) (pieces_of corners (fs ++ unless (eqb s t) s) (ts ++ unless (eqb s t) t) ++ n) e (omega (arith, law e, law (flip e), own e));
      each_loose = came_loose (Loose corners) (way t q) m n second rest.loose_to loose-m;
      apart = second.apart (first.apart w.apart);
    }
  where
    p : ℕ
    p = get_or from i 0

    q : ℕ
    q = get_or to i 0

    stands : eqb s t ≡ false → (IsIn s corners × IsIn t corners) ⊎ (s ≡ t) → IsIn s corners × IsIn t corners
    stands e (inl z) = z
    stands e (inr z) = absurd (subst T (sym (eq-eqb s t z) ∙ e) tt)

    # : Edge → List Edge → ℕ
    # = count same_edge

    inner : List Edge
    inner = pieces_of corners fs ts

    -- The pieces of one edge more, and of one inner edge more.
    law : (e : Edge) → (# e (first_pieces corners from to (i + 1)) ≡ # e (first_pieces corners from to i) + # e (way p s) + # e (pieces (points_at corners) (pair s t)) + # e (way t q))
        × (# e (pieces_of corners (fs ++ unless (eqb s t) s) (ts ++ unless (eqb s t) t) ++ n) ≡ # e inner + # e (pieces (points_at corners) (pair s t)) + # e n)
    law e = (
      omega (arith, count_more (points_at corners) from to i (i + 1) e (omega arith) h g, rest.cut e),
      omega (arith, both e (pieces_of corners (fs ++ unless (eqb s t) s) (ts ++ unless (eqb s t) t)) n, count_behind corners fs ts s t e w.cornered.as_many),
    )

    -- The boundaries in hand, by counts.
    own : (e : Edge) → (# e (first_pieces corners from to i) + (# (flip e) inner + # (flip e) l) ≡ # (flip e) (first_pieces corners from to i) + (# e inner + # e l))
        × (# e m + (# (flip e) (way p s) + # (flip e) l) ≡ # (flip e) m + (# e (way p s) + # e l)) × (# e n + (# (flip e) (way t q) + # (flip e) m) ≡ # (flip e) n + (# e (way t q) + # e m))
    own e = (
      omega (arith, same_counts (first_pieces corners from to i) (inner ++ l) e (w.boundary e), both e inner l, both (flip e) inner l),
      omega (arith, same_counts m (way p s ++ l) e (first.boundary e), both e (way p s) l, both (flip e) (way p s) l),
      omega (arith, same_counts n (way t q ++ m) e (second.boundary e), both e (way t q) m, both (flip e) (way t q) m),
    )

pub trimmed_put : (corners from to : List ℕ) (i : ℕ) → i < length from → i < length to → i < 4096 → (fs ts : List ℕ) (l m n : List Edge) (s t : ℕ) → Trimmed corners from to i fs ts l
    → Left corners (get_or from i 0) (get_or to i 0) s t → Came (way (get_or from i 0) s) l m → Came (way t (get_or to i 0)) m n
    → (fs' ts' : List ℕ) → fs' ≡ fs ++ unless (eqb s t) s → ts' ≡ ts ++ unless (eqb s t) t → Trimmed corners from to (i + 1) fs' ts' n
trimmed_put corners from to i h g few fs ts l m n s t w rest first second fs' ts' p q = rw (p, q) (trimmed_more corners from to i h g few fs ts l m n s t w rest first second)

-- ---- in the end
module _ (corners from to fs ts : List ℕ) (i : ℕ) (loose : List Edge) (as_many : length to ≡ length from) (whole : length from ≤ i) (trimmed : Trimmed corners from to i fs ts loose) where
  all_first : SameBoundary (pieces_of corners from to) (pieces_of corners fs ts ++ loose)
  all_first = rw (take_all i from (omega arith), take_all i to (omega arith)) at trimmed.boundary

  -- A pair that is open is a stray one.
  pub trimmed_astray : (e : Edge) → Among same_edge e loose → Astray corners from to
  trimmed_astray e m sides index looked =
      let l : Loose corners e = counted same_edge same_edge-eq same_edge-refl (Loose corners) e loose m trimmed.each_loose in
      let s = loose_side sides corners index looked e l in
      record {
        e = e;
        no_side = s.0;
        no_reverse = s.1;
        uneven = λ z. omega (
          arith,
          zero_boundary (pieces_of corners from to) e z,
          same_counts (pieces_of corners from to) (pieces_of corners fs ts ++ loose) e (all_first e),
          both e (pieces_of corners fs ts) loose,
          both (flip e) (pieces_of corners fs ts) loose,
          trimmed.apart e m,
          not_inner e l (dec_le 1 (count same_edge e (pieces_of corners fs ts))),
          not_inner (flip e) (loose_flip corners e l) (dec_le 1 (count same_edge (flip e) (pieces_of corners fs ts))),
        );
      }
    where
      not_inner : (e : Edge) → Loose corners e → Dec (1 ≤ count same_edge e (pieces_of corners fs ts)) → count same_edge e (pieces_of corners fs ts) ≡ 0
      not_inner e l (yes m) = absurd (not_both corners e l (counted same_edge same_edge-eq same_edge-refl (Cornerly corners) e (pieces_of corners fs ts) m (pieces_cornerly corners fs ts trimmed.cornered)))
      not_inner e l (no n) = omega arith

-- Of some pairs there is a first.
pub some_pair : (n : ℕ) (us vs : List ℕ) → 0 < n → n ≤ length us → n ≤ length vs → (e : Edge) × Among same_edge e (pairs (take n us) (take n vs))
some_pair zero us vs h g f = absurd (omega arith)
some_pair (suc n) [] vs h g f = absurd (omega arith)
some_pair (suc n) (u ∷ us) [] h g f = absurd (omega arith)
some_pair (suc n) (u ∷ us) (v ∷ vs) h g f = (pair u v, omega (arith, bit_yes (same_edge (pair u v) (pair u v)) (same_edge-refl (pair u v))))
