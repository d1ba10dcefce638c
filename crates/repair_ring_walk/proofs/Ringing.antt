-- Rings laid down one behind the other: those laid down and those that begin with the sides from i on are together all of them, before and after each side. Assumes nothing.
use mathlib.Core.Path.{◌≡◌, refl, sym, ◌∙◌, ap, ap₂, subst}
use mathlib.Core.Bool.{Bool, true, false, cond, ◌||◌}
use mathlib.Core.List.{List, [], ◌∷◌, ◌++◌, flat_map, append-nil}
use Prim.Native.Nat.{ℕ, zero, suc, ◌+◌, ◌-◌, ◌≤◌, ◌<◌}
use native.Mathlib.Omega.{arith}
use lib.Dec.{eqb}
use lib.ListN.{length, get_or, take, drop, set, replicate, length-append, length-drop, drop_of_length-le}
use lib.Seq.{drop-cons, append_snoc, set_at, take_at, drop_at, drop-drop}
use Rattle.whole.specs.Sums.{any}
use Rattle.whole.proofs.Sums.{flat_map-++}
use Rattle.repair_ring_walk.specs.Walk.{numbers_from, ring_numbers, ends_from, RingDown, RingsDown}
use Rattle.repair_ring_walk.proofs.Walking.{any-++}

-- The sides of rings, one ring behind the other.
abbrev joined : List (List ℕ) → List ℕ
joined rings = flat_map (λ l. l) rings

joined_one : (rings : List (List ℕ)) (r : List ℕ) → joined (rings ++ r ∷ []) ≡ joined rings ++ r
unfolding flat_map
joined_one rings r = flat_map-++ (λ l. l) rings (r ∷ []) ∙ ap (λ l. joined rings ++ l) (append-nil r)

-- ---- ends
pub ends_many : (at : ℕ) (rings : List (List ℕ)) → length (ends_from at rings) ≡ length rings
ends_many at [] = refl
ends_many at (r ∷ l) = ap suc (ends_many (at + length r) l)

ends_one : (at : ℕ) (rings : List (List ℕ)) (r : List ℕ) → ends_from at (rings ++ r ∷ []) ≡ ends_from at rings ++ (at + length (joined rings) + length r) ∷ []
unfolding flat_map
ends_one at [] r = let z : at + length r ≡ at + 0 + length r = omega arith in ap (λ n. n ∷ []) z
ends_one at (q ∷ l) r =
    let z : at + length q + length (joined l) + length r ≡ at + length (q ++ joined l) + length r = omega (arith, length-append q (joined l)) in
    ap (λ m. (at + length q) ∷ m) (ends_one (at + length q) l r) ∙ ap (λ n. (at + length q) ∷ (ends_from (at + length q) l ++ n ∷ [])) z

-- A ring is no longer than its room.
numbers_short : (n : ℕ) (f : ℕ → ℕ) (first k : ℕ) → length (numbers_from n f first k) ≤ n
numbers_short zero f first k = omega arith
numbers_short (suc n) f first k = go (eqb (f k) first) (numbers_short n f first (f k))
  where
    go : (b : Bool) → length (numbers_from n f first (f k)) ≤ n → suc (length (cond b [] (numbers_from n f first (f k)))) ≤ suc n
    go true h = omega arith
    go false h = omega arith

-- No mark is set at first.
pub blank : (n j : ℕ) → get_or (replicate n false) j false ≡ false
blank zero j = refl
blank (suc n) zero = refl
blank (suc n) (suc j) = blank n j

-- ---- the rings
-- The rings of `done` are laid down, `held` are their sides, which are marked; with those that begin with the sides from i on they are all rings.
pub record Ringing (f : ℕ → ℕ) (sides before endsBefore : List ℕ) (n r i : ℕ) (out ends : List ℕ) (taken : List Bool) : Type 0 where
  pub done : List (List ℕ)
  pub held : List ℕ
  pub down : RingsDown done before endsBefore r out ends
  pub behind : n ≡ length (joined done)
  pub room : n ≤ length before
  pub fewer : r ≤ i
  pub within : i ≤ length sides
  pub marks : (j : ℕ) → get_or taken j false ≡ any (eqb j) held
  pub rest : done ++ ring_numbers (length before - n) f held (drop i sides) ≡ ring_numbers (length before) f [] sides

pub ringing_none : (f : ℕ → ℕ) (sides before endsBefore : List ℕ) (taken : List Bool) → ((j : ℕ) → get_or taken j false ≡ false) → Ringing f sides before endsBefore 0 0 0 before endsBefore taken
unfolding flat_map
ringing_none f sides before endsBefore taken h =
    let z : length before - 0 ≡ length before = omega arith in
    record {
      done = [];
      held = [];
      down = record { many = refl; sides = refl; ends = refl };
      behind = refl;
      room = omega arith;
      fewer = omega arith;
      within = omega arith;
      marks = h;
      rest = ap (λ n. ring_numbers n f [] sides) z;
    }

module _ {f : ℕ → ℕ} {sides before endsBefore : List ℕ} {n r i : ℕ} {out ends : List ℕ} {taken : List Bool} (g : Ringing f sides before endsBefore n r i out ends taken) where
  pub ringing_long : length out ≡ length before
  ringing_long =
      omega (arith, ap length g.down.sides, length-append (joined g.done) (drop (length (joined g.done)) before), length-drop (length (joined g.done)) before, g.behind, g.room)

  pub ringing_ends : r ≤ length endsBefore → length ends ≡ length endsBefore
  ringing_ends h =
      omega (arith, ap length g.down.ends, length-append (ends_from 0 g.done) (drop r endsBefore), ends_many 0 g.done, length-drop r endsBefore, g.down.many)

  -- All sides are gone through.
  pub ringing_all : length sides ≤ i → length before ≡ length sides → RingsDown (ring_numbers (length sides) f [] sides) before endsBefore r out ends
  ringing_all h e =
      subst (λ l. RingsDown l before endsBefore r out ends)
      (sym (append-nil g.done) ∙ ap (λ l. g.done ++ ring_numbers (length before - n) f g.held l) (sym (drop_of_length-le sides h)) ∙ g.rest ∙ ap (λ m. ring_numbers m f [] sides) e)
      g.down

  module _ (h : i < length sides) where
    abbrev k : ℕ
    k = get_or sides i 0

    abbrev ring : List ℕ
    ring = numbers_from (length before - n) f k k

    abbrev later : List ℕ
    later = drop (i + 1) sides

    step : (b : Bool) → get_or taken k false ≡ b
        → g.done ++ cond b (ring_numbers (length before - n) f g.held later) (ring ∷ ring_numbers (length before - n - length ring) f (ring ++ g.held) later) ≡ ring_numbers (length before) f [] sides
    step b e =
        let z : suc i ≡ i + 1 = omega arith in
        ap (λ c. g.done ++ cond c (ring_numbers (length before - n) f g.held later) (ring ∷ ring_numbers (length before - n - length ring) f (ring ++ g.held) later)) (sym e ∙ g.marks k)
        ∙ ap (λ l. g.done ++ ring_numbers (length before - n) f g.held l) (ap (λ j. k ∷ drop j sides) (sym z) ∙ sym (drop-cons sides i 0 h)) ∙ g.rest

    -- A ring has side i.
    pub ringing_past : get_or taken k false ≡ true → Ringing f sides before endsBefore n r (i + 1) out ends taken
    ringing_past e = record {
      done = g.done;
      held = g.held;
      down = g.down;
      behind = g.behind;
      room = g.room;
      fewer = omega (arith, g.fewer);
      within = omega arith;
      marks = g.marks;
      rest = step true e;
    }

    -- None has: a ring is laid down.
    pub ringing_one : {n' : ℕ} {out' : List ℕ} {taken' : List Bool} → get_or taken k false ≡ false → r < length endsBefore
        → RingDown (numbers_from (length out - n) f k k) n out taken n' out' taken' → Ringing f sides before endsBefore n' (r + 1) (i + 1) out' (set ends r n') taken'
    ringing_one {n'} {out'} {taken'} e m d = record {
      done = g.done ++ ring ∷ [];
      held = ring ++ g.held;
      down = record { many = omega (arith, g.down.many, length-append g.done (ring ∷ [])); sides = laid; ends = ended };
      behind = next;
      room = omega (arith, d'.behind, g.room, numbers_short (length before - n) f k k);
      fewer = omega (arith, g.fewer);
      within = omega arith;
      marks = λ j. d'.marks j ∙ ap (λ b. any (eqb j) ring || b) (g.marks j) ∙ sym (any-++ (eqb j) ring g.held);
      rest = append_snoc g.done ring (ring_numbers (length before - n') f (ring ++ g.held) later)
          ∙ ap (λ m. g.done ++ ring ∷ ring_numbers m f (ring ++ g.held) later) fuel ∙ step false e;
    }
      where
        d' : RingDown ring n out taken n' out' taken'
        d' = subst (λ m. RingDown (numbers_from (m - n) f k k) n out taken n' out' taken') ringing_long d

        both : joined (g.done ++ ring ∷ []) ≡ joined g.done ++ ring
        both = joined_one g.done ring

        next : n' ≡ length (joined (g.done ++ ring ∷ []))
        next = omega (arith, d'.behind, ap length both, length-append (joined g.done) ring, g.behind)

        fuel : length before - n' ≡ length before - n - length ring
        fuel = omega (arith, d'.behind)

        behind_it : drop (n + length ring) out ≡ drop (length (joined (g.done ++ ring ∷ []))) before
        behind_it =
            let z : length (joined g.done) + length ring ≡ length (joined (g.done ++ ring ∷ [])) = omega (arith, next, d'.behind, g.behind) in
            sym (drop-drop (length ring) n out)
            ∙ ap (drop (length ring)) (ap (drop n) g.down.sides ∙ drop_at (joined g.done) (drop (length (joined g.done)) before) n (sym g.behind))
            ∙ drop-drop (length ring) (length (joined g.done)) before ∙ ap (λ j. drop j before) z

        laid : out' ≡ joined (g.done ++ ring ∷ []) ++ drop (length (joined (g.done ++ ring ∷ []))) before
        laid =
            d'.sides
            ∙ ap₂ (λ a b. a ++ ring ++ b) (ap (take n) g.down.sides ∙ take_at (joined g.done) (drop (length (joined g.done)) before) n (sym g.behind)) behind_it
            ∙ ap (λ a. a ++ drop (length (joined (g.done ++ ring ∷ []))) before) (sym both)

        ended : set ends r n' ≡ ends_from 0 (g.done ++ ring ∷ []) ++ drop (r + 1) endsBefore
        ended =
            let z : suc r ≡ r + 1 = omega arith in
            let w : n' ≡ 0 + length (joined g.done) + length ring = omega (arith, d'.behind, g.behind) in
            ap (λ l. set l r n') (g.down.ends ∙ ap (λ l. ends_from 0 g.done ++ l) (drop-cons endsBefore r 0 m))
            ∙ set_at (ends_from 0 g.done) (get_or endsBefore r 0) (drop (suc r) endsBefore) n' r (ends_many 0 g.done ∙ sym g.down.many)
            ∙ sym (append_snoc (ends_from 0 g.done) n' (drop (suc r) endsBefore))
            ∙ ap₂ (λ a j. a ++ drop j endsBefore) (ap (λ v. ends_from 0 g.done ++ v ∷ []) w ∙ sym (ends_one 0 g.done ring)) z
