-- A ring laid down side by side: what is laid down and what follows from the side reached are together the ring, before and after each side. Assumes nothing.
use mathlib.Core.Path.{◌≡◌, refl, sym, ◌∙◌, ap, subst}
use mathlib.Core.Bool.{Bool, true, false, cond, ◌||◌, or-true, or-false}
use mathlib.Core.List.{List, [], ◌∷◌, ◌++◌, append_assoc, append-nil}
use Prim.Native.Nat.{ℕ, suc, ◌+◌, ◌-◌, ◌≤◌, ◌<◌}
use native.Mathlib.Omega.{arith}
use native.Mathlib.Decide.{ℕ_discrete}
use borrow.Author.Tests.{eq-eqb, ne_eqb}
use lib.Dec.{eqb}
use lib.ListN.{length, get_or, take, drop, set, length-append, length-set, take-append-drop}
use lib.Seq.{length-take-le, drop-cons, append_snoc, set_at, get_or-set_same, get_or-set_other}
use Rattle.whole.specs.Sums.{any}
use Rattle.repair_ring_walk.specs.Walk.{numbers_from, RingDown}

-- ---- marks
pub any-++ : {A : Type 0} (p : A → Bool) (l m : List A) → any p (l ++ m) ≡ (any p l || any p m)
any-++ p [] m = refl
any-++ p (a ∷ l) m = go (p a) (any-++ p l m)
  where
    go : (b : Bool) → any p (l ++ m) ≡ (any p l || any p m) → elim b [ true ↦ true | false ↦ any p (l ++ m) ] ≡ (elim b [ true ↦ true | false ↦ any p l ] || any p m)
    go true r = refl
    go false r = r

-- One side more at the end of a list.
any_one : (j : ℕ) (l : List ℕ) (s : ℕ) (b : Bool) → eqb j s ≡ b → any (eqb j) (l ++ s ∷ []) ≡ (any (eqb j) l || b)
any_one j l s b e = any-++ (eqb j) l (s ∷ []) ∙ ap (λ c. any (eqb j) l || elim c [ true ↦ true | false ↦ false ]) e ∙ ap (λ c. any (eqb j) l || c) (same b)
  where
    same : (c : Bool) → elim c [ true ↦ true | false ↦ false ] ≡ c
    same true = refl
    same false = refl

-- Each side of the list is marked, and what was marked is.
abbrev Marks : List ℕ → (taken marked : List Bool) → Type 0
Marks l taken marked = (j : ℕ) → get_or marked j false ≡ (any (eqb j) l || get_or taken j false)

marks_one : (l : List ℕ) (taken marked : List Bool) (s : ℕ) → s < length marked → Marks l taken marked → Marks (l ++ s ∷ []) taken (set marked s true)
marks_one l taken marked s h m j = go (ℕ_discrete j s)
  where
    go : Dec (j ≡ s) → get_or (set marked s true) j false ≡ (any (eqb j) (l ++ s ∷ []) || get_or taken j false)
    go (yes e) =
        ap (λ i. get_or (set marked s true) i false) e ∙ get_or-set_same marked s true false h
        ∙ sym (ap (λ b. b || get_or taken j false) (any_one j l s true (eq-eqb j s e) ∙ or-true (any (eqb j) l)))
    go (no f) =
        get_or-set_other marked s j true false f ∙ m j
        ∙ sym (ap (λ b. b || get_or taken j false) (any_one j l s false (ne_eqb j s f) ∙ or-false (any (eqb j) l)))

-- ---- one side more laid down
down_none : (at : ℕ) (before : List ℕ) (taken : List Bool) → RingDown [] at before taken at before taken
down_none at before taken =
    let z : at + 0 ≡ at = omega arith in
    record {
      behind = omega arith;
      sides = sym (ap (λ l. l ++ drop (at + 0) before) (append-nil (take at before)) ∙ ap (λ i. take at before ++ drop i before) z ∙ take-append-drop at before);
      many = refl;
      marks = λ j. refl;
    }

module _ {l : List ℕ} {at : ℕ} {before : List ℕ} {taken : List Bool} {n : ℕ} {out : List ℕ} {marked : List Bool} (d : RingDown l at before taken n out marked) where
  down_one : (s : ℕ) → n < length before → s < length marked → RingDown (l ++ s ∷ []) at before taken (n + 1) (set out n s) (set marked s true)
  down_one s h k = record { behind = next; sides = laid; many = length-set marked s true ∙ d.many; marks = marks_one l taken marked s k d.marks }
    where
      next : n + 1 ≡ at + length (l ++ s ∷ [])
      next = omega (arith, d.behind, length-append l (s ∷ []))

      long : length (take at before ++ l) ≡ n
      long = omega (arith, length-append (take at before) l, length-take-le at before (omega (arith, d.behind)), d.behind)

      stood : out ≡ (take at before ++ l) ++ get_or before n 0 ∷ drop (suc n) before
      stood = d.sides ∙ ap (λ i. (take at before ++ l) ++ drop i before) (sym d.behind) ∙ ap (λ m. (take at before ++ l) ++ m) (drop-cons before n 0 h)

      laid : set out n s ≡ take at before ++ (l ++ s ∷ []) ++ drop (at + length (l ++ s ∷ [])) before
      laid =
          let e : suc n ≡ at + length (l ++ s ∷ []) = omega (arith, next) in
          ap (λ m. set m n s) stood ∙ set_at (take at before ++ l) (get_or before n 0) (drop (suc n) before) s n long
          ∙ sym (append_snoc (take at before ++ l) s (drop (suc n) before))
          ∙ ap (λ m. m ++ drop (suc n) before) (append_assoc (take at before) l (s ∷ []))
          ∙ ap (λ i. take at before ++ (l ++ s ∷ []) ++ drop i before) e

-- ---- the ring
-- The sides of `done` are laid down, and with those that follow from s on they are the ring.
pub record Walking (f : ℕ → ℕ) (first at : ℕ) (before : List ℕ) (taken : List Bool) (n s : ℕ) (out : List ℕ) (marked : List Bool) : Type 0 where
  pub done : List ℕ
  pub down : RingDown done at before taken n out marked
  pub room : n ≤ length before
  pub long : length out ≡ length before
  pub rest : done ++ numbers_from (length before - n) f first s ≡ numbers_from (length before - at) f first first

pub walking_none : (f : ℕ → ℕ) (first at : ℕ) (before : List ℕ) (taken : List Bool) → at ≤ length before → Walking f first at before taken at first before taken
walking_none f first at before taken h = record { done = []; down = down_none at before taken; room = h; long = refl; rest = refl }

module _ {f : ℕ → ℕ} {first at : ℕ} {before : List ℕ} {taken : List Bool} {n s : ℕ} {out : List ℕ} {marked : List Bool} (w : Walking f first at before taken n s out marked) where
  abbrev ring : List ℕ
  ring = numbers_from (length before - at) f first first

  module _ (h : n < length before) (k : s < length marked) where
    step : (b : Bool) → eqb (f s) first ≡ b → w.done ++ s ∷ cond b [] (numbers_from (length before - (n + 1)) f first (f s)) ≡ ring
    step b e =
        let z : length before - n ≡ suc (length before - (n + 1)) = omega arith in
        ap (λ c. w.done ++ s ∷ cond c [] (numbers_from (length before - (n + 1)) f first (f s))) (sym e) ∙ ap (λ m. w.done ++ numbers_from m f first s) (sym z) ∙ w.rest

    -- The side that follows is the first: the ring ends.
    pub walking_back : f s ≡ first → RingDown ring at before taken (n + 1) (set out n s) (set marked s true)
    walking_back e = subst (λ l. RingDown l at before taken (n + 1) (set out n s) (set marked s true)) (step true (eq-eqb (f s) first e)) (down_one w.down s h k)

    -- It is not: one side more.
    pub walking_one : (f s ≡ first → ⊥) → Walking f first at before taken (n + 1) (f s) (set out n s) (set marked s true)
    walking_one e = record {
      done = w.done ++ s ∷ [];
      down = down_one w.down s h k;
      room = omega arith;
      long = length-set out n s ∙ w.long;
      rest = append_snoc w.done s (numbers_from (length before - (n + 1)) f first (f s)) ∙ step false (ne_eqb (f s) first e);
    }

  -- There is no room left.
  pub walking_all : length before ≤ n → RingDown ring at before taken n out marked
  walking_all h =
      let z : length before - n ≡ 0 = omega arith in
      subst (λ l. RingDown l at before taken n out marked) (sym (append-nil w.done) ∙ ap (λ m. w.done ++ numbers_from m f first s) (sym z) ∙ w.rest) w.down
