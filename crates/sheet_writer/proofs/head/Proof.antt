-- `sheet_writer::head` meets its contract: of the three runs of bytes that may stand before a level's things at most one is written, so that the three one
-- behind the other are the heading. Assumes nothing.
use mathlib.Core.Path.{◌≡◌, refl, sym, ap, ap₂, ◌∙◌, subst}
use mathlib.Core.Bool.{Bool, true, false, not, ◌&&◌, cond}
use mathlib.Core.List.{List, [], ◌++◌, append-nil}
use Prim.Native.Nat.{ℕ, ◌+◌, ◌≤◌, ◌<◌}
use native.Mathlib.Omega.{arith}
use borrow.Author.Rules.{rules}
use borrow.Author.Tests.{eqb-true, eq-eqb, ne_eqb}
use lib.Dec.{T, eqb}
use Rattle.wkb_kinds.specs.declared.Kind.TheVariants.{Polygon, MultiPolygon}
use Rattle.lent_little.specs.Ordered.{bytes_of, ordered}
use Rattle.wkb.specs.Standard.{header}
use Rattle.sheet_writer.specs.Emit.{heading}
use Rattle.sheet_writer.proofs.Bytes.{Wrote, as_long, one_run, wrote_number, wrote_header}
use Rattle.sheet_writer.proofs.head.Statement.{statement}
use Rattle.sheet_writer.proofs.head.Tie as tie
use Rattle.sheet_writer.proofs.head.Lts.{then-level-eq1, else-level-eq1, then-level-eq2, else-level-eq2, then-level-eq3+then-n-ne1, else-level-eq3, else-level-eq3-via-then-level-eq3+else-n-ne1, else-level-eq3-via-else-level-eq3}

-- ---- a run that is written if a test holds
yes : {t : Bool} {o l p : List ℕ} {k m : ℕ} → t ≡ true → Wrote o k l p m → Wrote o k (cond t l []) p m
yes e w = rw e w

no : (l : List ℕ) {t : Bool} {o p : List ℕ} {k m : ℕ} → t ≡ false → m ≡ k → p ≡ o → Wrote o k (cond t l []) p m
no l e f g = rw e (record { to = omega arith; left = g })

-- ---- the three runs one behind the other
one_of : (t u v : Bool) (a b c : List ℕ) → (t ≡ true → u ≡ false) → (t ≡ true → v ≡ false) → (u ≡ true → v ≡ false) → cond t a [] ++ cond u b [] ++ cond v c [] ≡ cond t a (cond u b (cond v c []))
one_of true true v a b c f g h = absurd (subst T (f refl) tt)
one_of true false true a b c f g h = absurd (subst T (g refl) tt)
one_of true false false a b c f g h = append-nil (a ++ []) ∙ append-nil a
one_of false true true a b c f g h = absurd (subst T (h refl) tt)
one_of false true false a b c f g h = append-nil b
one_of false false v a b c f g h = refl

other : (level i j : ℕ) → i < j → eqb level i ≡ true → eqb level j ≡ false
other level i j h e = ne_eqb level j (λ f. omega (arith, eqb-true level i e))

abbrev ring : ℕ → ℕ → List ℕ
ring level n = cond (eqb level 1) (bytes_of true 4 n) []

abbrev part : ℕ → ℕ → List ℕ
part level n = cond (eqb level 2) (header true Polygon n) []

abbrev member : ℕ → ℕ → List ℕ
member level n = cond (eqb level 3 && not (eqb n 1)) (header true MultiPolygon n) []

heading_is : (level n : ℕ) → heading level n ≡ ring level n ++ part level n ++ member level n
unfolding heading
heading_is level n = sym
    (one_of (eqb level 1) (eqb level 2) (eqb level 3 && not (eqb n 1)) _ _ _ (other level 1 2 (omega arith))
    (λ e. ap (λ t. t && not (eqb n 1)) (other level 1 3 (omega arith) e)) (λ e. ap (λ t. t && not (eqb n 1)) (other level 2 3 (omega arith) e)))

-- ---- places: the entry; behind the first run, the second and the third
abbrev start : tie.Joined-level-eq1 → tie.Start
start c = c.before.before

-- What is written there, and the byte that is reached.
first : (c : tie.Joined-level-eq1) → let a = (start c).args in Wrote a.out.now a.w.to (ring a.level a.n) c.if-level-eq1.out c.if-level-eq1.to
unfolding ordered
first c = elim c.if-level-eq1.branch [
  | then-level-eq1 w ↦ yes (eq-eqb _ 1 w.if-level-eq1.true) (wrote_number 4 _ (w.out-is ∙ w.put.ensures) w.to-is)
  | else-level-eq1 w ↦ no _ (ne_eqb _ 1 w.if-level-eq1.false) w.to-is w.out-is
]

second : (c : tie.Joined-level-eq2) → let j = c.before in let a = (start j).args in Wrote j.if-level-eq1.out j.if-level-eq1.to (part a.level a.n) c.if-level-eq2.out c.if-level-eq2.to
second c = elim c.if-level-eq2.branch [
  | then-level-eq2 w ↦ yes (eq-eqb _ 2 w.if-level-eq2.true) (wrote_header _ Polygon (w.out-is ∙ w.header.ensures) w.to-is)
  | else-level-eq2 w ↦ no _ (ne_eqb _ 2 w.if-level-eq2.false) w.to-is w.out-is
]

third : (c : tie.Joined-level-eq3) → let j = c.before in let a = (start j.before).args in Wrote j.if-level-eq2.out j.if-level-eq2.to (member a.level a.n) c.if-level-eq3.out c.if-level-eq3.to
third c = elim c.if-level-eq3.branch [
  | then-level-eq3+then-n-ne1 w ↦ yes (ap₂ (λ x y. x && y) (eq-eqb _ 3 w.if-level-eq3.true) (ap not (ne_eqb _ 1 w.if-n-ne1.true))) (wrote_header _ MultiPolygon (w.out-is ∙ w.header-then-n-ne1.ensures) w.to-is)
  | else-level-eq3 w ↦ no _
      (elim w.else-level-eq3.branch [
        | else-level-eq3-via-then-level-eq3+else-n-ne1 q ↦ ap₂ (λ x y. x && y) (eq-eqb _ 3 q.if-level-eq3.true) (ap not (eq-eqb _ 1 q.if-n-ne1.false))
        | else-level-eq3-via-else-level-eq3 q ↦ ap (λ x. x && not (eqb (start c.before.before).args.n 1)) (ne_eqb _ 3 q.if-level-eq3.false)
      ])
      w.to-is w.out-is
]

all : (c : tie.Joined-level-eq3) → let a = (start c.before.before).args in Wrote a.out.now a.w.to (heading a.level a.n) c.if-level-eq3.out c.if-level-eq3.to
all c = let a = (start c.before.before).args in rw (heading_is a.level a.n) (one_run (one_run (first c.before.before) (second c.before)) (third c))

-- The byte that is reached is near.
near : (c : tie.Joined-level-eq1) → c.if-level-eq1.to ≤ (start c).args.w.to + 4
near c = elim c.if-level-eq1.branch [ then-level-eq1 w ↦ omega (arith, w.to-is) | else-level-eq1 w ↦ omega (arith, w.to-is) ]

near_2 : (c : tie.Joined-level-eq2) → c.if-level-eq2.to ≤ (start c.before).args.w.to + 13
near_2 c = elim c.if-level-eq2.branch [ then-level-eq2 w ↦ omega (arith, w.to-is, near c.before) | else-level-eq2 w ↦ omega (arith, w.to-is, near c.before) ]

pub head_spec : {M : Type 1} → statement M
head_spec =
    tie.close
    (tie.spec
    (λ c κs. search rules)
    (λ c. search rules)
    (λ c κs. omega (arith, near c.before.before))
    (λ c. omega (arith, near c.before.before.before.before.before.before))
    (λ c κs. omega (arith, near_2 c.before.before.before))
    (λ c. omega (arith, near_2 c.before.before.before.before.before.before.before))
    (λ c. search rules)
    (λ c. as_long (all c.before))
    (λ c. (rw (all c.before).to refl, (all c.before).left)))
