-- `sheet_blob_writer::corner` meets its contract: each coordinate is in range, so its held number stands for it. Assumes nothing.
use mathlib.Core.Path.{◌≡◌, sym, ◌∙◌, ap, subst}
use mathlib.Core.Bool.{true}
use Prim.Native.Nat.{ℕ, ◌+◌, ◌*◌}
use native.Mathlib.Omega.{arith}
use mir.Syntax.{w32}
use mir.Val.{to_z}
use lib.IntN.{ℤ}
use Rattle.whole.specs.Numbers.{Within}
use Rattle.plane.specs.Corners.{millimetres}
use Rattle.plane.specs.Keys.{Held}
use Rattle.lent_little.specs.Ordered.{word_at}
use Rattle.sheet_coordinate.specs.Coordinate.{held_of}
use Rattle.sheet_coordinate.proofs.Meaning.{held_in, millimetres_held}
use Rattle.sheet_blob_writer.proofs.corner.Statement.{statement}
use Rattle.sheet_blob_writer.proofs.corner.Tie as tie

-- What is held for a number in range that stands in the bytes.
held_is : (h w : ℕ) (z : ℤ) → Within 10_000_000 z → to_z w32 w ≡ z → h ≡ held_of (to_z w32 w) → Held h × (millimetres h ≡ z)
held_is h w z r q e = let f = e ∙ ap held_of q in (subst Held (sym f) (held_in z r), ap millimetres f ∙ millimetres_held z r)

-- ---- places: the entry, and the words of x and y
abbrev start : tie.After-word → tie.Start
start c = c.before.before

abbrev first : tie.After-word-2 → tie.After-word
first c = c.before.before

x_is : (c : tie.After-word) → to_z w32 c.word.result ≡ to_z w32 (word_at true (start c).args.form.now (8 * (start c).args.i + 4))
x_is c = ap (to_z w32) c.word.ensures

y_is : (c : tie.After-word-2) → to_z w32 c.word-2.result ≡ to_z w32 (word_at true (start (first c)).args.form.now (8 * (start (first c)).args.i + 8))
y_is c = ap (to_z w32) c.word-2.ensures ∙ ap (λ k. to_z w32 (word_at true (start (first c)).args.form.now k)) (let e : 8 * (start (first c)).args.i + 4 + 4 ≡ 8 * (start (first c)).args.i + 8 = omega arith in e)

returns : tie.Need-returns
returns c =
    let d = c.before in
    let o = start (first d) in
    let x = held_is d.held.result (first d).word.result _ o.requires.x (x_is (first d)) d.held.ensures in
    let y = held_is c.held-2.result d.word-2.result _ o.requires.y (y_is d) c.held-2.ensures in
    (record { x = x.0; y = y.0 }, λ j. record { x = x.1 j; y = y.1 j })

pub corner_spec : {M : Type 1} → statement M
corner_spec =
    tie.close
    (tie.spec
    (λ c. omega (arith, c.requires.there))
    (λ c. omega (arith, c.requires.there))
    (λ c κs. omega (arith, c.requires.there))
    (λ c κs. rw (x_is c) (start c).requires.x)
    (λ c. omega (arith, c.requires.there))
    (λ c κs. omega (arith, c.requires.there))
    (λ c κs. rw (y_is c) (start (first c)).requires.y)
    returns)
