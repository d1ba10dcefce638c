-- A point at a place: its two numbers are the two at the front, and its two patterns stand one behind the other. Where a number is missing or out of
-- range nothing is emitted. Assumes nothing.
use mathlib.Core.Path.{◌≡◌, refl, ◌∙◌, ap}
use mathlib.Core.Bool.{true, ◌&&◌, cond}
use mathlib.Core.List.{List, [], ◌∷◌}
use mathlib.Core.Option.{none, some}
use mir.Syntax.{w32}
use mir.Val.{to_z}
use Prim.Native.Nat.{ℕ, ◌+◌, ◌-◌, ◌*◌, ◌/◌, ◌≤◌, ◌<◌}
use native.Mathlib.Omega.{arith}
use lib.IntN.{ℤ, pos}
use lib.ListN.{length, drop, get_or, length-drop}
use lib.Seq.{sets}
use Rattle.lent_little.specs.Ordered.{bytes, ordered, word_at}
use Rattle.lent_little.proofs.Stored.{sets-++}
use Rattle.wkb.specs.Standard.{encode_point}
use Rattle.sheet_written.specs.Fits.{in_range}
use Rattle.sheet_form.specs.Form.{numbers_in}
use Rattle.sheet_written.specs.Normal.{pattern_of}
use Rattle.std.specs.Prelude.{Some}
use Rattle.sheet_writer.specs.declared.Walk.{Walk}
use Rattle.sheet_writer.specs.Emit.{emit_point}
use Rattle.sheet_writer.specs.Walks.{Went}
use Rattle.sheet_writer.proofs.Numbers.{numbers_length, number_stands}

-- ---- the bytes of a point
-- The bytes of the point that bits are.
abbrev pub point_of : ℕ → ℕ → List ℕ
point_of x y = encode_point true (record { x = pattern_of (to_z w32 x); y = pattern_of (to_z w32 y) })

pub sixteen : (x y : ℕ) → length (encode_point true (record { x = x; y = y })) ≡ 16
unfolding encode_point bytes ordered
sixteen x y = refl

-- Two patterns are written one behind the other.
pub patterns_left : (o : List ℕ) (to : ℕ) {p q : List ℕ} {x y u v : ℕ} → u ≡ x → v ≡ y → p ≡ sets o to (bytes 8 u) → q ≡ sets p (to + 8) (bytes 8 v)
    → q ≡ sets o to (encode_point true (record { x = x; y = y }))
unfolding encode_point bytes ordered
patterns_left o to {u} {v} i j e f = rw (← i, ← j) (f ∙ (rw e (sets-++ o (bytes 8 u) (bytes 8 v) to)))

-- ---- the bits of the two numbers at the walk's place
pub record Pair (s : List ℕ) (w : Walk) (x y : ℕ) : Type 0 where
  pub there : w.at + 2 ≤ length s / 4
  pub x_is : x ≡ word_at true s (4 * w.at)
  pub y_is : y ≡ word_at true s (4 * (w.at + 1))

pub pair : {s : List ℕ} {w : Walk} {x y : ℕ} → w.at + 2 ≤ length s / 4 → x ≡ word_at true s (4 * w.at) → y ≡ word_at true s (4 * (w.at + 1)) → Pair s w x y
pair h e f = record { there = h; x_is = e; y_is = f }

pub no_pair : (s : List ℕ) (at : ℕ) → length s / 4 - at < 2 → emit_point (drop at (numbers_in s)) ≡ none
unfolding emit_point
no_pair s at h = go (drop at (numbers_in s)) (omega (arith, numbers_length s, length-drop at (numbers_in s)))
  where
    go : (l : List ℤ) → length l < 2 → emit_point l ≡ none
    go [] h = refl
    go (x ∷ []) h = refl
    go (x ∷ y ∷ l) h = absurd (omega arith)

-- The place behind a point.
abbrev behind : Walk → Walk
behind w = record { at = w.at + 2; to = w.to + 16; points = w.points + 1 }

module _ {s : List ℕ} {w : Walk} {x y : ℕ} (b : Pair s w x y) where
  two_numbers : drop w.at (numbers_in s) ≡ to_z w32 x ∷ to_z w32 y ∷ drop (w.at + 2) (numbers_in s)
  two_numbers =
      let two : w.at + 1 + 1 ≡ w.at + 2 = omega arith in
      number_stands s w.at x (omega (arith, b.there)) b.x_is
      ∙ (rw (number_stands s (w.at + 1) y (omega (arith, b.there)) b.y_is, two) refl)

  pub first_point : encode_point true (record { x = pattern_of (get_or (drop w.at (numbers_in s)) 0 (pos 0)); y = pattern_of (get_or (drop w.at (numbers_in s)) 1 (pos 0)) }) ≡ point_of x y
  first_point = rw two_numbers refl

  pub tested : emit_point (drop w.at (numbers_in s))
      ≡ cond (in_range (to_z w32 x) && in_range (to_z w32 y)) (some (record { bytes = point_of x y; points = 1; rest = drop (w.at + 2) (numbers_in s) })) none
  unfolding emit_point
  tested = ap emit_point two_numbers

  pub point_goes : in_range (to_z w32 x) ≡ true → in_range (to_z w32 y) ≡ true → (o q : List ℕ) → q ≡ sets o w.to (point_of x y)
      → Went (emit_point (drop w.at (numbers_in s))) (numbers_in s) w o (Some (behind w)) q
  point_goes i j o q e = (
    record { bytes = point_of x y; points = 1; rest = drop (w.at + 2) (numbers_in s) },
    tested ∙ (rw (i, j) refl),
    record {
      rest = refl;
      at_most = omega (arith, numbers_length s, b.there);
      to_is = omega (arith, sixteen (pattern_of (to_z w32 x)) (pattern_of (to_z w32 y)));
      points_are = refl;
      to_pace = omega arith;
      points_pace = omega arith;
      left = e;
    },
  )
