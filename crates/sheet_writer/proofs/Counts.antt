-- The two counts that are looked at before the walk, as the bits that the code reads: with a wrong one nothing is emitted, with right ones what is
-- emitted for the table and the polygons is the sheet, if it ends so. Assumes nothing.
use mathlib.Core.Path.{◌≡◌, refl, sym, ◌∙◌, ap}
use mathlib.Core.Bool.{true, false}
use mathlib.Core.List.{List, [], ◌∷◌}
use mathlib.Core.Option.{none}
use mir.Syntax.{w32}
use mir.Val.{to_z}
use Prim.Native.Nat.{ℕ, ◌+◌, ◌*◌, ◌/◌, ◌^◌, ◌≤◌, ◌<◌}
use native.Mathlib.Omega.{arith}
use borrow.Author.Tests.{le-leb, lt-leb, leb-true}
use lib.Dec.{leb}
use lib.IntN.{ℤ, pos}
use lib.ListN.{length, drop, length-drop}
use Rattle.sheet_coordinate.proofs.Doubles.{and_true}
use Rattle.lent_little.specs.Ordered.{word_at}
use Rattle.sheet_written.specs.Fits.{from_to}
use Rattle.sheet_form.specs.Form.{numbers_in}
use Rattle.sheet_form.specs.Numbers.{members}
use Rattle.std.specs.Prelude.{Option as Maybe}
use Rattle.sheet_writer.specs.declared.Walk.{Walk}
use Rattle.sheet_writer.specs.Emit.{followed, emit, polygon_count, emit_table, emit_sheet}
use Rattle.sheet_writer.specs.Walks.{beginning, Went}
use Rattle.sheet_writer.proofs.Emits.{no_count, wrong_count}
use Rattle.sheet_writer.proofs.Numbers.{numbers_length, number_stands, number_behind, by_order, signed_low, signed_high}
use Rattle.sheet_writer.proofs.Wholes.{Walked}

-- Bits that stand for a natural number.
natural : (p n : ℕ) → to_z w32 p ≡ pos n → p ≡ n
natural p n e = by_order p (2 ^ 31) (λ h. cc (signed_low p h)) (λ h. let z : ◌≡◌ {A = ℕ} 0 1 = cc (signed_high p h) in absurd (omega arith))

pub within_limits : (t : ℕ) → 2 ≤ t → t ≤ 1024 → from_to 2 1024 t ≡ true
within_limits t h k = rw (le-leb 2 t h, le-leb t 1024 k) refl

pub below_limits : (t : ℕ) → t < 2 → from_to 2 1024 t ≡ false
below_limits t h = rw (lt-leb 2 t h) refl

pub above_limits : (t : ℕ) → 1024 < t → from_to 2 1024 t ≡ false
above_limits t h = rw (le-leb 2 t (omega arith), lt-leb t 1024 h) refl

-- ---- the bits of the first number, which counts the triangles
pub record Begun (s : List ℕ) (t : ℕ) : Type 0 where
  pub one : 4 ≤ length s
  pub is : t ≡ word_at true s 0

pub no_numbers : (s : List ℕ) → length s / 4 ≡ 0 → emit_sheet (numbers_in s) ≡ none
unfolding emit_sheet
no_numbers s e = go (numbers_in s) (numbers_length s ∙ e)
  where
    go : (nums : List ℤ) → length nums ≡ 0 → emit_sheet nums ≡ none
    go [] h = refl
    go (z ∷ l) h = absurd (omega arith)

module _ {s : List ℕ} {t : ℕ} (b : Begun s t) where
  stands : numbers_in s ≡ to_z w32 t ∷ drop 1 (numbers_in s)
  stands = number_stands s 0 t b.one b.is

  pub bad_triangles : from_to 2 1024 t ≡ false → emit_sheet (numbers_in s) ≡ none
  unfolding emit_sheet
  bad_triangles e =
      by_order t (2 ^ 31) (λ h. ap emit_sheet (stands ∙ ap (λ z. z ∷ drop 1 (numbers_in s)) (signed_low t h)) ∙ (rw e refl))
      (λ h. ap emit_sheet (stands ∙ ap (λ z. z ∷ drop 1 (numbers_in s)) (signed_high t h)))

  module _ (range : from_to 2 1024 t ≡ true) where
    first : numbers_in s ≡ pos t ∷ drop 1 (numbers_in s)
    first =
        let h = leb-true t 1024 (and_true (leb 2 t) (leb t 1024) range).1 in
        stands ∙ ap (λ z. z ∷ drop 1 (numbers_in s)) (signed_low t (omega arith))

    -- What is emitted for the table and the polygons is the sheet, if it ends so.
    pub walks : {o : List ℕ} {u : Maybe Walk} {b : List ℕ} → Went (followed (emit_table t (drop 1 (numbers_in s))) (emit 4)) (numbers_in s) beginning o u b → Walked (numbers_in s) o u b
    unfolding emit_sheet
    walks h = record { what = followed (emit_table t (drop 1 (numbers_in s))) (emit 4); is = ap emit_sheet first ∙ (rw range refl); went = h }

    pub no_place : length s / 4 ≤ 1 + 6 * t → emit_sheet (numbers_in s) ≡ none
    no_place h = ap emit_sheet first ∙ no_count t (drop 1 (numbers_in s)) (omega (arith, numbers_length s, length-drop 1 (numbers_in s)))

    module _ (p : ℕ) (there : 1 + 6 * t < length s / 4) (p-is : p ≡ word_at true s (4 * (1 + 6 * t))) where
      counted : polygon_count t (drop 1 (numbers_in s)) ≡ to_z w32 p
      counted = number_behind s 1 (6 * t) there ∙ ap (to_z w32) (sym p-is)

      pub bad_count : members ≤ p → emit_sheet (numbers_in s) ≡ none
      bad_count h = ap emit_sheet first ∙ wrong_count t (drop 1 (numbers_in s)) (λ n e k. let q = natural p n (sym counted ∙ e) in absurd (let z : p ≤ 64 = rw q k in omega arith))

      pub good_count : p < members → polygon_count t (drop 1 (numbers_in s)) ≡ pos p
      good_count h = counted ∙ signed_low p (omega arith)
