-- A thing of a level at a place: its count stands there. Where the count is outside the level's limits, or what it counts doesn't close, nothing is
-- emitted; else what stands before its things is written, and the things come behind. Assumes nothing.
use mathlib.Core.Path.{◌≡◌, refl, ◌∙◌, ap, subst}
use mathlib.Core.Bool.{Bool, true, false, not, ◌&&◌, cond}
use mathlib.Core.List.{List, [], ◌∷◌}
use mathlib.Core.Option.{Option, none}
use mir.Syntax.{w32}
use mir.Val.{to_z, sel}
use Prim.Native.Nat.{ℕ, zero, suc, ◌+◌, ◌-◌, ◌*◌, ◌/◌, ◌^◌, ◌≤◌}
use native.Mathlib.Omega.{arith}
use borrow.Author.Tests.{lt-ltb, leb-true, eq-eqb, ne_eqb}
use lib.Dec.{leb, ltb, eqb}
use lib.IntN.{ℤ, pos, negsuc}
use lib.ListN.{length, drop, drop_of_length-le}
use lib.Seq.{sets}
use Rattle.whole.proofs.Tests.{by_cond}
use Rattle.wkb_kinds.specs.declared.Kind.TheVariants.{Polygon, MultiPolygon}
use Rattle.lent_little.specs.Ordered.{ordered, word_at}
use Rattle.lent_little.proofs.Ordered.{length_bytes}
use Rattle.sheet_coordinate.proofs.Doubles.{and_true}
use Rattle.sheet_written.specs.Fits.{from_to}
use Rattle.sheet_form.specs.Form.{numbers_in}
use Rattle.std.specs.Prelude.{Option as Maybe}
use Rattle.sheet_writer.specs.declared.Walk.{Walk}
use Rattle.sheet_writer.specs.Emit.{Emitted, joined, low, high, heading, closed, closes, emit_point, emit_many, emit_counted, emit}
use Rattle.sheet_writer.specs.Walks.{headed, Fair, Gone, Went}
use Rattle.sheet_writer.proofs.Bytes.{header_long}
use Rattle.sheet_writer.proofs.Goes.{gone_fair, went_joined}
use Rattle.sheet_writer.proofs.Numbers.{numbers_length, number_stands}

-- The most that a level counts.
high_small : (k : ℕ) → high k ≤ 4096
high_small k = by_cond (λ n. n ≤ 4096) (eqb k 1) 4096 64 (λ t. omega arith) (omega arith)

count_small : (k n : ℕ) → from_to (low k) (high k) n ≡ true → n ≤ 4096
count_small k n e = let h = leb-true n (high k) (and_true (leb (low k) n) (leb n (high k)) e).1 in let s = high_small k in omega arith

-- A ring counts 4 to 4,096 points; what it asks to close, and that nothing else does.
pub ring_count : (level n : ℕ) → level ≡ 1 → from_to (low level) (high level) n ≡ true → (4 ≤ n) × (n ≤ 4096)
ring_count level n e h =
    let k = and_true (leb 4 n) (leb n 4096) (subst (λ k. from_to (low k) (high k) n ≡ true) e h) in
    (leb-true 4 n k.0, leb-true n 4096 k.1)

pub closes_ring : (level n : ℕ) (l : List ℤ) → level ≡ 1 → closes level n l ≡ closed n l
unfolding closes
closes_ring level n l e = rw (eq-eqb level 1 e) refl

pub closes_other : (level n : ℕ) (l : List ℤ) → (level ≡ 1 → ⊥) → closes level n l ≡ true
unfolding closes
closes_other level n l e = rw (ne_eqb level 1 e) refl

-- ---- what a level emits where the bits of a count stand
abbrev counted : ℕ → ℕ → List ℤ → Option Emitted
counted level n l = joined (record { bytes = heading level n; points = 0; rest = l }) (emit_many (emit (level - 1)) n l)

emit_at : (level n : ℕ) (l : List ℤ) → (level ≡ 0 → ⊥) → emit level (to_z w32 n ∷ l) ≡ cond (from_to (low level) (high level) n && closes level n l) (counted level n l) none
unfolding emit
emit_at zero n l h = absurd (h refl)
emit_at (suc k) n l h = go (from_to (low (suc k)) (high (suc k)) n) refl
  where
    go : (b : Bool) → from_to (low (suc k)) (high (suc k)) n ≡ b → emit (suc k) (to_z w32 n ∷ l) ≡ cond (from_to (low (suc k)) (high (suc k)) n && closes (suc k) n l) (counted (suc k) n l) none
    go true e = let h = count_small (suc k) n e in rw (lt-ltb n (2 ^ 31) (omega arith), let below : suc k - 1 ≡ k = omega arith in below) refl
    go false e = rw e (none_at (ltb n (2 ^ 31)))
      where
        none_at : (b : Bool) → emit_counted (suc k) (emit k) (sel b (pos n) (negsuc (2 ^ 32 - suc n)) ∷ l) ≡ none
        none_at true = rw e refl
        none_at false = refl

-- A point, and a thing of a level above it where no number is left.
pub emit_point_lem : (level : ℕ) → level ≡ 0 → emit level ≡ emit_point
unfolding emit
emit_point_lem level e = ap emit e

pub emit_end : (s : List ℕ) (level at : ℕ) → (level ≡ 0 → ⊥) → length s / 4 ≡ at → emit level (drop at (numbers_in s)) ≡ none
unfolding emit
emit_end s zero at h e = absurd (h refl)
emit_end s (suc k) at h e = let l : length (numbers_in s) ≤ at = omega (arith, numbers_length s) in ap (emit (suc k)) (drop_of_length-le (numbers_in s) l)

-- What stands before things is 9 bytes at most.
heading_long : (level n : ℕ) → length (heading level n) ≤ 9
unfolding heading ordered
heading_long level n =
    by_cond (λ (l : List ℕ). length l ≤ 9) (eqb level 1) _ _ (λ t. let b = length_bytes 4 n in omega arith)
    (by_cond (λ (l : List ℕ). length l ≤ 9) (eqb level 2) _ _ (λ t. let b = header_long Polygon n in omega arith)
    (by_cond (λ (l : List ℕ). length l ≤ 9) (eqb level 3 && not (eqb n 1)) _ _ (λ t. let b = header_long MultiPolygon n in omega arith) (omega arith)))

-- ---- the count of a thing stands at the walk's place
pub record Counted (s : List ℕ) (w : Walk) (level n : ℕ) : Type 0 where
  pub fair : Fair (numbers_in s) w
  pub no_point : level ≡ 0 → ⊥
  pub enough : 4 * w.at + 4 ≤ length s
  pub is : n ≡ word_at true s (4 * w.at)

module _ {s : List ℕ} {w : Walk} {level n : ℕ} (c : Counted s w level n) where
  pub behind_count : w.at + 1 ≤ length (numbers_in s)
  behind_count = omega (arith, numbers_length s, c.enough)

  stands : emit level (drop w.at (numbers_in s)) ≡ cond (from_to (low level) (high level) n && closes level n (drop (w.at + 1) (numbers_in s))) (counted level n (drop (w.at + 1) (numbers_in s))) none
  stands = ap (emit level) (number_stands s w.at n c.enough c.is) ∙ emit_at level n (drop (w.at + 1) (numbers_in s)) c.no_point

  pub miscounted : from_to (low level) (high level) n ≡ false → emit level (drop w.at (numbers_in s)) ≡ none
  miscounted e = stands ∙ (rw e refl)

  pub left_open : closes level n (drop (w.at + 1) (numbers_in s)) ≡ false → emit level (drop w.at (numbers_in s)) ≡ none
  left_open e = stands ∙ go _ (from_to (low level) (high level) n)
    where
      go : (x : Option Emitted) (b : Bool) → cond (b && closes level n (drop (w.at + 1) (numbers_in s))) x none ≡ none
      go x true = rw e refl
      go x false = refl

  -- Behind what stands before its things.
  gone_head : (o p : List ℕ) → p ≡ sets o w.to (heading level n)
      → Gone (record { bytes = heading level n; points = 0; rest = drop (w.at + 1) (numbers_in s) }) (numbers_in s) w o (headed w level n) p
  gone_head o p e =
      let l = heading_long level n in
      record {
        rest = refl;
        at_most = behind_count;
        to_is = refl;
        points_are = omega arith;
        to_pace = omega arith;
        points_pace = omega arith;
        left = e;
      }

  pub head_fair : (v : Walk) → v ≡ headed w level n → Fair (numbers_in s) v
  head_fair v e = rw e (gone_fair (numbers_in s) _ w (headed w level n) [] _ c.fair (gone_head [] _ refl))

  -- A thing is its count and the things that it counts.
  pub thing_goes : from_to (low level) (high level) n ≡ true → closes level n (drop (w.at + 1) (numbers_in s)) ≡ true
      → (v : Walk) (o p : List ℕ) → v ≡ headed w level n → p ≡ sets o w.to (heading level n)
      → (r : Maybe Walk) (a : List ℕ) → Went (emit_many (emit (level - 1)) n (drop v.at (numbers_in s))) (numbers_in s) v p r a
      → Went (emit level (drop w.at (numbers_in s))) (numbers_in s) w o r a
  thing_goes fits closing v o p e left r a h =
      rw (stands, fits, closing)
      (went_joined (numbers_in s) _ (emit_many (emit (level - 1)) n (drop (w.at + 1) (numbers_in s))) w (headed w level n) r o p a (gone_head o p left) (rw e at h))
