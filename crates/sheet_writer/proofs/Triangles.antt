-- A table piece at a place: three points take six numbers and 48 bytes, so that fewer numbers give none, and the first point's patterns stand
-- behind them once more. Assumes nothing.
use mathlib.Core.Path.{◌≡◌, refl, sym, ◌∙◌, ap, subst}
use mathlib.Core.Bool.{Bool, true, false, ◌&&◌, cond}
use mathlib.Core.List.{List, [], ◌∷◌, ◌++◌}
use mathlib.Core.Option.{Option, none, some}
use mir.Syntax.{w32}
use mir.Val.{to_z}
use Prim.Native.Nat.{ℕ, zero, suc, ◌+◌, ◌-◌, ◌*◌, ◌/◌, ◌≤◌, ◌<◌}
use native.Mathlib.Omega.{arith}
use lib.IntN.{ℤ}
use lib.ListN.{length, drop, length-append, length-drop}
use lib.Seq.{sets}
use Rattle.wkb_kinds.specs.declared.Kind.TheVariants.{Triangle}
use Rattle.lent_little.specs.Ordered.{bytes, bytes_of, ordered}
use Rattle.wkb.specs.Standard.{header, encode_point}
use Rattle.sheet_written.specs.Fits.{in_range}
use Rattle.sheet_form.specs.Form.{numbers_in}
use Rattle.sheet_written.specs.Normal.{pattern_of}
use Rattle.std.specs.Prelude.{Option as Maybe, None, Some}
use Rattle.sheet_writer.specs.declared.Walk.{Walk}
use Rattle.sheet_writer.specs.Emit.{Emitted, joined, followed, again, emit_point, emit_many, emit, emit_piece}
use Rattle.sheet_writer.specs.Walks.{Fair, Went}
use Rattle.sheet_writer.proofs.Bytes.{Wrote, as_long, one_run, wrote_number, wrote_header}
use Rattle.sheet_writer.proofs.Goes.{wrote, gone_fair}
use Rattle.sheet_writer.proofs.Numbers.{numbers_length}
use Rattle.sheet_writer.proofs.Points.{point_of, sixteen, Pair, first_point}

-- ---- what n points take
abbrev Took : ℕ → List ℤ → Option Emitted → Type 0
Took n l none = 0 ≤ 0
Took n l (some e) = (length l ≡ 2 * n + length e.rest) × (length e.bytes ≡ 16 * n)

point_took : (l : List ℤ) → Took 1 l (emit_point l)
unfolding emit_point
point_took [] = omega arith
point_took (x ∷ []) = omega arith
point_took (x ∷ y ∷ l) = go (in_range x && in_range y)
  where
    go : (b : Bool) → Took 1 (x ∷ y ∷ l) (cond b (some (record { bytes = encode_point true (record { x = pattern_of x; y = pattern_of y }); points = 1; rest = l })) none)
    go true = (omega arith, sixteen (pattern_of x) (pattern_of y))
    go false = omega arith

many_took : (n : ℕ) (l : List ℤ) → Took n l (emit_many emit_point n l)
unfolding emit_many
many_took zero l = (omega arith, refl)
many_took (suc n) l = go (emit_point l) (point_took l) (many_took n)
  where
    both : (e : Emitted) (y : Option Emitted) → Took 1 l (some e) → Took n e.rest y → Took (suc n) l (joined e y)
    both e none h k = omega arith
    both e (some f) h k = (omega (arith, h.0, k.0), omega (arith, h.1, k.1, length-append e.bytes f.bytes))

    go : (x : Option Emitted) → Took 1 l x → ((m : List ℤ) → Took n m (emit_many emit_point n m)) → Took (suc n) l (followed x (emit_many emit_point n))
    go none h k = omega arith
    go (some e) h k = both e (emit_many emit_point n e.rest) h (k e.rest)

-- ---- the piece that three points give
level_0 : (l : List ℤ) → emit_many (emit 0) 3 l ≡ emit_many emit_point 3 l
unfolding emit
level_0 l = refl

again_is : (l : List ℤ) (x : Option Emitted) → emit_many (emit 0) 3 l ≡ x → emit_piece l ≡ again l x
unfolding emit_piece
again_is l x e = ap (again l) (sym (level_0 l) ∙ e)

pub no_piece : (s : List ℕ) (at : ℕ) → length s / 4 - at < 6 → emit_piece (drop at (numbers_in s)) ≡ none
unfolding emit_piece
no_piece s at h = go (emit_many emit_point 3 (drop at (numbers_in s))) (many_took 3 (drop at (numbers_in s)))
  where
    go : (x : Option Emitted) → Took 3 (drop at (numbers_in s)) x → again (drop at (numbers_in s)) x ≡ none
    go none t = refl
    go (some e) t = absurd (omega (arith, t.0, numbers_length s, length-drop at (numbers_in s)))

-- ---- the walk over it
-- What stands before the points: the header and the count of the ring's points.
abbrev front : List ℕ
front = header true Triangle 1 ++ bytes_of true 4 4

pub wrote_front : (o : List ℕ) (to : ℕ) {p q : List ℕ} → p ≡ sets o to (header true Triangle 1) → q ≡ sets p (to + 9) (bytes 4 4) → Wrote o to front q (to + 13)
unfolding ordered
wrote_front o to e f = one_run {o = o} (wrote_header 1 Triangle e refl) (wrote_number 4 4 f (omega arith))

-- The place behind the front, and the one behind the point that is written again.
abbrev pub ringed : Walk → Walk
ringed w = record { at = w.at; to = w.to + 13; points = w.points }

abbrev closing : Walk → Walk
closing v = record { at = v.at; to = v.to + 16; points = v.points }

pub ringed_fair : {nums : List ℤ} {w : Walk} → Fair nums w → w.to ≤ 20 * w.at → Fair nums (ringed w)
ringed_fair f h = record { few = f.few; at_most = f.at_most; to_most = omega arith; points_most = f.points_most }

-- The walk over the three points behind the front came to r.
pub record Three (s : List ℕ) (w : Walk) (o : List ℕ) (r : Maybe Walk) (a : List ℕ) : Type 0 where
  pub fair : Fair (numbers_in s) (ringed w)
  pub behind : List ℕ
  pub fronted : Wrote o w.to front behind (w.to + 13)
  pub went : Went (emit_many (emit 0) 3 (drop w.at (numbers_in s))) (numbers_in s) (ringed w) behind r a

-- A point is wrong.
pub piece_stops : {s : List ℕ} {w : Walk} {o a : List ℕ} → Three s w o None a → Went (emit_piece (drop w.at (numbers_in s))) (numbers_in s) w o None a
piece_stops {s} {w} k = (again_is (drop w.at (numbers_in s)) none k.went.0, k.went.1 ∙ as_long k.fronted)

module _ {s : List ℕ} {w : Walk} {o : List ℕ} {v : Walk} {a : List ℕ} (k : Three s w o (Some v) a) where
  pub near : v.to ≤ 329020
  near = let (e, is, gone) = k.went in omega (arith, gone_fair (numbers_in s) e (ringed w) v k.behind a k.fair gone)

  -- The first point's patterns stand behind the three points.
  pub piece_goes : {x y : ℕ} → Pair s w x y → (c : List ℕ) → c ≡ sets a v.to (point_of x y) → Went (emit_piece (drop w.at (numbers_in s))) (numbers_in s) w o (Some (closing v)) c
  piece_goes {x} {y} b c e =
      let nums = numbers_in s in
      let l = drop w.at nums in
      let (what, is, gone) = k.went in
      let took : Took 3 l (some what) = subst (Took 3 l) (sym (level_0 l) ∙ is) (many_took 3 l) in
      let second : Wrote a v.to (point_of x y) c (v.to + 16) = record { to = omega (arith, sixteen (pattern_of (to_z w32 x)) (pattern_of (to_z w32 y))); left = e } in
      let all = one_run (one_run k.fronted (wrote nums what (ringed w) v k.behind a gone)) second in (
        _,
        again_is l (some what) is,
        record {
          rest = gone.rest;
          at_most = gone.at_most;
          to_is = rw (first_point b) all.to;
          points_are = gone.points_are;
          to_pace = omega (arith, took, gone.to_is, gone.at_most, ap length gone.rest, length-drop w.at nums, length-drop v.at nums);
          points_pace = gone.points_pace;
          left = rw (first_point b) all.left;
        },
      )
