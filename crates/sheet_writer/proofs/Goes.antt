-- Walks one behind the other: where the first goes well, what both emit is emitted in one, and the second's bytes stand behind the first's; where
-- it does not, nothing is emitted. So many walks are taken one after the other: between two of them, whatever the others come to, all come to.
-- Assumes nothing.
use mathlib.Core.Path.{◌≡◌, refl, ap, ◌∙◌}
use mathlib.Core.List.{List, [], ◌++◌}
use mathlib.Core.Option.{Option}
use Prim.Native.Nat.{ℕ, suc, ◌+◌, ◌-◌, ◌*◌, ◌≤◌, ◌<◌}
use native.Mathlib.Omega.{arith}
use lib.IntN.{ℤ}
use lib.ListN.{length, drop}
use Rattle.std.specs.Prelude.{Option as Maybe, None, Some}
use Rattle.sheet_writer.specs.declared.Walk.{Walk}
use Rattle.sheet_writer.specs.Emit.{Emitted, joined, emit_many}
use Rattle.sheet_writer.specs.Walks.{Fair, Gone, Went}
use Rattle.sheet_writer.proofs.Bytes.{Wrote, as_long, one_run}

module _ (nums : List ℤ) where
  pub wrote : (e : Emitted) (w v : Walk) (o p : List ℕ) → Gone e nums w o v p → Wrote o w.to e.bytes p v.to
  wrote e w v o p h = record { to = h.to_is; left = h.left }

  pub went_length : (x : Option Emitted) (w : Walk) (r : Maybe Walk) (o p : List ℕ) → Went x nums w o r p → length p ≡ length o
  went_length x w None o p h = h.1
  went_length x w (Some v) o p (e, q, h) = as_long (wrote e w v o p h)

  -- A fair place stays fair.
  pub gone_fair : (e : Emitted) (w v : Walk) (o p : List ℕ) → Fair nums w → Gone e nums w o v p → Fair nums v
  gone_fair e w v o p f h = record { few = f.few; at_most = h.at_most; to_most = omega (arith, f.to_most, h.to_pace); points_most = omega (arith, f.points_most, h.points_pace) }

  -- One behind the other.
  abbrev pub both : Emitted → Emitted → Emitted
  both e f = record { bytes = e.bytes ++ f.bytes; points = e.points + f.points; rest = f.rest }

  pub gone_joined : (e f : Emitted) (w v r : Walk) (o p a : List ℕ) → Gone e nums w o v p → Gone f nums v p r a → Gone (both e f) nums w o r a
  gone_joined e f w v r o p a g h =
      let runs = one_run (wrote e w v o p g) (wrote f v r p a h) in
      record {
        rest = h.rest;
        at_most = h.at_most;
        to_is = runs.to;
        points_are = omega (arith, g.points_are, h.points_are);
        to_pace = omega (arith, g.to_pace, h.to_pace);
        points_pace = omega (arith, g.points_pace, h.points_pace);
        left = runs.left;
      }

  pub went_joined : (e : Emitted) (x : Option Emitted) (w v : Walk) (r : Maybe Walk) (o p a : List ℕ) → Gone e nums w o v p → Went x nums v p r a → Went (joined e x) nums w o r a
  went_joined e x w v None o p a g (q, h) = (ap (joined e) q, h ∙ as_long (wrote e w v o p g))
  went_joined e x w v (Some r) o p a g (f, q, h) = (both e f, ap (joined e) q, gone_joined e f w v r o p a g h)

-- ---- so many things
-- Between two of n things, i of which are behind: whatever the walk over the others comes to, the walk over all of them comes to.
pub record Between (f : List ℤ → Option Emitted) (nums : List ℤ) (n : ℕ) (w : Walk) (o : List ℕ) (i : ℕ) (v : Walk) (p : List ℕ) : Type 0 where
  pub within : i ≤ n
  pub long : length p ≡ length o
  pub fair : Fair nums v
  pub pace : v.to + 20 * w.at ≤ w.to + 20 * v.at
  pub others : (r : Maybe Walk) (a : List ℕ) → Went (emit_many f (n - i) (drop v.at nums)) nums v p r a → Went (emit_many f n (drop w.at nums)) nums w o r a

module _ {f : List ℤ → Option Emitted} {nums : List ℤ} {n : ℕ} {w : Walk} {o : List ℕ} where
  pub begins : Fair nums w → Between f nums n w o 0 w o
  begins h = record {
    within = omega arith;
    long = refl;
    fair = h;
    pace = omega arith;
    others = λ r a k. rw (let e : n ≡ n - 0 = omega arith in e) k;
  }

  module _ {i : ℕ} {v : Walk} {p : List ℕ} (b : Between f nums n w o i v p) where
    -- All things are behind.
    pub ends : n ≤ i → Went (emit_many f n (drop w.at nums)) nums w o (Some v) p
    unfolding emit_many
    ends h = b.others (Some v) p (rw (let e : n - i ≡ 0 = omega arith in e) (
      record { bytes = []; points = 0; rest = drop v.at nums },
      refl,
      record {
        rest = refl;
        at_most = b.fair.at_most;
        to_is = omega arith;
        points_are = omega arith;
        to_pace = omega arith;
        points_pace = omega arith;
        left = refl;
      },
    ))

    module _ (a : List ℕ) (more : i < n) where
      one_more : n - i ≡ suc (n - suc i)
      one_more = omega arith

      -- The next thing is wrong.
      pub stops : Went (f (drop v.at nums)) nums v p None a → Went (emit_many f n (drop w.at nums)) nums w o None a
      unfolding emit_many
      stops h = b.others None a (rw (one_more, h.0) (refl, h.1))

      -- The next thing is behind.
      pub passes : (r : Walk) → Went (f (drop v.at nums)) nums v p (Some r) a → Between f nums n w o (i + 1) r a
      unfolding emit_many
      passes r (e, is, gone) =
          let on : n - suc i ≡ n - (i + 1) = omega arith in
          record {
            within = omega arith;
            long = as_long (wrote nums e v r p a gone) ∙ b.long;
            fair = gone_fair nums e v r p a b.fair gone;
            pace = omega (arith, b.pace, gone.to_pace);
            others = λ q d k. b.others q d (rw (one_more, is, ← gone.rest) (went_joined nums e (emit_many f (n - suc i) (drop r.at nums)) v r q p a d gone (rw on k)));
          }
