-- What each way of ending answers and leaves of the lent bytes, against the outcome. Assumes nothing.
use mathlib.Core.Path.{◌≡◌, refl}
use mathlib.Core.List.{List, ◌++◌}
use Prim.Native.Nat.{ℕ, ◌+◌, ◌*◌, ◌≤◌, ◌<◌}
use borrow.Author.Tests.{le-leb, lt-leb}
use lib.ListN.{length, drop}
use Rattle.lent.specs.Stages.{refused}
use Rattle.lent.specs.Answered.{Outcome, bytes, Answered}

module _ (o : Outcome) (lent : List ℕ) where
  pub answered_refusal : (code item : ℕ) → o ≡ refused code item → Answered o lent (item * 256 + code) lent
  answered_refusal code item e = rw e (record { answer = refl; left = refl })

  module _ (item : ℕ) (l : List ℕ) (e : o ≡ bytes item l) where
    pub answered_short : length lent < length l → Answered o lent 40 lent
    answered_short h = rw e (record { answer = rw (lt-leb (length l) (length lent) h); left = rw (lt-leb (length l) (length lent) h) })

    pub answered_bytes : (after : List ℕ) → length l ≤ length lent → after ≡ l ++ drop (length l) lent → Answered o lent (item * 256) after
    answered_bytes after h q = rw e (record { answer = rw (le-leb (length l) (length lent) h); left = rw (le-leb (length l) (length lent) h) q })
