-- Runs of bytes written into lent ones: a run behind another makes one run of both. Assumes nothing.
use mathlib.Core.Path.{◌≡◌, refl, ◌∙◌, ap}
use mathlib.Core.Bool.{true}
use mathlib.Core.List.{List, ◌++◌}
use Prim.Native.Nat.{ℕ, ◌+◌}
use native.Mathlib.Omega.{arith}
use lib.ListN.{length, length-append}
use lib.Seq.{sets, length-sets}
use Rattle.wkb_kinds.specs.declared.Kind.{Kind}
use Rattle.lent_little.specs.Ordered.{bytes, ordered}
use Rattle.lent_little.proofs.Ordered.{length_bytes}
use Rattle.lent_little.proofs.Stored.{sets_behind}
use Rattle.wkb.specs.Standard.{header}

-- The run l is written into o from byte k on; then the lent bytes are p, and m is the next byte.
pub record Wrote (o : List ℕ) (k : ℕ) (l : List ℕ) (p : List ℕ) (m : ℕ) : Type 0 where
  pub to : m ≡ k + length l
  pub left : p ≡ sets o k l

pub as_long : {o l p : List ℕ} {k m : ℕ} → Wrote o k l p m → length p ≡ length o
as_long {o} {l} {k} w = ap length w.left ∙ length-sets o k l

pub one_run : {o l p r q : List ℕ} {k m n : ℕ} → Wrote o k l p m → Wrote p m r q n → Wrote o k (l ++ r) q n
one_run {o} {l} {r} {k} {m} f g = record { to = omega (arith, f.to, g.to, length-append l r); left = g.left ∙ (rw f.left (sets_behind o l r k m f.to)) }

-- A number's bytes, and a geometry's header of 9 bytes.
pub header_long : (kind : Kind) (n : ℕ) → length (header true kind n) ≡ 9
unfolding header bytes ordered
header_long kind n = refl

module _ {o p : List ℕ} {k m : ℕ} (n : ℕ) where
  pub wrote_number : (x : ℕ) → p ≡ sets o k (bytes n x) → m ≡ k + n → Wrote o k (bytes n x) p m
  wrote_number x e f = record { to = omega (arith, length_bytes n x); left = e }

  pub wrote_header : (kind : Kind) → p ≡ sets o k (header true kind n) → m ≡ k + 9 → Wrote o k (header true kind n) p m
  wrote_header kind e f = record { to = omega (arith, header_long kind n); left = e }
