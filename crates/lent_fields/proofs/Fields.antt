-- Fields at a place of the bytes, both ways: where the bytes of a number stand, the number is read there and the place after it has what follows; and
-- where enough bytes remain, they are the bytes of the number read there. Assumes nothing.
use mathlib.Core.Path.{◌≡◌, sym, ◌∙◌, ap}
use mathlib.Core.Bool.{Bool}
use mathlib.Core.List.{List, ◌++◌}
use Prim.Native.Nat.{ℕ, ◌+◌, ◌^◌, ◌≤◌, ◌<◌}
use native.Mathlib.Omega.{arith}
use lib.ListN.{length, take, drop, length-append, length-drop, length-take, take-append-drop}
use lib.Seq.{take-append_seam, drop-append_seam, drop-drop}
use Rattle.whole.specs.Sums.{All}
use Rattle.whole.proofs.Sums.{all_take, all_drop}
use Rattle.lent_little.specs.Ordered.{number_of, bytes_of, field}
use Rattle.lent_little.proofs.Ordered.{length-bytes_of, number_of-below, number_of-bytes_of, bytes_of-number_of}

-- Each byte is below 256.
abbrev pub Bytes : List ℕ → Type 0
Bytes = All (λ b. b < 256)

-- ---- a list at a place
pub after : (s u v : List ℕ) (at : ℕ) → drop at s ≡ u ++ v → drop (at + length u) s ≡ v
after s u v at e = sym (drop-drop (length u) at s) ∙ ap (drop (length u)) e ∙ drop-append_seam u v

pub inside : (s u v : List ℕ) (at : ℕ) → at ≤ length s → drop at s ≡ u ++ v → at + length u ≤ length s
inside s u v at h e = omega (arith, length-drop at s, ap length e, length-append u v)

here : (s u v : List ℕ) (at : ℕ) → drop at s ≡ u ++ v → take (length u) (drop at s) ≡ u
here s u v at e = ap (take (length u)) e ∙ take-append_seam u v

-- ---- the number in n bytes
pub record Reads (little : Bool) (n : ℕ) (s : List ℕ) (at v : ℕ) (rest : List ℕ) : Type 0 where
  pub fits : at + n ≤ length s
  pub number : number_of little (field s at n) ≡ v
  pub next : drop (at + n) s ≡ rest

pub reads : (little : Bool) (n : ℕ) (s : List ℕ) (at v : ℕ) (rest : List ℕ) → at ≤ length s → v < 256 ^ n → drop at s ≡ bytes_of little n v ++ rest → Reads little n s at v rest
reads little n s at v rest h b e =
    let l = length-bytes_of little n v in
    record {
      fits = rw l at (inside s (bytes_of little n v) rest at h e);
      number = ap (number_of little) (rw l at (here s (bytes_of little n v) rest at e)) ∙ number_of-bytes_of little n v b;
      next = rw l at (after s (bytes_of little n v) rest at e);
    }

pub written : (little : Bool) (n : ℕ) (s : List ℕ) (at : ℕ) → Bytes s → at + n ≤ length s → drop at s ≡ bytes_of little n (number_of little (field s at n)) ++ drop (at + n) s
written little n s at b h =
    let l : length (field s at n) ≡ n = simp (length-take, length-drop) (omega arith) in
    sym (take-append-drop n (drop at s))
    ∙ ap (λ r. field s at n ++ r) (drop-drop n at s)
    ∙ ap (λ f. f ++ drop (at + n) s) (sym (rw l at (bytes_of-number_of little (field s at n) (all_take (λ b. b < 256) n (drop at s) (all_drop (λ b. b < 256) at s b)))))

pub number_fits : (little : Bool) (n : ℕ) (s : List ℕ) (at : ℕ) → Bytes s → at + n ≤ length s → number_of little (field s at n) < 256 ^ n
number_fits little n s at b h =
    let l : length (field s at n) ≡ n = simp (length-take, length-drop) (omega arith) in
    rw l at (number_of-below little (field s at n) (all_take (λ b. b < 256) n (drop at s) (all_drop (λ b. b < 256) at s b)))
