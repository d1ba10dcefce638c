-- A geometry's header and a point at a place of the bytes, both ways: where the standard's bytes stand, the numbers are read there and the place after them
-- has what follows; and where enough bytes remain, they are the standard's bytes of the numbers read there. Assumes nothing.
use mathlib.Core.Path.{◌≡◌, refl, sym, ◌∙◌, ap}
use mathlib.Core.Bool.{Bool}
use mathlib.Core.List.{List, [], ◌∷◌, ◌++◌, append_assoc}
use Prim.Native.Nat.{ℕ, suc, ◌+◌, ◌^◌, ◌≤◌, ◌<◌}
use native.Mathlib.Omega.{arith}
use lib.ListN.{length, drop, get_or}
use lib.Seq.{get_or-drop, drop-cons}
use Rattle.wkb_kinds.specs.declared.Kind.{Kind}
use Rattle.lent_little.specs.Ordered.{number_of, bytes_of, field, word_at}
use Rattle.wkb_kinds.specs.Kinds.{type_of}
use Rattle.wkb.specs.Standard.{Pair, order, header, encode_point}
use Rattle.lent_fields.proofs.Fields.{Bytes, after, inside, reads, written}

-- ---- a geometry's header: its byte order, type and count
unfoldable pub heading : Bool → ℕ → ℕ → List ℕ
heading little kind n = order little ∷ bytes_of little 4 kind ++ bytes_of little 4 n

pub heading_is : (little : Bool) (kind : Kind) (n : ℕ) → header little kind n ≡ heading little (type_of kind) n
unfolding header heading
heading_is little kind n = refl

pub record Heads (s : List ℕ) (at : ℕ) (little : Bool) (kind n : ℕ) (rest : List ℕ) : Type 0 where
  pub nine : at + 9 ≤ length s
  pub first : get_or s at 0 ≡ order little
  pub kind_is : word_at little s (at + 1) ≡ kind
  pub count_is : word_at little s (at + 5) ≡ n
  pub next : drop (at + 9) s ≡ rest

pub heads : (s : List ℕ) (at : ℕ) (little : Bool) (kind n : ℕ) (rest : List ℕ) → at ≤ length s → kind < 256 ^ 4 → n < 256 ^ 4 → drop at s ≡ heading little kind n ++ rest → Heads s at little kind n rest
unfolding heading word_at
heads s at little kind n rest h k m e =
    let e1 : drop (at + 1) s ≡ bytes_of little 4 kind ++ (bytes_of little 4 n ++ rest) = after s (order little ∷ []) _ at e ∙ append_assoc (bytes_of little 4 kind) (bytes_of little 4 n) rest in
    let h1 : at + 1 ≤ length s = inside s (order little ∷ []) _ at h e in
    let r1 = reads little 4 s (at + 1) kind _ h1 k e1 in
    let five : at + 1 + 4 ≡ at + 5 = omega arith in
    let nine : at + 5 + 4 ≡ at + 9 = omega arith in
    let h5 : at + 5 ≤ length s = omega (arith, r1.fits) in
    let r5 = reads little 4 s (at + 5) n rest h5 m (rw five at r1.next) in
    record {
      nine = rw nine at r5.fits;
      first = ap (λ k. get_or s k 0) (let z : at ≡ at + 0 = omega arith in z) ∙ sym (get_or-drop at s 0 0) ∙ ap (λ l. get_or l 0 0) e;
      kind_is = r1.number;
      count_is = r5.number;
      next = rw nine at r5.next;
    }

pub headed : (s : List ℕ) (at : ℕ) (little : Bool) → Bytes s → at + 9 ≤ length s → get_or s at 0 ≡ order little
    → drop at s ≡ heading little (word_at little s (at + 1)) (word_at little s (at + 5)) ++ drop (at + 9) s
unfolding heading word_at
headed s at little b h f =
    let five : at + 1 + 4 ≡ at + 5 = omega arith in
    let nine : at + 5 + 4 ≡ at + 9 = omega arith in
    let one : suc at ≡ at + 1 = omega arith in
    let w1 = rw five at (written little 4 s (at + 1) b (omega arith)) in
    let w5 = rw nine at (written little 4 s (at + 5) b (omega arith)) in
    drop-cons s at 0 (omega arith) ∙ rw (f, one) (ap (λ l. order little ∷ l) (w1 ∙ ap (λ l. bytes_of little 4 (number_of little (field s (at + 1) 4)) ++ l) w5 ∙ sym (append_assoc (bytes_of little 4 (number_of little (field s (at + 1) 4))) (bytes_of little 4 (number_of little (field s (at + 5) 4))) (drop (at + 9) s))))

-- ---- a point: two doubles
pub record Points (s : List ℕ) (at : ℕ) (little : Bool) (p : Pair) (rest : List ℕ) : Type 0 where
  pub sixteen : at + 16 ≤ length s
  pub x_is : number_of little (field s at 8) ≡ p.x
  pub y_is : number_of little (field s (at + 8) 8) ≡ p.y
  pub next : drop (at + 16) s ≡ rest

pub points : (s : List ℕ) (at : ℕ) (little : Bool) (p : Pair) (rest : List ℕ) → at ≤ length s → p.x < 2 ^ 64 → p.y < 2 ^ 64 → drop at s ≡ encode_point little p ++ rest → Points s at little p rest
unfolding encode_point
points s at little p rest h k m e =
    let r0 = reads little 8 s at p.x (bytes_of little 8 p.y ++ rest) h k (e ∙ append_assoc (bytes_of little 8 p.x) (bytes_of little 8 p.y) rest) in
    let h8 : at + 8 ≤ length s = r0.fits in
    let r8 = reads little 8 s (at + 8) p.y rest h8 m r0.next in
    let sixteen : at + 8 + 8 ≡ at + 16 = omega arith in
    record { sixteen = rw sixteen at r8.fits; x_is = r0.number; y_is = r8.number; next = rw sixteen at r8.next }

pub pointed : (s : List ℕ) (at : ℕ) (little : Bool) → Bytes s → at + 16 ≤ length s
    → drop at s ≡ encode_point little (record { x = number_of little (field s at 8); y = number_of little (field s (at + 8) 8) }) ++ drop (at + 16) s
unfolding encode_point
pointed s at little b h =
    let sixteen : at + 8 + 8 ≡ at + 16 = omega arith in
    let w0 = written little 8 s at b (omega arith) in
    let w8 = rw sixteen at (written little 8 s (at + 8) b (omega arith)) in
    w0 ∙ ap (λ l. bytes_of little 8 (number_of little (field s at 8)) ++ l) w8 ∙ sym (append_assoc (bytes_of little 8 (number_of little (field s at 8))) (bytes_of little 8 (number_of little (field s (at + 8) 8))) (drop (at + 16) s))
