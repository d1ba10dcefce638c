-- Where u is none of the 32 numbers before k, the pair stands at none of their places.
use Rattle.std.proofs.Common.{◌≡◌, ℕ, ◌+◌, ◌-◌, ◌≤◌, List, length, get_or, take, drop, ap, ◌∙◌, arith}
use native.Mathlib.Decide.{dec_le}
use borrow.Rule.Slice.PartAt.{part_count}
use lib.Seq.{get_or-take, get_or-drop}
use Rattle.table_loose.specs.Loose.{WithoutTo}
use Rattle.table_loose.proofs.place_of.Goals as goal

-- The 32 numbers before place k.
abbrev part : List ℕ → ℕ → List ℕ
part us k = take (k - (k - 32)) (drop (k - 32) us)

-- Where u is none of them, what is excluded from k on is so from k - 32 on.
passed : (us : List ℕ) (u k : ℕ) → 32 ≤ k → k ≤ length us → WithoutTo (part us k) u (length (part us k)) → (j : ℕ) (Q : Type 0) → (k ≤ j → get_or us j 0 ≡ u → Q → ⊥) → k - 32 ≤ j → get_or us j 0 ≡ u → Q → ⊥
passed us u k l m none j Q beyond h p q = go (dec_le k j)
  where
    go : Dec (k ≤ j) → ⊥
    go (yes e) = beyond e p q
    go (no e) =
        let i = j - (k - 32) in
        let long = part_count us (k - 32) k (omega arith, m) in
        let at : k - 32 + i ≡ j = omega arith in
        none i (omega arith) (get_or-take (k - (k - 32)) (drop (k - 32) us) i 0 (omega arith) ∙ get_or-drop (k - 32) us i 0 ∙ ap (λ j. get_or us j 0) at ∙ p)

pub loop-k-preserved-then-is_without : goal.loop-k-preserved-then-is_without
loop-k-preserved-then-is_without c =
    let l = c.loop-k in
    let a = c.args in
    (omega arith, λ j h g p q. passed a.us.now a.u l.k (omega (arith, c.if-k-eq0.true, c.loop-k-test.true)) (omega arith) c.if-is_without.ensures j (get_or a.vs.now j 0 ≡ a.v) (λ m p q. l.invariant.1 j m g p q) h p q)
