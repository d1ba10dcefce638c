-- Two numbers of 8 bytes stand one behind the other, over the front of the lent bytes.
use mathlib.Core.Path.{◌≡◌, refl, ◌∙◌, ap}
use mathlib.Core.List.{List, ◌++◌}
use Prim.Native.Nat.{ℕ, ◌+◌, ◌≤◌}
use native.Mathlib.Omega.{arith}
use lib.ListN.{length, drop, length-append}
use lib.Seq.{sets, sets-eq}
use Rattle.lent.proofs.Answered.{answered_short, answered_bytes}
use Rattle.lent_little.proofs.Bytes.{set_length}
use Rattle.lent_little.proofs.Stored.{sets_behind}
use Rattle.outcomes.specs.Entries.{u64}
use Rattle.sheets_position.proofs.tell.Goals as goal

sixteen : (a p : ℕ) → length (u64 a ++ u64 p) ≡ 16
sixteen a p = omega (arith, length-append (u64 a) (u64 p), set_length a, set_length p)

both : (a p : ℕ) (out first last : List ℕ) → 16 ≤ length out → first ≡ sets out 0 (u64 a) → last ≡ sets first 8 (u64 p)
    → last ≡ u64 a ++ u64 p ++ drop (length (u64 a ++ u64 p)) out
both a p out first last h e q =
    let n = sixteen a p in
    let z : 0 + length (u64 a ++ u64 p) ≡ length (u64 a ++ u64 p) = omega arith in
    q ∙ ap (λ l. sets l 8 (u64 p)) e ∙ sets_behind out (u64 a) (u64 p) 0 8 (omega (arith, set_length a)) ∙ sets-eq (u64 a ++ u64 p) out 0 (omega arith)
    ∙ ap (λ k. u64 a ++ u64 p ++ drop k out) z

pub returns-then-out-lt16 : goal.returns-then-out-lt16
returns-then-out-lt16 c = answered_short _ _ _ _ refl (omega (arith, sixteen c.args.answer c.args.position))

pub returns : goal.returns
returns c =
    let a = c.args.answer in
    let p = c.args.position in
    answered_bytes _ _ _ _ refl _ (omega (arith, sixteen a p, c.if-out-lt16.false)) (both a p _ _ _ (omega arith) c.put.ensures c.put-2.ensures)
