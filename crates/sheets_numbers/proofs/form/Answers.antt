-- The numbers, four bytes each, stand at the front of the lent bytes, or behind the first number.
use mathlib.Core.Path.{◌≡◌, sym, ◌∙◌, ap}
use mathlib.Core.List.{List, flat_map, ◌++◌, append_assoc, append-nil}
use Prim.Native.Nat.{ℕ, ◌+◌, ◌-◌, ◌*◌, ◌≤◌}
use native.Mathlib.Omega.{arith}
use borrow.Author.Rules.{part_to_end}
use lib.ListN.{length, take, drop, length-append, length-drop, drop_of_length-le}
use lib.Seq.{sets, sets-eq, length-take-le, drop_at, drop-drop}
use Rattle.std.specs.Prelude.{Option, None, Some}
use Rattle.lent.specs.Answered.{Outcome, bytes}
use Rattle.lent.proofs.Answered.{answered_short, answered_bytes}
use Rattle.lent_little.specs.Ordered
use Rattle.lent_little.specs.Held.{held_bytes}
use Rattle.lent_little.proofs.Ordered.{length_bytes}
use Rattle.sheet_blob.specs.declared.Opened.{Opened}
use Rattle.sheet_modes.specs.Held.{around_of}
use Rattle.outcomes.specs.Entries.{first_of}
use Rattle.outcomes.proofs.Outcomes.{four_each}
use Rattle.sheets_numbers.proofs.form.Goals as goal

-- The bytes, by what stands around the sheet.
abbrev comes : Option Opened → ℕ → List ℕ → Outcome
comes a n text = bytes (length (first_of (around_of a)) + 4 * n) (first_of (around_of a) ++ text)

alone : (a : Option Opened) (n : ℕ) (text : List ℕ) → a ≡ None → comes a n text ≡ bytes (4 * n) text
alone a n text e = ap (λ a. comes a n text) e ∙ ap (λ k. bytes k text) (let z : 0 + 4 * n ≡ 4 * n = omega arith in z)

headed : (a : Option Opened) (h : Opened) (n : ℕ) (text : List ℕ) → a ≡ Some h → comes a n text ≡ bytes (4 * (n + 1)) (Ordered.bytes 4 h.number ++ text)
headed a h n text e =
    ap (λ a. comes a n text) e
    ∙ ap (λ k. bytes k (Ordered.bytes 4 h.number ++ text)) (let z : length (Ordered.bytes 4 h.number) + 4 * n ≡ 4 * (n + 1) = omega (arith, length_bytes 4 h.number) in z)

-- The numbers behind the first, and the first over the front.
both : (first text out part last : List ℕ) (n : ℕ) → length first ≡ 4 → length text ≡ 4 * n → 4 + 4 * n ≤ length out → part ≡ text ++ drop (4 * n) (drop 4 out) → last ≡ sets (take 4 out ++ part) 0 first
    → last ≡ first ++ text ++ drop (length (first ++ text)) out
both first text out part last n four many fits p q =
    let h = length-take-le 4 out (omega arith) in
    let z : length (first ++ text) ≡ 4 + 4 * n = omega (arith, length-append first text) in
    let y : 0 + length first ≡ 4 = omega arith in
    q ∙ sets-eq first (take 4 out ++ part) 0 (omega (arith, length-append (take 4 out) part))
    ∙ ap (λ m. first ++ m) (ap (λ k. drop k (take 4 out ++ part)) y ∙ drop_at (take 4 out) part 4 h ∙ p)
    ∙ sym (append_assoc first text (drop (4 * n) (drop 4 out)))
    ∙ ap (λ m. first ++ text ++ m) (drop-drop (4 * n) 4 out ∙ ap (λ k. drop k out) (sym z))

-- Nothing stands behind the part from the fifth byte on.
nothing_behind : (out part : List ℕ) → part ++ drop (length out - 4) (drop 4 out) ≡ part
nothing_behind out part = ap (λ m. part ++ m) (drop_of_length-le (drop 4 out) {i = length out - 4} (omega (arith, length-drop 4 out))) ∙ append-nil part

-- The bytes of the numbers.
abbrev text_of : ℕ → List ℕ → List ℕ
text_of n numbers = flat_map held_bytes (take n numbers)

many : (n : ℕ) (numbers : List ℕ) → n ≤ length numbers → length (text_of n numbers) ≡ 4 * n
many n numbers h = omega (arith, four_each (take n numbers), length-take-le n numbers h)

pub returns-then-out-n : goal.returns-then-out-n
returns-then-out-n c =
    let a = c.args in
    answered_short _ _ _ _ (alone a.around a.n (text_of a.n a.numbers.now) c.in-None.is) (omega (arith, many a.n a.numbers.now c.requires.0, c.if-out-n.true))

pub returns-then-out-n-2 : goal.returns-then-out-n-2
returns-then-out-n-2 c =
    let a = c.args in
    let h = c.in-Some.h in
    answered_short _ _ _ _ (headed a.around h a.n (text_of a.n a.numbers.now) c.in-Some.is)
    (omega (arith, many a.n a.numbers.now c.requires.0, length_bytes 4 h.number, length-append (Ordered.bytes 4 h.number) (text_of a.n a.numbers.now), c.if-out-n-2.true))

pub returns-else-out-n : goal.returns-else-out-n
returns-else-out-n c =
    let a = c.args in
    let text = text_of a.n a.numbers.now in
    let n = many a.n a.numbers.now c.requires.0 in
    answered_bytes _ _ _ _ (alone a.around a.n text c.in-None.is) _ (omega (arith, n, c.if-out-n.false)) (c.write.ensures ∙ ap (λ k. text ++ drop k a.out.now) (sym n))

pub returns-else-out-n-2 : goal.returns-else-out-n-2
returns-else-out-n-2 c =
    let a = c.args in
    let h = c.in-Some.h in
    let text = text_of a.n a.numbers.now in
    let first = Ordered.bytes 4 h.number in
    let n = many a.n a.numbers.now c.requires.0 in
    answered_bytes _ _ _ _ (headed a.around h a.n text c.in-Some.is) _ (omega (arith, n, length_bytes 4 h.number, length-append first text, c.if-out-n-2.false))
    (both first text a.out.now _ _ a.n (length_bytes 4 h.number) n (omega (arith, c.if-out-n-2.false)) (c.write-in-Some.ensures ∙ ap (λ l. text ++ drop (4 * a.n) l) (part_to_end a.out.now 4))
    (c.put.ensures ∙ ap (λ m. sets (take 4 a.out.now ++ m) 0 first) (nothing_behind a.out.now c.write-in-Some.new.out)))
