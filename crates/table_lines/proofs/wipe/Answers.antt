-- Within the span the marks are set to 0, outside they are. The idea: the marks are those before the span, those within and those behind.
use Rattle.std.proofs.Common.{◌≡◌, ◌⊎◌, inl, inr, ℕ, ◌+◌, ◌-◌, ◌≤◌, ◌<◌, List, ◌++◌, length, get_or, take, drop, length-take, length-drop, ◌∙◌, refl, rules, arith}
use Rattle.std.proofs.lemmas.List.{get_or-take, get_or-drop}
use native.Mathlib.Decide.{dec_le}
use Rattle.whole.specs.Sums.{All}
use Rattle.whole.proofs.Sums.{all_from, all-++}
use Rattle.table_lines.proofs.wipe.Goals as goal

-- What is 0 outside, and is replaced by zeros within, is 0.
wiped : (l m : List ℕ) (low stop : ℕ) → low ≤ stop → stop ≤ length l → ((k : ℕ) → k < length l → (k < low) ⊎ (stop ≤ k) → get_or l k 0 ≡ 0) → ((k : ℕ) → k < length m → get_or m k 0 ≡ 0)
    → All (λ n. n ≡ 0) (take low l ++ (m ++ drop (stop - low) (drop low l)))
wiped l m low stop h g outside within = all-++ (λ n. n ≡ 0) (take low l) (m ++ behind) (all_from (λ n. n ≡ 0) 0 (take low l) before) (all-++ (λ n. n ≡ 0) m behind (all_from (λ n. n ≡ 0) 0 m within) (all_from (λ n. n ≡ 0) 0 behind after))
  where
    behind : List ℕ
    behind = drop (stop - low) (drop low l)

    before : (k : ℕ) → k < length (take low l) → get_or (take low l) k 0 ≡ 0
    before k i = get_or-take low l k 0 (omega (arith, length-take low l)) ∙ outside k (omega (arith, length-take low l)) (inl (omega (arith, length-take low l)))

    after : (k : ℕ) → k < length behind → get_or behind k 0 ≡ 0
    after k i =
        let n : length behind ≡ length l - stop = omega (arith, length-drop (stop - low) (drop low l), length-drop low l) in
        get_or-drop (stop - low) (drop low l) k 0 ∙ get_or-drop low l (stop - low + k) 0 ∙ outside (low + (stop - low + k)) (omega arith) (inr (omega arith))

pub returns-then-low-stop : goal.returns-then-low-stop
returns-then-low-stop c =
    let a = c.args in
    (search rules, wiped a.marks.now c.fill.new.self a.low a.stop (omega arith) c.requires.0 c.requires.1 (λ k h. c.fill.ensures.clones k 0 (omega (arith, c.fill.ensures.len)) refl))

pub returns-else-low-stop : goal.returns-else-low-stop
returns-else-low-stop c = (refl, all_from (λ n. n ≡ 0) 0 c.args.marks.now (λ k h. c.requires.1 k h (either (dec_le c.args.stop k))))
  where
    either : {k : ℕ} → Dec (c.args.stop ≤ k) → (k < c.args.low) ⊎ (c.args.stop ≤ k)
    either (yes h) = inr h
    either (no n) = inl (omega arith)
