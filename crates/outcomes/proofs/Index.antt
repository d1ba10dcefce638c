-- What the entries that take an index come to, by what building it comes to. The idea: the stages before the index are those of building it. Assumes nothing.
use mathlib.Core.Path.{◌≡◌, refl, sym, ◌∙◌, ap}
use mathlib.Core.Bool.{Bool}
use mathlib.Core.List.{List}
use mathlib.Core.Option.{some}
use Prim.Native.Nat.{ℕ}
use Rattle.plane.specs.Boundaries.{sides_of}
use Rattle.lent.specs.Stages.{Answer, value, refused, and_then, needing}
use Rattle.lent.specs.Answered.{Written, Outcome}
use Rattle.table.specs.Opposites.{opposites}
use Rattle.table_neighbours.specs.Neighbours.{same_bytes, own_index}
use Rattle.table_neighbours.specs.Held.{held_index, whole_outcome}
use Rattle.table_neighbours.proofs.Neighbours.{held_own}
use Rattle.sheet_form.specs.Numbers.{Sheet, members}
use Rattle.sheet_modes.specs.Modes.{read_by, header_by, framed}
use Rattle.judged.specs.Judged.{check_framed, judge_indexed, judged_with, judged_sheet}
use Rattle.judged.specs.Held.{judge_framed}
use Rattle.outcomes.specs.Entries.{text_outcome, index_outcome, sheet_index}

-- ---- the index as the code comes to it
module _ (whole : Bool) (n : Sheet) where
  -- A refusal before it is the entry's,
  pub index_refused : (code item : ℕ) → check_framed whole n ≡ refused code item → index_outcome whole n ≡ refused code item
  index_refused code item e = ap (λ c. and_then c (λ _. text_outcome (own_index n.table))) e

  -- and else it is told by the numbers of the reverses of the sides.
  pub index_told : (opposite : List ℕ) → check_framed whole n ≡ value tt → opposite ≡ opposites (sides_of n.table) → whole_outcome (held_index opposite) ≡ index_outcome whole n
  index_told opposite p e = ap whole_outcome (ap held_index e ∙ held_own n.table) ∙ sym (ap (λ c. and_then c (λ _. text_outcome (own_index n.table))) p)

module _ (mode : ℕ) (s : List ℕ) where
  abbrev on : Sheet → Outcome
  on n = index_outcome (framed (header_by mode s) n) n

  pub index_read : (n : Sheet) → read_by members mode s ≡ value n → index_outcome (framed (header_by mode s) n) n ≡ sheet_index mode s
  index_read n e = sym (ap (λ (a : Answer Sheet). and_then a on) e)

  pub index_unread : (code item : ℕ) → read_by members mode s ≡ refused code item → sheet_index mode s ≡ refused code item
  index_unread code item e = ap (λ (a : Answer Sheet). and_then a on) e

-- ---- an index that is lent
-- A lent index is compared with the one that is built, and then the sheet is judged as without one.
abbrev compare : {A : Type 0} → List ℕ → Answer A → Written → Answer A
compare index next w = and_then (needing (same_bytes index w.text) 53 0) (λ _. next)

module _ (index : List ℕ) where
  sheet_with : (whole : Bool) (n : Sheet) → judge_indexed (some index) whole n ≡ and_then (index_outcome whole n) (compare index (judge_framed whole n))
  unfolding judge_indexed
  sheet_with whole n = go (check_framed whole n) refl
    where
      go : (c : Answer (Unit {0})) → check_framed whole n ≡ c → judge_indexed (some index) whole n ≡ and_then (index_outcome whole n) (compare index (judge_framed whole n))
      go (value u) e = rw e refl
      go (refused code item) e = rw e refl

  pub with_index : (mode : ℕ) (s : List ℕ) → judged_with (some index) mode s ≡ and_then (sheet_index mode s) (λ w. and_then (needing (same_bytes index w.text) 53 0) (λ _. judged_sheet mode s))
  unfolding judged_with
  with_index mode s = go (read_by members mode s) refl
    where
      go : (r : Answer Sheet) → read_by members mode s ≡ r → judged_with (some index) mode s ≡ and_then (sheet_index mode s) (compare index (judged_sheet mode s))
      go (value n) e = rw e (sheet_with (framed (header_by mode s) n) n)
      go (refused code item) e = rw e refl
