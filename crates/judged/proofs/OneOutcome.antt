-- Two outcomes that the contract of `judged` allows are equal: the answer, and where it tells a judged sheet the numbers of the sheet, its owner sets and the
-- numbers of the reverses of its sides. The idea: the bytes come to one judged sheet, its numbers as they are held are told by its numbers, and its owner sets
-- by its owners. Assumes nothing.
use mathlib.Core.Path.{◌≡◌, refl, sym, ◌∙◌, ap, subst}
use mathlib.Core.List.{List, [], ◌∷◌, map}
use mathlib.Core.Option.{Option}
use Prim.Native.Nat.{ℕ, zero, suc, ◌*◌}
use lib.ListN.{length, take, length-map}
use Rattle.plane.specs.Corners.{millimetres}
use Rattle.plane.specs.Boundaries.{sides_of}
use Rattle.std.specs.Prelude.{Result, Ok, Err}
use Rattle.lent.specs.declared.Refusal.{Refusal}
use Rattle.lent.specs.Refusals.{code_of}
use Rattle.lent.specs.Stages.{value}
use Rattle.lent.proofs.Refusals.{equal_refusals}
use Rattle.lent.proofs.Stages.{value_refused, same_refusal}
use Rattle.table.specs.Opposites.{opposites}
use Rattle.owners_marks.specs.Marks.{set_of}
use Rattle.sheet_form.specs.Numbers.{numbers_of}
use Rattle.judged.specs.Judged.{Judged, judged_with}
use Rattle.sheet_older.proofs.Sheets.{same_held}
use Rattle.judged.specs.Held.{JudgedAs}

-- A front of a list is told by its length.
front_taken : {A : Type 0} (k : ℕ) (l : List A) → take (length (take k l)) l ≡ take k l
front_taken zero l = refl
front_taken (suc k) [] = refl
front_taken (suc k) (a ∷ l) = ap (λ m. a ∷ m) (front_taken k l)

-- What stands at the fronts of the three lists, for a judged sheet.
record Fronts (j : Judged) (t : ℕ) (numbers opposite l : List ℕ) : Type 0 where
  many : t ≡ length j.sheet.table
  held : map millimetres (take (length (numbers_of j.sheet)) numbers) ≡ numbers_of j.sheet
  crossed : take (3 * t) opposite ≡ opposites (sides_of j.sheet.table)
  owned : take t l ≡ map set_of j.owners

module _ (index : Option (List ℕ)) (mode : ℕ) (s : List ℕ) (j : Judged) (comes : judged_with index mode s ≡ value j) where
  fronts : {t : ℕ} {numbers opposite l : List ℕ} → JudgedAs index mode s (Ok t) numbers opposite l → Fronts j t numbers opposite l
  fronts {t} {numbers} {opposite} {l} (i, e, many, w) = let q : value i ≡ value j = sym e ∙ comes in let same : i ≡ j = cc in subst (λ i. Fronts i t numbers opposite l) same (record {
    many = sym many;
    held =
        let size : length (numbers_of i.sheet) ≡ length (take w.size numbers) = sym (ap length w.held.is) ∙ length-map (take w.size numbers) millimetres in
        ap (map millimetres) (ap (λ k. take k numbers) size ∙ front_taken w.size numbers) ∙ w.held.is;
    crossed = w.crossed;
    owned = w.sets_are;
  })

module _ (index : Option (List ℕ)) (mode : ℕ) (s numbers opposite l numbers' opposite' l' : List ℕ) where
  same_answer : (r r' : Result ℕ Refusal) → JudgedAs index mode s r numbers opposite l → JudgedAs index mode s r' numbers' opposite' l' → r ≡ r'
  same_answer (Ok t) (Ok t') p q = ap Ok ((fronts index mode s p.0 p.1 p).many ∙ sym (fronts index mode s p.0 p.1 q).many)
  same_answer (Ok t) (Err f) p q = absurd (value_refused p.0 (code_of f.reason) f.item (sym p.1 ∙ q))
  same_answer (Err f) (Ok t) p q = absurd (value_refused q.0 (code_of f.reason) f.item (sym q.1 ∙ p))
  same_answer (Err f) (Err f') p q = let (c, i) = (same_refusal {A = Judged} (code_of f.reason) f.item (code_of f'.reason) f'.item).0 (sym p ∙ q) in ap Err (equal_refusals (sym c) (sym i))

  -- The answers are the same. Where the bytes come to a judged sheet, as many numbers as it has, the reverses of its sides and its owner sets are the same too.
  pub one_outcome : (r r' : Result ℕ Refusal) → JudgedAs index mode s r numbers opposite l → JudgedAs index mode s r' numbers' opposite' l'
      → (r ≡ r') × ((t : ℕ) (j : Judged) → r ≡ Ok t → judged_with index mode s ≡ value j
      → (take (length (numbers_of j.sheet)) numbers ≡ take (length (numbers_of j.sheet)) numbers') × (take (3 * t) opposite ≡ take (3 * t) opposite') × (take t l ≡ take t l'))
  one_outcome r r' p q = (
    same_answer r r' p q,
    λ t j e c.
        let a = fronts index mode s j c (subst (λ r. JudgedAs index mode s r numbers opposite l) e p) in
        let b = fronts index mode s j c (subst (λ r. JudgedAs index mode s r numbers' opposite' l') (sym (same_answer r r' p q) ∙ e) q) in
        (same_held (take (length (numbers_of j.sheet)) numbers) (take (length (numbers_of j.sheet)) numbers') (a.held ∙ sym b.held), a.crossed ∙ sym b.crossed, a.owned ∙ sym b.owned),
  )
