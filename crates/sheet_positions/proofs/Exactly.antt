-- Reading is refused with a code, an item and a position exactly if the bytes are at fault there, with these; and the position is never beyond the
-- bytes. The idea: a place that reading comes to is read on from as the bytes are from the beginning, and where reading is over something is wrong.
-- Assumes nothing.
use mathlib.Core.Path.{◌≡◌, refl, sym, ◌∙◌, ap, subst}
use mathlib.Core.Logic.{◌↔◌, ◌⊎◌, inl, inr}
use mathlib.Core.List.{List}
use Prim.Native.Nat.{ℕ, zero, suc, ◌≤◌}
use native.Mathlib.Omega.{arith}
use lib.ListN.{length}
use Rattle.wkb.specs.declared.Cursor.{Cursor}
use Rattle.wkb.specs.Steps.{start}
use Rattle.wkb.specs.Faults.{point_cut, ring_cut, ring_count, past, surplus, order_cut, order, type_cut, type, count_cut, count}
use Rattle.sheet.specs.Reading.{Taken, Reading, Turn, on, over, nothing, turn, run, reading_of}
use Rattle.sheet.specs.Going.{reading}
use Rattle.sheet.proofs.Run.{Goes, turn_moved, enough, reading_turns, reading_starts}
use Rattle.sheet_positions.specs.Places.{Comes, begins, goes}
use Rattle.sheet_positions.specs.Faults.{Wrong, field, x, y, unclosed, FaultIn}
use Rattle.sheet_positions.proofs.Steps.{ends_at, wrong_ends, Over, over_wrong}

module _ (limit : ℕ) (s : List ℕ) where
  -- ---- the places that reading comes to
  -- Reading from there is the reading of the bytes.
  pub comes_reads : {c : Cursor} {b : Taken} → Comes limit s c b → reading_of limit s ≡ reading s c b
  comes_reads begins = reading_starts limit s
  comes_reads (goes {c} {d} {b} {e} h q) = comes_reads h ∙ reading_turns s c b ∙ ap (λ (t : Turn). elim t as (λ z. Reading) [ on c' b' ↦ reading s c' b' | over r ↦ r ]) q

  -- They are within the bytes.
  pub comes_inside : {c : Cursor} {b : Taken} → Comes limit s c b → c.at ≤ length s
  comes_inside begins = omega arith
  comes_inside (goes {c} {d} {b} {e} h q) = (subst (Goes s c) q (turn_moved s c b)).1

  -- ---- where reading is over
  -- It ends with what is wrong at a place that it comes to.
  pub fault_ends : {code item position : ℕ} (f : FaultIn limit s code item position) → reading_of limit s ≡ ends_at s f.place f.taken code position
  fault_ends f =
      comes_reads f.comes ∙ reading_turns s f.place f.taken
      ∙ ap (λ (t : Turn). elim t as (λ z. Reading) [ on c' b' ↦ reading s c' b' | over q ↦ q ]) (wrong_ends s f.place f.taken f.wrong)

  wrong_code : {c : Cursor} {b : Taken} {code at : ℕ} → Wrong s c b code at → code ≡ 0 → ⊥
  wrong_code (field (point_cut due l)) e = omega arith
  wrong_code (field (ring_cut due l)) e = omega arith
  wrong_code (field (ring_count due l f)) e = omega arith
  wrong_code (field (past due l)) e = omega arith
  wrong_code (field (surplus due l)) e = omega arith
  wrong_code (field (order_cut due l)) e = omega arith
  wrong_code (field (order due l o)) e = omega arith
  wrong_code (field (type_cut due o l)) e = omega arith
  wrong_code (field (type due o l f)) e = f e
  wrong_code (field (count_cut due o l)) e = omega arith
  wrong_code (field (count due o l f)) e = omega arith
  wrong_code (x due l n) e = omega arith
  wrong_code (y due l u w n) e = omega arith
  wrong_code (unclosed due l u v p q d) e = omega arith

  abbrev Ended : Reading → Type 0
  Ended r = ((r.code ≡ 0) × (r.position ≡ 0)) ⊎ FaultIn limit s r.code r.item r.position

  run_ends : (n : ℕ) (c : Cursor) (b : Taken) → Comes limit s c b → 1 ≤ n → enough s c ≤ n → Ended (run n s c b)
  unfolding run
  run_ends zero c b h l k = absurd (omega arith)
  run_ends (suc n) c b h l k = go (turn s c b) refl (turn_moved s c b) (over_wrong s c b) (run_ends n)
    where
      go : (t : Turn) → turn s c b ≡ t → Goes s c t → Over s c b t → ((d : Cursor) (e : Taken) → Comes limit s d e → 1 ≤ n → enough s d ≤ n → Ended (run n s d e))
          → Ended (elim t [ on c' b' ↦ run n s c' b' | over r ↦ r ])
      go (on d e) q m o f = f d e (goes h q) (omega arith) (omega arith)
      go (over r) q m (inl z) f = inl z
      go (over r) q m (inr (w, i)) f = inr (record { place = c; taken = b; comes = h; wrong = w; named = i })

  ends : Ended (reading_of limit s)
  ends = run_ends (suc (length s)) (start limit) nothing begins (omega arith) (omega arith)

  -- Reading ends with this code, item and position.
  pub record EndsWith (code item position : ℕ) : Type 0 where
    pub code_is : (reading_of limit s).code ≡ code
    pub item_is : (reading_of limit s).item ≡ item
    pub position_is : (reading_of limit s).position ≡ position

  pub refused_exactly : (code item position : ℕ) → (EndsWith code item position × (code ≡ 0 → ⊥)) ↔ FaultIn limit s code item position
  refused_exactly code item position = (to, from)
    where
      to : EndsWith code item position × (code ≡ 0 → ⊥) → FaultIn limit s code item position
      to (e, n) = told ends
        where
          told : Ended (reading_of limit s) → FaultIn limit s code item position
          told (inl z) = absurd (n (sym e.code_is ∙ z.0))
          told (inr f) = rw (← e.code_is, ← e.item_is, ← e.position_is) f

      from : FaultIn limit s code item position → EndsWith code item position × (code ≡ 0 → ⊥)
      from f =
          let r = fault_ends f in
          (record { code_is = ap (λ z. z.code) r; item_is = ap (λ z. z.item) r ∙ sym f.named; position_is = ap (λ z. z.position) r }, wrong_code f.wrong)

  -- A sheet that is read tells no position.
  pub read_nowhere : (reading_of limit s).code ≡ 0 → (reading_of limit s).position ≡ 0
  read_nowhere e = go ends
    where
      go : Ended (reading_of limit s) → (reading_of limit s).position ≡ 0
      go (inl z) = z.1
      go (inr f) = absurd (wrong_code f.wrong e)

  -- ---- the position is never beyond the bytes
  pub within_bytes : (code item position : ℕ) → FaultIn limit s code item position → position ≤ length s
  within_bytes code item position f = go (comes_inside f.comes) f.wrong
    where
      go : {c : Cursor} {b : Taken} {code at : ℕ} → c.at ≤ length s → Wrong s c b code at → at ≤ length s
      go i (field (point_cut due l)) = i
      go i (field (ring_cut due l)) = i
      go i (field (ring_count due l f)) = i
      go i (field (past due l)) = i
      go i (field (surplus due l)) = i
      go i (field (order_cut due l)) = i
      go i (field (order due l o)) = i
      go i (field (type_cut due o l)) = o.0
      go i (field (type due o l f)) = o.0
      go i (field (count_cut due o l)) = o.1
      go i (field (count due o l f)) = o.1
      go i (x due l n) = i
      go i (y due l u w n) = omega arith
      go i (unclosed due l u v p q d) = i
