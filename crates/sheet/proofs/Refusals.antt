-- Every refusal of reading is one of document 01's: 1 to 6 and 8 with a member of the sheet (0 in its own header), 7 with 0.
-- The idea: the places that are reached name a member up to their limit, and each refusal is made at one of them. Assumes nothing.
use mathlib.Core.Path.{◌≡◌, refl, ◌∙◌}
use mathlib.Core.Bool.{Bool, true, false, not, cond, ◌&&◌, ◌||◌}
use mathlib.Core.List.{List}
use Prim.Native.Nat.{ℕ, zero, suc, ◌≤◌}
use native.Mathlib.Omega.{arith}
use lib.Dec.{T, leb, ltb, eqb, leb→le, le→leb, ltb→lt}
use lib.ListN.{length}
use Rattle.whole.proofs.Tests.{by_cond}
use Rattle.whole.proofs.Sums.{and_left, and_right, and_both}
use Rattle.sheet_coordinate.specs.Coordinate.{coordinate_of}
use Rattle.std.specs.Prelude.{Option, Some, None}
use Rattle.lent.specs.Refusals.{code_of}
use Rattle.wkb.specs.declared.Cursor.{Cursor}
use Rattle.wkb_kinds.specs.declared.Slot.{Slot}
use Rattle.wkb_kinds.specs.declared.Slot.TheVariants.{Sheet, Table, Piece, Part, Member}
use Rattle.wkb.specs.declared.Step.{Step}
use Rattle.wkb.specs.declared.Step.TheVariants.{Geometry, Ring, Point, End, Refused}
use Rattle.wkb.specs.Steps.{start, slot_of, complete, renewed, count_fits, popped, with_rings, with_parts, with_sheet, fewer_parts, opened, with_points, after_point, step_at}
use Rattle.wkb.proofs.Steps.{pops, members_opened}
use Rattle.wkb.proofs.Cases.{passed, named, by_case}
use Rattle.sheet.specs.Reading.{Taken, Reading, Turn, on, over, nothing, noted, judged, taken, turn, run, reading_of}

-- The refusals that document 01 has for reading a sheet of at most so many members, with their items; code 0 is success.
abbrev pub Lawful : ℕ → ℕ → ℕ → Type 0
Lawful limit code item = T (cond (eqb code 0 || eqb code 7) (eqb item 0) (leb code 8 && leb item limit))

lawful : (limit code item : ℕ) → T (named code) → item ≤ limit → Lawful limit code item
lawful limit code item t h = go (eqb code 0 || eqb code 7) t
  where
    go : (b : Bool) → T (not b && leb code 8) → T (cond b (eqb item 0) (leb code 8 && leb item limit))
    go true t = absurd t
    go false t = and_both (leb code 8) (leb item limit) t (le→leb item limit h)

-- A place of this limit that names a member up to it, and what a step answers there.
abbrev Names : ℕ → Cursor → Type 0
Names limit d = (d.limit ≡ limit) × (d.member ≤ limit)

abbrev Fine : ℕ → Step → Type 0
Fine limit (Geometry kind n d) = Names limit d
Fine limit (Ring n d) = Names limit d
Fine limit (Point x y d) = Names limit d
Fine limit (End d) = Unit {0}
Fine limit (Refused reason item field d) = Lawful limit (code_of reason) item

-- ---- the places that are reached
renewed_member : {limit : ℕ} (c : Cursor) → Names limit c → Names limit (renewed c)
unfolding renewed
renewed_member {limit} c h =
    by_cond (Names limit) (complete c && ltb 0 c.members) _ c (λ t. (h.0, by_cond (λ m. m ≤ limit) (ltb c.member c.limit) _ _ (λ t. omega (arith, ltb→lt c.member c.limit t, h.0)) h.1)) h

opened_member : {limit : ℕ} (slot : Slot) (c : Cursor) (little : Bool) (kind n : ℕ) → T (count_fits c.limit slot n) → Names limit c → Names limit (opened slot c little kind n)
unfolding opened with_rings with_parts with_sheet fewer_parts count_fits
opened_member Sheet c little kind n t h =
    (h.0, omega (arith, h.0, leb→le 1 n (and_left (leb 1 n) (leb n c.limit) t), leb→le n c.limit (and_right (leb 1 n) (leb n c.limit) t)))
opened_member Table c little kind n t h = ((pops c).limit ∙ h.0, omega (arith, (pops c).member, h.1))
opened_member Piece c little kind n t h = h
opened_member Part c little kind n t h = h
opened_member {limit} Member c little kind n t h =
    let p : Names limit (popped c) = ((pops c).limit ∙ h.0, omega (arith, (pops c).member, h.1)) in
    by_cond (Names limit) (eqb kind 3) _ _ (λ t. p) (by_cond (Names limit) (eqb kind 6) _ _ (λ t. p) (members_opened (Names limit) c n (popped c) p p p))

step_fine : {limit : ℕ} (s : List ℕ) (c : Cursor) → Names limit c → Fine limit (step_at s c)
unfolding with_points after_point
step_fine {limit} s c h = by_case (Fine limit) s c (record {
  refused = λ reason field t f. lawful limit (code_of reason) c.member t h.1;
  point = λ p l. renewed_member _ h;
  ring = λ p r l n f. h;
  end = λ due. (λ e. tt, λ l. tt);
  geometry = λ p r t l little kind n k f. opened_member (slot_of c) c little kind n (passed f) h;
})

-- ---- turns and the whole reading
abbrev Good : ℕ → Turn → Type 0
Good limit (on d b) = Names limit d
Good limit (over r) = Lawful limit r.code r.item

turn_good : {limit : ℕ} (s : List ℕ) (c : Cursor) (b : Taken) → Names limit c → Good limit (turn s c b)
unfolding turn taken judged
turn_good {limit} s c b h = go (step_at s c) (step_fine s c h)
  where
    point : (d : Cursor) → Names limit d → (x y : Option ℕ) → Good limit (judged c d b x y)
    point d f None y = lawful limit 5 c.member tt h.1
    point d f (Some x) None = lawful limit 5 c.member tt h.1
    point d f (Some x) (Some y) = by_cond (Good limit) (eqb c.points 1 && not (eqb x (noted x y b).x && eqb y (noted x y b).y)) _ _ (λ t. lawful limit 6 c.member tt h.1) f

    go : (a : Step) → Fine limit a → Good limit (taken c b a)
    go (Geometry kind n d) f = f
    go (Ring n d) f = f
    go (Point x y d) f = point d f (coordinate_of x) (coordinate_of y)
    go (End d) f = tt
    go (Refused reason item field d) f = f

run_lawful : {limit : ℕ} (n : ℕ) (s : List ℕ) (c : Cursor) (b : Taken) → Names limit c → Lawful limit (run n s c b).code (run n s c b).item
unfolding run
run_lawful {limit} zero s c b h = lawful limit 1 c.member tt h.1
run_lawful {limit} (suc n) s c b h = go (turn s c b) (turn_good s c b h) (run_lawful n s)
  where
    go : (u : Turn) → Good limit u → ((d : Cursor) (t : Taken) → Names limit d → Lawful limit (run n s d t).code (run n s d t).item)
        → let r : Reading = elim u [ on d t ↦ run n s d t | over r ↦ r ] in Lawful limit r.code r.item
    go (on d t) g f = f d t g
    go (over r) g f = g

-- A refusal of reading has a code and an item that document 01 gives for reading.
pub reading_lawful : (limit : ℕ) (s : List ℕ) → Lawful limit (reading_of limit s).code (reading_of limit s).item
reading_lawful limit s = run_lawful (suc (length s)) s (start limit) nothing (refl, omega arith)
