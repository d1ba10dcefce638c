-- What a reading in a mode says of the outcome of the entries that judge nothing: the numbers form of the sheet that is read, as it is held, and the double areas of
-- its polygons as the bits of i64. Assumes nothing.
use mathlib.Core.Path.{◌≡◌, refl, sym, ◌∙◌, ap, ap₂}
use mathlib.Core.List.{List, [], ◌∷◌, ◌++◌, map, flat_map}
use mathlib.Core.Bool.{true, false}
use mathlib.Core.Option.{Option}
use Prim.Native.Nat.{ℕ, ◌+◌, ◌*◌}
use lib.ListN.{length, length-map}
use mir.Syntax.{w64}
use mir.Val.{of_z}
use Rattle.plane.specs.Corners.{millimetres}
use Rattle.plane.specs.Members.{Member, double_area}
use Rattle.lent.specs.Stages.{Answer, value, refused, and_then}
use Rattle.lent.specs.Answered.{Outcome, bytes}
use Rattle.lent_little.specs.Bytes.{i32, set_bytes}
use Rattle.lent_little.specs.Held.{held_bytes}
use Rattle.lent_little.proofs.Bytes.{held_length, all_length}
use Rattle.lent_sets.specs.Sets.{each_outcome}
use Rattle.sheet_form.specs.Numbers.{Sheet, members, numbers_of}
use Rattle.sheet.specs.Held.{SheetHeld}
use Rattle.sheet_blob.specs.declared.Opened.{Opened}
use Rattle.sheet_modes.specs.Modes.{header_by, read_by, framed}
use Rattle.judged.specs.Judged.{matched}
use Rattle.outcomes.specs.Entries.{form_of, first_of, form_outcome, read_to, i64, areas_outcome}

-- The bytes of held numbers are those of the numbers.
held_all : (l : List ℕ) → flat_map held_bytes l ≡ flat_map i32 (map millimetres l)
unfolding flat_map
held_all [] = refl
held_all (h ∷ l) = ap (λ m. held_bytes h ++ m) (held_all l)

pub held_form : (n : Sheet) (l : List ℕ) → map millimetres l ≡ numbers_of n → form_of n ≡ flat_map held_bytes l
held_form n l e = sym (held_all l ∙ ap (flat_map i32) e)

-- Four bytes for each number.
pub four_each : (l : List ℕ) → length (flat_map held_bytes l) ≡ 4 * length l
four_each = all_length 4 held_bytes held_length

-- ---- the road of the entries that judge nothing
module _ (next : Sheet → Outcome) (mode : ℕ) (s : List ℕ) where
  abbrev on : Sheet → Outcome
  on n = and_then (matched (framed (header_by mode s) n)) (λ _. next n)

  -- A sheet that is read goes on, unless the envelope around it differs from the frame, which is 52.
  pub goes_on : (n : Sheet) → read_by members mode s ≡ value n → framed (header_by mode s) n ≡ true → read_to next mode s ≡ next n
  goes_on n r e = ap (λ (a : Answer Sheet). and_then a on) r ∙ ap (λ b. and_then (matched b) (λ _. next n)) e

  pub unframed : (n : Sheet) → read_by members mode s ≡ value n → framed (header_by mode s) n ≡ false → read_to next mode s ≡ refused 52 0
  unframed n r e = ap (λ (a : Answer Sheet). and_then a on) r ∙ ap (λ b. and_then (matched b) (λ _. next n)) e

  -- A refusal of reading is the entry's.
  pub unread : (code item : ℕ) → read_by members mode s ≡ refused code item → read_to next mode s ≡ refused code item
  unread code item e = ap (λ (a : Answer Sheet). and_then a on) e

-- The numbers as they are held, four bytes each, behind the number of what stands around the sheet.
pub numbers_held : (o : Option Opened) (n : Sheet) (l : List ℕ) → SheetHeld members n l → form_outcome o n ≡ bytes (length (first_of o) + 4 * length l) (first_of o ++ flat_map held_bytes l)
numbers_held o n l h =
    ap (λ l. bytes (length (first_of o) + length l) (first_of o ++ l)) (held_form n l h.is)
    ∙ ap (λ k. bytes (length (first_of o) + k) (first_of o ++ flat_map held_bytes l)) (four_each l)

-- The double areas as the bits of i64, eight bytes each.
areas_all : (l : List Member) → flat_map set_bytes (map (λ (m : Member). of_z w64 (double_area m)) l) ≡ flat_map i64 (map double_area l)
unfolding flat_map
areas_all [] = refl
areas_all (m ∷ l) = ap (λ k. i64 (double_area m) ++ k) (areas_all l)

pub areas_held : (n : Sheet) → each_outcome (map (λ (m : Member). of_z w64 (double_area m)) n.polygons) ≡ areas_outcome n
areas_held n = ap₂ bytes (length-map n.polygons (λ (m : Member). of_z w64 (double_area m))) (areas_all n.polygons)
