-- The walk over a whole sheet: behind the headers the table, whose points are not counted, behind the table the polygons, and how it ends.
-- Assumes nothing.
use mathlib.Core.Path.{◌≡◌, refl, sym, ◌∙◌, ap}
use mathlib.Core.Bool.{Bool, true, false, ◌&&◌, cond}
use mathlib.Core.List.{List, ◌++◌}
use mathlib.Core.Option.{Option, none, some}
use Prim.Native.Nat.{ℕ, ◌+◌, ◌-◌, ◌≤◌}
use native.Mathlib.Omega.{arith}
use borrow.Author.Tests.{le-leb, leb-true}
use lib.Dec.{leb}
use lib.IntN.{ℤ, pos}
use lib.ListN.{length, drop, length-drop}
use lib.Seq.{sets}
use Rattle.wkb_kinds.specs.declared.Kind.TheVariants.{Collection, Tin}
use Rattle.wkb.specs.Standard.{header}
use Rattle.std.specs.Prelude.{Option as Maybe, None, Some}
use Rattle.sheet_writer.specs.declared.Walk.{Walk}
use Rattle.sheet_writer.specs.Emit.{Emitted, followed, emit_many, emit, emit_piece, polygon_count, sheet_header, emit_table, ended, emit_sheet}
use Rattle.sheet_writer.specs.Walks.{beginning, Fair, Gone, Went, Ended}
use Rattle.sheet_writer.proofs.Bytes.{as_long, one_run, wrote_header}
use Rattle.sheet_writer.proofs.Goes.{wrote, gone_fair, gone_joined, went_joined}

-- ---- the table and the polygons behind the headers
-- The place behind the two headers, and the place behind the table with no points counted.
abbrev table_place : Walk
table_place = record { at = 1; to = 18; points = 0 }

abbrev unpointed : Walk → Walk
unpointed v = record { at = v.at; to = v.to; points = 0 }

abbrev headers : ℕ → List ℤ → Emitted
headers t nums = record { bytes = sheet_header (polygon_count t (drop 1 nums)) ++ header true Tin t; points = 0; rest = drop 1 nums }

pub gone_headers : (nums : List ℤ) (t p : ℕ) (o m q : List ℕ) → 1 ≤ length nums → polygon_count t (drop 1 nums) ≡ pos p
    → m ≡ sets o 0 (header true Collection (p + 1)) → q ≡ sets m 9 (header true Tin t) → Gone (headers t nums) nums beginning o table_place q
gone_headers nums t p o m q h counts e f =
    let both = one_run (wrote_header (p + 1) Collection e refl) (wrote_header t Tin f refl) in
    record {
      rest = refl;
      at_most = h;
      to_is = rw counts both.to;
      points_are = refl;
      to_pace = omega arith;
      points_pace = omega arith;
      left = rw counts both.left;
    }

-- The walk over the table behind the headers came to r.
pub record Tabled (nums : List ℤ) (t : ℕ) (o : List ℕ) (r : Maybe Walk) (a : List ℕ) : Type 0 where
  pub few : length nums ≤ 16450
  pub behind : List ℕ
  pub headed : Gone (headers t nums) nums beginning o table_place behind
  pub went : Went (emit_many emit_piece t (drop 1 nums)) nums table_place behind r a

-- The table is wrong.
pub body_stops : {nums : List ℤ} {t : ℕ} {o a : List ℕ} → Tabled nums t o None a → Went (followed (emit_table t (drop 1 nums)) (emit 4)) nums beginning o None a
body_stops {nums} {t} {o} {a} k = (rw k.went.0 refl, k.went.1 ∙ as_long (wrote nums (headers t nums) beginning table_place o k.behind k.headed))

module _ {nums : List ℤ} {t : ℕ} {o : List ℕ} {v : Walk} {a : List ℕ} (k : Tabled nums t o (Some v) a) where
  pub unpointed_fair : Fair nums (unpointed v)
  unpointed_fair =
      let start : Fair nums table_place = record { few = k.few; at_most = k.headed.at_most; to_most = omega arith; points_most = omega arith } in
      let (e, is, gone) = k.went in
      let f = gone_fair nums e table_place v k.behind a start gone in
      record { few = f.few; at_most = f.at_most; to_most = f.to_most; points_most = omega arith }

  -- The table's points are no polygon points.
  gone_table : (e : Emitted) → Gone e nums table_place k.behind v a → Gone (record { bytes = e.bytes; points = 0; rest = drop v.at nums }) nums table_place k.behind (unpointed v) a
  gone_table e h = record {
    rest = refl;
    at_most = h.at_most;
    to_is = h.to_is;
    points_are = refl;
    to_pace = h.to_pace;
    points_pace = omega arith;
    left = h.left;
  }

  -- The polygons behind the table.
  pub body_goes : (u : Maybe Walk) (b : List ℕ) → Went (emit 4 (drop v.at nums)) nums (unpointed v) a u b → Went (followed (emit_table t (drop 1 nums)) (emit 4)) nums beginning o u b
  body_goes u b h =
      let (what, is, gone) = k.went in
      let table = gone_joined nums (headers t nums) _ beginning table_place (unpointed v) o k.behind a k.headed (gone_table what gone) in
      rw (is, ← gone.rest) (went_joined nums _ (emit 4 (drop v.at nums)) beginning (unpointed v) u o a b table h)

-- ---- how it ends: well with no number left over and at most 4,096 points
-- The walk over the table and the polygons came to u; what is emitted for them is the sheet, if it ends so.
pub record Walked (nums : List ℤ) (o : List ℕ) (u : Maybe Walk) (b : List ℕ) : Type 0 where
  pub what : Option Emitted
  pub is : emit_sheet nums ≡ ended what
  pub went : Went what nums beginning o u b

pub ends_wrong : {nums : List ℤ} {o b : List ℕ} → Walked nums o None b → Ended (emit_sheet nums) o None b
ends_wrong k = (k.is ∙ ap ended k.went.0, k.went.1)

module _ {nums : List ℤ} {o : List ℕ} {u : Walk} {b : List ℕ} (k : Walked nums o (Some u) b) where
  -- So many numbers are left over.
  left_over : (e : Emitted) → Gone e nums beginning o u b → length e.rest ≡ length nums - u.at
  left_over e h = ap length (sym h.rest) ∙ length-drop u.at nums

  pub ends_over : (u.at ≡ length nums → u.points ≤ 4096 → ⊥) → Ended (emit_sheet nums) o None b
  ends_over over =
      let (e, is, h) = k.went in
      (k.is ∙ ap ended is ∙ test e h (leb (length e.rest) 0) refl (leb e.points 4096) refl, as_long (wrote nums e beginning u o b h))
    where
      test : (e : Emitted) → Gone e nums beginning o u b → (x : Bool) → leb (length e.rest) 0 ≡ x → (y : Bool) → leb e.points 4096 ≡ y → cond (x && y) (some e.bytes) none ≡ none
      test e h false p y q = refl
      test e h true p false q = refl
      test e h true p true q =
          absurd (over (omega (arith, left_over e h, leb-true (length e.rest) 0 p, h.at_most)) (omega (arith, leb-true e.points 4096 q, h.points_are)))

  pub ends_well : u.at ≡ length nums → u.points ≤ 4096 → Ended (emit_sheet nums) o (Some u.to) b
  ends_well at_end few =
      let (e, is, gone) = k.went in
      let l = left_over e gone in
      (e.bytes, k.is ∙ ap ended is ∙ (rw (le-leb (length e.rest) 0 (omega arith), le-leb e.points 4096 (omega (arith, gone.points_are))) refl), omega (arith, gone.to_is), gone.left)
