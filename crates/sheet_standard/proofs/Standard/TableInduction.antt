-- Reading the table from any place in it, and the members after it, both ways, by induction on the bytes that are left. Assumes nothing.
use mathlib.Core.Path.{◌≡◌, refl}
use mathlib.Core.List.{List, [], ◌∷◌}
use Prim.Native.Nat.{ℕ, zero, suc, ◌+◌, ◌<◌}
use native.Mathlib.Omega.{arith}
use lib.ListN.{length}
use Rattle.wkb.specs.declared.Cursor.{Cursor}
use Rattle.wkb.specs.Standard.{Pair, Geometries, none, ◌then◌}
use Rattle.sheet.specs.Reading.{Taken}
use Rattle.sheet.specs.Going.{reading}
use Rattle.lent_fields.proofs.Fields.{Bytes}
use Rattle.sheet_standard.proofs.Standard.Left.{Ends}
use Rattle.sheet_standard.proofs.Standard.Table.{InTable, TableStands, Unfinished, table_outcome, TableFound, TableThrough, TableBack}
use Rattle.sheet_standard.proofs.Standard.TablePoints.{table_point_through, table_point_return}
use Rattle.sheet_standard.proofs.Standard.TableRings.{table_ring_through, table_ring_return}
use Rattle.sheet_standard.proofs.Standard.TablePieces.{table_piece_through, table_piece_return}

module _ (s : List ℕ) (c : Cursor) (b : Taken) (t : InTable s c) (later : TableThrough s c) where
  dispatch : (ps : List Pair) (rs : List (List Pair)) (gs ms : Geometries) → Unfinished c → TableStands s c b ps rs gs ms → Ends (reading s c b) (table_outcome b ps rs gs ms)
  dispatch (p ∷ ps) rs gs ms o h = table_point_through s c b t later p ps rs gs ms h
  dispatch [] (r ∷ rs) gs ms o h = table_ring_through s c b r rs gs ms t h later
  dispatch [] [] (g then gs) ms o h = table_piece_through s c b g gs ms t h later
  dispatch [] [] none ms o h = let p = h.polygon.points_number in let q = h.polygon.rings_number in let r = h.below.pieces_are.0 in absurd (omega arith)

pub table_through : (n : ℕ) (s : List ℕ) (c : Cursor) (b : Taken) (ps : List Pair) (rs : List (List Pair)) (gs ms : Geometries) → length s < n + c.at → InTable s c → Unfinished c → TableStands s c b ps rs gs ms
    → Ends (reading s c b) (table_outcome b ps rs gs ms)
table_through zero s c b ps rs gs ms l t o h = let z = t.within in absurd (omega arith)
table_through (suc n) s c b ps rs gs ms l t o h =
    dispatch s c b t (λ d e ps' rs' gs' ms' m t' o' h'. table_through n s d e ps' rs' gs' ms' (omega arith) t' o' h') ps rs gs ms o h

module _ (s : List ℕ) (c : Cursor) (b : Taken) (bytes : Bytes s) (t : InTable s c) (code : (reading s c b).code ≡ 0) (later : TableBack s c) where
  search_back : (p r q : ℕ) → c.points ≡ p → c.rings ≡ r → c.parts ≡ q → Unfinished c → TableFound s c b
  search_back (suc p) r q ep er eq o = table_point_return s c b t bytes later (omega arith) code
  search_back zero (suc r) q ep er eq o = table_ring_return s c b bytes t ep (omega arith) code later
  search_back zero zero (suc q) ep er eq o = table_piece_return s c b bytes t ep er (omega arith) code later
  search_back zero zero zero ep er eq o = absurd (omega arith)

pub table_back : (n : ℕ) (s : List ℕ) (c : Cursor) (b : Taken) → length s < n + c.at → Bytes s → InTable s c → Unfinished c → (reading s c b).code ≡ 0 → TableFound s c b
table_back zero s c b l bytes t o code = let z = t.within in absurd (omega arith)
table_back (suc n) s c b l bytes t o code =
    search_back s c b bytes t code (λ d e m t' o' code'. table_back n s d e (omega arith) bytes t' o' code') c.points c.rings c.parts refl refl refl o
