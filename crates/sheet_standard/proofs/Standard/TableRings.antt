-- A ring's count in the table, which adds nothing: what one turn of reading does to the lists of what is left there, both ways. Assumes nothing.
use mathlib.Core.Path.{◌≡◌, refl}
use mathlib.Core.Bool.{true}
use mathlib.Core.List.{List, [], ◌∷◌, flat_map, append_assoc, ◌++◌}
use Prim.Native.Nat.{ℕ, ◌-◌, ◌<◌}
use native.Mathlib.Omega.{arith}
use borrow.Author.Tests.{eq-eqb, eqb-true}
use lib.IntN.{pos}
use lib.ListN.{length}
use Rattle.wkb.specs.declared.Cursor.{Cursor}
use Rattle.wkb.specs.Places.{moved, rings_to_come, points_to_come}
use Rattle.wkb.specs.Standard.{Pair, Geometries, count, encode_all}
use Rattle.wkb.specs.Steps.{ring_fits, with_points}
use Rattle.sheet_form.specs.Numbers.{triangle_numbers}
use Rattle.sheet.specs.Reading.{Taken, first_to_come, ringing}
use Rattle.sheet.specs.Going.{reading}
use Rattle.sheet_standard.specs.Limits.{triangle_of, each}
use Rattle.lent_fields.proofs.Fields.{Bytes}
use Rattle.sheet_standard.proofs.Standard.Steps.{ring_back}
use Rattle.sheet_standard.proofs.Standard.Left.{Ends}
use Rattle.sheet_standard.proofs.Standard.Rings.{ring_counted, ring_before}
use Rattle.sheet_standard.proofs.Standard.Table.{corners_of, InTable, TableStands, still_in, members_outcome, table_outcome, TableFound, TableThrough, TableBack}

-- The place after it.
abbrev counted_at : ℕ → Cursor → Cursor
counted_at n c = rings_to_come (c.rings - 1) (points_to_come n (moved 4 c))

counted_is : (n : ℕ) (c : Cursor) → c.member ≡ 1 → with_points n c ≡ counted_at n c
unfolding with_points
counted_is n c m = rw (eq-eqb c.member 1 m) refl

ringing_is : (c : Cursor) (n : ℕ) (b : Taken) → c.member ≡ 1 → ringing c n b ≡ first_to_come b
unfolding ringing
ringing_is c n b m = rw (eq-eqb c.member 1 m) refl

ring_allowed : (c : Cursor) (n : ℕ) → c.member ≡ 1 → n ≡ 4 → ring_fits c n ≡ true
unfolding ring_fits
ring_allowed c n m e = rw (eq-eqb c.member 1 m) (eq-eqb n 4 e)

allowed_ring : (c : Cursor) (n : ℕ) → c.member ≡ 1 → ring_fits c n ≡ true → n ≡ 4
unfolding ring_fits
allowed_ring c n m e = eqb-true n 4 (rw (eq-eqb c.member 1 m) at e)

pub table_ring_through : (s : List ℕ) (c : Cursor) (b : Taken) (r : List Pair) (rs : List (List Pair)) (gs ms : Geometries) → InTable s c → TableStands s c b [] (r ∷ rs) gs ms → TableThrough s c
    → Ends (reading s c b) (table_outcome b [] (r ∷ rs) gs ms)
unfolding flat_map table_outcome
table_ring_through s c b r rs gs ms t h later =
    let n = length r in
    let f = h.polygon.rings_fit.0.number in
    let four : n ≡ 4 = omega (arith, f.0, f.1) in
    let q = ring_counted c t.within (omega arith) (ring_allowed c n t.member four) h.polygon in
    let place = counted_is n c t.member in
    let taken = ringing_is c n b t.member in
    rw (q.goes, place, taken, append_assoc (corners_of r) (flat_map corners_of rs) (flat_map triangle_numbers (each triangle_of gs) ++ (pos (count ms) ∷ members_outcome ms)))
    (later (counted_at n c) (first_to_come b) r rs gs ms (omega arith) (still_in 4 n (c.rings - 1) c.parts c.little t q.fits) (omega arith) (record { polygon = rw (place, taken) at q.polygon; below = h.below }))

pub table_ring_return : (s : List ℕ) (c : Cursor) (b : Taken) → Bytes s → InTable s c → c.points ≡ 0 → 0 < c.rings → (reading s c b).code ≡ 0 → TableBack s c → TableFound s c b
table_ring_return s c b bytes t z some code later =
    let k = ring_back s c b bytes z some code in
    let n = k.n in
    let four = allowed_ring c n t.member k.allowed in
    let place = counted_is n c t.member in
    let taken = ringing_is c n b t.member in
    let v = later (counted_at n c) (first_to_come b) (omega arith) (still_in 4 n (c.rings - 1) c.parts c.little t k.fits) (omega arith) (rw (place, taken) at k.on_with) in
    ([], v.0 ∷ v.1, v.2, v.3, record { polygon = ring_before c {rest = encode_all v.2 ++ encode_all v.3} k z some (omega arith, omega arith) place taken v.4.polygon; below = v.4.below })
