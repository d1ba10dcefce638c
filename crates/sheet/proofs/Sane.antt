-- Counts stay small: a step from a place with small counts leads to one, and counts what is within the limits. Assumes nothing.
use mathlib.Core.Bool.{Bool, true, false, cond, ◌&&◌}
use mathlib.Core.List.{List}
use Prim.Native.Nat.{ℕ, ◌+◌, ◌≤◌}
use native.Mathlib.Omega.{arith}
use lib.Dec.{T, leb, ltb, eqb, leb→le, ltb→lt, eqb→eq}
use Rattle.whole.proofs.Tests.{by_cond}
use Rattle.whole.proofs.Sums.{and_left, and_right}
use Rattle.plane.specs.Corners.{offset}
use Rattle.wkb.specs.declared.Cursor.{Cursor}
use Rattle.wkb_kinds.specs.declared.Slot.{Slot}
use Rattle.wkb_kinds.specs.declared.Slot.TheVariants.{Sheet, Table, Piece, Part, Member}
use Rattle.wkb.specs.declared.Step.{Step}
use Rattle.wkb.specs.declared.Step.TheVariants.{Geometry, Ring, Point, End, Refused}
use Rattle.wkb.specs.Steps.{slot_of, complete, renewed, count_fits, up_to, popped, with_rings, with_parts, with_sheet, fewer_parts, opened, ring_fits, with_points, after_point, step_at}
use Rattle.wkb.proofs.Steps.{pops, members_opened}
use Rattle.wkb.proofs.Cases.{passed, by_case}
use Rattle.sheet.specs.Going.{Sane}

-- What a step leads to has small counts, and what it counts is small.
abbrev pub Kept : Step → Type 0
Kept (Geometry kind n c) = (n ≤ offset) × Sane c
Kept (Ring n c) = (n ≤ 4096) × Sane c
Kept (Point x y c) = Sane c
Kept (End c) = Unit {0}
Kept (Refused reason item field c) = Unit {0}

count_small : (limit : ℕ) (slot : Slot) (n : ℕ) → limit ≤ offset → T (count_fits limit slot n) → n ≤ offset
unfolding count_fits
count_small limit Sheet n h t = omega (arith, leb→le n limit (and_right (leb 1 n) (leb n limit) t))
count_small limit Table n h t = omega (arith, leb→le n 1024 (and_right (leb 2 n) (leb n 1024) t))
count_small limit Piece n h t = omega (arith, eqb→eq n 1 t)
count_small limit Part n h t = omega (arith, leb→le n 64 (and_right (leb 1 n) (leb n 64) t))
count_small limit Member n h t = omega (arith, leb→le n 64 (and_right (leb 1 n) (leb n 64) t))

popped_sane : (c : Cursor) → Sane c → Sane (popped c)
popped_sane c h = let p = pops c in record { polygons = omega (arith, p.polygons, h.polygons); members = omega (arith, p.members, h.members); limit = omega (arith, p.limit, h.limit) }

renewed_sane : (c : Cursor) → Sane c → Sane (renewed c)
unfolding renewed
renewed_sane c h = by_cond Sane (complete c && ltb 0 c.members) _ c (λ t. record { polygons = omega arith; members = omega (arith, h.members); limit = h.limit }) h

one_more : (b : Bool) (n : ℕ) → n ≤ 64 → cond b (up_to 64 n) n ≤ 64
one_more true n h = by_cond (λ m. m ≤ 64) (ltb n 64) (n + 1) n (λ t. omega (arith, ltb→lt n 64 t)) h
one_more false n h = h

rings_sane : (b : Bool) (n : ℕ) (little : Bool) (c : Cursor) → Sane c → Sane (with_rings b n little c)
unfolding with_rings
rings_sane b n little c h = record { polygons = one_more b c.polygons h.polygons; members = h.members; limit = h.limit }

opened_sane : (slot : Slot) (c : Cursor) (little : Bool) (kind n : ℕ) → T (count_fits c.limit slot n) → Sane c → Sane (opened slot c little kind n)
unfolding opened with_parts with_sheet fewer_parts count_fits
opened_sane Sheet c little kind n t h = record { polygons = h.polygons; members = omega (arith, leb→le n c.limit (and_right (leb 1 n) (leb n c.limit) t), h.limit); limit = h.limit }
opened_sane Table c little kind n t h = let p = popped_sane c h in record { polygons = p.polygons; members = p.members; limit = p.limit }
opened_sane Piece c little kind n t h = rings_sane false n little (fewer_parts c) (record { polygons = h.polygons; members = h.members; limit = h.limit })
opened_sane Part c little kind n t h = rings_sane true n little (fewer_parts c) (record { polygons = h.polygons; members = h.members; limit = h.limit })
opened_sane Member c little kind n t h =
    let p = popped_sane c h in
    by_cond Sane (eqb kind 3) _ _ (λ t. rings_sane true n little (popped c) p)
    (by_cond Sane (eqb kind 6) _ _ (λ t. record { polygons = p.polygons; members = p.members; limit = p.limit })
    (members_opened Sane c n (popped c) (record { polygons = p.polygons; members = p.members; limit = p.limit }) (record { polygons = p.polygons; members = p.members; limit = p.limit }) (record { polygons = p.polygons; members = p.members; limit = p.limit })))

ring_small : (c : Cursor) (n : ℕ) → T (ring_fits c n) → n ≤ 4096
unfolding ring_fits
ring_small c n t = go (eqb c.member 1) t
  where
    go : (b : Bool) → T (cond b (eqb n 4) (leb 4 n && leb n 4096 && leb (c.total + n) 4096)) → n ≤ 4096
    go true t = omega (arith, eqb→eq n 4 t)
    go false t = leb→le n 4096 (and_right (leb 4 n) (leb n 4096) (and_left (leb 4 n && leb n 4096) (leb (c.total + n) 4096) t))

pub step_kept : (s : List ℕ) (c : Cursor) → Sane c → Kept (step_at s c)
unfolding with_points after_point
step_kept s c h = by_case Kept s c (record {
  refused = λ reason field t f. tt;
  point = λ p l. renewed_sane _ (record { polygons = h.polygons; members = h.members; limit = h.limit });
  ring = λ p r l n f. (ring_small c n (passed f), record { polygons = h.polygons; members = h.members; limit = h.limit });
  end = λ due. (λ e. tt, λ l. tt);
  geometry = λ p r t l little kind n k f. (count_small c.limit (slot_of c) n h.limit (passed f), opened_sane (slot_of c) c little kind n (passed f) h);
})
