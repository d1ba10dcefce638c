-- A piece's header in the table, both ways. A piece has one ring of four points, of which the first three are its triangle. Assumes nothing.
use mathlib.Core.Path.{◌≡◌, refl, sym, ◌∙◌, ap}
use mathlib.Core.Bool.{Bool, true, false, cond, ◌||◌}
use mathlib.Core.Logic.{◌⊎◌, inl, inr}
use mathlib.Core.List.{List, [], ◌∷◌, ◌++◌, map, flat_map, append_assoc}
use Prim.Native.Nat.{ℕ, ◌+◌, ◌-◌, ◌^◌, ◌≤◌, ◌<◌}
use native.Mathlib.Omega.{arith}
use borrow.Author.Tests.{eq-eqb, ne_eqb, eqb-true, lt-ltb}
use lib.Dec.{eqb}
use lib.IntN.{ℤ, pos}
use lib.ListN.{length, drop}
use Rattle.std.specs.Prelude.{None, Some}
use Rattle.whole.specs.Sums.{All}
use Rattle.plane.specs.Corners.{millimetres}
use Rattle.wkb.specs.declared.Cursor.{Cursor}
use Rattle.wkb.specs.Places.{moved, parts_to_come, rings_to_come, ordered}
use Rattle.wkb_kinds.specs.declared.Slot.TheVariants.{Piece}
use Rattle.wkb_kinds.specs.declared.Kind.{Kind}
use Rattle.wkb_kinds.specs.declared.Kind.TheVariants.{Polygon, MultiPolygon, Collection, Tin, Triangle as Three}
use Rattle.wkb_kinds.specs.Kinds.{type_of}
use Rattle.wkb.specs.Standard.{Pair, Geometry, ringed, holding, Geometries, ◌then◌, count, encode_ring, encode, encode_all}
use Rattle.lent.specs.declared.Reason.TheVariants.{Kind as NotHere}
use Rattle.wkb_kinds.specs.Types.{code_told}
use Rattle.wkb.specs.Steps.{slot_of, kind_fault, count_fits, with_rings, fewer_parts, opened}
use Rattle.wkb.proofs.Complete.{not_complete}
use Rattle.sheet_form.specs.Numbers.{triangle_numbers}
use Rattle.sheet.specs.Reading.{Taken, opening}
use Rattle.sheet.specs.Going.{reading}
use Rattle.sheet_standard.specs.Limits.{triangle_of, each, RingFits}
use Rattle.lent_fields.proofs.Fields.{Bytes}
use Rattle.sheet_standard.proofs.Standard.Fields.{heading, heading_is, heads}
use Rattle.sheet_standard.proofs.Standard.Steps.{AtGeometry, geometry_goes, geometry_back}
use Rattle.sheet_standard.proofs.Standard.Left.{Ends, no_list, no_ring, no_polygon}
use Rattle.sheet_standard.proofs.Standard.Rings.{regroup}
use Rattle.sheet_standard.proofs.Standard.Table.{corners_of, InTable, TableStands, still_in, members_outcome, table_outcome, TableFound, TableThrough, TableBack}

-- ---- a piece's header
-- The place after it.
abbrev piece_at : ℕ → Bool → Cursor → Cursor
piece_at n little c = parts_to_come (c.parts - 1) (rings_to_come n (ordered little (moved 9 c)))

piece_opened : (c : Cursor) (little : Bool) (kind n : ℕ) → opened Piece c little kind n ≡ piece_at n little c
unfolding opened with_rings fewer_parts
piece_opened c little kind n = refl

piece_taken : (c c' : Cursor) (kind n : ℕ) (b : Taken) → opening Piece c c' kind n b ≡ b
unfolding opening
piece_taken c c' kind n b = refl

piece_slot : (c : Cursor) → c.member ≡ 1 → 0 < c.parts → slot_of c ≡ Piece
unfolding slot_of
piece_slot c m h = rw (m, lt-ltb 0 c.parts h) refl

piece_next : (c : Cursor) → c.member ≡ 1 → c.points ≡ 0 → c.rings ≡ 0 → 0 < c.parts → AtGeometry c
piece_next c m p q h = record { no_points = p; no_rings = q; more = rw (ne_eqb c.member 0 (λ e. absurd (omega arith)), not_complete c (λ k. let z = k.no_parts in omega arith)) refl }

type_fits : (k : Kind) → type_of k < 256 ^ 4
type_fits Polygon = omega arith
type_fits MultiPolygon = omega arith
type_fits Collection = omega arith
type_fits Tin = omega arith
type_fits Three = omega arith

piece_allowed : (c : Cursor) (kind : Kind) → (kind ≡ Three) ⊎ (kind ≡ Polygon) → kind_fault Piece c (type_of kind) ≡ 0
unfolding kind_fault
piece_allowed c kind (inl e) = rw e refl
piece_allowed c kind (inr e) = rw e refl

-- The kind of a piece with an allowed type.
allowed_piece : (c : Cursor) (k : ℕ) → kind_fault Piece c k ≡ 0 → (kind : Kind) × (type_of kind ≡ k) × ((kind ≡ Three) ⊎ (kind ≡ Polygon))
unfolding kind_fault
allowed_piece c k = go (eqb k 17) (eqb k 3) refl refl
  where
    go : (p q : Bool) → eqb k 17 ≡ p → eqb k 3 ≡ q → code_told (cond (p || q) None (Some NotHere)) ≡ 0 → (kind : Kind) × (type_of kind ≡ k) × ((kind ≡ Three) ⊎ (kind ≡ Polygon))
    go true q ep eq h = (Three, sym (eqb-true k 17 ep), inl refl)
    go false true ep eq h = (Polygon, sym (eqb-true k 3 eq), inr refl)
    go false false ep eq h = absurd (omega arith)

one_count : (limit n : ℕ) → n ≡ 1 → count_fits limit Piece n ≡ true
unfolding count_fits
one_count limit n e = eq-eqb n 1 e

count_one : (limit n : ℕ) → count_fits limit Piece n ≡ true → n ≡ 1
unfolding count_fits
count_one limit n e = eqb-true n 1 e

-- The numbers of a piece's ring are its triangle's.
triangle_is : (little : Bool) (kind : Kind) (rs : List (List Pair)) → length rs ≡ 1 → All (RingFits 4 4) rs → flat_map corners_of rs ≡ triangle_numbers (triangle_of (ringed little kind rs))
unfolding flat_map triangle_of
triangle_is little kind [] e f = absurd (omega arith)
triangle_is little kind (r ∷ r' ∷ rs) e f = absurd (omega arith)
triangle_is little kind (r ∷ []) e f = go r f.0.number.0 f.0.number.1
  where
    go : (r : List Pair) → 4 ≤ length r → length r ≤ 4 → flat_map corners_of (r ∷ []) ≡ triangle_numbers (triangle_of (ringed little kind (r ∷ [])))
    go [] l h = absurd (omega arith)
    go (p ∷ []) l h = absurd (omega arith)
    go (p ∷ q ∷ []) l h = absurd (omega arith)
    go (p ∷ q ∷ t ∷ []) l h = absurd (omega arith)
    go (p ∷ q ∷ t ∷ u ∷ []) l h = refl
    go (p ∷ q ∷ t ∷ u ∷ v ∷ r) l h = absurd (omega arith)

piece_outcome : (b : Taken) (little : Bool) (kind : Kind) (rs : List (List Pair)) (gs ms : Geometries) → length rs ≡ 1 → All (RingFits 4 4) rs
    → table_outcome b [] rs gs ms ≡ table_outcome b [] [] (ringed little kind rs then gs) ms
unfolding flat_map table_outcome
piece_outcome b little kind rs gs ms one f =
    let rest : List ℤ = pos (count ms) ∷ members_outcome ms in
    ap (λ z. map millimetres b.numbers ++ (z ++ (flat_map triangle_numbers (each triangle_of gs) ++ rest))) (triangle_is little kind rs one f)
    ∙ ap (λ z. map millimetres b.numbers ++ z) (sym (append_assoc (triangle_numbers (triangle_of (ringed little kind rs))) (flat_map triangle_numbers (each triangle_of gs)) rest))

pub table_piece_through : (s : List ℕ) (c : Cursor) (b : Taken) (g : Geometry) (gs ms : Geometries) → InTable s c → TableStands s c b [] [] (g then gs) ms → TableThrough s c
    → Ends (reading s c b) (table_outcome b [] [] (g then gs) ms)
unfolding flat_map encode_all encode
table_piece_through s c b (holding little kind xs) gs ms t h later = absurd h.below.pieces_are.1.0
table_piece_through s c b (ringed little kind rs) gs ms t h later =
    let n = length rs in
    let f = h.below.pieces_are.1.0 in
    let one : n ≡ 1 = f.1 in
    let some : 0 < c.parts = let m = h.below.pieces_are.0 in omega arith in
    let word : n < 256 ^ 4 = omega arith in
    let q = heads s c.at little (type_of kind) n _ t.within (type_fits kind) word
    (rw (heading_is little kind n) at h.polygon.bytes ∙ regroup (heading little (type_of kind) n) (flat_map (encode_ring little) rs) (encode_all gs) (encode_all ms)) in
    rw (
      geometry_goes s c b Piece little (type_of kind) n _ (piece_next c t.member (sym h.polygon.points_number) (sym h.polygon.rings_number) some) (piece_slot c t.member some) q (piece_allowed c kind f.0) (one_count c.limit n one),
      piece_opened c little (type_of kind) n,
      piece_taken c (piece_at n little c) (type_of kind) n b,
      ← piece_outcome b little kind rs gs ms one f.2,
    )
    (later (piece_at n little c) b [] rs gs ms (omega arith) (still_in 9 c.points n (c.parts - 1) little t q.nine) (omega arith) (record {
      polygon = no_ring (sym h.polygon.points_number) refl q.next f.2;
      below = record {
        pieces_are = (let m = h.below.pieces_are.0 in omega arith, h.below.pieces_are.1.1);
        members_are = h.below.members_are;
        total_fits = h.below.total_fits;
      };
    }))

piece_stood : (s : List ℕ) (c : Cursor) (b : Taken) (little : Bool) (kind : Kind) (n : ℕ) (rs : List (List Pair)) (gs ms : Geometries) → c.points ≡ 0 → c.rings ≡ 0 → 0 < c.parts → n ≡ 1
    → (kind ≡ Three) ⊎ (kind ≡ Polygon) → drop c.at s ≡ heading little (type_of kind) n ++ drop (c.at + 9) s → TableStands s (piece_at n little c) b [] rs gs ms
    → TableStands s c b [] [] (ringed little kind rs then gs) ms
unfolding flat_map encode_all encode
piece_stood s c b little kind n rs gs ms p q some one k e h =
    let m = h.polygon.rings_number in
    let l = h.below in
    record {
      polygon = no_polygon p q
          (e ∙ ap (λ l. heading little (type_of kind) n ++ l) h.polygon.bytes
          ∙ rw (heading_is little kind (length rs), m) (sym (regroup (heading little (type_of kind) n) (flat_map (encode_ring little) rs) (encode_all gs) (encode_all ms))));
      below = record {
        pieces_are = (let z = l.pieces_are.0 in omega arith, ((k, m ∙ one, h.polygon.rings_fit), l.pieces_are.1));
        members_are = l.members_are;
        total_fits = l.total_fits;
      };
    }

pub table_piece_return : (s : List ℕ) (c : Cursor) (b : Taken) → Bytes s → InTable s c → c.points ≡ 0 → c.rings ≡ 0 → 0 < c.parts → (reading s c b).code ≡ 0 → TableBack s c → TableFound s c b
table_piece_return s c b bytes t p q some code later =
    let k = geometry_back s c b bytes (piece_next c t.member p q some) code in
    let slot = piece_slot c t.member some in
    let n = k.n in
    let one : n ≡ 1 = count_one c.limit n (rw slot at k.counts) in
    let a = allowed_piece c k.kind (rw slot at k.allowed) in
    let v = later (piece_at n k.little c) b (omega arith) (still_in 9 c.points n (c.parts - 1) k.little t k.nine) (omega arith) (rw (slot, piece_opened c k.little k.kind n, piece_taken c (piece_at n k.little c) k.kind n b) at k.on_with) in
    let none_open : v.0 ≡ [] = no_list v.0 (let z = v.4.polygon.points_number in omega arith) in
    let st : TableStands s (piece_at n k.little c) b [] v.1 v.2 v.3 = rw none_open at v.4 in
    ([], [], ringed k.little a.0 v.1 then v.2, v.3, piece_stood s c b k.little a.0 n v.1 v.2 v.3 p q some one a.2 (rw (← a.1) at k.bytes) st)
