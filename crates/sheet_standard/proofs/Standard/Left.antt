-- What is left to read of the members at a place, and what it adds to the numbers. The idea: the counts of a place say how many points,
-- rings, parts and members of each open collection are still to come, one list for each, and their bytes stand in this order; so a step
-- takes the first thing off these lists. Assumes nothing.
use mathlib.Core.Path.{◌≡◌, refl, sym, ◌∙◌, ap}
use mathlib.Core.Bool.{Bool, true, false, cond}
use mathlib.Core.List.{List, [], ◌∷◌, ◌++◌, map, flat_map, append_assoc, map-append}
use Prim.Native.Nat.{ℕ, ◌+◌, ◌≤◌, ◌<◌}
use native.Mathlib.Omega.{arith}
use lib.IntN.{ℤ, pos, ◌+ℤ◌}
use lib.ListN.{length, drop, get_or, set, length-append, get_or-append}
use lib.Seq.{set-append_left}
use Rattle.whole.specs.Sums.{All, bit}
use Rattle.whole.specs.Polynomials.{◌:+◌, ◌:-◌, ◌:=◌}
use Rattle.whole.proofs.Ring.{solve}
use Rattle.plane.specs.Members.{Polygon}
use Rattle.plane.specs.Corners.{millimetres}
use Rattle.wkb.specs.declared.Cursor.{Cursor}
use Rattle.wkb.specs.Standard.{Pair, Geometry, Geometries, none, ◌then◌, count, encode_point, encode_ring, encode_all}
use Rattle.wkb.specs.Steps.{complete}
use Rattle.sheet_form.specs.Numbers.{point_numbers, ring_numbers, part_numbers, member_numbers}
use Rattle.sheet.specs.Reading.{Taken, Reading, held}
use Rattle.sheet.specs.Going.{reading}
use Rattle.sheet_standard.specs.Limits.{point_of, ring_of, member_of, members_of, each, IsCoordinate, RingFits, PartFits, Each, MemberFits, MembersFit, ring_lengths, lengths, all_lengths}

-- What is left behind the open polygon: parts of the open MultiPolygon, members of the open collections at depth 4, 3 and 2, and members of
-- the sheet, the one whose header is to come among them.
pub record Left : Type 0 where
  pub parts : Geometries
  pub fourth : Geometries
  pub third : Geometries
  pub second : Geometries
  pub members : Geometries

-- The members of the sheet and no more.
abbrev pub only : Geometries → Left
only ms = record { parts = none; fourth = none; third = none; second = none; members = ms }

unfoldable pub left_bytes : Left → List ℕ
left_bytes w = encode_all w.parts ++ (encode_all w.fourth ++ (encode_all w.third ++ (encode_all w.second ++ encode_all w.members)))

-- The polygons left of the open member.
unfoldable pub left_open : Left → List Polygon
left_open w = members_of w.parts ++ (members_of w.fourth ++ (members_of w.third ++ members_of w.second))

-- A member of the sheet within the limits.
abbrev pub Top : Geometry → Type 0
Top g = MemberFits g 3 × (length (member_of g) ≤ 64)

-- So many geometries, all of them such.
abbrev pub Group : (Geometries → Type 0) → ℕ → Geometries → Type 0
Group P n gs = (count gs ≡ n) × P gs

pub record Below (parts fourth third second members : ℕ) (w : Left) : Type 0 where
  pub parts_are : Group (Each PartFits) parts w.parts
  pub fourth_are : Group (λ gs. MembersFit gs 1) fourth w.fourth
  pub third_are : Group (λ gs. MembersFit gs 2) third w.third
  pub second_are : Group (λ gs. MembersFit gs 3) second w.second
  pub members_are : Group (Each Top) members w.members

abbrev pub BelowAt : Cursor → Left → Type 0
BelowAt c w = Below c.parts c.fourth c.third c.second (c.members + bit c.header) w

-- The last point of a list with a first one.
abbrev pub last_of : Pair → List Pair → Pair
last_of p [] = p
last_of p (q ∷ l) = last_of q l

-- The last of the points left of a ring is the ring's first, as whole numbers: the first of these, or the one remembered.
abbrev pub Closes : Taken → List Pair → Type 0
Closes b [] = Unit {0}
Closes b (p ∷ l) = point_of (last_of p l) ≡ cond b.first (point_of p) (record { x = millimetres b.x; y = millimetres b.y })

abbrev pub PointFits : Pair → Type 0
PointFits p = IsCoordinate p.x × IsCoordinate p.y

-- The open polygon: the points left of its open ring and its rings left stand at the place, and the bytes `rest` behind them; with the place's counts, and
-- within the limits, where a ring has at most `high` points.
pub record Open (high : ℕ) (s : List ℕ) (at : ℕ) (little : Bool) (points rings : ℕ) (b : Taken) (ps : List Pair) (rs : List (List Pair)) (rest : List ℕ) : Type 0 where
  pub points_number : length ps ≡ points
  pub rings_number : length rs ≡ rings
  pub bytes : drop at s ≡ flat_map (encode_point little) ps ++ (flat_map (encode_ring little) rs ++ rest)
  pub points_fit : All PointFits ps
  pub closes : Closes b ps
  pub rings_fit : All (RingFits 4 high) rs

abbrev pub OpenPolygon : ℕ → List ℕ → Cursor → Taken → List Pair → List (List Pair) → List ℕ → Type 0
OpenPolygon high s c b ps rs rest = Open high s c.at c.little c.points c.rings b ps rs rest

-- The lists stand at the place: with its counts, their bytes from there on, and within the limits.
pub record Stands (s : List ℕ) (c : Cursor) (b : Taken) (ps : List Pair) (rs : List (List Pair)) (w : Left) : Type 0 where
  pub polygon : OpenPolygon 4096 s c b ps rs (left_bytes w)
  pub below : BelowAt c w
  pub polygons_fit : c.polygons + length (left_open w) ≤ 64
  pub total_fits : c.total + (ring_lengths (map ring_of rs) + (lengths (left_open w) + all_lengths (each member_of w.members))) ≤ 4096

-- A place under a member of the sheet, with what was taken: where a member's header is to come nothing of it is open, else the number of
-- its polygons stands among the numbers.
pub record Raw (s : List ℕ) (c : Cursor) (b : Taken) : Type 0 where
  pub within : c.at ≤ length s
  pub member : 2 ≤ c.member
  pub own : c.header ≡ true → (c.points ≡ 0) × (c.rings ≡ 0) × (c.parts ≡ 0) × (c.fourth ≡ 0) × (c.third ≡ 0) × (c.second ≡ 0) × (c.polygons ≡ 0)
  pub many : c.polygons ≤ 64
  pub total : c.total ≤ 4096
  pub marked : c.header ≡ false → (b.mark < length b.numbers) × (get_or b.numbers b.mark 0 ≡ held c.polygons)

-- Such a place of which the member is not complete, if another follows.
pub record Good (s : List ℕ) (c : Cursor) (b : Taken) : Type 0 where
  pub raw : Raw s c b
  pub going : complete c ≡ true → c.members ≡ 0

-- The numbers that reading has in the end: those so far, with the member's polygons counted, and those of the lists.
unfoldable pub front : Cursor → Taken → ℕ → List ℕ
front c b k = cond c.header b.numbers (set b.numbers b.mark (held (c.polygons + k)))

unfoldable pub left_numbers : List Polygon → Geometries → List ℤ
left_numbers l ms = flat_map part_numbers l ++ flat_map member_numbers (each member_of ms)

unfoldable pub outcome : Cursor → Taken → List Pair → List (List Pair) → Left → List ℤ
outcome c b ps rs w =
    map millimetres (front c b (length (left_open w)))
    ++ (flat_map point_numbers (map point_of ps) ++ (flat_map ring_numbers (map ring_of rs) ++ left_numbers (left_open w) w.members))

-- Reading ends with code 0 and these numbers.
abbrev pub Ends : Reading → List ℤ → Type 0
Ends r l = (r.code ≡ 0) × (map millimetres r.numbers ≡ l)

-- ---- small facts
pub millimetres_count : (n : ℕ) → millimetres (held n) ≡ pos n
millimetres_count n = solve 2 (λ n o. (n :+ o) :- o := n) tt (pos n) (pos 10_000_000)

pub millimetres_same : (m n : ℕ) → millimetres m ≡ millimetres n → m ≡ n
millimetres_same m n e =
    let back : (k : ℕ) → millimetres k +ℤ pos 10_000_000 ≡ pos k = λ k. solve 2 (λ n o. (n :- o) :+ o := n) tt (pos k) (pos 10_000_000) in
    let p : pos m ≡ pos n = sym (back m) ∙ ap (λ z. z +ℤ pos 10_000_000) e ∙ back n in
    cc p

-- Numbers put behind others go before what comes next.
pub pushed : (l u : List ℕ) (i v : ℕ) (rest : List ℤ) → i < length l → map millimetres (set (l ++ u) i v) ++ rest ≡ map millimetres (set l i v) ++ (map millimetres u ++ rest)
pushed l u i v rest h =
    rw (set-append_left l u i v h, map-append millimetres (set l i v) u) (append_assoc (map millimetres (set l i v)) (map millimetres u) rest)

pub still_marked : (l u : List ℕ) (i v : ℕ) → (i < length l) × (get_or l i 0 ≡ v) → (i < length (l ++ u)) × (get_or (l ++ u) i 0 ≡ v)
still_marked l u i v h = (omega (arith, h.0, length-append l u), get_or-append l u 0 i h.0 ∙ h.1)

pub none_left : (gs : Geometries) → count gs ≡ 0 → gs ≡ none
none_left none e = refl
none_left (g then gs) e = absurd (omega arith)

pub no_list : {A : Type 0} (l : List A) → length l ≡ 0 → l ≡ []
no_list [] e = refl
no_list (a ∷ l) e = absurd (omega arith)

-- Where no ring is open yet, and where no polygon is.
module _ {high : ℕ} {s : List ℕ} {at : ℕ} {little : Bool} {points rings : ℕ} {b : Taken} {rest : List ℕ} (no_points : points ≡ 0) where
  pub no_ring : {rs : List (List Pair)} → length rs ≡ rings → drop at s ≡ flat_map (encode_ring little) rs ++ rest → All (RingFits 4 high) rs → Open high s at little points rings b [] rs rest
  unfolding flat_map
  no_ring n e f = record { points_number = sym no_points; rings_number = n; bytes = e; points_fit = tt; closes = tt; rings_fit = f }

  pub no_polygon : rings ≡ 0 → drop at s ≡ rest → Open high s at little points rings b [] [] rest
  unfolding flat_map
  no_polygon n e = no_ring (sym n) e tt

-- ---- what the two inductions have from later places
-- Reading later places where lists stand ends with their numbers; where reading a later place ends with code 0, lists stand there.
abbrev pub Found : List ℕ → Cursor → Taken → Type 0
Found s c b = (ps : List Pair) × (rs : List (List Pair)) × (w : Left) × Stands s c b ps rs w

abbrev pub Through : List ℕ → Cursor → Type 0
Through s c = (d : Cursor) (b : Taken) (ps : List Pair) (rs : List (List Pair)) (w : Left) → c.at < d.at → Good s d b → Stands s d b ps rs w → Ends (reading s d b) (outcome d b ps rs w)

abbrev pub Back : List ℕ → Cursor → Type 0
Back s c = (d : Cursor) (b : Taken) → c.at < d.at → Good s d b → (reading s d b).code ≡ 0 → Found s d b
