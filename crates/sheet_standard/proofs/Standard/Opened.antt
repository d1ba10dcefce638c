-- A geometry's header under a member of the sheet: which types and counts are let through there, and the place and what was taken after it,
-- for each level and kind. Assumes nothing.
use mathlib.Core.Path.{◌≡◌, refl, sym, ◌∙◌, ap}
use mathlib.Core.Bool.{Bool, true, false, cond, ◌&&◌, true≢false}
use mathlib.Core.List.{List}
use Prim.Native.Nat.{ℕ, ◌≤◌, ◌<◌}
use native.Mathlib.Omega.{arith}
use borrow.Author.Tests.{lt-ltb, le-ltb, le-leb, ne_eqb, eq-eqb, leb-true}
use lib.Dec.{leb, eqb}
use Rattle.sheet_coordinate.proofs.Doubles.{and_true}
use Rattle.wkb.specs.declared.Cursor.{Cursor}
use Rattle.wkb_kinds.specs.declared.Slot.{Slot}
use Rattle.wkb_kinds.specs.declared.Slot.TheVariants.{Part, Member}
use Rattle.wkb.specs.Steps.{slot_of, crowded, deep, kind_fault, count_fits, with_rings, with_parts, with_members, fewer_parts, opened}
use Rattle.wkb.proofs.Complete.{Complete, not_complete}
use Rattle.sheet.specs.Reading.{Taken, opening, begin}
use Rattle.sheet_standard.specs.Limits.{FromTo}
use Rattle.sheet_standard.proofs.Standard.Steps.{cond_yes, cond_no, AtGeometry}
use Rattle.sheet_standard.proofs.Standard.Left.{Raw}
use Rattle.sheet_standard.proofs.Standard.Levels.{Level, At, taking, begun, Inside, popped_is, part, own, second, third, fourth}
use Rattle.sheet_standard.proofs.Standard.Polygon.{rings_at, rings_at_lem, with_polygon}
use Rattle.sheet_standard.proofs.Standard.Entered.{entered, Zero}

abbrev pub slot_at : Level → Slot
slot_at part = Part
slot_at own = Member
slot_at fourth = Member
slot_at third = Member
slot_at second = Member

-- The level is not a part of a MultiPolygon.
abbrev pub Whole : Level → Type 0
Whole part = ⊥
Whole own = Unit {0}
Whole fourth = Unit {0}
Whole third = Unit {0}
Whole second = Unit {0}

slot_member : (c : Cursor) → 2 ≤ c.member → c.parts ≡ 0 → slot_of c ≡ Member
unfolding slot_of
slot_member c m z = rw (ne_eqb c.member 0 (λ e. absurd (omega arith)), ne_eqb c.member 1 (λ e. absurd (omega arith)), le-ltb 0 c.parts (omega arith)) refl

slot_part : (c : Cursor) → 2 ≤ c.member → 0 < c.parts → slot_of c ≡ Part
unfolding slot_of
slot_part c m z = rw (ne_eqb c.member 0 (λ e. absurd (omega arith)), ne_eqb c.member 1 (λ e. absurd (omega arith)), lt-ltb 0 c.parts z) refl

pub slot_at_lem : (l : Level) (c : Cursor) → 2 ≤ c.member → At l c → slot_of c ≡ slot_at l
slot_at_lem part c m a = slot_part c m a.1
slot_at_lem own c m a = slot_member c m a.1
slot_at_lem fourth c m a = slot_member c m a.1
slot_at_lem third c m a = slot_member c m a.1
slot_at_lem second c m a = slot_member c m a.1

not_yet : (l : Level) (c : Cursor) → At l c → Complete c → ⊥
not_yet part c a h = let z = h.no_parts in let y = a.1 in omega arith
not_yet own c a h = true≢false (sym a.0 ∙ h.no_header)
not_yet fourth c a h = let z = h.no_fourth in let y = a.2 in omega arith
not_yet third c a h = let z = h.no_third in let y = a.3 in omega arith
not_yet second c a h = let z = h.no_second in let y = a.4 in omega arith

pub at_level : (l : Level) (c : Cursor) → 2 ≤ c.member → c.points ≡ 0 → c.rings ≡ 0 → At l c → AtGeometry c
at_level l c m p q a = record { no_points = p; no_rings = q; more = rw (ne_eqb c.member 0 (λ e. absurd (omega arith)), not_complete c (not_yet l c a)) refl }

not_part : (l : Level) → Whole l → l ≡ part → ⊥
not_part part k e = k
not_part own k e = let z : ◌≡◌ {A = ℕ} 0 1 = cc in omega arith
not_part fourth k e = let z : ◌≡◌ {A = ℕ} 0 1 = cc in omega arith
not_part third k e = let z : ◌≡◌ {A = ℕ} 0 1 = cc in omega arith
not_part second k e = let z : ◌≡◌ {A = ℕ} 0 1 = cc in omega arith

begun_is : (l : Level) (c : Cursor) (b : Taken) → At l c → cond c.header (begin b) b ≡ begun l b
begun_is part c b a = cond_no _ _ a.0
begun_is own c b a = cond_yes _ _ a.0
begun_is fourth c b a = cond_no _ _ a.0
begun_is third c b a = cond_no _ _ a.0
begun_is second c b a = cond_no _ _ a.0

-- ---- counts
pub count_fits_lem : (low high n : ℕ) → FromTo low high n → (leb low n && leb n high) ≡ true
count_fits_lem low high n h = rw (le-leb low n h.0, le-leb n high h.1) refl

pub count_allowed : (limit : ℕ) (l : Level) (n : ℕ) → FromTo 1 64 n → count_fits limit (slot_at l) n ≡ true
unfolding count_fits
count_allowed limit part n h = count_fits_lem 1 64 n h
count_allowed limit own n h = count_fits_lem 1 64 n h
count_allowed limit fourth n h = count_fits_lem 1 64 n h
count_allowed limit third n h = count_fits_lem 1 64 n h
count_allowed limit second n h = count_fits_lem 1 64 n h

pub fits_count : (low high n : ℕ) → (leb low n && leb n high) ≡ true → FromTo low high n
fits_count low high n e = let w = and_true (leb low n) (leb n high) e in (leb-true low n w.0, leb-true n high w.1)

pub allowed_count : (limit : ℕ) (l : Level) (n : ℕ) → count_fits limit (slot_at l) n ≡ true → FromTo 1 64 n
unfolding count_fits
allowed_count limit part n e = fits_count 1 64 n e
allowed_count limit own n e = fits_count 1 64 n e
allowed_count limit fourth n e = fits_count 1 64 n e
allowed_count limit third n e = fits_count 1 64 n e
allowed_count limit second n e = fits_count 1 64 n e

-- ---- a Polygon
pub polygon_allowed : (l : Level) (c : Cursor) → c.polygons < 64 → kind_fault (slot_at l) c 3 ≡ 0
unfolding kind_fault crowded
polygon_allowed part c h = rw (lt-ltb c.polygons 64 h) refl
polygon_allowed own c h = rw (lt-ltb c.polygons 64 h) refl
polygon_allowed fourth c h = rw (lt-ltb c.polygons 64 h) refl
polygon_allowed third c h = rw (lt-ltb c.polygons 64 h) refl
polygon_allowed second c h = rw (lt-ltb c.polygons 64 h) refl

opened_whole : (l : Level) (c : Cursor) (little : Bool) (n : ℕ) → Whole l → At l c → c.polygons < 64 → opened Member c little 3 n ≡ rings_at n little (taking l c)
unfolding opened
opened_whole l c little n k a h = ap (with_rings true n little) (popped_is l c a (not_part l k)) ∙ rings_at_lem n little (taking l c) h

pub polygon_opened : (l : Level) (c : Cursor) (little : Bool) (n : ℕ) → At l c → c.polygons < 64 → opened (slot_at l) c little 3 n ≡ rings_at n little (taking l c)
unfolding opened fewer_parts
polygon_opened part c little n a h = rings_at_lem n little (taking part c) h
polygon_opened own c little n a h = opened_whole own c little n tt a h
polygon_opened fourth c little n a h = opened_whole fourth c little n tt a h
polygon_opened third c little n a h = opened_whole third c little n tt a h
polygon_opened second c little n a h = opened_whole second c little n tt a h

pub polygon_taken : (l : Level) (c : Cursor) (b : Taken) (little : Bool) (n : ℕ) → At l c → opening (slot_at l) c (rings_at n little (taking l c)) 3 n b ≡ with_polygon n (taking l c) (begun l b)
unfolding opening
polygon_taken part c b little n a = refl
polygon_taken own c b little n a = ap (with_polygon n c) (begun_is own c b a)
polygon_taken fourth c b little n a = ap (with_polygon n c) (begun_is fourth c b a)
polygon_taken third c b little n a = ap (with_polygon n c) (begun_is third c b a)
polygon_taken second c b little n a = ap (with_polygon n c) (begun_is second c b a)

-- ---- a MultiPolygon
pub parts_opened : (l : Level) (c : Cursor) (little : Bool) (n : ℕ) → Whole l → At l c → opened Member c little 6 n ≡ entered part n (taking l c)
unfolding opened with_parts
parts_opened l c little n k a = ap (with_parts n) (popped_is l c a (not_part l k))

-- ---- a collection
-- The level of its members.
abbrev pub deeper : Level → Level
deeper part = own
deeper own = second
deeper second = third
deeper third = fourth
deeper fourth = own

pub members_opened : (l : Level) (s : List ℕ) (c : Cursor) (b : Taken) (little : Bool) (n : ℕ) → Whole l → Raw s c b → At l c → c.fourth ≡ 0 → opened Member c little 7 n ≡ entered (deeper l) n (taking l c)
unfolding opened with_members
members_opened part s c b little n k r a z = absurd k
members_opened own s c b little n k r a z = ap (with_members c n) (popped_is own c a (not_part own k)) ∙ rw a.0 refl
members_opened second s c b little n k r a z = ap (with_members c n) (popped_is second c a (not_part second k)) ∙ rw (a.0, le-ltb 0 c.third (let y = a.3 in omega arith)) refl
members_opened third s c b little n k r a z = ap (with_members c n) (popped_is third c a (not_part third k)) ∙ rw (a.0, lt-ltb 0 c.third a.3) refl
members_opened fourth s c b little n k r a z = let y = a.2 in absurd (omega arith)

pub inside_deeper : (l : Level) (c : Cursor) → Whole l → At l c → c.fourth ≡ 0 → Inside (deeper l)
inside_deeper part c k a z = k
inside_deeper own c k a z = tt
inside_deeper second c k a z = tt
inside_deeper third c k a z = tt
inside_deeper fourth c k a z = let y = a.2 in absurd (omega arith)

pub zero_deeper : (l : Level) (s : List ℕ) (c : Cursor) (b : Taken) → Raw s c b → At l c → Zero (deeper l) (taking l c)
zero_deeper part s c b r a = tt
zero_deeper own s c b r a = let z = r.own a.0 in (a.1, z.3, z.4, z.5)
zero_deeper second s c b r a = (a.1, a.2, a.3)
zero_deeper third s c b r a = (a.1, a.2)
zero_deeper fourth s c b r a = tt

pub zero_parts : (l : Level) (c : Cursor) → Whole l → At l c → (taking l c).parts ≡ 0
zero_parts part c k a = absurd k
zero_parts own c k a = a.1
zero_parts second c k a = a.1
zero_parts third c k a = a.1
zero_parts fourth c k a = a.1

pub taking_closed : (l : Level) (c : Cursor) → At l c → (taking l c).header ≡ false
taking_closed part c a = a.0
taking_closed own c a = refl
taking_closed second c a = a.0
taking_closed third c a = a.0
taking_closed fourth c a = a.0

pub other_taken : (l : Level) (c c' : Cursor) (b : Taken) (kind n : ℕ) → At l c → eqb kind 3 ≡ false → opening Member c c' kind n b ≡ begun l b
unfolding opening
other_taken l c c' b kind n a e = cond_no _ _ e ∙ begun_is l c b a

pub slot_whole : (l : Level) → Whole l → slot_at l ≡ Member
slot_whole part k = absurd k
slot_whole own k = refl
slot_whole second k = refl
slot_whole third k = refl
slot_whole fourth k = refl

pub parts_allowed : (c : Cursor) → kind_fault Member c 6 ≡ 0
unfolding kind_fault
parts_allowed c = refl

pub members_allowed : (c : Cursor) → c.fourth ≡ 0 → kind_fault Member c 7 ≡ 0
unfolding kind_fault deep
members_allowed c z = rw (eq-eqb c.fourth 0 z) refl
