-- Taking the first geometry off the lists of what is left under a member. The idea: it stands at one of five levels, as a part of the open
-- MultiPolygon, as the member itself, or in the open collection at depth 2, 3 or 4; nothing is left at the levels inside, so its bytes
-- come first, and what it unfolds to comes before the other polygons of the member. Assumes nothing.
use mathlib.Core.Path.{◌≡◌, refl, ◌∙◌}
use mathlib.Core.Bool.{Bool, true, false}
use mathlib.Core.List.{List, [], ◌++◌, append_assoc}
use Prim.Native.Nat.{ℕ, ◌-◌, ◌<◌}
use Rattle.wkb.specs.declared.Cursor.{Cursor}
use Rattle.wkb.specs.Places.{geometries_to_come}
use Rattle.wkb.specs.Standard.{Geometry, Geometries, none, ◌then◌, encode, encode_all}
use Rattle.wkb.specs.Steps.{popped}
use Rattle.wkb.proofs.Steps.{popped_own, popped_fourth, popped_third, popped_second}
use Rattle.sheet.specs.Reading.{Taken, begin}
use Rattle.sheet_standard.specs.Limits.{member_of, members_of, PartFits, MemberFits}
use Rattle.sheet_standard.proofs.Standard.Left.{Left, left_bytes, left_open, BelowAt, Raw, none_left}

pub data Level : Type 0 where
  part own second third fourth : Level

-- The next geometry stands at the level.
abbrev pub At : Level → Cursor → Type 0
At part c = (c.header ≡ false) × (0 < c.parts)
At own c = (c.header ≡ true) × (c.parts ≡ 0)
At fourth c = (c.header ≡ false) × (c.parts ≡ 0) × (0 < c.fourth)
At third c = (c.header ≡ false) × (c.parts ≡ 0) × (c.fourth ≡ 0) × (0 < c.third)
At second c = (c.header ≡ false) × (c.parts ≡ 0) × (c.fourth ≡ 0) × (c.third ≡ 0) × (0 < c.second)

-- The place without it.
abbrev header_without : Level → Bool → Bool
header_without part h = h
header_without own h = false
header_without fourth h = h
header_without third h = h
header_without second h = h

-- A count with f done at the level.
abbrev pub parts_at : Level → (ℕ → ℕ) → ℕ → ℕ
parts_at part f n = f n
parts_at own f n = n
parts_at fourth f n = n
parts_at third f n = n
parts_at second f n = n

abbrev pub fourth_at : Level → (ℕ → ℕ) → ℕ → ℕ
fourth_at part f n = n
fourth_at own f n = n
fourth_at fourth f n = f n
fourth_at third f n = n
fourth_at second f n = n

abbrev pub third_at : Level → (ℕ → ℕ) → ℕ → ℕ
third_at part f n = n
third_at own f n = n
third_at fourth f n = n
third_at third f n = f n
third_at second f n = n

abbrev pub second_at : Level → (ℕ → ℕ) → ℕ → ℕ
second_at part f n = n
second_at own f n = n
second_at fourth f n = n
second_at third f n = n
second_at second f n = f n

abbrev pub taking : Level → Cursor → Cursor
taking l c = geometries_to_come (header_without l c.header) (second_at l (λ n. n - 1) c.second) (third_at l (λ n. n - 1) c.third) (fourth_at l (λ n. n - 1) c.fourth) (parts_at l (λ n. n - 1) c.parts) c

-- What was taken, then: the member's own geometry begins the member.
abbrev pub begun : Level → Taken → Taken
begun part b = b
begun own b = begin b
begun fourth b = b
begun third b = b
begun second b = b

-- The lists with f done at the level, and with the geometry.
abbrev pub on_level : Level → (Geometries → Geometries) → Left → Left
on_level part f w = record { parts = f w.parts; fourth = w.fourth; third = w.third; second = w.second; members = w.members }
on_level own f w = record { parts = w.parts; fourth = w.fourth; third = w.third; second = w.second; members = f w.members }
on_level fourth f w = record { parts = w.parts; fourth = f w.fourth; third = w.third; second = w.second; members = w.members }
on_level third f w = record { parts = w.parts; fourth = w.fourth; third = f w.third; second = w.second; members = w.members }
on_level second f w = record { parts = w.parts; fourth = w.fourth; third = w.third; second = f w.second; members = w.members }

abbrev pub with_it : Level → Geometry → Left → Left
with_it l g w = on_level l (λ gs. g then gs) w

-- What it may be.
abbrev pub Fits : Level → Geometry → Type 0
Fits part g = PartFits g
Fits own g = MemberFits g 3
Fits second g = MemberFits g 2
Fits third g = MemberFits g 1
Fits fourth g = MemberFits g 0

-- Nothing is left at the levels inside.
abbrev pub Inner : Level → Left → Type 0
Inner part w = Unit {0}
Inner fourth w = w.parts ≡ none
Inner third w = (w.parts ≡ none) × (w.fourth ≡ none)
Inner second w = (w.parts ≡ none) × (w.fourth ≡ none) × (w.third ≡ none)
Inner own w = (w.parts ≡ none) × (w.fourth ≡ none) × (w.third ≡ none) × (w.second ≡ none)

-- A member is open there.
abbrev pub Inside : Level → Type 0
Inside part = Unit {0}
Inside own = ⊥
Inside fourth = Unit {0}
Inside third = Unit {0}
Inside second = Unit {0}

pub inside_members : (l : Level) (f : Geometries → Geometries) (w : Left) → Inside l → (on_level l f w).members ≡ w.members
inside_members part f w i = refl
inside_members own f w i = absurd i
inside_members fourth f w i = refl
inside_members third f w i = refl
inside_members second f w i = refl

pub inner : (l : Level) (s : List ℕ) (c : Cursor) (b : Taken) (w : Left) → Raw s c b → At l c → BelowAt (taking l c) w → Inner l w
inner part s c b w r a h = tt
inner own s c b w r a h =
    let z = r.own a.0 in
    (none_left w.parts (h.parts_are.0 ∙ a.1), none_left w.fourth (h.fourth_are.0 ∙ z.3), none_left w.third (h.third_are.0 ∙ z.4), none_left w.second (h.second_are.0 ∙ z.5))
inner fourth s c b w r a h = none_left w.parts (h.parts_are.0 ∙ a.1)
inner third s c b w r a h = (none_left w.parts (h.parts_are.0 ∙ a.1), none_left w.fourth (h.fourth_are.0 ∙ a.2))
inner second s c b w r a h = (none_left w.parts (h.parts_are.0 ∙ a.1), none_left w.fourth (h.fourth_are.0 ∙ a.2), none_left w.third (h.third_are.0 ∙ a.3))

pub with_bytes : (l : Level) (g : Geometry) (w : Left) → Inner l w → left_bytes (with_it l g w) ≡ encode g ++ left_bytes w
unfolding left_bytes encode_all
with_bytes part g w n = append_assoc (encode g) (encode_all w.parts) _
with_bytes own g w n = rw (n.0, n.1, n.2, n.3) refl
with_bytes fourth g w n = rw n (append_assoc (encode g) (encode_all w.fourth) (encode_all w.third ++ (encode_all w.second ++ encode_all w.members)))
with_bytes third g w n = rw (n.0, n.1) (append_assoc (encode g) (encode_all w.third) (encode_all w.second ++ encode_all w.members))
with_bytes second g w n = rw (n.0, n.1, n.2) (append_assoc (encode g) (encode_all w.second) (encode_all w.members))

-- The polygons of the open member; of the sheet's next member where its header is to come.
pub with_open : (l : Level) (g : Geometry) (w : Left) → Inner l w → Inside l → left_open (with_it l g w) ≡ member_of g ++ left_open w
unfolding left_open members_of
with_open part g w n f = append_assoc (member_of g) (members_of w.parts) _
with_open own g w n f = absurd f
with_open fourth g w n f = rw n (append_assoc (member_of g) (members_of w.fourth) (members_of w.third ++ members_of w.second))
with_open third g w n f = rw (n.0, n.1) (append_assoc (member_of g) (members_of w.third) (members_of w.second))
with_open second g w n f = rw (n.0, n.1, n.2) refl

-- Where nothing of the member is left, none of its polygons are.
pub own_open : (w : Left) → Inner own w → left_open w ≡ []
unfolding left_open members_of
own_open w n = rw (n.0, n.1, n.2, n.3) refl

pub popped_is : (l : Level) (c : Cursor) → At l c → (l ≡ part → ⊥) → popped c ≡ taking l c
popped_is part c a f = absurd (f refl)
popped_is own c a f = popped_own c a.0
popped_is fourth c a f = popped_fourth c a.0 a.2
popped_is third c a f = popped_third c a.0 a.2 a.3
popped_is second c a f = popped_second c a.0 a.2 a.3
