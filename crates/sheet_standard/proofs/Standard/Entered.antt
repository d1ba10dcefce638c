-- Putting the parts of a MultiPolygon or the members of a collection into the lists of what is left, as a level where nothing was left before; the place after
-- its header, whose lists are such; and the counts and limits of lists of which one level is changed. Assumes nothing.
use mathlib.Core.Path.{◌≡◌, refl, sym, ◌∙◌}
use mathlib.Core.List.{◌++◌, append-nil}
use Prim.Native.Nat.{ℕ, suc, ◌+◌, ◌-◌, ◌≤◌}
use native.Mathlib.Omega.{arith}
use lib.ListN.{length}
use Rattle.wkb.specs.declared.Cursor.{Cursor}
use Rattle.wkb.specs.Places.{moved, geometries_to_come}
use Rattle.wkb.specs.Standard.{Geometry, Geometries, none, ◌then◌, count, encode_all}
use Rattle.wkb.proofs.Complete.{Complete}
use Rattle.sheet_standard.specs.Limits.{member_of, members_of, Each, PartFits, MembersFit}
use Rattle.sheet_standard.proofs.Standard.Left.{Left, left_bytes, left_open, Group, BelowAt, none_left}
use Rattle.sheet_standard.proofs.Standard.Levels.{Level, At, parts_at, fourth_at, third_at, second_at, taking, on_level, with_it, Fits, Inside, part, own, second, third, fourth}

-- Its parts or members become the lists' level l.
abbrev pub put : Level → Geometries → Left → Left
put l gs w = on_level l (λ x. gs) w

-- The place after its header.
abbrev pub entered : Level → ℕ → Cursor → Cursor
entered l n d = geometries_to_come d.header (second_at l (λ m. n) d.second) (third_at l (λ m. n) d.third) (fourth_at l (λ m. n) d.fourth) (parts_at l (λ m. n) d.parts) (moved 9 d)

-- What its parts or members may be.
abbrev pub Children : Level → Geometries → Type 0
Children part gs = Each PartFits gs
Children own gs = ⊥
Children fourth gs = MembersFit gs 1
Children third gs = MembersFit gs 2
Children second gs = MembersFit gs 3

-- Nothing is left at the level and inside.
abbrev pub Vacant : Level → Left → Type 0
Vacant part w = w.parts ≡ none
Vacant own w = Unit {0}
Vacant fourth w = (w.parts ≡ none) × (w.fourth ≡ none)
Vacant third w = (w.parts ≡ none) × (w.fourth ≡ none) × (w.third ≡ none)
Vacant second w = (w.parts ≡ none) × (w.fourth ≡ none) × (w.third ≡ none) × (w.second ≡ none)

pub put_bytes : (l : Level) (gs : Geometries) (w : Left) → Inside l → Vacant l w → left_bytes (put l gs w) ≡ encode_all gs ++ left_bytes w
unfolding left_bytes encode_all
put_bytes part gs w i n = rw n refl
put_bytes own gs w i n = absurd i
put_bytes fourth gs w i n = rw (n.0, n.1) refl
put_bytes third gs w i n = rw (n.0, n.1, n.2) refl
put_bytes second gs w i n = rw (n.0, n.1, n.2, n.3) refl

pub put_open : (l : Level) (gs : Geometries) (w : Left) → Inside l → Vacant l w → left_open (put l gs w) ≡ members_of gs ++ left_open w
unfolding left_open members_of
put_open part gs w i n = rw n refl
put_open own gs w i n = absurd i
put_open fourth gs w i n = rw (n.0, n.1) refl
put_open third gs w i n = rw (n.0, n.1, n.2) refl
put_open second gs w i n = rw (n.0, n.1, n.2, n.3) (sym (append-nil (members_of gs)))

-- ---- the counts and limits of the lists
-- With the level put in.
pub below_put : (l : Level) (n : ℕ) (d : Cursor) (gs : Geometries) (w : Left) → Group (Children l) n gs → BelowAt d w → BelowAt (entered l n d) (put l gs w)
below_put part n d gs w k h = record { parts_are = k; fourth_are = h.fourth_are; third_are = h.third_are; second_are = h.second_are; members_are = h.members_are }
below_put own n d gs w k h = absurd k.1
below_put fourth n d gs w k h = record { parts_are = h.parts_are; fourth_are = k; third_are = h.third_are; second_are = h.second_are; members_are = h.members_are }
below_put third n d gs w k h = record { parts_are = h.parts_are; fourth_are = h.fourth_are; third_are = k; second_are = h.second_are; members_are = h.members_are }
below_put second n d gs w k h = record { parts_are = h.parts_are; fourth_are = h.fourth_are; third_are = h.third_are; second_are = k; members_are = h.members_are }

-- Without the first geometry, and with it.
pub below_without : (l : Level) (c : Cursor) (g : Geometry) (w : Left) → At l c → BelowAt c (with_it l g w) → BelowAt (taking l c) w × Fits l g
unfolding MembersFit
below_without part c g w a h = let n = h.parts_are.0 in (below_put part (c.parts - 1) c w.parts (with_it part g w) (omega arith, h.parts_are.1.1) h, h.parts_are.1.0)
below_without own c g w a h =
    let n : suc (count w.members) ≡ c.members + 1 = rw a.0 at h.members_are.0 in
    (record { parts_are = h.parts_are; fourth_are = h.fourth_are; third_are = h.third_are; second_are = h.second_are; members_are = (omega arith, h.members_are.1.1) }, h.members_are.1.0.0)
below_without fourth c g w a h = let n = h.fourth_are.0 in (below_put fourth (c.fourth - 1) c w.fourth (with_it fourth g w) (omega arith, h.fourth_are.1.1) h, h.fourth_are.1.0)
below_without third c g w a h = let n = h.third_are.0 in (below_put third (c.third - 1) c w.third (with_it third g w) (omega arith, h.third_are.1.1) h, h.third_are.1.0)
below_without second c g w a h = let n = h.second_are.0 in (below_put second (c.second - 1) c w.second (with_it second g w) (omega arith, h.second_are.1.1) h, h.second_are.1.0)

pub below_with : (l : Level) (c : Cursor) (g : Geometry) (w : Left) → At l c → Fits l g → length (member_of g) ≤ 64 → BelowAt (taking l c) w → BelowAt c (with_it l g w)
unfolding MembersFit
below_with part c g w a f m h = let n = h.parts_are.0 in let z = a.1 in below_put part c.parts (taking part c) (g then w.parts) w (omega arith, (f, h.parts_are.1)) h
below_with own c g w a f m h =
    let n : count w.members ≡ c.members + 0 = h.members_are.0 in
    record { parts_are = h.parts_are; fourth_are = h.fourth_are; third_are = h.third_are; second_are = h.second_are; members_are = (rw a.0 (omega arith), ((f, m), h.members_are.1)) }
below_with fourth c g w a f m h = let n = h.fourth_are.0 in let z = a.2 in below_put fourth c.fourth (taking fourth c) (g then w.fourth) w (omega arith, (f, h.fourth_are.1)) h
below_with third c g w a f m h = let n = h.third_are.0 in let z = a.3 in below_put third c.third (taking third c) (g then w.third) w (omega arith, (f, h.third_are.1)) h
below_with second c g w a f m h = let n = h.second_are.0 in let z = a.4 in below_put second c.second (taking second c) (g then w.second) w (omega arith, (f, h.second_are.1)) h

-- No parts and members are left at the place at the level and inside.
abbrev pub Zero : Level → Cursor → Type 0
Zero part d = d.parts ≡ 0
Zero own d = Unit {0}
Zero fourth d = (d.parts ≡ 0) × (d.fourth ≡ 0)
Zero third d = (d.parts ≡ 0) × (d.fourth ≡ 0) × (d.third ≡ 0)
Zero second d = (d.parts ≡ 0) × (d.fourth ≡ 0) × (d.third ≡ 0) × (d.second ≡ 0)

pub vacant : (l : Level) (d : Cursor) (w : Left) → Zero l d → BelowAt d w → Vacant l w
vacant part d w z h = none_left w.parts (h.parts_are.0 ∙ z)
vacant own d w z h = tt
vacant fourth d w z h = (none_left w.parts (h.parts_are.0 ∙ z.0), none_left w.fourth (h.fourth_are.0 ∙ z.1))
vacant third d w z h = (none_left w.parts (h.parts_are.0 ∙ z.0), none_left w.fourth (h.fourth_are.0 ∙ z.1), none_left w.third (h.third_are.0 ∙ z.2))
vacant second d w z h = (none_left w.parts (h.parts_are.0 ∙ z.0), none_left w.fourth (h.fourth_are.0 ∙ z.1), none_left w.third (h.third_are.0 ∙ z.2), none_left w.second (h.second_are.0 ∙ z.3))

-- The lists of a place just entered are those before with the level put in.
pub record Got (l : Level) (n : ℕ) (d : Cursor) (v : Left) : Type 0 where
  pub gs : Geometries
  pub w : Left
  pub is : put l gs w ≡ v
  pub below : BelowAt d w
  pub are : Group (Children l) n gs

pub got : (l : Level) (n : ℕ) (d : Cursor) (v : Left) → Inside l → Zero l d → BelowAt (entered l n d) v → Got l n d v
unfolding MembersFit
got part n d v i z h = record { gs = v.parts; w = put part none v; is = refl; are = h.parts_are; below = below_put part d.parts (entered part n d) none v (sym z, tt) h }
got own n d v i z h = absurd i
got fourth n d v i z h = record { gs = v.fourth; w = put fourth none v; is = refl; are = h.fourth_are; below = below_put fourth d.fourth (entered fourth n d) none v (sym z.1, tt) h }
got third n d v i z h = record { gs = v.third; w = put third none v; is = refl; are = h.third_are; below = below_put third d.third (entered third n d) none v (sym z.2, tt) h }
got second n d v i z h = record { gs = v.second; w = put second none v; is = refl; are = h.second_are; below = below_put second d.second (entered second n d) none v (sym z.3, tt) h }

-- A place just entered is not complete.
pub entered_going : (l : Level) (n : ℕ) (d : Cursor) → Inside l → 1 ≤ n → Complete (entered l n d) → ⊥
entered_going part n d i h k = let z = k.no_parts in omega arith
entered_going own n d i h k = i
entered_going fourth n d i h k = let z = k.no_fourth in omega arith
entered_going third n d i h k = let z = k.no_third in omega arith
entered_going second n d i h k = let z = k.no_second in omega arith
