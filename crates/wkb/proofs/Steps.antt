-- Laws of the steps' definitions, which several proofs cite. Assumes nothing.
use borrow.Author.Tests.{lt-ltb, le-ltb, leb-true, eqb-true}
use mathlib.Core.Path.{◌≡◌, refl}
use mathlib.Core.Bool.{Bool, true, false, and-eq-true_iff}
use Prim.Native.Nat.{ℕ, ◌-◌, ◌<◌}
use native.Mathlib.Omega.{arith}
use lib.Dec.{leb, ltb}
use Rattle.whole.proofs.Tests.{by_equal, by_cond}
use Rattle.wkb.specs.declared.Cursor.{Cursor}
use Rattle.wkb_kinds.specs.declared.Slot.{Slot}
use Rattle.wkb_kinds.specs.declared.Slot.TheVariants.{Sheet, Table, Piece, Part, Member}
use Rattle.wkb.specs.Places.{moved, geometries_to_come, header_to_come, second_to_come, third_to_come, fourth_to_come}
use Rattle.wkb.specs.Steps.{popped, with_members, count_fits}

-- What one fewer leaves as it was; the member's own header is not to come then.
pub record Popped (c d : Cursor) : Type 0 where
  pub at : d.at ≡ c.at
  pub member : d.member ≡ c.member
  pub members : d.members ≡ c.members
  pub header : d.header ≡ false
  pub parts : d.parts ≡ c.parts
  pub rings : d.rings ≡ c.rings
  pub points : d.points ≡ c.points
  pub polygons : d.polygons ≡ c.polygons
  pub total : d.total ≡ c.total
  pub limit : d.limit ≡ c.limit

pub pops : (c : Cursor) → Popped c (popped c)
unfolding popped
pops c =
    by_equal (Popped c) c.header _ _ (λ e. kept refl) (λ e. by_cond (Popped c) (ltb 0 c.fourth) _ _ (λ t. kept e) (by_cond (Popped c) (ltb 0 c.third) _ _ (λ t. kept e) (kept e)))
  where
    kept : {header : Bool} {second third fourth : ℕ} → header ≡ false → Popped c (geometries_to_come header second third fourth c.parts c)
    kept e = record { at = refl; member = refl; members = refl; header = e; parts = refl; rings = refl; points = refl; polygons = refl; total = refl; limit = refl }

-- What one fewer is, by where it stands: the member's own, and in the open collections at depth 4, 3 and 2.
pub popped_own : (c : Cursor) → c.header ≡ true → popped c ≡ header_to_come false c
unfolding popped
popped_own c h = rw h

pub popped_fourth : (c : Cursor) → c.header ≡ false → 0 < c.fourth → popped c ≡ fourth_to_come (c.fourth - 1) c
unfolding popped
popped_fourth c h f = rw (h, lt-ltb 0 c.fourth f)

pub popped_third : (c : Cursor) → c.header ≡ false → c.fourth ≡ 0 → 0 < c.third → popped c ≡ third_to_come (c.third - 1) c
unfolding popped
popped_third c h f t = rw (h, le-ltb 0 c.fourth (omega arith), lt-ltb 0 c.third t)

pub popped_second : (c : Cursor) → c.header ≡ false → c.fourth ≡ 0 → c.third ≡ 0 → popped c ≡ second_to_come (c.second - 1) c
unfolding popped
popped_second c h f t = rw (h, le-ltb 0 c.fourth (omega arith), le-ltb 0 c.third (omega arith))

-- What holds at whatever depth the members of a collection are to come holds of the place where it is opened.
pub members_opened : (P : Cursor → Type 0) (stood : Cursor) (n : ℕ) (c : Cursor) → P (second_to_come n (moved 9 c)) → P (third_to_come n (moved 9 c)) → P (fourth_to_come n (moved 9 c)) → P (with_members stood n c)
unfolding with_members
members_opened P stood n c p q r = by_cond P stood.header _ _ (λ t. p) (by_cond P (ltb 0 stood.third) _ _ (λ t. r) q)

-- A count within its limits is not 0.
pub count_some : (limit : ℕ) (s : Slot) (n : ℕ) → count_fits limit s n ≡ true → 0 < n
unfolding count_fits
count_some limit Sheet n e = leb-true 1 n ((and-eq-true_iff (leb 1 n) (leb n limit)).0 e).0
count_some limit Table n e = let h = leb-true 2 n ((and-eq-true_iff (leb 2 n) (leb n 1024)).0 e).0 in omega arith
count_some limit Piece n e = let h = eqb-true n 1 e in omega arith
count_some limit Part n e = leb-true 1 n ((and-eq-true_iff (leb 1 n) (leb n 64)).0 e).0
count_some limit Member n e = leb-true 1 n ((and-eq-true_iff (leb 1 n) (leb n 64)).0 e).0
