-- A place whose member is complete names the next member (`renewed`), which changes none of the lists of what is left: neither that they
-- stand there nor the numbers in the end. Assumes nothing.
use mathlib.Core.Path.{◌≡◌, refl}
use mathlib.Core.Bool.{true, ◌&&◌, true≢false}
use mathlib.Core.List.{List, []}
use Prim.Native.Nat.{ℕ, ◌+◌, ◌-◌, ◌≤◌}
use native.Mathlib.Omega.{arith}
use borrow.Author.Tests.{ltb-true, ltb-false}
use lib.Dec.{ltb}
use lib.Seq.{set-get_or}
use Rattle.whole.specs.Sums.{bit}
use Rattle.whole.proofs.Tests.{by_equal}
use Rattle.sheet_coordinate.proofs.Doubles.{and_true}
use Rattle.wkb.specs.declared.Cursor.{Cursor}
use Rattle.wkb.specs.Places.{naming, header_to_come, polygons_begun}
use Rattle.wkb.specs.Standard.{Pair}
use Rattle.wkb.specs.Steps.{complete, renewed, up_to}
use Rattle.wkb.proofs.Complete.{Complete, is_complete}
use Rattle.sheet.specs.Reading.{Taken}
use Rattle.sheet_standard.proofs.Standard.Left.{Left, left_open, BelowAt, Stands, Raw, Good, front, outcome}
use Rattle.sheet_standard.proofs.Standard.Levels.{own_open, second}
use Rattle.sheet_standard.proofs.Standard.Entered.{vacant}

-- ---- a complete member gives way to the next
no_less : (limit n : ℕ) → n ≤ up_to limit n
no_less limit n = by_equal (λ (m : ℕ). n ≤ m) (ltb n limit) _ _ (λ e. omega arith) (λ e. omega arith)

-- The place of the next member.
abbrev next_member : Cursor → Cursor
next_member c = header_to_come true (polygons_begun 0 (naming (up_to c.limit c.member) (c.members - 1) c))

pub renew_good : (s : List ℕ) (c : Cursor) (b : Taken) → Raw s c b → Good s (renewed c) b
unfolding renewed
renew_good s c b r = by_equal (λ (d : Cursor). Good s d b) (complete c && ltb 0 c.members) (next_member c) c
    (λ e.
    let h = is_complete c (and_true _ _ e).0 in
    record {
      raw = record {
        within = r.within;
        member = omega (arith, r.member, no_less c.limit c.member);
        many = omega arith;
        total = r.total;
        own = λ f. (h.no_points, h.no_rings, h.no_parts, h.no_fourth, h.no_third, h.no_second, refl);
        marked = λ f. absurd (true≢false f);
      };
      going = λ f. absurd (true≢false (is_complete _ f).no_header);
    })
    (λ e. record { raw = r; going = λ f. let l = ltb-false 0 c.members (rw f at e) in omega arith })

complete_open : (c : Cursor) (w : Left) → Complete c → BelowAt c w → left_open w ≡ []
complete_open c w k h = own_open w (vacant second c w (k.no_parts, k.no_fourth, k.no_third, k.no_second) h)

-- The member whose header is to come is one of those to come.
gives_way : (c : Cursor) → (complete c && ltb 0 c.members) ≡ true → Complete c × (c.members + bit c.header ≡ c.members - 1 + 1)
gives_way c e =
    let b = and_true (complete c) (ltb 0 c.members) e in
    let k = is_complete c b.0 in
    let m = ltb-true 0 c.members b.1 in
    (k, rw k.no_header (omega arith))

module _ (s : List ℕ) (c : Cursor) (b : Taken) (ps : List Pair) (rs : List (List Pair)) (w : Left) (r : Raw s c b) where
  pub renew_stands : Stands s c b ps rs w → Stands s (renewed c) b ps rs w
  unfolding renewed
  renew_stands h = by_equal (λ (d : Cursor). Stands s d b ps rs w) (complete c && ltb 0 c.members) (next_member c) c
      (λ e.
      let k = gives_way c e in
      record { polygon = h.polygon; below = rw k.1 at h.below; polygons_fit = rw (complete_open c w k.0 h.below) (omega arith); total_fits = h.total_fits })
      (λ e. h)

  pub renew_back : Stands s (renewed c) b ps rs w → Stands s c b ps rs w
  unfolding renewed
  renew_back = by_equal (λ (d : Cursor). Stands s d b ps rs w → Stands s c b ps rs w) (complete c && ltb 0 c.members) (next_member c) c
      (λ e h.
      let k = gives_way c e in
      let l : BelowAt c w = rw k.1 h.below in
      record { polygon = h.polygon; below = l; polygons_fit = rw (complete_open c w k.0 l) (omega (arith, r.many)); total_fits = h.total_fits })
      (λ e h. h)

  pub renew_outcome : Stands s c b ps rs w → outcome (renewed c) b ps rs w ≡ outcome c b ps rs w
  unfolding renewed outcome front
  renew_outcome h = by_equal (λ (d : Cursor). outcome d b ps rs w ≡ outcome c b ps rs w) (complete c && ltb 0 c.members) (next_member c) c
      (λ e.
      let k = (gives_way c e).0 in
      let m = r.marked k.no_header in
      let z : c.polygons + 0 ≡ c.polygons = omega arith in
      rw (complete_open c w k h.below, k.no_header, z, ← m.1, set-get_or b.numbers b.mark 0) refl)
      (λ e. refl)
