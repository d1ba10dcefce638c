-- The first geometry of what is left is pending: off the lists, and not yet opened. That lists with it stand at a place is that it is pending
-- at the place without it, with the same numbers in the end. Assumes nothing.
use mathlib.Core.Path.{◌≡◌, refl, sym, ◌∙◌}
use mathlib.Core.Bool.{false, true≢false}
use mathlib.Core.List.{List, [], ◌∷◌, ◌++◌, map, flat_map, append_assoc, append-nil, map-append}
use Prim.Native.Nat.{ℕ, ◌+◌, ◌≤◌}
use native.Mathlib.Omega.{arith}
use lib.IntN.{ℤ, pos}
use lib.ListN.{length, drop, set, length-append}
use lib.Seq.{get_or-append_seam, set-append_seam}
use Rattle.plane.specs.Corners.{millimetres}
use Rattle.wkb.specs.declared.Cursor.{Cursor}
use Rattle.wkb.specs.Standard.{Geometry, ◌then◌, encode}
use Rattle.sheet.specs.Reading.{Taken, held}
use Rattle.sheet_standard.specs.Limits.{member_of, each, lengths, all_lengths}
use Rattle.sheet_standard.proofs.Standard.Left.{Left, left_bytes, left_open, BelowAt, Stands, Raw, front, left_numbers, outcome, millimetres_count, no_polygon}
use Rattle.sheet_standard.proofs.Standard.Levels.{Level, At, taking, begun, with_it, Fits, Inner, Inside, inside_members, inner, with_bytes, with_open, own_open, part, own, second, third, fourth}
use Rattle.sheet_standard.proofs.Standard.Entered.{below_without, below_with}

-- The geometry g is pending at the place d, with the lists w behind it.
pub record Pending (s : List ℕ) (d : Cursor) (g : Geometry) (w : Left) : Type 0 where
  pub below : BelowAt d w
  pub bytes : drop d.at s ≡ encode g ++ left_bytes w
  pub polygons_fit : d.polygons + length (member_of g ++ left_open w) ≤ 64
  pub total_fits : d.total + (lengths (member_of g ++ left_open w) + all_lengths (each member_of w.members)) ≤ 4096

unfoldable pub pending_outcome : Cursor → Taken → Geometry → Left → List ℤ
pending_outcome d b g w =
    map millimetres (set b.numbers b.mark (held (d.polygons + length (member_of g ++ left_open w)))) ++ left_numbers (member_of g ++ left_open w) w.members

pub taking_raw : (l : Level) (s : List ℕ) (c : Cursor) (b : Taken) → At l c → Raw s c b → Raw s (taking l c) (begun l b)
taking_raw part s c b a r = record { within = r.within; member = r.member; own = λ e. absurd (true≢false (sym e ∙ a.0)); many = r.many; total = r.total; marked = r.marked }
taking_raw own s c b a r = record {
  within = r.within;
  member = r.member;
  own = λ e. absurd (true≢false (sym e));
  many = r.many;
  total = r.total;
  marked = λ e. (omega (arith, length-append b.numbers (held 0 ∷ [])), get_or-append_seam b.numbers (held 0) [] 0 ∙ rw (r.own a.0).6 refl);
}
taking_raw fourth s c b a r = record { within = r.within; member = r.member; own = λ e. absurd (true≢false (sym e ∙ a.0)); many = r.many; total = r.total; marked = r.marked }
taking_raw third s c b a r = record { within = r.within; member = r.member; own = λ e. absurd (true≢false (sym e ∙ a.0)); many = r.many; total = r.total; marked = r.marked }
taking_raw second s c b a r = record { within = r.within; member = r.member; own = λ e. absurd (true≢false (sym e ∙ a.0)); many = r.many; total = r.total; marked = r.marked }

inside_begun : (l : Level) (b : Taken) → Inside l → begun l b ≡ b
inside_begun part b i = refl
inside_begun own b i = absurd i
inside_begun fourth b i = refl
inside_begun third b i = refl
inside_begun second b i = refl

inside_header : (l : Level) (c : Cursor) → Inside l → At l c → c.header ≡ false
inside_header part c i a = a.0
inside_header own c i a = absurd i
inside_header fourth c i a = a.0
inside_header third c i a = a.0
inside_header second c i a = a.0

module _ (s : List ℕ) (c : Cursor) (b : Taken) (g : Geometry) (w : Left) (r : Raw s c b) where
  pend_inside : (l : Level) → Inside l → At l c → Stands s c b [] [] (with_it l g w) → Pending s (taking l c) g w
  unfolding flat_map
  pend_inside l i a h =
      let k = (below_without l c g w a h.below).0 in
      let n = inner l s c b w r a k in
      record {
        below = k;
        bytes = h.polygon.bytes ∙ with_bytes l g w n;
        polygons_fit = rw (with_open l g w n i) at h.polygons_fit;
        total_fits = let t = rw (with_open l g w n i, inside_members l (λ gs. g then gs) w i) at h.total_fits in omega arith;
      }

  pub pend : (l : Level) → At l c → Stands s c b [] [] (with_it l g w) → Pending s (taking l c) g w
  unfolding flat_map left_open
  pend part a h = pend_inside part tt a h
  pend fourth a h = pend_inside fourth tt a h
  pend third a h = pend_inside third tt a h
  pend second a h = pend_inside second tt a h
  pend own a h =
      let k = (below_without own c g w a h.below).0 in
      let n = inner own s c b w r a k in
      let o : left_open w ≡ [] = own_open w n in
      record {
        below = k;
        bytes = h.polygon.bytes ∙ with_bytes own g w n;
        polygons_fit = rw (o, append-nil (member_of g), (r.own a.0).6) (let m = h.below.members_are.1.0.1 in omega arith);
        total_fits = rw (o, append-nil (member_of g)) (let t = h.total_fits in omega arith);
      }

  stood_inside : (l : Level) → Inside l → At l c → c.points ≡ 0 → c.rings ≡ 0 → Fits l g → Pending s (taking l c) g w → Stands s c b [] [] (with_it l g w)
  unfolding flat_map
  stood_inside l i a z z' f h =
      let n = inner l s c b w r a h.below in
      record {
        polygon = no_polygon z z' (h.bytes ∙ sym (with_bytes l g w n));
        below = below_with l c g w a f (let m = h.polygons_fit in let q = length-append (member_of g) (left_open w) in omega arith) h.below;
        polygons_fit = rw (with_open l g w n i) h.polygons_fit;
        total_fits = rw (with_open l g w n i, inside_members l (λ gs. g then gs) w i) (let t = h.total_fits in omega arith);
      }

  pub stood : (l : Level) → At l c → c.points ≡ 0 → c.rings ≡ 0 → Fits l g → Pending s (taking l c) g w → Stands s c b [] [] (with_it l g w)
  unfolding flat_map left_open
  stood part a z z' f h = stood_inside part tt a z z' f h
  stood fourth a z z' f h = stood_inside fourth tt a z z' f h
  stood third a z z' f h = stood_inside third tt a z z' f h
  stood second a z z' f h = stood_inside second tt a z z' f h
  stood own a z z' f h =
      let n = inner own s c b w r a h.below in
      let o : left_open w ≡ [] = own_open w n in
      record {
        polygon = no_polygon z z' (h.bytes ∙ sym (with_bytes own g w n));
        below = below_with own c g w a f (let m = h.polygons_fit in let q = length-append (member_of g) (left_open w) in omega arith) h.below;
        polygons_fit = rw o (let m = r.many in omega arith);
        total_fits = let t = rw (o, append-nil (member_of g)) at h.total_fits in rw o (omega arith);
      }

  outcome_inside : (l : Level) → Inside l → At l c → Inner l w → pending_outcome (taking l c) (begun l b) g w ≡ outcome c b [] [] (with_it l g w)
  unfolding flat_map outcome pending_outcome front
  outcome_inside l i a n = rw (with_open l g w n i, inside_members l (λ gs. g then gs) w i, inside_begun l b i, inside_header l c i a) refl

  pub pending_outcome_lem : (l : Level) → At l c → Inner l w → pending_outcome (taking l c) (begun l b) g w ≡ outcome c b [] [] (with_it l g w)
  unfolding flat_map outcome pending_outcome front left_numbers left_open
  pending_outcome_lem part a n = outcome_inside part tt a n
  pending_outcome_lem fourth a n = outcome_inside fourth tt a n
  pending_outcome_lem third a n = outcome_inside third tt a n
  pending_outcome_lem second a n = outcome_inside second tt a n
  pending_outcome_lem own a n =
      let k = length (member_of g) in
      let z : 0 + k ≡ k = omega arith in
      rw (a.0, own_open w n, append-nil (member_of g), (r.own a.0).6, z, set-append_seam b.numbers (held 0) [] (held k), map-append millimetres b.numbers (held k ∷ []), millimetres_count k)
      (append_assoc (map millimetres b.numbers) (pos k ∷ []) _)
