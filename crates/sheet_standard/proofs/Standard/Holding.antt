-- Opening a pending MultiPolygon or collection: its parts or members become a level of the lists of what is left, both ways. Assumes nothing.
use mathlib.Core.Path.{◌≡◌, refl, sym, ◌∙◌, ap}
use mathlib.Core.Bool.{Bool, false, true≢false}
use mathlib.Core.List.{List, [], ◌++◌, flat_map, append_assoc}
use Prim.Native.Nat.{ℕ, ◌+◌, ◌≤◌}
use native.Mathlib.Omega.{arith}
use lib.ListN.{length, drop}
use Rattle.wkb.specs.declared.Cursor.{Cursor}
use Rattle.wkb_kinds.specs.declared.Kind.{Kind}
use Rattle.wkb.specs.Standard.{holding, Geometries, count, encode, encode_all}
use Rattle.wkb.proofs.Complete.{is_complete}
use Rattle.wkb_kinds.specs.Kinds.{type_of}
use Rattle.sheet.specs.Reading.{Taken}
use Rattle.sheet_standard.specs.Limits.{member_of}
use Rattle.sheet_standard.proofs.Standard.Fields.{heading, heading_is}
use Rattle.sheet_standard.proofs.Standard.Left.{Left, left_bytes, BelowAt, Stands, Raw, Good, front, outcome, no_polygon}
use Rattle.sheet_standard.proofs.Standard.Levels.{Level, Inside, inside_members}
use Rattle.sheet_standard.proofs.Standard.Pending.{Pending, pending_outcome}
use Rattle.sheet_standard.proofs.Standard.Entered.{put, entered, Children, put_bytes, put_open, below_put, Zero, vacant, entered_going}

module _ (s : List ℕ) (d : Cursor) (b : Taken) (r : Raw s d b) (closed : d.header ≡ false) (l : Level) (i : Inside l) (z : Zero l d) (n : ℕ) (one : 1 ≤ n) (little : Bool) (kind : Kind) (nine : d.at + 9 ≤ length s) where
  pub holding_good : Good s (entered l n d) b
  holding_good = record {
    raw = record { within = nine; member = r.member; own = λ e. absurd (true≢false (sym e ∙ closed)); many = r.many; total = r.total; marked = r.marked };
    going = λ e. absurd (entered_going l n d i one (is_complete (entered l n d) e));
  }

  module _ (gs : Geometries) (w : Left) (number : count gs ≡ n) (fit : Children l gs) (below : BelowAt d w) where
    pub holding_outcome : outcome (entered l n d) b [] [] (put l gs w) ≡ pending_outcome d b (holding little kind gs) w
    unfolding outcome pending_outcome front flat_map member_of
    holding_outcome = rw (closed, put_open l gs w i (vacant l d w z below), inside_members l (λ x. gs) w i) refl

    pub holding_stands : d.points ≡ 0 → d.rings ≡ 0 → drop (d.at + 9) s ≡ encode_all gs ++ left_bytes w → Pending s d (holding little kind gs) w → Stands s (entered l n d) b [] [] (put l gs w)
    unfolding flat_map member_of
    holding_stands p q e h =
        let v = vacant l d w z below in
        record {
          polygon = no_polygon p q (e ∙ sym (put_bytes l gs w i v));
          below = below_put l n d gs w (number, fit) below;
          polygons_fit = rw (put_open l gs w i v) h.polygons_fit;
          total_fits = rw (put_open l gs w i v, inside_members l (λ x. gs) w i) (let t = h.total_fits in omega arith);
        }

    pub holding_pends : drop d.at s ≡ heading little (type_of kind) n ++ drop (d.at + 9) s → Stands s (entered l n d) b [] [] (put l gs w) → Pending s d (holding little kind gs) w
    unfolding flat_map member_of encode
    holding_pends e h =
        let v = vacant l d w z below in
        record {
          below = below;
          bytes = e ∙ ap (λ l. heading little (type_of kind) n ++ l) (h.polygon.bytes ∙ put_bytes l gs w i v)
              ∙ rw (heading_is little kind (count gs), number) (sym (append_assoc (heading little (type_of kind) n) (encode_all gs) (left_bytes w)));
          polygons_fit = rw (put_open l gs w i v) at h.polygons_fit;
          total_fits = let t = rw (put_open l gs w i v, inside_members l (λ x. gs) w i) at h.total_fits in omega arith;
        }
