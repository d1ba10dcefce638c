-- The polygons of a sheet judged one after the other: with the sets found so far in front, what is left to judge comes to what all come to.
-- Assumes nothing.
use mathlib.Core.Path.{◌≡◌, refl, sym, ◌∙◌, ap, subst}
use mathlib.Core.Bool.{Bool}
use mathlib.Core.List.{List, [], ◌∷◌, ◌++◌, map, flat_map, append_assoc}
use Prim.Native.Nat.{ℕ, suc, ◌+◌, ◌^◌, ◌≤◌, ◌<◌}
use native.Mathlib.Omega.{arith}
use native.Mathlib.Numerals.{add-one}
use lib.IntN.{ℤ}
use lib.ListN.{length, get_or, take, drop, replicate, length-append}
use lib.Seq.{length-take-le}
use Rattle.whole.specs.Sums.{All}
use Rattle.plane.specs.Points.{Triangle}
use Rattle.plane.specs.Members.{Member, member_edges}
use Rattle.plane.specs.Corners.{millimetres}
use Rattle.std.specs.Prelude.{Result, Ok, Err}
use Rattle.lent.specs.Stages.{Answer, value, refused, and_then}
use Rattle.lent.specs.Refusals.{code_of, refused_as}
use Rattle.lent.specs.declared.Refusal.{Refusal}
use Rattle.sheet_form.specs.Numbers.{member_numbers}
use Rattle.sheet_edges.specs.declared.Laid.{Laid}
use Rattle.sheet_edges.specs.Standing.{LaysDown}
use Rattle.sheet_edges.proofs.Walk.{count_first}
use Rattle.table_count.specs.Counting.{Edged}
use Rattle.owners_marks.specs.Sets.{owner_sets, marked}
use Rattle.owners_marks.proofs.Owning.{owner_sets_more, owner_sets_below}
use Rattle.owners_marks.proofs.Owners.{length_owner_sets}
use Rattle.owners.specs.Judging.{judge}
use Rattle.owners.specs.Owners.{stage_of, judge_from}
use Rattle.judged_sets.specs.Owning.{PolygonAt, PolygonsAt, EdgeRoom, TurnOf, held_sets}
use Rattle.judged_sets.proofs.Room.{edges_room}

-- ---- the edges of one polygon
module _ {numbers : List ℕ} {at : ℕ} {from₀ to₀ from to : List ℕ} {r : Laid} {m : Member} {rest : List ℤ} where
  -- As many edges as are laid down have room in both lists.
  pub laid_room : LaysDown numbers at from₀ to₀ from to r → PolygonAt numbers at m rest → EdgeRoom numbers from₀ → EdgeRoom numbers to₀ → (r.fill ≤ length from) × (r.fill ≤ length to)
  laid_room d s f t = let e = d.many m rest s.numbers_at in (omega (arith, e, edges_room from₀ s f, d.from_length), omega (arith, e, edges_room to₀ s t, d.to_length))

  -- What is laid down are edges from corners to corners.
  pub laid_edged : LaysDown numbers at from₀ to₀ from to r → PolygonAt numbers at m rest → EdgeRoom numbers from₀ → EdgeRoom numbers to₀ → Edged (take r.fill from) (take r.fill to)
  laid_edged d s f t =
      let w = laid_room d s f t in
      let a = length-take-le r.fill from w.0 in
      let b = length-take-le r.fill to w.1 in
      let e = d.many m rest s.numbers_at in record { from_keys = d.from_keys; to_keys = d.to_keys; as_many = b ∙ sym a; few = omega (arith, a, e, s.few) }

-- ---- the sets found so far
-- The sets found so far, in front of what is to come.
abbrev pub before : List (List Bool) → Answer (List (List Bool)) → Answer (List (List Bool))
before [] o = o
before (s ∷ l) o = and_then (before l o) (λ sets. value (s ∷ sets))

-- One more set is the last of those found so far.
pub before_more : (l : List (List Bool)) (s : List Bool) (o : Answer (List (List Bool))) → before l (and_then o (λ sets. value (s ∷ sets))) ≡ before (l ++ s ∷ []) o
before_more [] s o = refl
before_more (r ∷ l) s o = ap (λ a. and_then a (λ sets. value (r ∷ sets))) (before_more l s o)

-- What is refused behind them is refused.
pub before_refused : (l : List (List Bool)) (code item : ℕ) → before l (refused code item) ≡ refused code item
before_refused [] code item = refl
before_refused (s ∷ l) code item = ap (λ a. and_then a (λ sets. value (s ∷ sets))) (before_refused l code item)

-- With nothing to come they are what all polygons come to.
pub before_all : (l : List (List Bool)) → before l (value []) ≡ value l
before_all [] = refl
before_all (s ∷ l) = ap (λ a. and_then a (λ sets. value (s ∷ sets))) (before_all l)

all_more : {A : Type 0} (P : A → Type 0) (l : List A) (a : A) → All P l → P a → All P (l ++ a ∷ [])
all_more P [] a h p = (p, tt)
all_more P (b ∷ l) a h p = (h.0, all_more P l a h.1 p)

-- While the polygons ms are judged: of the first k the sets are found and marked, and the others stand at the place, one behind the other.
pub record Following (table : List Triangle) (numbers : List ℕ) (ms : List Member) (rest : List ℤ) (at k : ℕ) (marks : List ℕ) : Type 0 where
  pub done : List (List Bool)
  pub todo : List Member
  pub many : length done ≡ k
  pub each : All (λ s. length s ≡ length table) done
  pub left : k + length todo ≡ length ms
  pub few : All (λ m. length (member_edges m) ≤ 4096) todo
  pub stand : map millimetres (drop at numbers) ≡ flat_map member_numbers todo ++ rest
  pub comes : judge_from table 1 ms ≡ before done (judge_from table (suc k) todo)
  pub marks_are : marks ≡ owner_sets (length table) done

-- What polygon k, at the place, is judged as.
abbrev pub Turns : List Triangle → List ℕ → ℕ → ℕ → Result ℕ Refusal → List Bool → Type 0
Turns table numbers at k r labels = (m : Member) (rest : List ℤ) → PolygonAt numbers at m rest → TurnOf table numbers k m rest r labels

-- The count of the polygons is held at their place, and fits.
pub polygons_count : {numbers : List ℕ} {at : ℕ} {ms : List Member} {rest : List ℤ} → PolygonsAt numbers at ms rest
    → (at < length numbers) × (get_or numbers at 0 ≡ length ms + 10_000_000)
polygons_count {numbers} {at} {ms} {rest} p = let w = count_first member_numbers numbers at ms rest p.stand in (w.0, w.1)

module _ {table : List Triangle} {numbers : List ℕ} {ms : List Member} {rest : List ℤ} where
  -- Before the first polygon no set is found.
  pub following_none : {at : ℕ} {marks : List ℕ} → PolygonsAt numbers at ms rest → marks ≡ replicate (length table) 0 → Following table numbers ms rest (at + 1) 0 marks
  following_none {at} p e =
      record {
        done = [];
        todo = ms;
        many = refl;
        each = tt;
        left = omega arith;
        few = p.few;
        stand = (count_first member_numbers numbers at ms rest p.stand).2;
        comes = refl;
        marks_are = e;
      }

  module _ {at k : ℕ} {marks : List ℕ} (w : Following table numbers ms rest at k marks) where
    -- The sets of all polygons as the code has them.
    abbrev marks_of : Answer (List (List Bool)) → Answer (List ℕ)
    marks_of a = and_then a (λ sets. value (owner_sets (length table) sets))

    -- What comes behind polygon k + 1 with its set.
    abbrev behind : List Member → List Bool → Answer (List (List Bool))
    behind t s = and_then (judge_from table (suc (suc k)) t) (λ sets. value (s ∷ sets))

    -- The marks are as many as the triangles, and below bit k.
    pub following_marks : (length marks ≡ length table) × All (λ x. x < 2 ^ k) marks
    following_marks = (
      ap length w.marks_are ∙ length_owner_sets (length table) w.done w.each,
      subst (λ j. All (λ x. x < 2 ^ j) marks) w.many (subst (All (λ x. x < 2 ^ length w.done)) (sym w.marks_are) (owner_sets_below (length table) w.done)),
    )

    -- While some are left, one stands at the place.
    pub following_next : k < length ms → (m : Member) × (behind : List ℤ) × PolygonAt numbers at m behind
    unfolding flat_map
    following_next h = go w.todo w.left w.few w.stand
      where
        go : (todo : List Member) → k + length todo ≡ length ms → All (λ m. length (member_edges m) ≤ 4096) todo → map millimetres (drop at numbers) ≡ flat_map member_numbers todo ++ rest
            → (m : Member) × (behind : List ℤ) × PolygonAt numbers at m behind
        go [] l f s = absurd (omega arith)
        go (m ∷ t) l f s = (m, flat_map member_numbers t ++ rest, record { numbers_at = s ∙ append_assoc (member_numbers m) (flat_map member_numbers t) rest; few = f.0 })

    -- The one at the place is refused: that is what all come to.
    pub following_refused : {r : Refusal} {labels : List Bool} → k < length ms → Turns table numbers at (k + 1) (Err r) labels → refused_as r ≡ held_sets table ms
    unfolding flat_map
    following_refused {r} {labels} h turns = go w.todo w.left w.few w.stand w.comes
      where
        go : (todo : List Member) → k + length todo ≡ length ms → All (λ m. length (member_edges m) ≤ 4096) todo → map millimetres (drop at numbers) ≡ flat_map member_numbers todo ++ rest
            → judge_from table 1 ms ≡ before w.done (judge_from table (suc k) todo) → refused_as r ≡ held_sets table ms
        go [] l f s q = absurd (omega arith)
        go (m ∷ t) l f s q =
            let x = turns m (flat_map member_numbers t ++ rest) (record { numbers_at = s ∙ append_assoc (member_numbers m) (flat_map member_numbers t) rest; few = f.0 }) in
            let y : stage_of (suc k) (judge table m) ≡ refused_as r = ap (λ j. stage_of j (judge table m)) (sym (add-one k)) ∙ sym x.judged in
            sym (ap marks_of (q ∙ ap (λ a. before w.done (and_then a (behind t))) y ∙ before_refused w.done (code_of r.reason) r.item))

    -- The one at the place is carried: one set more is found, and marked.
    pub following_more : {next : ℕ} {labels : List Bool} → k < length ms → Turns table numbers at (k + 1) (Ok next) labels → length labels ≡ length table
        → Following table numbers ms rest next (k + 1) (marked k labels marks)
    unfolding flat_map
    following_more {next} {labels} h turns n = go w.todo w.left w.few w.stand w.comes
      where
        go : (todo : List Member) → k + length todo ≡ length ms → All (λ m. length (member_edges m) ≤ 4096) todo → map millimetres (drop at numbers) ≡ flat_map member_numbers todo ++ rest
            → judge_from table 1 ms ≡ before w.done (judge_from table (suc k) todo) → Following table numbers ms rest next (k + 1) (marked k labels marks)
        go [] l f s q = absurd (omega arith)
        go (m ∷ t) l f s q =
            let x = turns m (flat_map member_numbers t ++ rest) (record { numbers_at = s ∙ append_assoc (member_numbers m) (flat_map member_numbers t) rest; few = f.0 }) in
            let y : stage_of (suc k) (judge table m) ≡ value labels = ap (λ j. stage_of j (judge table m)) (sym (add-one k)) ∙ sym x.judged in
            record {
              done = w.done ++ labels ∷ [];
              todo = t;
              many = omega (arith, length-append w.done (labels ∷ []), w.many);
              each = all_more (λ s. length s ≡ length table) w.done labels w.each n;
              left = omega arith;
              few = f.1;
              stand = x.behind next refl;
              comes = q ∙ ap (λ a. before w.done (and_then a (behind t))) y ∙ before_more w.done labels (judge_from table (suc (suc k)) t)
                  ∙ ap (λ j. before (w.done ++ labels ∷ []) (judge_from table (suc j) t)) (sym (add-one k));
              marks_are = ap (marked k labels) w.marks_are ∙ ap (λ j. marked j labels (owner_sets (length table) w.done)) (sym w.many) ∙ sym (owner_sets_more (length table) w.done labels);
            }

    -- None is left: the marks are what all come to.
    pub following_done : length ms ≤ k → value marks ≡ held_sets table ms
    following_done h = go w.todo w.left w.comes
      where
        go : (todo : List Member) → k + length todo ≡ length ms → judge_from table 1 ms ≡ before w.done (judge_from table (suc k) todo) → value marks ≡ held_sets table ms
        go [] l q = ap value w.marks_are ∙ sym (ap marks_of (q ∙ before_all w.done))
        go (m ∷ t) l q = absurd (omega arith)
