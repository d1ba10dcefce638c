-- Which bytes have owners, and which are refused before that, exactly as document 01 says it. The idea: judging goes through reading, the table
-- rules and the polygons in this order, and each stage says when it refuses; owners are told by the sets of the polygons, and owner sets by their bits.
-- Assumes nothing.
use mathlib.Core.Path.{◌≡◌, refl, sym, ◌∙◌, ap, ap₂, subst}
use mathlib.Core.Logic.{◌↔◌, ◌⊎◌, inl, inr}
use mathlib.Core.Bool.{Bool, false}
use mathlib.Core.List.{List, [], ◌∷◌, map}
use Prim.Native.Nat.{ℕ, zero, suc, ◌-◌, ◌^◌, ◌/◌, ◌≤◌, ◌<◌}
use native.Mathlib.Nat.{pow-suc}
use native.Mathlib.Omega.{arith}
use lib.ListN.{length, get_or}
use lib.Seq.{ext_get_or}
use Rattle.whole.specs.Sums.{All, bit}
use Rattle.whole.proofs.Sums.{all_at}
use Rattle.plane.specs.Points.{Triangle}
use Rattle.plane.specs.Members.{Member}
use Rattle.lent.specs.Stages.{Answer, value, refused, and_then}
use Rattle.lent.specs.Answered.{Outcome}
use Rattle.lent.proofs.Stages.{chain_value, chain_refused}
use Rattle.table.specs.Table.{frame_edges, RuleA, RuleB, check_table}
use Rattle.table.proofs.Rules.{passes, refused_as}
use Rattle.owners_marks.specs.Marks.{owners_from, set_of}
use Rattle.owners_marks.specs.Sets.{owner_sets}
use Rattle.owners_marks.proofs.Bits.{digit, digit_zero, digit_suc}
use Rattle.owners_marks.proofs.Owning.{owner_sets_below, bit_stands}
use Rattle.owners_marks.proofs.Owners.{sets_are, length_owner_sets}
use Rattle.owners.specs.Judging.{AreaOfOwnership}
use Rattle.owners.proofs.Carried.{answered, answers}
use Rattle.owners.proofs.Polygons.{EachCarried, all_carried as each_carried, marks_fit, each_at}
use Rattle.sheet_form.specs.Numbers.{Sheet, members}
use Rattle.sheet_modes.specs.Modes.{read_by}
use Rattle.judged.specs.Judged.{Judged, judged_sheet}
use Rattle.judged.proofs.Repaired.{owners_many}
use Rattle.judged.proofs.Stages.{polygons_value, sheet_value, sheet_refused, whole_around, judged_value, judged_refused}
use Rattle.demands.specs.Polygons.{polygon}
use Rattle.demands.specs.Answers.{HasOwners, HasSets, Refused, unread, breaks_a, breaks_b, breaks_c, unframed, not_carried, no_ground}
use Rattle.demands.proofs.Table.{refused_a, refused_b, refused_c}
use Rattle.demands.proofs.Order.{is_first}
use Rattle.demands.proofs.Envelopes.{framed_no, framed_yes}
use Rattle.demands.proofs.Carried.{first_refused, all_sound}

-- A sheet with the owners of its triangles.
abbrev pub with_owners : Sheet → List (List ℕ) → Judged
with_owners n owners = record { sheet = n; owners = owners }

-- ---- owners
-- Sets that are the polygons' areas of ownership carry them.
each_of : (table : List Triangle) → RuleA table → RuleB table → (ms : List Member) (l : List (List Bool)) → length l ≡ length ms
    → ((k : ℕ) → 1 ≤ k → k ≤ length ms → AreaOfOwnership table (polygon ms k) (get_or l (k - 1) [])) → EachCarried table ms l
each_of table area once [] [] e h = tt
each_of table area once [] (s ∷ l) e h = absurd (omega arith)
each_of table area once (m ∷ ms) [] e h = absurd (omega arith)
each_of table area once (m ∷ ms) (s ∷ l) e h = (answers table m area once s (h 1 (omega arith) (omega arith)).of_table (h 1 (omega arith) (omega arith)).carries (h 1 (omega arith) (omega arith)).ground, each_of table area once ms l (omega arith) behind)
  where
    behind : (k : ℕ) → 1 ≤ k → k ≤ length ms → AreaOfOwnership table (polygon ms k) (get_or l (k - 1) [])
    behind zero low high = absurd (omega arith)
    behind (suc k) low high =
        let e : suc (suc k) - 1 ≡ suc (suc k - 1) = omega arith in
        subst (λ i. AreaOfOwnership table (get_or (m ∷ ms) i []) (get_or (s ∷ l) i [])) e (h (suc (suc k)) (omega arith) (omega arith))

module _ (mode : ℕ) (s : List ℕ) where
  -- Bytes come to a judged sheet exactly if they have its owners.
  pub has_owners : (n : Sheet) (owners : List (List ℕ)) → (judged_sheet mode s ≡ value (with_owners n owners)) ↔ HasOwners mode s n owners
  has_owners n owners = (to, from)
    where
      to : judged_sheet mode s ≡ value (with_owners n owners) → HasOwners mode s n owners
      to e =
          let (p, q, b) = (judged_value mode s (with_owners n owners)).0 e in
          let (i, c, o) = (sheet_value n (with_owners n owners)).0 q in
          let (l, f, g) = (polygons_value n.table n.polygons owners).0 o in
          let r = (passes (frame_edges n.table) n.table).0 c in
          let each = (each_carried n.table n.polygons l).0 f in
          record {
            read = p;
            passes = r;
            framed = (framed_yes mode s n).0 b;
            sets = l;
            as_many = (marks_fit n.table r.0 r.1 n.polygons l each).0;
            of_polygon = λ k low high. answered n.table (polygon n.polygons k) r.0 r.1 (get_or l (k - 1) []) (each_at n.table r.0 r.1 n.polygons l each (k - 1) (omega arith));
            owners_are = sym g;
          }

      from : HasOwners mode s n owners → judged_sheet mode s ≡ value (with_owners n owners)
      from h =
          let r = h.passes in
          let each = each_of n.table r.0 r.1 n.polygons h.sets h.as_many h.of_polygon in
          (judged_value mode s (with_owners n owners)).1 (
            h.read,
            (sheet_value n (with_owners n owners)).1
                (refl, (passes (frame_edges n.table) n.table).1 r, (polygons_value n.table n.polygons owners).1 (h.sets, (each_carried n.table n.polygons h.sets).1 each, sym h.owners_are)),
            (framed_yes mode s n).1 h.framed,
          )

-- There are owners for each triangle.
pub owners_each : {mode : ℕ} {s : List ℕ} {n : Sheet} {owners : List (List ℕ)} → HasOwners mode s n owners → length owners ≡ length n.table
owners_each {mode} {s} {n} {owners} h = owners_many ((judged_value mode s (with_owners n owners)).0 ((has_owners mode s n owners).1 h)).1

-- ---- owner sets
-- Numbers of so many bits are told by their bits.
bits_tell : (m x y : ℕ) → x < 2 ^ m → y < 2 ^ m → ((k : ℕ) → k < m → digit x k ≡ digit y k) → x ≡ y
bits_tell zero x y p q h = omega arith
bits_tell (suc m) x y p q h =
    let r = bits_tell m (x / 2) (y / 2) (omega (arith, pow-suc 2 m)) (omega (arith, pow-suc 2 m)) (λ k l. sym (digit_suc x k) ∙ h (suc k) (omega arith) ∙ digit_suc y k) in
    omega (arith, h 0 (omega arith), digit_zero x, digit_zero y)

module _ {mode : ℕ} {s : List ℕ} {n : Sheet} where
  -- There is one list of owner sets at most.
  one_list : {a b : List ℕ} → HasSets mode s n a → HasSets mode s n b → a ≡ b
  one_list {a} {b} p q =
      ext_get_or 0 a b (p.each ∙ sym q.each) (λ t h.
      bits_tell (length n.polygons) (get_or a t 0) (get_or b t 0) (all_at _ 0 a t p.no_others h) (all_at _ 0 b t q.no_others (omega (arith, p.each, q.each))) (λ k l. same t h k l))
    where
      same : (t : ℕ) → t < length a → (k : ℕ) → k < length n.polygons → digit (get_or a t 0) k ≡ digit (get_or b t 0) k
      same t h k l =
          let (marks, o, x) = p.bits (suc k) (omega arith) (omega arith) in
          let (others, u, y) = q.bits (suc k) (omega arith) (omega arith) in
          let m : others ≡ marks = o.only others u.of_table u.carries in
          subst (λ j. digit (get_or a t 0) j ≡ digit (get_or b t 0) j) (let j : suc k - 1 ≡ k = omega arith in j)
          (x t (omega (arith, o.of_table, p.each)) ∙ ap (λ l. bit (get_or l t false)) (sym m) ∙ sym (y t (omega (arith, u.of_table, p.each))))

  -- The owners as sets.
  sets_of : (owners : List (List ℕ)) → HasOwners mode s n owners → HasSets mode s n (map set_of owners)
  sets_of owners h =
      let r = h.passes in
      let fit = (marks_fit n.table r.0 r.1 n.polygons h.sets (each_of n.table r.0 r.1 n.polygons h.sets h.as_many h.of_polygon)).1 in
      subst (HasSets mode s n) (sets_are (length n.table) h.sets ∙ ap (map set_of) (sym h.owners_are)) (record {
        read = h.read;
        passes = r;
        framed = h.framed;
        each = length_owner_sets (length n.table) h.sets fit;
        bits = λ k low high. (get_or h.sets (k - 1) [], h.of_polygon k low high, λ t l. bit_stands (length n.table) h.sets fit (k - 1) t (omega (arith, (h.of_polygon k low high).of_table)));
        no_others = subst (λ m. All (λ set. set < 2 ^ m) (owner_sets (length n.table) h.sets)) h.as_many (owner_sets_below (length n.table) h.sets);
      })

  -- Owner sets are those of the owners.
  pub has_sets : (sets : List ℕ) → ((owners : List (List ℕ)) × HasOwners mode s n owners × (sets ≡ map set_of owners)) ↔ HasSets mode s n sets
  has_sets sets = (λ (owners, h, e). subst (HasSets mode s n) (sym e) (sets_of owners h), from)
    where
      from : HasSets mode s n sets → (owners : List (List ℕ)) × HasOwners mode s n owners × (sets ≡ map set_of owners)
      from h =
          let (owners, e) = (all_sound mode s n).1 (h.read, (passes (frame_edges n.table) n.table).1 h.passes, h.framed, λ k low high. let (marks, o, b) = h.bits k low high in ((marks, o.of_table, o.carries), o.ground)) in
          let o = (has_owners mode s n owners).0 e in
          (owners, o, one_list h (sets_of owners o))

-- ---- refusals
module _ (mode : ℕ) (s : List ℕ) where
  -- And they come to a refusal exactly if they are refused.
  pub is_refused : (code item : ℕ) → (judged_sheet mode s ≡ refused code item) ↔ Refused mode s code item
  is_refused code item = (to, from)
    where
      by_table : (n : Sheet) → read_by members mode s ≡ value n → check_table (frame_edges n.table) n.table ≡ refused code item → Refused mode s code item
      by_table n p e = elim ((refused_as (frame_edges n.table) n.table code item).0 e) [
        | inl a ↦ subst (λ c. Refused mode s c item) (sym a.0) (breaks_a n p ((refused_a n.table item).0 (e ∙ ap (λ c. refused c item) a.0)))
        | inr (inl b) ↦ let (r, f) = (refused_b n.table item).0 (e ∙ ap (λ c. refused c item) b.0) in subst (λ c. Refused mode s c item) (sym b.0) (breaks_b n p r f)
        | inr (inr c) ↦ subst (λ d. Refused mode s d item) (sym c.0) (subst (Refused mode s 12) (sym c.1) (breaks_c n p c.2 c.3 c.4))
      ]

      to : judged_sheet mode s ≡ refused code item → Refused mode s code item
      to e = elim ((judged_refused mode s code item).0 e) [
        | inl r ↦ unread r
        | inr (n, p, q) ↦ elim ((sheet_refused (whole_around mode s n) n code item).0 q) [
          | inl r ↦ by_table n p r
          | inr (inl (r, b, c, i)) ↦ rw (c, i) (unframed n p ((passes (frame_edges n.table) n.table).0 r) ((framed_no mode s n).0 b))
          | inr (inr (r, b, f)) ↦ elim (is_first n.table r n.polygons code item f) [
            | inl (c, first) ↦ subst (λ c. Refused mode s c item) (sym c) (not_carried n p ((passes (frame_edges n.table) n.table).0 r) ((framed_yes mode s n).0 b) first)
            | inr (c, first) ↦ subst (λ c. Refused mode s c item) (sym c) (no_ground n p ((passes (frame_edges n.table) n.table).0 r) ((framed_yes mode s n).0 b) first)
          ]
        ]
      ]

      table_refused : (n : Sheet) (code item : ℕ) → read_by members mode s ≡ value n → check_table (frame_edges n.table) n.table ≡ refused code item → judged_sheet mode s ≡ refused code item
      table_refused n code item p e = (judged_refused mode s code item).1 (inr (n, p, (sheet_refused (whole_around mode s n) n code item).1 (inl e)))

      from : {code item : ℕ} → Refused mode s code item → judged_sheet mode s ≡ refused code item
      from (unread {code} {item} e) = (judged_refused mode s code item).1 (inl e)
      from (breaks_a {k} n p f) = table_refused n 10 k p ((refused_a n.table k).1 f)
      from (breaks_b {k} n p a f) = table_refused n 11 k p ((refused_b n.table k).1 (a, f))
      from (breaks_c n p a b c) = table_refused n 12 0 p ((refused_c n.table 0).1 (refl, a, b, c))
      from (unframed n p r w) = (judged_refused mode s 52 0).1 (inr (n, p, (sheet_refused (whole_around mode s n) n 52 0).1 (inr (inl ((passes (frame_edges n.table) n.table).1 r, (framed_no mode s n).1 w, refl, refl)))))
      from (not_carried {k} n p r w f) = (first_refused mode s 20 k (inl refl)).1 (n, p, (passes (frame_edges n.table) n.table).1 r, w, inl (refl, f))
      from (no_ground {k} n p r w f) = (first_refused mode s 21 k (inr refl)).1 (n, p, (passes (frame_edges n.table) n.table).1 r, w, inr (refl, f))

  -- ---- what an entry goes on to
  module _ {A : Type 0} (next : Judged → Answer A) where
    pub answers_on : (a : A) → (and_then (judged_sheet mode s) next ≡ value a) ↔ ((n : Sheet) × (owners : List (List ℕ)) × HasOwners mode s n owners × (next (with_owners n owners) ≡ value a))
    answers_on a = (
      λ e. let (j, p, q) = (chain_value (judged_sheet mode s) next a).0 e in (j.sheet, j.owners, (has_owners mode s j.sheet j.owners).0 p, q),
      λ (n, owners, h, q). (chain_value (judged_sheet mode s) next a).1 (with_owners n owners, (has_owners mode s n owners).1 h, q),
    )

    pub refuses_on : (code item : ℕ) → (and_then (judged_sheet mode s) next ≡ refused code item)
        ↔ (Refused mode s code item ⊎ ((n : Sheet) × (owners : List (List ℕ)) × HasOwners mode s n owners × (next (with_owners n owners) ≡ refused code item)))
    refuses_on code item = (to, from)
      where
        to : and_then (judged_sheet mode s) next ≡ refused code item → Refused mode s code item ⊎ ((n : Sheet) × (owners : List (List ℕ)) × HasOwners mode s n owners × (next (with_owners n owners) ≡ refused code item))
        to e = elim ((chain_refused (judged_sheet mode s) next code item).0 e) [ inl p ↦ inl ((is_refused code item).0 p) | inr (j, p, q) ↦ inr (j.sheet, j.owners, (has_owners mode s j.sheet j.owners).0 p, q) ]

        from : Refused mode s code item ⊎ ((n : Sheet) × (owners : List (List ℕ)) × HasOwners mode s n owners × (next (with_owners n owners) ≡ refused code item)) → and_then (judged_sheet mode s) next ≡ refused code item
        from (inl r) = (chain_refused (judged_sheet mode s) next code item).1 (inl ((is_refused code item).1 r))
        from (inr (n, owners, h, q)) = (chain_refused (judged_sheet mode s) next code item).1 (inr (with_owners n owners, (has_owners mode s n owners).1 h, q))
