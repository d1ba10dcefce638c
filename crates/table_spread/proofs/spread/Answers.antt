-- From no label the touched sides that count once are entered, and what is labelled then is spread from; the comparison at the touched sides tells the rest.
use Rattle.std.proofs.Common.{◌≡◌, Bool, false, sym, ◌∙◌, subst, refl, List, ℕ, ◌<◌, length, get_or, arith}
use Rattle.std.proofs.Math.ListN.{replicate}
use Rattle.std.proofs.lemmas.List.{length-replicate, get_or-replicate}
use lib.Seq.{ext_get_or}
use Rattle.whole.specs.Sums.{All}
use Rattle.whole.proofs.Sums.{all_map}
use Rattle.table.specs.Sides.{evenly}
use Rattle.table_labels.specs.Labels.{Sided}
use Rattle.table_spread.specs.Spreading.{touched_sides}
use Rattle.table_spread.proofs.TouchedSides.{touched_sides_lem}
use Rattle.table_spread.proofs.Spreading.{begins, begins_seeded}
use Rattle.table_spread.proofs.Sets.{spread_told}
use Rattle.table_spread.proofs.spread.Goals as goal

-- Each number of the list is that of a side.
in_sides : (counts touched : List ℕ) → touched ≡ touched_sides counts → All (λ k. k < length counts) touched
in_sides counts touched e = subst (All (λ k. k < length counts)) (sym e) (all_map (λ k. (k < length counts) × (get_or counts k 0 ≡ evenly → ⊥)) (λ k. k < length counts) (λ k h. h.0) (touched_sides counts) (touched_sides_lem counts))

-- Labels that are all unset.
unset : (labels : List Bool) (n : ℕ) → length labels ≡ n → ((k : ℕ) → k < length labels → get_or labels k false ≡ false) → labels ≡ replicate n false
unset labels n e f = ext_get_or false labels (replicate n false) (e ∙ sym (length-replicate n false)) (λ k h. f k h ∙ sym (get_or-replicate n k false false (omega arith)))

pub starts-n-requires : goal.starts-n-requires
starts-n-requires c =
    let a = c.args in
    let n = length a.labels.now in
    let e = unset c.fill.new.self n c.fill.ensures.len (λ k h. c.fill.ensures.clones k false (omega (arith, c.fill.ensures.len)) refl) in
    let s = c.requires.0.sided in (
      omega (arith, c.fill.ensures.len, s.number, s.three),
      begins _ a.group.now n e c.requires.2,
      begins_seeded a.counts.now _ n e,
      in_sides a.counts.now a.touched.now c.requires.1,
    )

pub agree_at-requires : goal.agree_at-requires
agree_at-requires c =
    let a = c.args in
    let s = c.requires.0.sided in
    let kept : length c.spreads.new.labels ≡ length a.labels.now = c.spreads.ensures.0 ∙ c.starts-n.ensures.0.marks ∙ c.fill.ensures.len in (
      subst (λ m. Sided a.opposite.now a.counts.now m) (sym kept) s,
      subst (λ m. All (λ k. k < m) a.touched.now) s.number (in_sides a.counts.now a.touched.now c.requires.1),
    )

pub returns : goal.returns
returns c =
    let a = c.args in
    let kept : length c.spreads.new.labels ≡ length a.labels.now = c.spreads.ensures.0 ∙ c.starts-n.ensures.0.marks ∙ c.fill.ensures.len in
    (kept, spread_told c.requires.0 kept c.if-not-spreads.ensures.2 a.touched.now c.requires.1 c.starts-n.new.labels c.starts-n.ensures.2 c.spreads.ensures.1 c.agree_at.result c.agree_at.ensures)
