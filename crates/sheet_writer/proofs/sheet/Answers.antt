-- With a wrong count nothing is emitted, and what the body emits is the sheet if it ends with the numbers and has no more than 4,096 polygon points.
use Rattle.std.proofs.Common.{◌≡◌, ◌/◌, ℕ, true, List, length, refl, sym, ◌∙◌, arith}
use Rattle.lent_little.specs.Ordered.{word_at}
use Rattle.sheet_writer.proofs.Counts.{within_limits, below_limits, above_limits, no_numbers, Begun, bad_triangles, walks, no_place, bad_count, good_count}
use Rattle.sheet_writer.proofs.Numbers.{numbers_length}
use Rattle.sheet_writer.proofs.Wholes.{ends_wrong, ends_over, ends_well}
use Rattle.sheet_writer.proofs.sheet.Goals as goal

begun : {s : List ℕ} {t : ℕ} → (length s / 4 ≡ 0 → ⊥) → t ≡ word_at true s 0 → Begun s t
begun h e = record { one = omega (arith, h); is = e }

pub returns-then-count-eq0 : goal.returns-then-count-eq0
returns-then-count-eq0 c = (no_numbers _ c.if-count-eq0.true, refl)

pub returns-then-t-lt2 : goal.returns-then-t-lt2
returns-then-t-lt2 c = (bad_triangles (begun c.if-count-eq0.false c.bits-t.ensures) (below_limits _ c.if-t-lt2.true), refl)

pub returns-then-t-gt1024 : goal.returns-then-t-gt1024
returns-then-t-gt1024 c = (bad_triangles (begun c.if-count-eq0.false c.bits-t.ensures) (above_limits _ c.if-t-gt1024.true), refl)

pub returns-then-count-place : goal.returns-then-count-place
returns-then-count-place c = (no_place (begun c.if-count-eq0.false c.bits-t.ensures) (within_limits _ c.if-t-lt2.false c.if-t-gt1024.false) c.if-count-place.true, refl)

pub returns-then-p-ge-MEMBERS : goal.returns-then-p-ge-MEMBERS
returns-then-p-ge-MEMBERS c =
    (bad_count (begun c.if-count-eq0.false c.bits-t.ensures) (within_limits _ c.if-t-lt2.false c.if-t-gt1024.false) _ c.if-count-place.false c.bits-p.ensures c.if-p-ge-MEMBERS.true, refl)

pub body-requires : goal.body-requires
body-requires c = (
  omega (arith, numbers_length c.args.numbers.now, c.if-count-place.false),
  c.requires,
  c.if-p-ge-MEMBERS.false,
  good_count (begun c.if-count-eq0.false c.bits-t.ensures) (within_limits _ c.if-t-lt2.false c.if-t-gt1024.false) _ c.if-count-place.false c.bits-p.ensures c.if-p-ge-MEMBERS.false,
)

pub returns-in_err-u : goal.returns-in_err-u
returns-in_err-u c = rw c.from_residual.ensures (ends_wrong (walks (begun c.if-count-eq0.false c.bits-t.ensures) (within_limits _ c.if-t-lt2.false c.if-t-gt1024.false) c.in_err-u.ensures))

pub returns-then-u-count : goal.returns-then-u-count
returns-then-u-count c =
    ends_over (walks (begun c.if-count-eq0.false c.bits-t.ensures) (within_limits _ c.if-t-lt2.false c.if-t-gt1024.false) c.in_ok-u.ensures)
    (λ e k. c.if-u-count.true (e ∙ numbers_length _))

pub returns-then-u-gt4096 : goal.returns-then-u-gt4096
returns-then-u-gt4096 c =
    ends_over (walks (begun c.if-count-eq0.false c.bits-t.ensures) (within_limits _ c.if-t-lt2.false c.if-t-gt1024.false) c.in_ok-u.ensures)
    (λ e k. omega (arith, c.if-u-gt4096.true))

pub returns : goal.returns
returns c =
    ends_well (walks (begun c.if-count-eq0.false c.bits-t.ensures) (within_limits _ c.if-t-lt2.false c.if-t-gt1024.false) c.in_ok-u.ensures)
    (c.if-u-count.false ∙ sym (numbers_length _)) c.if-u-gt4096.false
