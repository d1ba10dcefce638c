-- The listing stands at the front of the work list, as long as was told.
use Rattle.std.proofs.Common.{◌≡◌, ◌*◌, ◌++◌, List, ℕ, length, drop, arith, ap, subst, ◌∙◌}
use Rattle.lent_text.proofs.Texts.{put_over, put_front}
use Rattle.lent.specs.Answered.{Answered}
use Rattle.lent.proofs.Answered.{answered_short, answered_bytes}
use Rattle.judged.specs.Judged.{judged_sheet}
use Rattle.listing.specs.Listing.{listing}
use Rattle.outcomes.specs.Entries.{sheet_listing_by}
use Rattle.outcomes.proofs.Judged.{listing_on}
use Rattle.sheets_listing.proofs.listing.Goals as goal

pub returns-then-out-n : goal.returns-then-out-n
returns-then-out-n c =
    let a = c.args in
    let text : List ℕ = listing a.way (judged_sheet a.mode a.sheet.now) in
    let many : length text ≡ c.print-n.result = omega (arith, c.print-n.ensures.1.place) in
    answered_short _ _ (length text) text (listing_on _ _ a.sheet.now) (omega (arith, many))

pub returns : goal.returns
returns c =
    let a = c.args in
    let text : List ℕ = listing a.way (judged_sheet a.mode a.sheet.now) in
    let many : length text ≡ c.print-n.result = omega (arith, c.print-n.ensures.1.place) in
    subst (λ m. Answered (sheet_listing_by a.mode a.way a.sheet.now) a.out.now (m * 256) c.put_word.new.text) many
    (answered_bytes _ _ (length text) text (listing_on _ _ a.sheet.now) _ (omega (arith, many, c.if-out-n.false))
    (put_over c.put_word.ensures ∙ ap (λ l. l ++ drop (length l) a.out.now) (put_front c.print-n.ensures.1)))
