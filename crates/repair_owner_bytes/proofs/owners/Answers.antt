-- The owner numbers, each a byte, stand at the front of the work list and are put as they are. Assumes nothing.
use Rattle.std.proofs.Common.{arith, ◌≡◌, ◌∙◌, ◌++◌, ◌*◌, map, length, drop, ap, subst}
use lib.ListN.{length-map}
use Rattle.lent.specs.Answered.{Answered}
use Rattle.lent.proofs.Answered.{answered_bytes}
use Rattle.lent_text.proofs.Texts.{put_over}
use Rattle.owners_marks.specs.Sets.{owners_of}
use Rattle.repair_longest.specs.Held.{lengths_held}
use Rattle.repair_answers.specs.Answers.{numbers_after}
use Rattle.repair_answers.specs.Held.{owners_outcome}
use Rattle.repair_answers.proofs.After.{goes_on, as_many, front}
use Rattle.repair_owner_bytes.proofs.owners.Goals as goal

pub returns : goal.returns
returns c =
    let a = c.args in
    let out = a.out.now in
    let owners = c.repair.new.owners in
    let e = c.repair.ensures in
    let many : length owners ≡ length a.sets.now = as_many e c.in_ok-repair.was ∙ length-map a.sets.now owners_of in
    subst (λ m. Answered (owners_outcome a.way (lengths_held a.table.now (length a.opposite.now)) a.opposite.now (map owners_of a.sets.now)) out (m * 256) c.put_word.new.text) many
    (answered_bytes _ _ (length owners) owners (goes_on e c.in_ok-repair.was numbers_after) _ (omega (arith, many, c.if-out-n.false))
    (put_over c.put_word.ensures ∙ ap (λ l. l ++ drop (length l) out) (front owners _ _ many)))
