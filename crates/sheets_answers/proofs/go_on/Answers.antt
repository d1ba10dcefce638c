-- What is wanted tells what the sheet goes on to.
use Rattle.std.proofs.Common.{sym, ap, ap₂, subst, ◌∙◌, [], w32}
use mir.Facts.{to_z-of_z}
use Rattle.lent.specs.Answered.{Answered, answer_of}
use Rattle.lent.specs.Told.{number_of}
use Rattle.judged.proofs.Standing.{few, pairs, table_in}
use Rattle.outcomes.specs.declared.Wanted.TheVariants.{At}
use Rattle.outcomes.specs.Entries.{goes_on}
use Rattle.outcomes.proofs.Judged.{owner_sets_on, owners_on, room_answered}
use Rattle.outcomes.proofs.Point.{point_on, point_answered}
use Rattle.sheets_answers.proofs.go_on.Goals as goal

pub each-requires : goal.each-requires
each-requires c = few c.requires.1

pub owners-requires : goal.owners-requires
owners-requires c = let w = c.requires.1 in (pairs w, few w, table_in w)

pub owner_at-requires : goal.owner_at-requires
owner_at-requires c = let w = c.requires.1 in (pairs w, few w, table_in w)

pub returns-in-OwnerSets : goal.returns-in-OwnerSets
returns-in-OwnerSets c = λ j w.
    let a = c.args in
    subst (λ o. Answered o a.out.now (number_of c.each.result) c.each.new.out) (owner_sets_on w a.way ∙ sym (ap (λ x. goes_on a.way x j) c.in-OwnerSets.is)) c.each.ensures

pub returns-in-Owners : goal.returns-in-Owners
returns-in-Owners c = λ j w.
    let a = c.args in
    subst (λ o. Answered o a.out.now (number_of c.owners.result) c.owners.new.out) (owners_on w a.way ∙ sym (ap (λ x. goes_on a.way x j) c.in-Owners.is)) c.owners.ensures

pub returns-in-Boundary : goal.returns-in-Boundary
returns-in-Boundary c = λ j w.
    let a = c.args in
    subst (λ o. Answered o a.out.now (number_of c.boundary.result) c.boundary.new.out) (sym (ap (λ x. goes_on a.way x j) c.in-Boundary.is)) (c.boundary.ensures j w)

pub returns-in-Rings : goal.returns-in-Rings
returns-in-Rings c = λ j w.
    let a = c.args in
    subst (λ o. Answered o a.out.now (number_of c.rings.result) c.rings.new.out) (sym (ap (λ x. goes_on a.way x j) c.in-Rings.is)) (c.rings.ensures j w)

pub returns-in-RingRoom : goal.returns-in-RingRoom
returns-in-RingRoom c = λ j w.
    let a = c.args in
    subst (λ o. Answered o a.out.now (number_of c.ring_room.result) a.out.now) (sym (ap (λ x. goes_on a.way x j) c.in-RingRoom.is))
    (room_answered w a.way c.in-RingRoom.polygon a.out.now (c.ring_room.ensures j w))

pub returns-in-At : goal.returns-in-At
returns-in-At c = λ j w.
    let a = c.args in
    let k = c.in-At.known_told-in-At-1-own.given in
    subst (λ o. Answered o a.out.now (number_of c.owner_at.result) a.out.now)
    (ap₂ (λ x y. goes_on a.way (At x y) j) (to_z-of_z {w = w32} (record { sfits = k.0.1 })) (to_z-of_z {w = w32} (record { sfits = k.1.0.1 })) ∙ sym (ap (λ x. goes_on a.way x j) c.in-At.is))
    (point_answered w a.way _ _ a.out.now (c.owner_at.ensures ∙ ap (λ o. answer_of o []) (point_on w a.way _ _)))
