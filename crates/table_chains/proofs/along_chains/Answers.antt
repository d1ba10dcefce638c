-- Where no code stands twice, the last side with a code has its number.
use Rattle.std.proofs.Common.{◌<◌, sym, ◌∙◌, length, get_or, arith}
use Rattle.std.proofs.lemmas.List.{length-map, get_or-map}
use Rattle.std.proofs.Math.Seq.{ext_get_or}
use Rattle.table_sides.specs.Codes.{turned, turned_in}
use Rattle.table_sides.specs.Numbered.{number_in}
use Rattle.table_sides.proofs.Chains.{last_number}
use Rattle.table_chains.proofs.along_chains.Goals as goal

pub returns : goal.returns
returns c = λ d.
    let l = c.loop-i in
    let codes = c.args.codes.now in
    ext_get_or 0 l.opposite (turned_in codes) (l.auto.opposite ∙ c.requires.3 ∙ sym (length-map codes (λ x. number_in (turned x) codes)))
    (λ i h.
    let k : i < length codes = omega arith in
    last_number codes (turned (get_or codes i 0)) (get_or l.opposite i 0) d (l.invariant i (omega arith)) ∙ sym (get_or-map (λ x. number_in (turned x) codes) codes i 0 0 k))
