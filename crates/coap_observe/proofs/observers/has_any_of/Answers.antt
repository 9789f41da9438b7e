use Rattle.std.proofs.Common.{◌≡◌, length, sym, ◌∙◌, arith}
use Rattle.coap_observe.specs.Rolls.{observed_of}
use Rattle.coap_observe.proofs.Including.{any_of_pairs, any_here, any_nowhere}
use Rattle.coap_observe.proofs.observers.has_any_of.Goals as goal

pub returns-then-has_one : goal.returns-then-has_one
returns-then-has_one c =
    let observed = observed_of c.args.roll.now.members in
    any_here c.args.domain observed c.args.pairs.now c.loop-pair.pair-index _ c.loop-pair-test.true (sym c.has_one.ensures ∙ c.if-has_one.true)
    ∙ c.loop-pair.invariant
    ∙ any_of_pairs c.args.pairs.now c.args.domain observed c.requires.known

pub returns : goal.returns
returns c =
    let observed = observed_of c.args.roll.now.members in
    let end : c.loop-pair.pair-index ≡ length c.args.pairs.now = omega (arith, c.loop-pair-test.false, c.loop-pair.auto.pair-index-end) in
    any_nowhere c.args.domain observed c.args.pairs.now c.loop-pair.pair-index end
    ∙ c.loop-pair.invariant
    ∙ any_of_pairs c.args.pairs.now c.args.domain observed c.requires.known
