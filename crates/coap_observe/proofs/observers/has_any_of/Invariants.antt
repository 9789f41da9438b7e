-- of the pairs before the one at hand none has an observer of the domain
use Rattle.std.proofs.Common.{◌≡◌, drop}
use Rattle.std.specs.List.{list_any}
use Rattle.coap_observe.specs.Observing.{has_one}
use Rattle.coap_observe.specs.Rolls.{observed_of}
use Rattle.coap_observe.proofs.observers.has_any_of.Given as goal

abbrev pub invariant-loop-pair : goal.invariant-loop-pair
invariant-loop-pair l = list_any (has_one l.domain (observed_of l.roll.members)) (drop l.pair-index l.pairs) ≡ list_any (has_one l.domain (observed_of l.roll.members)) l.pairs
