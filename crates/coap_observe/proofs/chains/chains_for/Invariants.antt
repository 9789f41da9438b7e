-- the pairs before the one at hand have their chains
use Rattle.std.proofs.Common.{◌≡◌, map, take}
use Rattle.coap_observe.specs.Chains.{peer_chain}
use Rattle.coap_observe.proofs.chains.chains_for.Given as goal

abbrev pub invariant-loop-pair : goal.invariant-loop-pair
invariant-loop-pair l = l.chains.items ≡ map (peer_chain l.pairs l.room) (take l.pair-index l.pairs)
