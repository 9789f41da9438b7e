-- the pairs before the one at hand have their empty rings
use Rattle.std.proofs.Common.{◌≡◌, map, take}
use Rattle.coap_exchange.specs.Rings.{empty_ring}
use Rattle.coap_exchange.proofs.remembered.rings_for.Given as goal

abbrev pub invariant-loop-pair : goal.invariant-loop-pair
invariant-loop-pair l = l.rings.items ≡ map (empty_ring l.room) (take l.pair-index l.pairs)
