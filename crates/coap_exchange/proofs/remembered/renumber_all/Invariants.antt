-- the rings before the one at hand have their new slots
use Rattle.std.proofs.Common.{◌≡◌, ◌++◌, map, take, drop}
use Rattle.coap_exchange.specs.Rings.{ring_renumbered}
use Rattle.coap_exchange.proofs.remembered.renumber_all.Given as goal

abbrev pub invariant-loop-ring : goal.invariant-loop-ring
invariant-loop-ring l =
    l.rings ≡ map (ring_renumbered l.keep) (take l.ring-index l.fn.rings) ++ drop l.ring-index l.fn.rings
