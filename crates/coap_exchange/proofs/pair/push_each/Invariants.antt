-- the peer with each domain before the one at hand has been pushed
use Rattle.std.proofs.Common.{◌≡◌, ◌++◌}
use Rattle.coap_exchange.specs.Pairs.{pairs_with_each}
use Rattle.coap_exchange.proofs.pair.push_each.Given as goal

abbrev pub invariant-loop-domain : goal.invariant-loop-domain
invariant-loop-domain l = l.pairs.items ≡ l.fn.pairs.items ++ pairs_with_each l.peer l.domain
