-- the messages before the one at hand have their new slots
use Rattle.std.proofs.Common.{◌≡◌, ◌++◌, map, take, drop}
use Rattle.coap_exchange.specs.Rings.{renumbered}
use Rattle.coap_exchange.proofs.ring.renumber_all.Given as goal

abbrev pub invariant-loop-message : goal.invariant-loop-message
invariant-loop-message l =
    l.messages ≡ map (renumbered l.keep) (take l.message-index l.fn.messages) ++ drop l.message-index l.fn.messages
