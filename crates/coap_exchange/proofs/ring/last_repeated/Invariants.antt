-- the last one of the rest, or else the one found, is the last of all
use Rattle.std.proofs.Common.{◌≡◌, drop, filter, option_copied}
use Rattle.dots_history.specs.Histories.{or_else}
use Rattle.dots_history.specs.Places.{last_of}
use Rattle.coap_exchange.specs.Rings.{answers}
use Rattle.coap_exchange.proofs.ring.last_repeated.Given as goal

abbrev pub invariant-loop-message : goal.invariant-loop-message
invariant-loop-message l =
    or_else (last_of (filter (answers l.id l.now) (drop l.message-index l.messages))) (option_copied l.found)
    ≡ last_of (filter (answers l.id l.now) l.messages)
