-- what is left, put to what is there, comes to all
use Rattle.std.proofs.Common.{◌≡◌, drop}
use Rattle.dots_history.specs.KeptPlaces.{union}
use Rattle.coap_exchange.specs.Rings.{slots_of}
use Rattle.coap_exchange.proofs.ring.put_slots.Given as goal

abbrev pub invariant-loop-message : goal.invariant-loop-message
invariant-loop-message l = record {
  all : union (slots_of (drop l.message-index l.messages)) l.into.items ≡ union (slots_of l.messages) l.fn.into.items;
  room : l.into.room ≡ l.fn.into.room;
}
