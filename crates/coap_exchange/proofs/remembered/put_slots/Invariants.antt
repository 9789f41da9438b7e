-- what is left, put to what is there, comes to all
use Rattle.std.proofs.Common.{◌≡◌, drop}
use Rattle.dots_history.specs.KeptPlaces.{union}
use Rattle.coap_exchange.specs.Rings.{all_slots}
use Rattle.coap_exchange.proofs.remembered.put_slots.Given as goal

abbrev pub invariant-loop-ring : goal.invariant-loop-ring
invariant-loop-ring l = record {
  all : union (all_slots (drop l.ring-index l.rings)) l.into.items ≡ union (all_slots l.rings) l.fn.into.items;
  room : l.into.room ≡ l.fn.into.room;
}
