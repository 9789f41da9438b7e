-- so many slots have positions, and the slot at hand is the last of them
use Rattle.std.proofs.Common.{◌≡◌, ◌∷◌, get_or, take}
use Rattle.coap_observe.specs.Links.{walk}
use Rattle.coap_observe.proofs.order.make_room.Given as goal

abbrev pub invariant-loop : goal.invariant-loop
invariant-loop l = record {
  slots : l.places.slots ≡ take l.counter (walk l.count l.behind l.room);
  given : l.places.given ≡ l.counter;
  room : l.places.room ≡ l.fn.places.room;
  width : l.places.width ≡ l.fn.places.width;
  slot : l.slot ≡ get_or (l.room ∷ walk l.count l.behind l.room) l.counter 0;
}
