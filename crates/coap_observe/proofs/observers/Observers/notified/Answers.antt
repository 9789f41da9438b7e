use Rattle.std.proofs.Common.{length, ap, sym, subst, arith}
use Rattle.coap_observe.specs.Seen.{list_for}
use Rattle.coap_observe.specs.Observing.{ObserversValue, AreBounded}
use Rattle.coap_observe.specs.Rolls.{observed_of}
use Rattle.coap_observe.proofs.Chaining.{rooms_stay}
use Rattle.coap_observe.proofs.Counting.{bounded_notified}
use Rattle.coap_observe.proofs.Keying.{length_observed}
use Rattle.coap_observe.proofs.observers.Observers.notified.Goals as goal

pub invariant_of-self : goal.invariant_of-self
invariant_of-self g c = record {
  bounded =
      subst (AreBounded c.self.inside.pairs c.self.inside.room) (sym c.notify.ensures.items)
      (bounded_notified c.self.inside.pairs c.self.inside.room c.args.place c.args.id (λ o. list_for (g.V.Views.lists c.args.views.now) o.observer) (observed_of c.self.inside.roll.members) c.self.invariant.bounded);
  reserved = omega (arith, c.self.invariant.reserved, c.notify.ensures.capacity);
  chained = c.notify.ensures.chained;
  rooms = rooms_stay c.self.inside.pairs c.self.inside.room c.self.inside.chains _ c.notify.ensures.room c.self.invariant.rooms;
  limit = omega (arith, c.self.invariant.limit, c.notify.ensures.capacity, c.notify.ensures.room.limit);
}

pub notify-requires : goal.notify-requires
notify-requires g c =
    let long = length_observed c.self.inside.roll.members in
    let there = ap (λ (v : ObserversValue). length v.observed) c.self.view_is in
    record { at = omega (arith, long, there, c.requires); chained = c.self.invariant.chained }
