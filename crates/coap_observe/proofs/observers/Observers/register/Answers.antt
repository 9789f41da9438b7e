use Rattle.std.proofs.Common.{ap, sym, subst, ◌∙◌, arith}
use Rattle.std.specs.List.{list_any}
use Rattle.coap_exchange.specs.Pairs.{is_pair}
use Rattle.coap_observe.specs.Observing.{ObserversValue, entered, AreBounded}
use Rattle.coap_observe.specs.Rolls.{observed_of}
use Rattle.coap_observe.proofs.Chaining.{rooms_stay}
use Rattle.coap_observe.proofs.Counting.{bounded_entered, bounded_length, few_of_peer}
use Rattle.coap_observe.proofs.observers.Observers.register.Goals as goal

pub has_room-requires : goal.has_room-requires
has_room-requires g c = c.self.invariant.chained

pub enter-requires : goal.enter-requires
enter-requires g c =
    let observed = observed_of c.self.inside.roll.members in
    let has = sym c.has_room.ensures ∙ c.if-has_room.true in
    let pair = ap (λ (v : ObserversValue). list_any (is_pair c.args.observer.peer c.args.observer.domain) v.pairs) c.self.view_is ∙ c.requires in
    let bounded = bounded_entered c.self.inside.pairs c.self.inside.room c.args.observer c.of-seen.result observed has pair c.self.invariant.bounded in
    let fits = bounded_length c.self.inside.pairs c.self.inside.room (entered c.args.observer c.of-seen.result observed) bounded in
    let few = few_of_peer c.self.inside.pairs c.self.inside.room c.args.observer.peer (entered c.args.observer c.of-seen.result observed) bounded in
    let room = c.self.invariant.rooms c.args.observer.peer in
    record {
      fits = omega (arith, fits, c.self.invariant.reserved);
      chained = c.self.invariant.chained;
      room = omega (arith, few, room);
      limit = c.self.invariant.limit;
    }

pub invariant_of-self : goal.invariant_of-self
invariant_of-self g c =
    let observed = observed_of c.self.inside.roll.members in
    let has = sym c.has_room.ensures ∙ c.if-has_room.true in
    let pair = ap (λ (v : ObserversValue). list_any (is_pair c.args.observer.peer c.args.observer.domain) v.pairs) c.self.view_is ∙ c.requires in
    let bounded = bounded_entered c.self.inside.pairs c.self.inside.room c.args.observer c.of-seen.result observed has pair c.self.invariant.bounded in
    record {
      bounded = subst (AreBounded c.self.inside.pairs c.self.inside.room) (sym c.enter.ensures.list) bounded;
      reserved = omega (arith, c.self.invariant.reserved, c.enter.ensures.capacity);
      chained = c.enter.ensures.chained;
      rooms = rooms_stay c.self.inside.pairs c.self.inside.room c.self.inside.chains _ c.enter.ensures.room c.self.invariant.rooms;
      limit = omega (arith, c.self.invariant.limit, c.enter.ensures.capacity, c.enter.ensures.room.limit);
    }
