use Rattle.std.proofs.Common.{sym, subst, arith}
use Rattle.std.specs.Prelude.{not}
use Rattle.coap_observe.specs.Observed.{is_token}
use Rattle.coap_observe.specs.Observing.{AreBounded}
use Rattle.coap_observe.specs.Rolls.{observed_of}
use Rattle.coap_observe.proofs.Chaining.{rooms_stay}
use Rattle.coap_observe.proofs.Counting.{bounded_filtered}
use Rattle.coap_observe.proofs.observers.Observers.deregister.Goals as goal

pub invariant_of-self : goal.invariant_of-self
invariant_of-self c = record {
  bounded =
      subst (AreBounded c.self.inside.pairs c.self.inside.room) (sym c.retain_others.ensures.items)
      (bounded_filtered c.self.inside.pairs c.self.inside.room (λ o. not (is_token c.args.peer c.args.token.now o)) (observed_of c.self.inside.roll.members) c.self.invariant.bounded);
  reserved = omega (arith, c.self.invariant.reserved, c.retain_others.ensures.capacity);
  chained = c.retain_others.ensures.chained;
  rooms = rooms_stay c.self.inside.pairs c.self.inside.room c.self.inside.chains _ c.retain_others.ensures.room c.self.invariant.rooms;
  limit = omega (arith, c.self.invariant.limit, c.retain_others.ensures.capacity, c.retain_others.ensures.room.limit);
}

pub retain_others-requires : goal.retain_others-requires
retain_others-requires c = record { chained = c.self.invariant.chained }
