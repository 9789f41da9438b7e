use Rattle.std.proofs.Common.{sym, subst, arith}
use Rattle.std.specs.Prelude.{not}
use Rattle.coap_observe.specs.Observed.{had_id}
use Rattle.coap_observe.specs.Observing.{AreBounded}
use Rattle.coap_observe.specs.Rolls.{observed_of}
use Rattle.coap_observe.proofs.Chaining.{rooms_stay}
use Rattle.coap_observe.proofs.Counting.{bounded_filtered}
use Rattle.coap_observe.proofs.observers.Observers.reset.Goals as goal

pub invariant_of-self : goal.invariant_of-self
invariant_of-self c = record {
  bounded =
      subst (AreBounded c.self.inside.pairs c.self.inside.room) (sym c.retain_other_ids.ensures.items)
      (bounded_filtered c.self.inside.pairs c.self.inside.room (λ o. not (had_id c.args.peer c.args.id o)) (observed_of c.self.inside.roll.members) c.self.invariant.bounded);
  reserved = omega (arith, c.self.invariant.reserved, c.retain_other_ids.ensures.capacity);
  chained = c.retain_other_ids.ensures.chained;
  rooms = rooms_stay c.self.inside.pairs c.self.inside.room c.self.inside.chains _ c.retain_other_ids.ensures.room c.self.invariant.rooms;
  limit = omega (arith, c.self.invariant.limit, c.retain_other_ids.ensures.capacity, c.retain_other_ids.ensures.room.limit);
}

pub retain_other_ids-requires : goal.retain_other_ids-requires
retain_other_ids-requires c = record { chained = c.self.invariant.chained }
