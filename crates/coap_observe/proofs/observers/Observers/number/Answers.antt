use Rattle.coap_observe.proofs.observers.Observers.number.Goals as goal

pub has_room-requires : goal.has_room-requires
has_room-requires c = c.self.invariant.chained

pub number_for-requires : goal.number_for-requires
number_for-requires c = c.self.invariant.chained
