-- those that are to stay are the same
use Rattle.std.proofs.Common.{◌≡◌, length, filter}
use Rattle.std.specs.Prelude.{not}
use Rattle.coap_observe.specs.Chains.{AreChained, SameRoom}
use Rattle.coap_observe.specs.Observed.{had_id}
use Rattle.coap_observe.specs.Rolls.{observed_of}
use Rattle.coap_observe.proofs.observers.retain_other_ids.Given as goal

abbrev pub invariant-loop-key : goal.invariant-loop-key
invariant-loop-key l = record {
  stay : filter (λ o. not (had_id l.peer l.id o)) (observed_of l.roll.members) ≡ filter (λ o. not (had_id l.peer l.id o)) (observed_of l.fn.roll.members);
  capacity : l.roll.room ≡ l.fn.roll.room;
  chained : AreChained l.chains.chains l.roll.members;
  room : SameRoom l.fn.chains l.chains;
}

abbrev pub decreases-loop-key : goal.decreases-loop-key
decreases-loop-key l = length l.roll.members
