-- none before the place at hand is due, and the key at hand is the one before it
use Rattle.std.proofs.Common.{◌≡◌, ◌∷◌, get_or}
use Rattle.coap_observe.specs.Observing.{NoneIsDue}
use Rattle.coap_observe.specs.Rolls.{keys_of, observed_of}
use Rattle.coap_observe.proofs.observers.next_due.Given as goal

abbrev pub invariant-loop-place : goal.invariant-loop-place
invariant-loop-place g l = record {
  none : NoneIsDue (g.V.Views.lists l.views) l.among l.from l.place (observed_of l.roll.members);
  key : l.key ≡ get_or (l.roll.room ∷ keys_of l.roll.members) l.place 0;
}
