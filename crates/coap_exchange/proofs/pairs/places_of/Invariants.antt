-- the pairs from the place on have been entered
use Rattle.std.proofs.Common.{◌≤◌, length}
use Rattle.coap_exchange.specs.Pairs.{AreFoundFrom}
use Rattle.coap_exchange.proofs.pairs.places_of.Given as goal

abbrev pub invariant-loop-place : goal.invariant-loop-place
invariant-loop-place l = record {
  within : l.place ≤ length l.pairs;
  found : AreFoundFrom l.place l.places.entries l.pairs;
}

abbrev pub decreases-loop-place : goal.decreases-loop-place
decreases-loop-place l = l.place
