-- the pairs from the place on have been entered
use Rattle.std.proofs.Common.{◌≤◌, length, map}
use Rattle.coap_observe.specs.Chains.{pair_peer, AreFirsts}
use Rattle.coap_observe.proofs.chains.firsts_of.Given as goal

abbrev pub invariant-loop-place : goal.invariant-loop-place
invariant-loop-place l = record {
  within : l.place ≤ length l.pairs;
  found : AreFirsts l.place l.firsts.entries (map pair_peer l.pairs);
}

abbrev pub decreases-loop-place : goal.decreases-loop-place
decreases-loop-place l = l.place
