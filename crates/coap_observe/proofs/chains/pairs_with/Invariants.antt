-- those counted and those of the rest are all
use Rattle.std.proofs.Common.{◌≡◌, ◌+◌, ◌≤◌, drop}
use Rattle.dots_history.specs.Histories.{tally}
use Rattle.coap_observe.specs.Chains.{is_pair_of}
use Rattle.coap_observe.proofs.chains.pairs_with.Given as goal

abbrev pub invariant-loop-pair : goal.invariant-loop-pair
invariant-loop-pair l =
    (l.count ≤ l.pair-index)
    × (l.count + tally (is_pair_of l.peer) (drop l.pair-index l.pairs) ≡ tally (is_pair_of l.peer) l.pairs)
