-- the pairs of the peers before the one at hand have been pushed
use Rattle.std.proofs.Common.{◌≡◌, take, length}
use Rattle.std.specs.List.{flat_map}
use Rattle.coap_exchange.specs.Pairs.{pairs_of_row}
use Rattle.coap_exchange.proofs.pair.pairs_of.Given as goal

abbrev pub invariant-loop-row : goal.invariant-loop-row
invariant-loop-row l = l.pairs.items ≡ flat_map (pairs_of_row (length l.settings.domains)) (take l.row-index l.row-items)
