use Rattle.coap_exchange.proofs.HistoryRings.{pairs_noted, pairs_moved}
use Rattle.coap_exchange.proofs.laws.rings_stay.Goals as goal

pub returns : goal.returns
returns c = record { noted = pairs_noted; moved = pairs_moved }
