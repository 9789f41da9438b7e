use Rattle.coap_exchange.proofs.HistoryRings.{start_has, step_has, lasts_of_calls}
use Rattle.coap_exchange.proofs.laws.rings_have_the_last.Goals as goal

pub returns : goal.returns
returns c = record { start = start_has; step = step_has; all = lasts_of_calls }
