use Rattle.coap_exchange.proofs.HistoryRings.{start_remembers, noted_remembers, other_remembers, moved_remembers, replies_remembered}
use Rattle.coap_exchange.proofs.laws.rings_remember_histories.Goals as goal

pub returns : goal.returns
returns c = record {
  start = start_remembers;
  noted = noted_remembers;
  other = other_remembers;
  moved = moved_remembers;
  replies = replies_remembered;
}
