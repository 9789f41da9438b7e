use Rattle.coap_tcp.proofs.Streams.{read_stream, one_reading}
use Rattle.coap_tcp.proofs.laws.however_cut.Goals as goal

pub returns-clause-whole : goal.returns-clause-whole
returns-clause-whole c buffered pieces frames end x = read_stream buffered pieces frames end x

pub returns-clause-same : goal.returns-clause-same
returns-clause-same c pieces parts frames others end other same x y = one_reading pieces parts frames others end other same x y
