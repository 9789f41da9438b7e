use Rattle.coap_tcp.proofs.Connections.{read_connection, one_reading, each_reading}
use Rattle.coap_tcp.proofs.stream_laws.however_cut.Goals as goal

pub returns-clause-whole : goal.returns-clause-whole
returns-clause-whole c s pieces turns fits x = read_connection s pieces turns fits x

pub returns-clause-same : goal.returns-clause-same
returns-clause-same c s pieces parts turns others fits same x y = one_reading s pieces parts turns others fits same x y

pub returns-clause-each : goal.returns-clause-each
returns-clause-each c s pieces fits = each_reading s pieces fits
