use Rattle.coap_tcp.proofs.Connections.{each_connection, one_connection}
use Rattle.coap_tcp.proofs.stream_laws.one_connection.Goals as goal

pub returns-clause-each : goal.returns-clause-each
returns-clause-each c begun bytes fits = each_connection begun bytes fits

pub returns-clause-one : goal.returns-clause-one
returns-clause-one c begun bytes turns others x y = one_connection begun bytes turns others x y
