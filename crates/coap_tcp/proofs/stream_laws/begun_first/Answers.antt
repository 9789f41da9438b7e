use Rattle.coap_tcp.proofs.Connections.{first_of}
use Rattle.coap_tcp.proofs.stream_laws.begun_first.Goals as goal

pub returns : goal.returns
returns c bytes turn turns x = first_of bytes turn turns x
