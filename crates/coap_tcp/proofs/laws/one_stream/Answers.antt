use Rattle.coap_tcp.proofs.Streams.{one_stream}
use Rattle.coap_tcp.proofs.laws.one_stream.Goals as goal

pub returns : goal.returns
returns c bytes frames others end other rest left x y = one_stream bytes frames others end other rest left x y
