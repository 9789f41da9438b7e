use Rattle.coap_tcp.proofs.Connections.{served_frame}
use Rattle.coap_tcp.proofs.stream_laws.served_frame.Goals as goal

pub returns-clause-frame : goal.returns-clause-frame
returns-clause-frame c begun bytes f fits e = served_frame begun bytes f fits e
