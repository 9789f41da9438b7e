use Rattle.coap_tcp.specs.Datagrams.{frame_of}
use Rattle.coap_tcp.proofs.CutValues.{frame_again}
use Rattle.coap_tcp.proofs.Putting.{parts_frame}
use Rattle.coap_tcp.proofs.laws.written_frame.Goals as goal

pub returns : goal.returns
returns c parts more valid ranges size = frame_again (frame_of parts) more (parts_frame parts valid ranges size)
