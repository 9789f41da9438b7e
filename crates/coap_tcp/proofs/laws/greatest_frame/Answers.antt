use Rattle.coap_tcp.proofs.CutValues.{frame_size, waits_short}
use Rattle.coap_tcp.proofs.laws.greatest_frame.Goals as goal

pub returns-clause-frame : goal.returns-clause-frame
returns-clause-frame c f is = frame_size f is

pub returns-clause-waits : goal.returns-clause-waits
returns-clause-waits c bytes fits e = waits_short bytes fits e
