use Rattle.coap_tcp.proofs.CutValues.{frame_found}
use Rattle.coap_tcp.proofs.Streams.{begins_takes, one_front}
use Rattle.coap_tcp.proofs.laws.one_frame.Goals as goal

pub returns-clause-read : goal.returns-clause-read
returns-clause-read c bytes f fits e = frame_found bytes f fits e

pub returns-clause-spelled : goal.returns-clause-spelled
returns-clause-spelled c bytes f behind x = begins_takes bytes f behind x

pub returns-clause-alone : goal.returns-clause-alone
returns-clause-alone c bytes f g behind other x y = one_front bytes f g behind other x y
