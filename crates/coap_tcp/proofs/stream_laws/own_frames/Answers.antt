use Rattle.std.proofs.Common.{[], refl, arith}
use Rattle.coap_tcp.proofs.CutValues.{frame_again}
use Rattle.coap_tcp.specs.declared.codes.TheConstants.{CSM, ABORT, PONG}
use Rattle.coap_tcp.specs.Turns.{plain}
use Rattle.coap_tcp.proofs.FrameLemmas.{plain_frame}
use Rattle.coap_tcp.proofs.stream_laws.own_frames.Goals as goal

pub returns-clause-csm : goal.returns-clause-csm
returns-clause-csm c more = (refl, frame_again (plain CSM []) more (plain_frame CSM [] (omega arith) (omega arith)))

pub returns-clause-abort : goal.returns-clause-abort
returns-clause-abort c more = (refl, frame_again (plain ABORT []) more (plain_frame ABORT [] (omega arith) (omega arith)))

pub returns-clause-pong : goal.returns-clause-pong
returns-clause-pong c token more short = frame_again (plain PONG token) more (plain_frame PONG token (omega arith) short)
