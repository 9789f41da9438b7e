use Rattle.std.proofs.Common.{length}
use Rattle.coap_message.proofs.Put.{PutSoFar}
use Rattle.coap_message.proofs.encoding.put_options.Given as goal

abbrev pub invariant-loop-part : goal.invariant-loop-part
invariant-loop-part l = PutSoFar l.fn.into l.fn.at l.options l.fn.values l.into l.at l.previous l.rest l.values

abbrev pub decreases-loop-part : goal.decreases-loop-part
decreases-loop-part l = length l.rest
