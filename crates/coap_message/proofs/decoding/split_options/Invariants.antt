use Rattle.std.proofs.Common.{length}
use Rattle.coap_message.proofs.Ending.{SoFar}
use Rattle.coap_message.proofs.decoding.split_options.Given as goal

abbrev pub invariant-loop-first : goal.invariant-loop-first
invariant-loop-first l = SoFar l.bytes l.previous l.rest

abbrev pub decreases-loop-first : goal.decreases-loop-first
decreases-loop-first l = length l.rest
