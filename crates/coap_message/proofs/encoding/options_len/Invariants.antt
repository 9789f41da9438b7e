use Rattle.std.proofs.Common.{◌≡◌, ◌+◌, length}
use Rattle.coap_message.specs.Parts.{AreParts}
use Rattle.coap_message.specs.Writing.{options_size}
use Rattle.coap_message.proofs.encoding.options_len.Given as goal

abbrev pub invariant-loop-part : goal.invariant-loop-part
invariant-loop-part l = record { are : AreParts l.previous l.rest; total : l.total + options_size l.previous l.rest ≡ l.more + options_size 0 l.options }

abbrev pub decreases-loop-part : goal.decreases-loop-part
decreases-loop-part l = length l.rest
