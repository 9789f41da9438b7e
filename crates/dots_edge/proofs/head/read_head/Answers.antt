use Rattle.std.proofs.Common.{ap, ◌∙◌}
use Rattle.coap_message.proofs.Whole.{whole_head}
use Rattle.dots_edge.specs.Headers.{head_in, front_of}
use Rattle.dots_edge.proofs.head.read_head.Goals as goal

pub returns-clause-message : goal.returns-clause-message
returns-clause-message c = λ m is spelled. c.read_front.ensures ∙ ap head_in spelled ∙ ap front_of (whole_head m is)
