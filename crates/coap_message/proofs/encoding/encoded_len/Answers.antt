use Rattle.std.proofs.Common.{◌∙◌, arith}
use Rattle.coap_message.proofs.Put.{spelling_size}
use Rattle.coap_message.proofs.encoding.encoded_len.Goals as goal

pub options_len-requires-clause-fits : goal.options_len-requires-clause-fits
options_len-requires-clause-fits c = omega (arith, spelling_size c.args.parts.now c.requires.values, c.payload_len.ensures, c.requires.size)

pub returns : goal.returns
returns c = c.options_len.ensures ∙ omega (arith, spelling_size c.args.parts.now c.requires.values, c.payload_len.ensures)
