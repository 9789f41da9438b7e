use Rattle.std.proofs.Common.{length, ap, arith}
use Rattle.coap_message.specs.Message.{options_bytes}
use Rattle.coap_block.specs.declared.spelling.Which.TheVariants as which
use Rattle.coap_block.proofs.Cuts.{front_are, chosen_fit, spelling_size}
use Rattle.coap_block.proofs.cut.write_request.Goals as goal

pub put_options-requires-clause-are : goal.put_options-requires-clause-are
put_options-requires-clause-are c = front_are c.args.message.now.options _ which.PathAndQuery c.options-options.ensures.value c.options-options.ensures.are

pub put_options-requires-clause-room : goal.put_options-requires-clause-room
put_options-requires-clause-room c =
    let fits = chosen_fit which.PathAndQuery c.args.message.now.options c.options-options.result (length (options_bytes 0 c.args.message.now.options)) c.options-options.ensures.value c.options-options.ensures.are (omega arith) in
    omega (arith, fits, spelling_size c.args.message.now, c.requires.size, ap (λ room. length room.filled) c.clear.ensures, ap (λ room. room.most) c.clear.ensures)
