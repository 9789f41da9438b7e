use Rattle.std.proofs.Common.{length, ap, arith}
use Rattle.coap_message.specs.Message.{options_bytes, payload_bytes}
use Rattle.coap_block.specs.Spelling.{among, head_of}
use Rattle.coap_block.specs.declared.spelling.Which.TheVariants as which
use Rattle.coap_block.proofs.Cuts.{front_are, chosen_fit, spelling_size, put_size, clear_size}
use Rattle.coap_block.proofs.cut.write_without_block.Goals as goal

pub put_options-requires-clause-are : goal.put_options-requires-clause-are
put_options-requires-clause-are c = front_are c.args.message.now.options _ which.ButBlock c.options-options.ensures.value c.options-options.ensures.are

pub put_options-requires-clause-room : goal.put_options-requires-clause-room
put_options-requires-clause-room c =
    let none = clear_size c.args.room.now c.clear.new.self c.clear.ensures in
    let head = put_size c.clear.new.self c.put_head.new.room (head_of (record c.args.message.now { code = c.code.result })) c.put_head.ensures in
    let fits = chosen_fit which.ButBlock c.args.message.now.options c.options-options.result (length (options_bytes 0 c.args.message.now.options)) c.options-options.ensures.value c.options-options.ensures.are (omega arith) in
    omega (arith, none.0, none.1, head.0, head.1, fits, spelling_size c.args.message.now, c.requires.size)

pub put_payload-requires : goal.put_payload-requires
put_payload-requires c =
    let none = clear_size c.args.room.now c.clear.new.self c.clear.ensures in
    let head = put_size c.clear.new.self c.put_head.new.room (head_of (record c.args.message.now { code = c.code.result })) c.put_head.ensures in
    let options = put_size c.put_head.new.room c.put_options.new.room (options_bytes 0 (among which.ButBlock c.options-options.result)) c.put_options.ensures.written in
    let fits = chosen_fit which.ButBlock c.args.message.now.options c.options-options.result (length (options_bytes 0 c.args.message.now.options)) c.options-options.ensures.value c.options-options.ensures.are (omega arith) in
    let payload = ap (λ bytes. length (payload_bytes bytes)) c.payload.ensures in
    omega (arith, none.0, none.1, head.0, head.1, options.0, options.1, fits, payload, spelling_size c.args.message.now, c.requires.size)
