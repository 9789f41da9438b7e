use Rattle.std.proofs.Common.{arith}
use Rattle.coap_message.specs.Message.{options_bytes}
use Rattle.coap_block.specs.Spelling.{among}
use Rattle.coap_block.proofs.Among.{among_first}
use Rattle.coap_block.proofs.Sizes.{first_fits, together_fit}
use Rattle.coap_block.proofs.spelling.put_options.Goals as goal

pub put_option-requires-clause-room : goal.put_option-requires-clause-room
put_option-requires-clause-room c =
    let first = among_first c.args.which (record { number = c.in-Some.row.number; value = c.in-Some.row.value.now }) c.loop-row.options c.next.new.self c.in-Some.ensures.steps c.if-has.ensures in
    let room = together_fit c.args.room.now.filled (options_bytes c.args.previous (among c.args.which c.args.options.now)) c.args.room.now.most c.requires.room in
    first_fits c.loop-row.room.filled _ c.loop-row.previous c.loop-row.room.most _ _ _ first c.loop-row.invariant.text (omega (arith, room, c.loop-row.invariant.most))
