use Rattle.std.proofs.Common.{arith}
use Rattle.coap_message.specs.Message.{options_bytes}
use Rattle.coap_block.specs.declared.block.BlockOption.{BlockOption}
use Rattle.coap_block.specs.Blocks.{with_block}
use Rattle.coap_block.specs.Spelling.{head_of}
use Rattle.coap_block.proofs.Cuts.{payload_size, with_block_size, put_size, clear_size}
use Rattle.coap_block.proofs.cut.write_cut.Goals as goal

pub put_payload-requires : goal.put_payload-requires
put_payload-requires c =
    let block : BlockOption = record { number = c.args.block.now.number; more = c.follows.result; exponent = c.args.block.now.exponent } in
    let none = clear_size c.args.room.now c.clear.new.self c.clear.ensures in
    let head = put_size c.clear.new.self c.put_head.new.room (head_of (record c.args.message.now { code = c.code.result })) c.put_head.ensures in
    let options = put_size c.put_head.new.room c.put_with_block.new.room (options_bytes 0 (with_block c.args.message.now.options block)) c.put_with_block.ensures in
    omega (arith, none.0, none.1, head.0, head.1, options.0, options.1, with_block_size c.args.message.now.options block, payload_size c.part_of.result.now, c.part_of.ensures.bound, c.requires.head, c.requires.room)
