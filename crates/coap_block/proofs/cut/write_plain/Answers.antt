use Rattle.std.proofs.Common.{arith}
use Rattle.coap_block.specs.Spelling.{head_of}
use Rattle.coap_block.proofs.Cuts.{payload_size, put_size, clear_size}
use Rattle.coap_block.proofs.cut.write_plain.Goals as goal

pub put_head-requires : goal.put_head-requires
put_head-requires c =
    let none = clear_size c.args.room.now c.clear.new.self c.clear.ensures in
    omega (arith, none.0, none.1, c.requires.head, c.requires.room)

pub put_payload-requires : goal.put_payload-requires
put_payload-requires c =
    let none = clear_size c.args.room.now c.clear.new.self c.clear.ensures in
    let head = put_size c.clear.new.self c.put_head.new.room (head_of (record c.args.message.now { code = c.args.code })) c.put_head.ensures in
    omega (arith, none.0, none.1, head.0, head.1, payload_size c.args.text.now, c.requires.text, c.requires.head, c.requires.room)
