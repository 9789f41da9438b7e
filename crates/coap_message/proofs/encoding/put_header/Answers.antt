use Rattle.std.proofs.Common.{◌+◌, ◌*◌, ◌∷◌, length, arith, rules}
use Rattle.coap_message.specs.Message.{kind_number}
use Rattle.std.specs.Int.{w16, to_be_bytes}
use Rattle.coap_message.proofs.PutAt.{put_then}
use Rattle.coap_message.proofs.encoding.put_header.Goals as goal

pub returns-clause-written : goal.returns-clause-written
returns-clause-written c =
    let parts = c.args.parts.now in
    let first = 64 + 16 * kind_number parts.kind + length parts.token.now in
    put_then 0 (first ∷ parts.code ∷ to_be_bytes w16 parts.id) parts.token.now c.args.into.now _ _ _ (search rules) c.put-behind.ensures.behind c.put.ensures.written (omega (arith, c.requires.room))
