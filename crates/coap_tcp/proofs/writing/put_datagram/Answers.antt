use Rattle.std.proofs.Common.{◌+◌, ◌∷◌, [], length, arith, rules}
use Rattle.coap_message.proofs.PutAt.{put_then, place_then}
use Rattle.coap_message.specs.declared.kind.Kind.TheVariants.{Con}
use Rattle.coap_message.specs.Message.{header}
use Rattle.std.proofs.lemmas.List.{length-append}
use Rattle.coap_tcp.proofs.writing.put_datagram.Goals as goal

pub returns-clause-written : goal.returns-clause-written
returns-clause-written c =
    let frame = c.args.frame.now in
    let first = (64 + length frame.token.now) ∷ frame.code ∷ 0 ∷ 0 ∷ [] in
    let whole = header Con frame.code 0 frame.token.now in
    let one = put_then 0 first frame.token.now c.args.into.now _ _ _ (search rules) c.put-behind.ensures.behind c.put-behind-2.ensures.written (omega (arith, c.requires.room)) in
    put_then 0 whole frame.rest.now c.args.into.now _ _ _ one (place_then 0 first frame.token.now _ _ c.put-behind.ensures.behind c.put-behind-2.ensures.behind) c.put.ensures.written (omega (arith, length-append whole frame.rest.now, c.requires.room))
