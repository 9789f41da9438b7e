use Rattle.std.proofs.Common.{◌≤◌, ◌+◌, ◌++◌, length, arith}
use Rattle.coap_message.specs.Message.{header, options_bytes, payload_bytes}
use Rattle.coap_message.specs.Parts.{options_of}
use Rattle.coap_message.proofs.PutAt.{put_then, place_then, put_front}
use Rattle.std.proofs.lemmas.List.{length-append}
use Rattle.coap_message.proofs.encoding.encode_into.Goals as goal

pub returns-clause-written : goal.returns-clause-written
returns-clause-written c =
    let parts = c.args.parts.now in
    let front = header parts.kind parts.code parts.id parts.token.now in
    let options = options_bytes 0 (options_of parts.options.now parts.values.now) in
    let payload = payload_bytes parts.payload.now in
    let whole : 0 + length (front ++ options ++ payload) ≤ length c.args.into.now = omega (arith, c.requires.room) in
    let first = put_then 0 front options c.args.into.now _ _ _ c.put_header-behind.ensures.written (omega (arith, c.put_header-behind.ensures.behind)) c.put_options-behind.ensures.written (omega (arith, whole, length-append (front ++ options) payload)) in
    let place = place_then 0 front options _ _ (omega (arith, c.put_header-behind.ensures.behind)) c.put_options-behind.ensures.behind in
    let second = put_then 0 (front ++ options) payload c.args.into.now _ _ _ first place c.put_payload.ensures.written whole in
    put_front (front ++ options ++ payload) c.args.into.now _ _ second (place_then 0 (front ++ options) payload _ _ place c.put_payload.ensures.behind)
