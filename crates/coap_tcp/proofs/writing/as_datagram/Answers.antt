use Rattle.std.proofs.Common.{◌++◌, arith}
use Rattle.std.proofs.lemmas.List.{length-append}
use Rattle.coap_message.specs.declared.kind.Kind.TheVariants.{Con}
use Rattle.coap_message.specs.Message.{header}
use Rattle.coap_tcp.specs.FrameReading.{frame_value}
use Rattle.coap_tcp.proofs.Putting.{put_taken, datagram}
use Rattle.coap_tcp.proofs.writing.as_datagram.Goals as goal

pub returns-clause-message : goal.returns-clause-message
returns-clause-message c =
    let frame = c.args.frame.now in
    let whole = header Con frame.code 0 frame.token.now in
    datagram (frame_value frame) _ c.requires.frame c.requires.code
    (put_taken (whole ++ frame.rest.now) _ _ _ c.put_datagram.ensures.written (omega (arith, length-append whole frame.rest.now, c.put_datagram.ensures.behind)))
