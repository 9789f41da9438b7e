use Rattle.std.proofs.Common.{Some, ap, sym, ◌∙◌}
use Rattle.std.specs.Prelude.{option_map}
use Rattle.std.specs.Result.{result_unwrap_or}
use Rattle.coap_block.specs.Knowing.{asked_with}
use Rattle.coap_block.proofs.Sending.{no_reply, notice_sends, reply_sends}
use Rattle.coap_block.proofs.cutting.Cutting.reply.Goals as goal

pub returns-in_default-replied-clause-sends : goal.returns-in_default-replied-clause-sends
returns-in_default-replied-clause-sends c =
    let m = c.in-Ok.message in
    let inside = c.self.inside in
    let view = sym c.self.view_is in
    let none = no_reply c.args.self.now.blocks inside.awaited inside.request.filled c.args.peer m (ap (λ known. known.blocks.awaited) view) c.in_default-replied.ensures.none in
    notice_sends _ _ _ c.notify.new.room.filled c.notify.result m _ inside.stored.items _ inside.observed.items c.as_slice.result.now c.in-Ok.ensures.found.0 c.in-Ok.ensures.found.1
    (λ n is spells. ap (λ r. result_unwrap_or r m) (c.in-Ok.ensures.only n is spells)) none (ap (λ known. known.blocks) view) c.as_slice.ensures.value c.notify.ensures.noticed

pub returns-clause-sends : goal.returns-clause-sends
returns-clause-sends c =
    let m = c.in-Ok.message in
    let inside = c.self.inside in
    let view = sym c.self.view_is in
    let request = c.bytes-request.result.now in
    let asked = asked_with request c.in-Some.awaited in
    let some = c.in-Some.ensures.some in
    let awaits = ap (λ known. known.blocks.awaited) view ∙ ap (option_map (asked_with inside.request.filled)) some.0 ∙ ap (λ filled. Some (asked_with filled c.in-Some.awaited)) (sym c.bytes-request.ensures) in
    reply_sends _ _ _ c.answer_reply.new.room.filled c.answer_reply.result m asked inside.stored.items _ inside.observed.items _ c.in-Ok.ensures.found.0 c.in-Ok.ensures.found.1 awaits (some.1 request) (ap (λ known. known.blocks.stored) view)
    (ap (λ known. known.blocks.observed) view) c.answer_reply.ensures.answered c.note_reply.ensures.noted
