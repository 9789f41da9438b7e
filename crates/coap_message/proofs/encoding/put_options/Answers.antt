use Rattle.coap_message.proofs.Put.{put_more}
use Rattle.coap_message.proofs.encoding.put_options.Goals as goal

pub loop-part-preserved : goal.loop-part-preserved
loop-part-preserved c =
    put_more _ _ _ _ _ _ _ _ _ c.in-Some.part.now _ c.split_at.result.0.now _ _ _ c.loop-part.invariant c.in-Some.ensures.cases.0 c.split_at.ensures.front c.split_at.ensures.back c.put_option-at.ensures.behind c.put_option-at.ensures.written c.requires.room
