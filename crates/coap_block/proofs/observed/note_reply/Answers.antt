use Rattle.coap_block.specs.Knowing.{asked_with}
use Rattle.coap_block.proofs.Few.{noted_few}
use Rattle.coap_block.proofs.observed.note_reply.Goals as goal

pub returns-then-has_observe-clause-few : goal.returns-then-has_observe-clause-few
returns-then-has_observe-clause-few c = noted_few (asked_with c.args.request.now c.args.awaited.now) _ _ c.note_observer-noted.ensures c.requires.few
