use Rattle.std.proofs.Common.{arith}
use Rattle.coap_block.proofs.Asking.{seen_shorter, written_shorter}
use Rattle.coap_block.proofs.Whether.{sees_other}
use Rattle.coap_block.proofs.cutting.Cutting.see.Goals as goal

pub returns-then-not-may_be_get-clause-sees : goal.returns-then-not-may_be_get-clause-sees
returns-then-not-may_be_get-clause-sees c = sees_other c.args.peer c.args.datagram.now (λ i. omega (arith, c.type_inv.datagram i)) c.if-not-may_be_get.ensures

pub returns-clause-shorter : goal.returns-clause-shorter
returns-clause-shorter c =
    written_shorter _ _ _ _ _ c.see_message-awaited.ensures.seen (seen_shorter c.in-Ok.message c.in-Ok.ensures.found.0.options) c.in-Ok.ensures.found.1
