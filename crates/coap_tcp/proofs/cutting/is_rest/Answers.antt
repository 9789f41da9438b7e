use Rattle.std.proofs.Common.{sym, arith}
use Rattle.coap_tcp.proofs.Rests.{rest_found, rest_broken}
use Rattle.coap_tcp.proofs.cutting.is_rest.Goals as goal

pub returns-in-Ok : goal.returns-in-Ok
returns-in-Ok c = sym (rest_found _ _ _ c.in-Ok.ensures.found)

pub returns-in-Err : goal.returns-in-Err
returns-in-Err c = sym (rest_broken _ _ (λ i. omega (arith, c.type_inv.bytes i)) c.in-Err.ensures.breaks)
