use Rattle.std.proofs.Common.{arith, sym, ◌∙◌}
use Rattle.coap_tcp.proofs.CutValues.{cut_begins, cut_size, waits_short}
use Rattle.coap_tcp.proofs.cutting.cut_buffered.Goals as goal

pub returns-clause-begins : goal.returns-clause-begins
returns-clause-begins c = cut_begins c.args.buffered.now c.cut_front.result (λ i. omega (arith, c.type_inv.buffered i)) c.cut_front.ensures.cut c.cut_front.ensures.length

pub returns-clause-size : goal.returns-clause-size
returns-clause-size c = cut_size c.args.buffered.now c.cut_front.result (λ i. omega (arith, c.type_inv.buffered i)) c.cut_front.ensures.cut c.cut_front.ensures.length

pub returns-clause-room : goal.returns-clause-room
returns-clause-room c = λ e. waits_short c.args.buffered.now (λ i. omega (arith, c.type_inv.buffered i)) (sym c.cut_front.ensures.cut ∙ e)
