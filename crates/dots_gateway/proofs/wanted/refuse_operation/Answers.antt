use Rattle.std.proofs.Common.{sym, ap, ◌∙◌}
use Rattle.dots_gateway.proofs.Refusals.{judged, refused_so}
use Rattle.dots_gateway.proofs.wanted.refuse_operation.Goals as goal

pub returns-in-Err : goal.returns-in-Err
returns-in-Err c = λ cdid cuid mid is.
    c.operation_refusal.ensures ∙ sym (ap judged c.in-Err.ensures.value) ∙ refused_so c.args.message.now cdid cuid mid c.requires.critical c.requires.hop is
