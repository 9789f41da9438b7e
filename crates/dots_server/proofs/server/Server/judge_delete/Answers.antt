use Rattle.std.proofs.Common.{sym, ◌∙◌, subst}
use Rattle.dots_machine.specs.Replies.{deleted}
use Rattle.dots_server.specs.ServerValues.{CanCarryOut}
use Rattle.dots_server.proofs.Verdicts.{if_both}
use Rattle.dots_server.proofs.Accepting.{withdrawal_acceptable}
use Rattle.dots_server.proofs.server.Server.judge_delete.Goals as goal

pub returns-clause-ready : goal.returns-clause-ready
returns-clause-ready c =
    if_both c.withdraw.result _ _ _ _
    (λ v is named short.
    subst (λ v. CanCarryOut v c.args.self.now) (sym is)
    (withdrawal_acceptable c.args.self.now c.args.from.now c.args.mid (deleted c.args.from.now.exchange) c.requires.acts named short
    (λ settings state represents. sym (c.is_taken.ensures settings state represents) ∙ c.if-is_taken.false)))
    c.withdraw.ensures.verdict c.withdraw.ensures.cuid c.withdraw.ensures.reply
