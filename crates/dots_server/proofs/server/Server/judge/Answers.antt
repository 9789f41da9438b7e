use Rattle.std.proofs.Common.{sym, ap, ◌∙◌, subst, refl, true, Ok}
use Rattle.conflict_rules.specs.ByHistory.{judge_request}
use Rattle.conflict_rules.specs.Results.{Fails}
use Rattle.dots_machine.specs.Mitigations.{grant, request_of}
use Rattle.dots_machine.specs.Replies.{granting}
use Rattle.dots_server.specs.ServerValues.{CanCarryOut}
use Rattle.dots_server.proofs.Verdicts.{if_ok, if_both, judged_here}
use Rattle.dots_server.proofs.Yielding.{judged_by, grant_yields, refusal_yields}
use Rattle.dots_server.proofs.Accepting.{grant_acceptable}
use Rattle.dots_server.proofs.server.Server.judge.Goals as goal

pub returns-in-Ok-clause-decides : goal.returns-in-Ok-clause-decides
returns-in-Ok-clause-decides c = λ settings state represents.
    let asked = c.args.asked.now in
    judged_by c.grant.result c.args.self.now settings state asked represents (Ok c.in-Ok.judged)
    (judged_here c.args.self.now settings state asked represents (Ok c.in-Ok.judged) (c.in-Ok.ensures state.history represents.registry))
    (grant_yields c.grant.result (grant state.time asked.from c.in-Ok.judged) true refl
    (if_ok c.grant.result _ _ (λ v is. is ∙ ap (λ t. grant t asked.from c.in-Ok.judged) represents.time_is) c.grant.ensures.verdict))

pub returns-in-Ok-clause-ready : goal.returns-in-Ok-clause-ready
returns-in-Ok-clause-ready c =
    let asked = c.args.asked.now in
    if_both c.grant.result _ _ _ _
    (λ v is named short.
    subst (λ v. CanCarryOut v c.args.self.now) (sym is)
    (grant_acceptable c.args.self.now asked c.in-Ok.judged (granting asked.from.exchange c.in-Ok.judged) c.requires.acts c.requires.clear c.requires.askable.few c.requires.waits named short
    (λ settings state represents. judged_here c.args.self.now settings state asked represents (Ok c.in-Ok.judged) (c.in-Ok.ensures state.history represents.registry))))
    c.grant.ensures.verdict c.grant.ensures.cuid c.grant.ensures.reply

pub returns-in-Err-clause-decides : goal.returns-in-Err-clause-decides
returns-in-Err-clause-decides c = λ settings state represents.
    let asked = c.args.asked.now in
    refusal_yields c.refuse.result state.time asked (judge_request settings state.time state.history asked.from.domain (request_of asked)) c.in-Err.fault
    (subst (Fails c.in-Err.fault) (sym (judged_here c.args.self.now settings state asked represents _ refl)) (c.in-Err.ensures state.history represents.registry))
    c.refuse.ensures.verdict c.refuse.ensures.known c.refuse.ensures.lacks
