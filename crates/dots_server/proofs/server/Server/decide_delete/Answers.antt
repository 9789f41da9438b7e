use Rattle.dots_machine.specs.Mitigations.{sent_by, delete_answer}
use Rattle.dots_machine.specs.Machine.{facts_in}
use Rattle.dots_server.proofs.Verdicts.{repeat_found}
use Rattle.dots_server.proofs.Yielding.{repeats_none}
use Rattle.dots_server.proofs.server.Server.decide_delete.Goals as goal

pub returns-in-Some-clause-decides : goal.returns-in-Some-clause-decides
returns-in-Some-clause-decides c = λ settings state stands.
    repeat_found ((facts_in settings state).repeated (sent_by c.args.from.now)) (delete_answer (facts_in settings state) c.args.from.now c.args.mid) c.in-Some.reply
    (c.in-Some.ensures settings state stands)

pub returns-clause-decides : goal.returns-clause-decides
returns-clause-decides c = λ settings state stands.
    repeats_none c.judge_delete.result ((facts_in settings state).repeated (sent_by c.args.from.now)) (delete_answer (facts_in settings state) c.args.from.now c.args.mid)
    (c.in_default.ensures settings state stands) (c.judge_delete.ensures.decides settings state stands)
