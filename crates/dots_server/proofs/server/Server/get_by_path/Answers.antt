use Rattle.dots_machine.specs.Machine.{facts_in}
use Rattle.dots_server.proofs.Asked.{reads_there}
use Rattle.dots_server.proofs.Verdicts.{if_ok}
use Rattle.dots_server.proofs.server.Server.get_by_path.Goals as goal

pub returns-in-Some-clause-does : goal.returns-in-Some-clause-does
returns-in-Some-clause-does c = λ settings state represents.
    if_ok c.read.result _ _
    (λ decision does.
    reads_there c.args.self.now.settings settings c.args.peer c.args.own c.args.path c.requires.own represents.settings_are c.args.exchange c.args.content c.args.observe (facts_in settings state) state.observers
    c.in-Some.from decision.watching decision.verdict c.in-Some.ensures.some.0 c.in-Some.ensures.some.1 does)
    (c.read.ensures.does settings state represents)
