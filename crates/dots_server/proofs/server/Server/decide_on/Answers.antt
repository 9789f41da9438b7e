use Rattle.std.proofs.Common.{inl, inr, refl}
use Rattle.dots_machine.specs.declared.verdict.Verdict.TheVariants as verdict
use Rattle.dots_machine.specs.Deciding.{answer_to}
use Rattle.dots_machine.specs.Machine.{facts_in}
use Rattle.dots_machine.specs.Replies.{unavailable}
use Rattle.dots_server.proofs.Watching.{lacking_does}
use Rattle.dots_server.proofs.server.Server.decide_on.Goals as goal

pub returns-in-Ok-clause-does : goal.returns-in-Ok-clause-does
returns-in-Ok-clause-does c = λ settings state represents.
    rw c.in-Asked.is (answer_to settings (facts_in settings state) c.args.peer c.in-Asked.exchange c.in-Asked.request, inl refl, c.in-Ok.ensures.does settings state represents)

pub returns-in-Err-clause-does : goal.returns-in-Err-clause-does
returns-in-Err-clause-does c = λ settings state represents.
    rw (c.in-Asked.is, c.unobserved-in-Err.ensures, c.unavailable.ensures)
    (verdict.Reply (unavailable c.in-Asked.exchange), inr (c.in-Err.ensures.lacks settings state represents, refl), lacking_does settings c.args.peer state.observers c.in-Asked.exchange c.in-Asked.request)
