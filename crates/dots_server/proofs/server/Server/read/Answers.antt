use Rattle.std.proofs.Common.{◌≡◌, sym, subst}
use Rattle.dots_machine.specs.Machine.{facts_in}
use Rattle.dots_machine.specs.Mitigations.{get_answer}
use Rattle.dots_server.specs.Observing.{asked_from, Does}
use Rattle.dots_server.specs.MitigationReading.{read_as, CanAnswer}
use Rattle.dots_server.proofs.Watching.{watched_does}
use Rattle.dots_server.proofs.server.Server.read.Goals as goal

pub returns-in-Answered-clause-does : goal.returns-in-Answered-clause-does
returns-in-Answered-clause-does c = λ settings state represents.
    let from = c.args.from in
    let answer = get_answer (facts_in settings state) from c.args.mid c.args.content in
    let is = subst (λ reading. read_as from.exchange reading ≡ answer) c.in-Answered.is (c.in_ok-verdict.ensures.decides settings state represents) in
    let can = subst (λ reading. CanAnswer reading c.args.self.now) c.in-Answered.is c.in_ok-verdict.ensures.ready in
    subst (λ w. Does settings from.peer state.observers (asked_from from c.args.mid c.args.content c.args.observe) answer w c.in-Answered.verdict) (sym c.leaving.ensures)
    (watched_does c.args.self.now settings (facts_in settings state) from c.args.mid c.args.content state.observers c.in-Answered.verdict is can c.args.observe)
