use Rattle.std.proofs.Common.{sym, ap, ◌∙◌, subst}
use Rattle.dots_machine.specs.declared.verdict.Verdict.TheVariants as verdict
use Rattle.conflict_rules.specs.AskableTargets.{scope_fault}
use Rattle.dots_server.specs.ServerValues.{Represents}
use Rattle.dots_server.proofs.Verdicts.{server_finds_fault, server_repeats}
use Rattle.dots_server.proofs.Yielding.{put_yields}
use Rattle.dots_server.proofs.server.Server.decide_asked.Goals as goal

pub returns-in-Some-clause-decides : goal.returns-in-Some-clause-decides
returns-in-Some-clause-decides c = λ settings state represents.
    let is = ap (λ p. scope_fault c.self.inside.settings p c.args.asked.now.body.asked) (sym c.prefixes_of-domain.ensures.value) ∙ sym c.scope_fault.ensures ∙ c.in-Some.is in
    ap verdict.Reply c.bad_target.ensures
    ∙ server_finds_fault (record { settings = c.self.inside.settings; registry = c.self.inside.ledger.registry; journal = c.self.inside.ledger.journal; watch = c.self.inside.watch; lines = c.self.inside.lines }) settings state c.args.asked.now
    (subst (λ server. Represents server settings state) (sym c.self.view_is) represents) c.in-Some.fault is

pub returns-in-Some-known-clause-decides : goal.returns-in-Some-known-clause-decides
returns-in-Some-known-clause-decides c = λ settings state represents.
    let none = ap (λ p. scope_fault c.self.inside.settings p c.args.asked.now.body.asked) (sym c.prefixes_of-domain.ensures.value) ∙ sym c.scope_fault.ensures ∙ c.in_default.is in
    server_repeats (record { settings = c.self.inside.settings; registry = c.self.inside.ledger.registry; journal = c.self.inside.ledger.journal; watch = c.self.inside.watch; lines = c.self.inside.lines }) settings state c.args.asked.now
    (subst (λ server. Represents server settings state) (sym c.self.view_is) represents) c.in-Some-known.reply none (c.in-Some-known.ensures settings state represents)

pub returns-clause-decides : goal.returns-clause-decides
returns-clause-decides c = λ settings state represents.
    let none = ap (λ p. scope_fault c.self.inside.settings p c.args.asked.now.body.asked) (sym c.prefixes_of-domain.ensures.value) ∙ sym c.scope_fault.ensures ∙ c.in_default.is in
    put_yields c.judge.result (record { settings = c.self.inside.settings; registry = c.self.inside.ledger.registry; journal = c.self.inside.ledger.journal; watch = c.self.inside.watch; lines = c.self.inside.lines }) settings state c.args.asked.now
    (subst (λ server. Represents server settings state) (sym c.self.view_is) represents) none (c.in_default-known.ensures settings state represents)
    (c.judge.ensures.decides settings state represents)
