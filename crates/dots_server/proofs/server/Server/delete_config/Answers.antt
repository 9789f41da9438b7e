use Rattle.std.proofs.Common.{◌≡◌, subst}
use Rattle.dots_settings.specs.Lookups.{role_of}
use Rattle.dots_machine.specs.MessageRepeats.{sent_for}
use Rattle.dots_machine.specs.ConfiguredPeers.{is_held, configured_in}
use Rattle.dots_machine.specs.Deciding.{clear_answer, delete_config_for}
use Rattle.dots_machine.specs.Machine.{facts_in}
use Rattle.dots_server.specs.Asking.{role_with}
use Rattle.dots_server.proofs.Verdicts.{in_session}
use Rattle.dots_server.proofs.Yielding.{yields_so, repeats_none}
use Rattle.dots_server.proofs.server.Server.delete_config.Goals as goal

pub returns-clause-decides : goal.returns-clause-decides
returns-clause-decides c = λ settings state represents.
    let peer = c.args.peer in
    let domain = c.config_domain-domain.result in
    let x = c.args.exchange.now in
    yields_so c.clear_config.result _ _
    (in_session settings peer x c.args.own (subst (λ s. role_of s peer ≡ role_with c.args.own) represents.settings_are c.requires.own.role) domain c.config_domain-domain.ensures.domain
    (delete_config_for (facts_in settings state) peer x c.args.sid))
    (repeats_none c.clear_config.result ((facts_in settings state).repeated (sent_for peer x domain))
    (clear_answer state.time peer domain x (is_held c.args.sid (configured_in state.history domain peer)))
    (c.in_default.ensures settings state represents) (c.clear_config.ensures.decides settings state represents))
