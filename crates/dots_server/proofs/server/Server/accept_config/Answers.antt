use Rattle.std.proofs.Common.{sym, ap, ◌∙◌, subst}
use Rattle.dots_registry.specs.RegistryValues.{time_of}
use Rattle.dots_machine.specs.Deciding.{config_entry}
use Rattle.dots_server.specs.ServerValues.{ServerValue, IsAcceptable}
use Rattle.dots_server.proofs.HearingPeers.{config_acceptable}
use Rattle.dots_server.proofs.server.Server.accept_config.Goals as goal

pub returns-clause-ready : goal.returns-clause-ready
returns-clause-ready c =
    subst (IsAcceptable c.args.self.now)
    (sym (c.in_ok-entry-2.ensures.value ∙ c.in_ok-entry.ensures.entry
    ∙ ap (λ t. config_entry t c.args.peer c.args.domain c.args.exchange.now c.args.reply c.args.change)
    (c.time-time.ensures ∙ ap time_of c.registry.ensures ∙ ap (λ (server : ServerValue). time_of server.registry) c.self.view_is)))
    (config_acceptable c.args.self.now c.args.peer c.args.domain c.args.exchange.now c.args.reply c.args.change c.requires.may c.requires.configures c.requires.within c.in_ok-entry.ensures.reply)
