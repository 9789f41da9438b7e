use Rattle.std.proofs.Common.{◌≡◌, true, option_map, List, sym, ap, ◌∙◌, subst}
use Rattle.dots_settings.specs.Lookups.{role_of}
use Rattle.dots_history.specs.declared.entry.Entry.{Entry}
use Rattle.dots_history.specs.Histories.{held}
use Rattle.dots_history.specs.Calm.{may_configure}
use Rattle.dots_history.specs.Held.{config_of}
use Rattle.held_resources.specs.Tables.{config_now}
use Rattle.dots_registry.specs.RegistryValues.{time_of}
use Rattle.dots_registry.specs.RegistryValues as registry
use Rattle.dots_machine.specs.declared.verdict.Verdict.TheVariants as verdict
use Rattle.dots_machine.specs.Replies.{configuration_reply}
use Rattle.dots_machine.specs.ConfiguredPeers.{configured_in}
use Rattle.dots_server.specs.ServerValues.{ServerValue, Represents}
use Rattle.dots_server.specs.HearingPeers.{is_wanted}
use Rattle.dots_server.specs.LackingMemory.{is_made}
use Rattle.dots_server.proofs.HearingPeers.{configured_here, view_wanted, view_absent}
use Rattle.dots_server.proofs.Verdicts.{if_ok}
use Rattle.dots_server.proofs.Yielding.{made_yields}
use Rattle.dots_server.proofs.server.Server.view_config.Goals as goal

pub returns-then-is_wanted-clause-decides : goal.returns-then-is_wanted-clause-decides
returns-then-is_wanted-clause-decides c = λ settings state represents.
    let server : ServerValue = record { settings = c.self.inside.settings; registry = c.self.inside.ledger.registry; journal = c.self.inside.ledger.journal; watch = c.self.inside.watch; lines = c.self.inside.lines } in
    let here = subst (λ server. Represents server settings state) (sym c.self.view_is) represents in
    let may = subst (λ (server : ServerValue). may_configure (role_of server.settings c.args.peer) c.args.domain ≡ true) (sym c.self.view_is) c.requires.may in
    let found =
    configured_here server settings state here c.args.peer c.args.domain may (option_map config_now c.config-held.result)
    (subst (λ tables. (entries : List Entry) → registry.Represents tables entries → option_map config_now c.config-held.result ≡ config_of c.args.peer (held entries)) c.registry.ensures c.config-held.ensures) in
    let configured = configured_in state.history c.args.domain c.args.peer in
    let wanted = view_wanted c.args.exchange.now c.args.sid configured (ap (is_wanted c.args.sid) (sym found) ∙ sym c.is_wanted.ensures ∙ c.if-is_wanted.true) in
    made_yields c.tell_config.result _ (ap is_made wanted)
    (if_ok c.tell_config.result _ _ (λ v is. is ∙ ap (λ kept. verdict.LongReply (configuration_reply c.args.exchange.now kept)) found ∙ sym wanted) c.tell_config.ensures.verdict)

pub returns-clause-decides : goal.returns-clause-decides
returns-clause-decides c = λ settings state represents.
    let server : ServerValue = record { settings = c.self.inside.settings; registry = c.self.inside.ledger.registry; journal = c.self.inside.ledger.journal; watch = c.self.inside.watch; lines = c.self.inside.lines } in
    let here = subst (λ server. Represents server settings state) (sym c.self.view_is) represents in
    let may = subst (λ (server : ServerValue). may_configure (role_of server.settings c.args.peer) c.args.domain ≡ true) (sym c.self.view_is) c.requires.may in
    let found =
    configured_here server settings state here c.args.peer c.args.domain may (option_map config_now c.config-held.result)
    (subst (λ tables. (entries : List Entry) → registry.Represents tables entries → option_map config_now c.config-held.result ≡ config_of c.args.peer (held entries)) c.registry.ensures c.config-held.ensures) in
    let configured = configured_in state.history c.args.domain c.args.peer in
    ap verdict.Reply c.absent.ensures
    ∙ sym (view_absent c.args.exchange.now c.args.sid configured (ap (is_wanted c.args.sid) (sym found) ∙ sym c.is_wanted.ensures ∙ c.if-is_wanted.false))
