use Rattle.std.proofs.Common.{◌≡◌, true, option_map, List, sym, ap, ◌∙◌, subst}
use Rattle.dots_settings.specs.Lookups.{role_of}
use Rattle.dots_history.specs.declared.entry.Entry.{Entry}
use Rattle.dots_history.specs.declared.change.Change.TheVariants as change
use Rattle.dots_history.specs.Histories.{held}
use Rattle.dots_history.specs.Calm.{may_configure}
use Rattle.dots_history.specs.Held.{config_of}
use Rattle.held_resources.specs.Tables.{config_now}
use Rattle.dots_registry.specs.RegistryValues.{time_of}
use Rattle.dots_registry.specs.RegistryValues as registry
use Rattle.dots_machine.specs.declared.verdict.Verdict.TheVariants as verdict
use Rattle.dots_machine.specs.ConfiguredPeers.{is_held, configured_in}
use Rattle.dots_machine.specs.Deciding.{config_entry, clear_answer}
use Rattle.dots_server.specs.ServerValues.{ServerValue, Represents}
use Rattle.dots_server.specs.LackingMemory.{is_made}
use Rattle.dots_server.proofs.Verdicts.{if_ok}
use Rattle.dots_server.proofs.Yielding.{made_yields}
use Rattle.dots_server.proofs.HearingPeers.{configured_here, clearing_configures}
use Rattle.dots_server.proofs.server.Server.clear_config.Goals as goal

pub accept_config-requires-clause-configures : goal.accept_config-requires-clause-configures
accept_config-requires-clause-configures c = clearing_configures

pub returns-then-is_held-clause-decides : goal.returns-then-is_held-clause-decides
returns-then-is_held-clause-decides c = λ settings state represents.
    let server : ServerValue = record { settings = c.self.inside.settings; registry = c.self.inside.ledger.registry; journal = c.self.inside.ledger.journal; watch = c.self.inside.watch; lines = c.self.inside.lines } in
    let here = subst (λ server. Represents server settings state) (sym c.self.view_is) represents in
    let may = subst (λ (server : ServerValue). may_configure (role_of server.settings c.args.peer) c.args.domain ≡ true) (sym c.self.view_is) c.requires.may in
    let found =
    configured_here server settings state here c.args.peer c.args.domain may (option_map config_now c.config.result)
    (subst (λ tables. (entries : List Entry) → registry.Represents tables entries → option_map config_now c.config.result ≡ config_of c.args.peer (held entries)) c.registry.ensures c.config.ensures) in
    let configured = configured_in state.history c.args.domain c.args.peer in
    made_yields c.accept_config.result _
    (ap (λ b. is_made (clear_answer state.time c.args.peer c.args.domain c.args.exchange.now b)) (sym (ap (is_held c.args.sid) found) ∙ sym c.is_held.ensures ∙ c.if-is_held.true))
    (if_ok c.accept_config.result _ _
    (λ v is.
    is
    ∙ ap (λ t. verdict.Accept c.deleted.result (config_entry t c.args.peer c.args.domain c.args.exchange.now c.deleted.result change.ClearConfig)) represents.time_is
    ∙ ap (λ reply. verdict.Accept reply (config_entry state.time c.args.peer c.args.domain c.args.exchange.now reply change.ClearConfig)) c.deleted.ensures
    ∙ ap (clear_answer state.time c.args.peer c.args.domain c.args.exchange.now) (sym c.if-is_held.true ∙ c.is_held.ensures ∙ ap (is_held c.args.sid) found))
    c.accept_config.ensures.verdict)

pub returns-clause-decides : goal.returns-clause-decides
returns-clause-decides c = λ settings state represents.
    let server : ServerValue = record { settings = c.self.inside.settings; registry = c.self.inside.ledger.registry; journal = c.self.inside.ledger.journal; watch = c.self.inside.watch; lines = c.self.inside.lines } in
    let here = subst (λ server. Represents server settings state) (sym c.self.view_is) represents in
    let may = subst (λ (server : ServerValue). may_configure (role_of server.settings c.args.peer) c.args.domain ≡ true) (sym c.self.view_is) c.requires.may in
    let found =
    configured_here server settings state here c.args.peer c.args.domain may (option_map config_now c.config.result)
    (subst (λ tables. (entries : List Entry) → registry.Represents tables entries → option_map config_now c.config.result ≡ config_of c.args.peer (held entries)) c.registry.ensures c.config.ensures) in
    let configured = configured_in state.history c.args.domain c.args.peer in
    ap verdict.Reply c.deleted-2.ensures
    ∙ ap (clear_answer state.time c.args.peer c.args.domain c.args.exchange.now) (sym c.if-is_held.false ∙ c.is_held.ensures ∙ ap (is_held c.args.sid) found)
