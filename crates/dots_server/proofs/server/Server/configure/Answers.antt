use Rattle.std.proofs.Common.{◌≡◌, true, option_map, List, Err, sym, ap, ◌∙◌, subst}
use Rattle.dots_settings.specs.Lookups.{role_of}
use Rattle.dots_history.specs.declared.entry.Entry.{Entry}
use Rattle.dots_history.specs.declared.change.Change.TheVariants as change
use Rattle.dots_history.specs.Histories.{held}
use Rattle.dots_history.specs.Calm.{may_configure}
use Rattle.dots_history.specs.Held.{config_of}
use Rattle.held_resources.specs.Tables.{config_now}
use Rattle.dots_registry.specs.RegistryValues.{time_of}
use Rattle.dots_registry.specs.RegistryValues as registry
use Rattle.session_core.specs.Negotiating.{negotiated}
use Rattle.dots_machine.specs.declared.verdict.Verdict.TheVariants as verdict
use Rattle.dots_machine.specs.Replies.{configuring, out_of_range}
use Rattle.dots_machine.specs.ConfiguredPeers.{sid_of, is_held, configured_in}
use Rattle.dots_machine.specs.Deciding.{config_entry, config_answer}
use Rattle.dots_server.specs.ServerValues.{ServerValue, Represents}
use Rattle.dots_server.specs.LackingMemory.{is_made}
use Rattle.dots_server.proofs.Verdicts.{if_ok}
use Rattle.dots_server.proofs.Yielding.{made_yields}
use Rattle.dots_server.proofs.HearingPeers.{configured_here, sid_found, setting_configures, taken_within}
use Rattle.dots_server.proofs.server.Server.configure.Goals as goal

pub accept_config-requires-clause-configures : goal.accept_config-requires-clause-configures
accept_config-requires-clause-configures c = setting_configures c.args.sid c.in-Ok.config

pub accept_config-requires-clause-within : goal.accept_config-requires-clause-within
accept_config-requires-clause-within c = taken_within _ c.args.sid c.args.body.now c.in-Ok.config (sym c.negotiate.ensures ∙ c.in-Ok.is)

pub returns-in-Ok-clause-decides : goal.returns-in-Ok-clause-decides
returns-in-Ok-clause-decides c = λ settings state represents.
    let server : ServerValue = record { settings = c.self.inside.settings; registry = c.self.inside.ledger.registry; journal = c.self.inside.ledger.journal; watch = c.self.inside.watch; lines = c.self.inside.lines } in
    let here = subst (λ server. Represents server settings state) (sym c.self.view_is) represents in
    let may = subst (λ (server : ServerValue). may_configure (role_of server.settings c.args.peer) c.args.domain ≡ true) (sym c.self.view_is) c.requires.may in
    let found =
    configured_here server settings state here c.args.peer c.args.domain may (option_map config_now c.config-held.result)
    (subst (λ tables. (entries : List Entry) → registry.Represents tables entries → option_map config_now c.config-held.result ≡ config_of c.args.peer (held entries)) c.registry.ensures c.config-held.ensures) in
    let configured = configured_in state.history c.args.domain c.args.peer in
    let sid_is = sid_found c.config-held.result ∙ ap sid_of found in
    let answered = ap (λ kept. negotiated kept c.args.sid c.args.body.now) (sym sid_is) ∙ sym c.negotiate.ensures in
    let made = c.configuring-reply.ensures ∙ ap (configuring c.args.exchange.now) (c.is_held.ensures ∙ ap (is_held c.args.sid) found) in
    made_yields c.accept_config.result _
    (ap (λ r. is_made (config_answer state.time c.args.peer c.args.domain c.args.exchange.now c.args.sid (is_held c.args.sid configured) r)) (answered ∙ c.in-Ok.is))
    (if_ok c.accept_config.result _ _
    (λ v is.
    is
    ∙ ap (λ t. verdict.Accept c.configuring-reply.result (config_entry t c.args.peer c.args.domain c.args.exchange.now c.configuring-reply.result (change.SetConfig c.args.sid c.in-Ok.config))) represents.time_is
    ∙ ap (λ reply. verdict.Accept reply (config_entry state.time c.args.peer c.args.domain c.args.exchange.now reply (change.SetConfig c.args.sid c.in-Ok.config))) made
    ∙ ap (config_answer state.time c.args.peer c.args.domain c.args.exchange.now c.args.sid (is_held c.args.sid configured)) (sym (answered ∙ c.in-Ok.is)))
    c.accept_config.ensures.verdict)

pub returns-in-Err-Range-clause-decides : goal.returns-in-Err-Range-clause-decides
returns-in-Err-Range-clause-decides c = λ settings state represents.
    let server : ServerValue = record { settings = c.self.inside.settings; registry = c.self.inside.ledger.registry; journal = c.self.inside.ledger.journal; watch = c.self.inside.watch; lines = c.self.inside.lines } in
    let here = subst (λ server. Represents server settings state) (sym c.self.view_is) represents in
    let may = subst (λ (server : ServerValue). may_configure (role_of server.settings c.args.peer) c.args.domain ≡ true) (sym c.self.view_is) c.requires.may in
    let found =
    configured_here server settings state here c.args.peer c.args.domain may (option_map config_now c.config-held.result)
    (subst (λ tables. (entries : List Entry) → registry.Represents tables entries → option_map config_now c.config-held.result ≡ config_of c.args.peer (held entries)) c.registry.ensures c.config-held.ensures) in
    let configured = configured_in state.history c.args.domain c.args.peer in
    let sid_is = sid_found c.config-held.result ∙ ap sid_of found in
    let answered = ap (λ kept. negotiated kept c.args.sid c.args.body.now) (sym sid_is) ∙ sym c.negotiate.ensures in
    ap verdict.Reply (c.out_of_range.ensures ∙ ap (out_of_range c.args.exchange.now) c.in-Err-Range.key-is)
    ∙ ap (config_answer state.time c.args.peer c.args.domain c.args.exchange.now c.args.sid (is_held c.args.sid configured)) (sym (answered ∙ c.in-Err-Range.is ∙ ap Err c.in-Err-Range.field-0-is))

pub returns-in-Err-OlderSid-clause-decides : goal.returns-in-Err-OlderSid-clause-decides
returns-in-Err-OlderSid-clause-decides c = λ settings state represents.
    let server : ServerValue = record { settings = c.self.inside.settings; registry = c.self.inside.ledger.registry; journal = c.self.inside.ledger.journal; watch = c.self.inside.watch; lines = c.self.inside.lines } in
    let here = subst (λ server. Represents server settings state) (sym c.self.view_is) represents in
    let may = subst (λ (server : ServerValue). may_configure (role_of server.settings c.args.peer) c.args.domain ≡ true) (sym c.self.view_is) c.requires.may in
    let found =
    configured_here server settings state here c.args.peer c.args.domain may (option_map config_now c.config-held.result)
    (subst (λ tables. (entries : List Entry) → registry.Represents tables entries → option_map config_now c.config-held.result ≡ config_of c.args.peer (held entries)) c.registry.ensures c.config-held.ensures) in
    let configured = configured_in state.history c.args.domain c.args.peer in
    let sid_is = sid_found c.config-held.result ∙ ap sid_of found in
    let answered = ap (λ kept. negotiated kept c.args.sid c.args.body.now) (sym sid_is) ∙ sym c.negotiate.ensures in
    ap verdict.Reply c.older_sid.ensures
    ∙ ap (config_answer state.time c.args.peer c.args.domain c.args.exchange.now c.args.sid (is_held c.args.sid configured)) (sym (answered ∙ c.in-Err-OlderSid.is ∙ ap Err c.in-Err-OlderSid.field-0-is))
