use Rattle.std.proofs.Common.{◌≡◌, ◌<◌, length, sym, ap, ◌∙◌, subst}
use Rattle.std.specs.Prelude.{◌&&◌, not, IfSome}
use Rattle.dots_settings.specs.declared.peer.Role.TheVariants as role
use Rattle.dots_settings.specs.Settings.{IsSettings}
use Rattle.dots_settings.specs.Lookups.{role_of}
use Rattle.dots_history.specs.Histories.{held}
use Rattle.dots_history.specs.Held.{is_lost_of}
use Rattle.dots_history.specs.HistoryReading.{is_waiting}
use Rattle.dots_registry.specs.RegistryValues.{time_of}
use Rattle.dots_machine.specs.Signals.{own_domain}
use Rattle.dots_server.specs.ServerValues.{ServerValue, Represents}
use Rattle.dots_server.specs.Signals.{passing}
use Rattle.dots_server.proofs.LostSignals.{passing_client, passing_known, watched_passing}
use Rattle.dots_server.proofs.server.Server.watched_domain.Goals as goal

pub returns-clause-domain : goal.returns-clause-domain
returns-clause-domain c = λ settings state represents.
    let here = subst (λ server. Represents server settings state) (sym c.self.view_is) represents in
    c.only_if.ensures
    ∙ ap (passing (λ _. c.is_watched.result)) (c.own_domain-own.ensures.domain ∙ ap (λ s. own_domain s c.args.peer) here.settings_are)
    ∙ watched_passing settings c.args.peer state.history here.own state.time c.is_watched.result
    (c.is_watched.ensures state.history (rw c.registry.ensures here.registry)
    ∙ ap (λ t. is_waiting t state.history c.args.peer && not (is_lost_of (held state.history) c.args.peer)) (ap time_of c.registry.ensures ∙ here.time_is))

pub returns-clause-client : goal.returns-clause-client
returns-clause-client c =
    let settings_are = ap (λ (server : ServerValue). server.settings) c.self.view_is in
    subst (λ o. IfSome o (λ domain. role_of c.args.self.now.settings c.args.peer ≡ role.Client domain))
    (sym (c.only_if.ensures ∙ ap (passing (λ _. c.is_watched.result)) (c.own_domain-own.ensures.domain ∙ ap (λ s. own_domain s c.args.peer) settings_are)))
    (passing_client c.args.self.now.settings c.args.peer c.is_watched.result)

pub returns-clause-within : goal.returns-clause-within
returns-clause-within c =
    let settings_are = ap (λ (server : ServerValue). server.settings) c.self.view_is in
    subst (λ o. IfSome o (λ domain. domain < length c.args.self.now.settings.domains))
    (sym (c.only_if.ensures ∙ ap (passing (λ _. c.is_watched.result)) (c.own_domain-own.ensures.domain ∙ ap (λ s. own_domain s c.args.peer) settings_are)))
    (passing_known c.args.self.now.settings c.args.peer c.is_watched.result (subst IsSettings settings_are c.own_domain-own.ensures.valid))

pub returns-clause-valid : goal.returns-clause-valid
returns-clause-valid c = subst IsSettings (ap (λ (server : ServerValue). server.settings) c.self.view_is) c.own_domain-own.ensures.valid
