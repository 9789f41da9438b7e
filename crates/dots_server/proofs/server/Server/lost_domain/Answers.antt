use Rattle.std.proofs.Common.{◌≡◌, ◌<◌, length, sym, ap, ◌∙◌, subst}
use Rattle.std.specs.Prelude.{IfSome}
use Rattle.dots_settings.specs.declared.peer.Role.TheVariants as role
use Rattle.dots_settings.specs.Settings.{IsSettings}
use Rattle.dots_settings.specs.Lookups.{role_of}
use Rattle.dots_machine.specs.Signals.{own_domain}
use Rattle.dots_server.specs.ServerValues.{ServerValue, Represents}
use Rattle.dots_server.specs.Signals.{passing}
use Rattle.dots_server.proofs.LostSignals.{passing_client, passing_known, lost_passing}
use Rattle.dots_server.proofs.server.Server.lost_domain.Goals as goal

pub returns-clause-domain : goal.returns-clause-domain
returns-clause-domain c = λ settings state represents.
    let here = subst (λ server. Represents server settings state) (sym c.self.view_is) represents in
    c.only_if.ensures
    ∙ ap (passing (λ _. c.lost.result)) (c.own_domain-own.ensures.domain ∙ ap (λ s. own_domain s c.args.peer) here.settings_are)
    ∙ lost_passing settings c.args.peer state.history here.own c.lost.result (c.lost.ensures state.history (rw c.registry.ensures here.registry))

pub returns-clause-client : goal.returns-clause-client
returns-clause-client c =
    let settings_are = ap (λ (server : ServerValue). server.settings) c.self.view_is in
    subst (λ o. IfSome o (λ domain. role_of c.args.self.now.settings c.args.peer ≡ role.Client domain))
    (sym (c.only_if.ensures ∙ ap (passing (λ _. c.lost.result)) (c.own_domain-own.ensures.domain ∙ ap (λ s. own_domain s c.args.peer) settings_are)))
    (passing_client c.args.self.now.settings c.args.peer c.lost.result)

pub returns-clause-within : goal.returns-clause-within
returns-clause-within c =
    let settings_are = ap (λ (server : ServerValue). server.settings) c.self.view_is in
    subst (λ o. IfSome o (λ domain. domain < length c.args.self.now.settings.domains))
    (sym (c.only_if.ensures ∙ ap (passing (λ _. c.lost.result)) (c.own_domain-own.ensures.domain ∙ ap (λ s. own_domain s c.args.peer) settings_are)))
    (passing_known c.args.self.now.settings c.args.peer c.lost.result (subst IsSettings settings_are c.own_domain-own.ensures.valid))
