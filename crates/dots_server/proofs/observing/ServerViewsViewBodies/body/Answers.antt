use Rattle.std.proofs.Common.{◌≡◌, ◌<◌, List, map, filter, sym, ap, ◌∙◌, subst}
use Rattle.std.specs.Prelude.{IfOk}
use Rattle.cbor_profile.specs.Canon.{canon}
use Rattle.cbor_profile.specs.Tree.{Tree}
use Rattle.reply_bodies.specs.Mitigations.{mitigations_with}
use Rattle.conflict_rules.specs.LiveViews.{LiveView}
use Rattle.dots_registry.specs.RegistryValues.{RegistryValue, domains_of}
use Rattle.dots_machine.specs.Mitigations.{is_wanted}
use Rattle.dots_machine.specs.Replies.{mitigation_fields}
use Rattle.dots_server.specs.Observing.{ServerViewsValue, bodies_of}
use Rattle.dots_server.proofs.Watching.{views_by_is}
use Rattle.dots_server.proofs.observing.ServerViewsViewBodies.body.Goals as goal

pub returns-then-observer-domains : goal.returns-then-observer-domains
returns-then-observer-domains c =
    let shown = c.self.invariant in
    let observer = c.args.observer.now in
    let tables : RegistryValue = c.self.inside.registry.now in
    let inside : observer.domain < domains_of tables = subst (λ n. observer.domain < n) (c.domains.ensures.number ∙ sym shown.domains) c.if-observer-domains.true in
    let views_are =
    c.in_ok-views.ensures.told shown.history shown.represents
    ∙ ap (λ (views : List LiveView). map (mitigation_fields observer.content) (filter (is_wanted observer.mid) views)) (views_by_is tables shown.history observer.domain observer.cuid shown.represents inside) in
    subst (λ (shown : ServerViewsValue). IfOk c.retrieved_body.result (λ body. body ≡ bodies_of shown.registry observer)) c.self.view_is
    (subst (λ (trees : List Tree). IfOk c.retrieved_body.result (λ body. body ≡ canon (mitigations_with trees))) views_are c.retrieved_body.ensures)
