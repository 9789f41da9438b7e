use Rattle.std.proofs.Common.{◌≡◌, true, false, ◌&&◌, inl, inr, sym, ap, ◌∙◌, subst, arith}
use Rattle.std.specs.List.{list_any}
use Rattle.std.proofs.lemmas.Bool.{cases_eq, and_left, and_right}
use Rattle.dots_history.specs.Histories.{mitigations, held}
use Rattle.dots_history.specs.Rows.{is_lost_in}
use Rattle.dots_history.specs.Views.{mitigations_of}
use Rattle.installed_filters.proofs.HistoryRows.{live_inside}
use Rattle.dots_registry.specs.RegistryValues.{RegistryValue, Represents, time_of}
use Rattle.dots_registry.proofs.RegistryValues.{joined}
use Rattle.dots_registry.proofs.Mitigating.{of_peer, of_lost, of_peer_bare, found_one, found_none}
use Rattle.dots_registry.proofs.registry.Registry.has_lost_one.Goals.{else-lost-via-then-lost+else-is_of_peer, else-lost-via-else-lost}
use Rattle.dots_registry.proofs.registry.Registry.has_lost_one.Goals as goal

pub returns-then-is_of_peer : goal.returns-then-is_of_peer
returns-then-is_of_peer c = λ entries represents.
    let here : Represents (joined c.self.inside.live c.self.inside.held c.self.inside.remembered c.self.inside.filters c.self.inside.last) entries
    = subst (λ (r : RegistryValue). Represents r entries) (sym c.self.view_is) represents in
    subst
    (λ t. true ≡ list_any (of_lost (held entries) c.args.peer) (mitigations t entries))
    (ap time_of c.self.view_is)
    (sym (found_one (held entries) c.args.peer c.loop-domain.domain c.self.inside.live.time entries
    (sym (c.lost.ensures.history entries here.held) ∙ c.if-lost.true)
    (sym (ap (list_any (of_peer (held entries) c.args.peer)) (c.rows.ensures.live entries here.live))
    ∙ sym c.is_of_peer.ensures
    ∙ c.if-is_of_peer.true)))

pub loop-domain-preserved : goal.loop-domain-preserved
loop-domain-preserved c = λ entries represents domain less.
    let here : Represents (joined c.self.inside.live c.self.inside.held c.self.inside.remembered c.self.inside.filters c.self.inside.last) entries
    = subst (λ (r : RegistryValue). Represents r entries) (sym c.self.view_is) represents in
    elim (cases_eq domain c.loop-domain.domain) [
      | inl same ↦
          subst
          (λ d. (is_lost_in (held entries) c.args.peer d && list_any (of_peer (held entries) c.args.peer) (mitigations_of d (mitigations (time_of c.args.self.now) entries))) ≡ false)
          (sym same)
          (subst
          (λ t.
          (is_lost_in (held entries) c.args.peer c.loop-domain.domain
          && list_any (of_peer (held entries) c.args.peer) (mitigations_of c.loop-domain.domain (mitigations t entries)))
          ≡ false)
          (ap time_of c.self.view_is)
          (elim c.else-lost.branch [
            | else-lost-via-then-lost+else-is_of_peer w ↦
                and_right
                (is_lost_in (held entries) c.args.peer c.loop-domain.domain)
                (list_any (of_peer (held entries) c.args.peer) (mitigations_of c.loop-domain.domain (mitigations c.self.inside.live.time entries)))
                (sym (of_peer_bare (held entries) c.args.peer c.loop-domain.domain c.self.inside.live.time entries)
                ∙ sym (ap (list_any (of_peer (held entries) c.args.peer)) (w.rows.ensures.live entries here.live))
                ∙ sym w.is_of_peer.ensures
                ∙ w.if-is_of_peer.false)
            | else-lost-via-else-lost w ↦
                and_left
                (is_lost_in (held entries) c.args.peer c.loop-domain.domain)
                (list_any (of_peer (held entries) c.args.peer) (mitigations_of c.loop-domain.domain (mitigations c.self.inside.live.time entries)))
                (sym (c.lost.ensures.history entries here.held) ∙ w.if-lost.false)
          ]))
      | inr other ↦ c.loop-domain.invariant entries represents domain (omega (arith, less, other))
    ]

pub returns : goal.returns
returns c = λ entries represents.
    let here : Represents (joined c.self.inside.live c.self.inside.held c.self.inside.remembered c.self.inside.filters c.self.inside.last) entries
    = subst (λ (r : RegistryValue). Represents r entries) (sym c.self.view_is) represents in
    subst
    (λ t. false ≡ list_any (of_lost (held entries) c.args.peer) (mitigations t entries))
    (ap time_of c.self.view_is)
    (sym (found_none (held entries) c.args.peer c.self.inside.live.domains c.self.inside.live.time entries
    (λ domain less.
    subst
    (λ t. (is_lost_in (held entries) c.args.peer domain && list_any (of_peer (held entries) c.args.peer) (mitigations_of domain (mitigations t entries))) ≡ false)
    (sym (ap time_of c.self.view_is))
    (c.loop-domain.invariant entries represents domain (omega (arith, less, c.domains-domain-end.ensures, c.loop-domain-test.false))))
    (live_inside c.self.inside.live.time c.self.inside.live.domains entries here.live.inside)))
