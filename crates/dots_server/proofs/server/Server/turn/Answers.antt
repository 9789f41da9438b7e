use Rattle.std.proofs.Common.{◌≡◌, ◌<◌, ℕ, length, sym, ap, ◌∙◌, subst}
use Rattle.std.specs.Prelude.{option_map, slice_get, IfSome}
use Rattle.dots_settings.specs.declared.peer.Role.TheVariants as role
use Rattle.dots_settings.specs.Lookups.{role_of}
use Rattle.dots_history.specs.declared.change.Change.TheVariants as change
use Rattle.session_core.specs.Beating.{turn_loses, row_turned}
use Rattle.session_core.specs.Places.{row_peer, with_place}
use Rattle.dots_registry.specs.RegistryValues.{time_of}
use Rattle.dots_server.specs.ServerValues.{ServerValue, Represents, RestartsWith}
use Rattle.dots_server.specs.Signals.{signals, with_turn}
use Rattle.dots_server.proofs.Lapsing.{placed_length}
use Rattle.dots_server.proofs.LostSignals.{passing_keeps}
use Rattle.dots_server.proofs.OneTurn.{beat_there, turn_is, loss_at_is, sessions_restarts, sessions_live}
use Rattle.dots_server.proofs.server.Server.turn.Goals as goal

pub invariant_of-self : goal.invariant_of-self
invariant_of-self c =
    let old : ServerValue = record { settings = c.self.inside.settings; registry = c.self.inside.ledger.registry; journal = c.self.inside.ledger.journal; watch = c.self.inside.watch; lines = c.self.inside.lines } in
    sessions_live old c.turn_at-lost.new.self c.self.invariant

pub returns-clause-kept : goal.returns-clause-kept
returns-clause-kept c = λ settings state entries kept.
    let old : ServerValue = record { settings = c.self.inside.settings; registry = c.self.inside.ledger.registry; journal = c.self.inside.ledger.journal; watch = c.self.inside.watch; lines = c.self.inside.lines } in
    let here = subst (λ server. RestartsWith server settings state entries) (sym c.self.view_is) kept in
    let of = here.represents.represents in
    let place = c.args.place in
    let peer = c.args.peer in
    let domain = c.watched_domain-domain.result in
    let beat = c.beat-beat.result in
    let there = ap (λ rows. option_map row_peer (slice_get rows place)) (sym kept.represents.represents.contacts) ∙ c.requires.peer in
    let found = c.watched_domain-domain.ensures.domain settings state kept.represents.represents in
    let by_so = beat_there old settings state of c.registry-2.result.now peer beat c.registry-2.ensures c.beat-beat.ensures in
    let rows_are : c.turn_at-lost.new.self ≡ (with_turn settings place state).contacts =
    c.turn_at-lost.ensures.after
    ∙ ap (with_place place (row_turned c.is_some.result beat c.time-time.result)) of.contacts
    ∙ ap (λ t. with_place place (row_turned c.is_some.result beat t) state.contacts) (c.time-time.ensures ∙ ap time_of c.registry.ensures ∙ of.time_is)
    ∙ ap (λ b. with_place place (row_turned b beat state.time) state.contacts) c.is_some.ensures
    ∙ turn_is settings state place peer there domain beat found by_so in
    subst (λ rows. RestartsWith (record old { watch = record old.watch { sessions = c.turn_at-lost.new.self } }) settings (record state { contacts = rows }) entries) rows_are
    (sessions_restarts old c.turn_at-lost.new.self settings state entries here)

pub returns-clause-lost : goal.returns-clause-lost
returns-clause-lost c = λ settings state represents.
    let old : ServerValue = record { settings = c.self.inside.settings; registry = c.self.inside.ledger.registry; journal = c.self.inside.ledger.journal; watch = c.self.inside.watch; lines = c.self.inside.lines } in
    let of = subst (λ server. Represents server settings state) (sym c.self.view_is) represents in
    let place = c.args.place in
    let peer = c.args.peer in
    let domain = c.watched_domain-domain.result in
    let beat = c.beat-beat.result in
    let there = ap (λ rows. option_map row_peer (slice_get rows place)) (sym represents.contacts) ∙ c.requires.peer in
    let found = c.watched_domain-domain.ensures.domain settings state represents in
    let by_so = beat_there old settings state of c.registry-2.result.now peer beat c.registry-2.ensures c.beat-beat.ensures in
    ap (signals state.time peer change.Lost) c.only_if.ensures
    ∙ loss_at_is settings state place peer there domain beat found by_so c.turn_at-lost.result
    (ap (λ b. option_map (turn_loses b beat state.time) (slice_get state.contacts place)) (sym c.is_some.ensures)
    ∙ ap (λ t. option_map (turn_loses c.is_some.result beat t) (slice_get state.contacts place)) (sym (c.time-time.ensures ∙ ap time_of c.registry.ensures ∙ of.time_is))
    ∙ ap (λ rows. option_map (turn_loses c.is_some.result beat c.time-time.result) (slice_get rows place)) (sym of.contacts)
    ∙ c.turn_at-lost.ensures.lost)

pub returns-clause-client : goal.returns-clause-client
returns-clause-client c =
    let P : ℕ → Type 0 = λ domain. role_of c.args.self.now.settings c.args.peer ≡ role.Client domain in
    subst (λ o. IfSome o P) (sym c.only_if.ensures) (passing_keeps P c.turn_at-lost.result c.watched_domain-domain.result c.watched_domain-domain.ensures.client)

pub returns-clause-within : goal.returns-clause-within
returns-clause-within c =
    let P : ℕ → Type 0 = λ domain. domain < length c.args.self.now.settings.domains in
    subst (λ o. IfSome o P) (sym c.only_if.ensures) (passing_keeps P c.turn_at-lost.result c.watched_domain-domain.result c.watched_domain-domain.ensures.within)

pub returns-clause-valid : goal.returns-clause-valid
returns-clause-valid c = c.watched_domain-domain.ensures.valid

pub returns-clause-sessions : goal.returns-clause-sessions
returns-clause-sessions c =
    ap length c.turn_at-lost.ensures.after
    ∙ placed_length c.args.place (row_turned c.is_some.result c.beat-beat.result c.time-time.result) c.self.inside.watch.sessions
    ∙ ap (λ (server : ServerValue). length server.watch.sessions) c.self.view_is
