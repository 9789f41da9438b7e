use Rattle.std.proofs.Common.{sym, subst}
use Rattle.coap_observe.specs.DueAmong.{AreNotified}
use Rattle.dots_machine.specs.Machine.{State}
use Rattle.session_core.specs.Notifying.{Notifies, IsKnown, OnlyUnheardAreDue}
use Rattle.dots_registry.specs.RegistryValues.{RegistryValue}
use Rattle.dots_registry.specs.ObserverViews.{views_of}
use Rattle.dots_server.specs.Observing.{bodies_of}
use Rattle.dots_server.specs.ServerValues.{ServerValue, RestartsWith}
use Rattle.dots_server.proofs.Notifying.{notified_restarts, notified_lives, notified_so}
use Rattle.dots_server.proofs.server.Server.notify.Goals as goal

pub invariant_of-self : goal.invariant_of-self
invariant_of-self g c =
    let old : ServerValue = record { settings = c.self.inside.settings; registry = c.self.inside.ledger.registry; journal = c.self.inside.ledger.journal; watch = c.self.inside.watch; lines = c.self.inside.lines } in
    let watch = c.notify.new.watch in
    notified_lives old watch c.notify.ensures.room c.notify.ensures.pairs
    (subst (λ (tables : RegistryValue). IsKnown (views_of tables) watch.due watch.observers.observed) c.registry.ensures
    (c.notify.ensures.due (subst (λ (tables : RegistryValue). AreNotified (views_of tables) old.watch.due old.watch.observers.observed) (sym c.registry.ensures) c.self.invariant.notified)))
    c.self.invariant

pub returns-clause-known : goal.returns-clause-known
returns-clause-known g c =
    let old : ServerValue = record { settings = c.self.inside.settings; registry = c.self.inside.ledger.registry; journal = c.self.inside.ledger.journal; watch = c.self.inside.watch; lines = c.self.inside.lines } in
    let watch = c.notify.new.watch in
    subst (λ (tables : RegistryValue). IsKnown (views_of tables) watch.due watch.observers.observed) c.registry.ensures
    (c.notify.ensures.due (subst (λ (tables : RegistryValue). AreNotified (views_of tables) old.watch.due old.watch.observers.observed) (sym c.registry.ensures) c.self.invariant.notified))

pub returns-clause-notified : goal.returns-clause-notified
returns-clause-notified g c = λ settings state entries kept.
    let old : ServerValue = record { settings = c.self.inside.settings; registry = c.self.inside.ledger.registry; journal = c.self.inside.ledger.journal; watch = c.self.inside.watch; lines = c.self.inside.lines } in
    let here = subst (λ server. RestartsWith server settings state entries) (sym c.self.view_is) kept in
    let watch = c.notify.new.watch in
    let notified = c.notify.ensures.notified in
    let new : State = record state { observers = watch.observers.observed; contacts = watch.sessions } in (
      notified.0,
      new,
      notified_so old watch c.notify.ensures.room c.notify.ensures.pairs settings state notified.0 here.represents.represents
          (subst (λ (tables : RegistryValue). Notifies (views_of tables) (bodies_of tables) old.watch.observers.observed old.watch.sessions notified.0 watch.observers.observed watch.sessions) c.registry.ensures notified.1),
      notified_restarts old watch c.notify.ensures.room c.notify.ensures.pairs settings state entries here,
      notified.2,
    )

-- ---- who is due behind it, where no memory was refused

pub returns-clause-all : goal.returns-clause-all
returns-clause-all g c = λ none.
    let old : ServerValue = record { settings = c.self.inside.settings; registry = c.self.inside.ledger.registry; journal = c.self.inside.ledger.journal; watch = c.self.inside.watch; lines = c.self.inside.lines } in
    let watch = c.notify.new.watch in
    subst (λ (tables : RegistryValue). OnlyUnheardAreDue (views_of tables) watch.sessions watch.observers.observed) c.registry.ensures
    (c.notify.ensures.all (subst (λ (tables : RegistryValue). AreNotified (views_of tables) old.watch.due old.watch.observers.observed) (sym c.registry.ensures) c.self.invariant.notified)
    none)
