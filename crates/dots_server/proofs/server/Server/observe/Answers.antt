use Rattle.std.proofs.Common.{sym, ap, ◌∙◌, subst}
use Rattle.coap_observe.specs.Observing.{registered}
use Rattle.session_core.specs.declared.watch.Watch.{Watch}
use Rattle.dots_registry.specs.ObserverViews.{views_of}
use Rattle.dots_machine.specs.declared.watching.Watching.TheVariants as watching
use Rattle.dots_server.specs.ServerValues.{ServerValue, IsServing}
use Rattle.dots_server.proofs.Notifying.{with_changed, observed_lives}
use Rattle.dots_server.proofs.server.Server.observe.Goals as goal

pub invariant_of-self : goal.invariant_of-self
invariant_of-self c =
    let old : ServerValue = record { settings = c.self.inside.settings; registry = c.self.inside.ledger.registry; journal = c.self.inside.ledger.journal; watch = c.self.inside.watch; lines = c.self.inside.lines } in
    subst (λ (watch : Watch). IsServing (record old { watch = watch }))
    (sym (c.register.ensures
    ∙ ap (λ tables. record old.watch { observers = record old.watch.observers { observed = registered (views_of tables) old.watch.observers.room c.in-Registers.observer old.watch.observers.observed } }) c.registry.ensures))
    (observed_lives old c.args.peer (watching.Registers c.in-Registers.observer) c.self.invariant)

pub invariant_of-self-in-Cancels : goal.invariant_of-self-in-Cancels
invariant_of-self-in-Cancels c =
    let old : ServerValue = record { settings = c.self.inside.settings; registry = c.self.inside.ledger.registry; journal = c.self.inside.ledger.journal; watch = c.self.inside.watch; lines = c.self.inside.lines } in
    subst (λ (watch : Watch). IsServing (record old { watch = watch }))
    (sym (c.cancel.ensures ∙ ap (λ token. (with_changed old c.args.peer (watching.Cancels token)).watch) c.bytes.ensures.value))
    (observed_lives old c.args.peer (watching.Cancels c.in-Cancels.token) c.self.invariant)

pub invariant_of-self-in-Rejects : goal.invariant_of-self-in-Rejects
invariant_of-self-in-Rejects c =
    let old : ServerValue = record { settings = c.self.inside.settings; registry = c.self.inside.ledger.registry; journal = c.self.inside.ledger.journal; watch = c.self.inside.watch; lines = c.self.inside.lines } in
    subst (λ (watch : Watch). IsServing (record old { watch = watch })) (sym c.reset.ensures) (observed_lives old c.args.peer (watching.Rejects c.in-Rejects.id) c.self.invariant)

pub returns-in-Registers : goal.returns-in-Registers
returns-in-Registers c =
    let old : ServerValue = record { settings = c.self.inside.settings; registry = c.self.inside.ledger.registry; journal = c.self.inside.ledger.journal; watch = c.self.inside.watch; lines = c.self.inside.lines } in
    ap (λ (watch : Watch). record old { watch = watch })
    (c.register.ensures
    ∙ ap (λ tables. record old.watch { observers = record old.watch.observers { observed = registered (views_of tables) old.watch.observers.room c.in-Registers.observer old.watch.observers.observed } }) c.registry.ensures)
    ∙ ap (λ (server : ServerValue). with_changed server c.args.peer (watching.Registers c.in-Registers.observer)) c.self.view_is
    ∙ ap (with_changed c.args.self.now c.args.peer) (sym c.in-Registers.is)
