use Rattle.std.proofs.Common.{◌≡◌, true, sym, subst}
use Rattle.dots_settings.specs.Lookups.{role_of}
use Rattle.dots_history.specs.Calm.{may_act}
use Rattle.dots_server.specs.Observing.{MayObserve}
use Rattle.dots_server.specs.ServerValues.{ServerValue}
use Rattle.dots_server.proofs.Watching.{may_observe}
use Rattle.dots_server.proofs.server.Server.show.Goals as goal

pub returns-clause-may : goal.returns-clause-may
returns-clause-may c =
    let old : ServerValue = record { settings = c.self.inside.settings; registry = c.self.inside.ledger.registry; journal = c.self.inside.ledger.journal; watch = c.self.inside.watch; lines = c.self.inside.lines } in
    let acts = subst (λ (server : ServerValue). may_act server.settings (role_of server.settings c.args.from.peer) c.args.from.domain ≡ true) (sym c.self.view_is) c.requires.acts in
    subst (λ (server : ServerValue). MayObserve server.watch.observers.pairs c.asked_from-watching.result) c.self.view_is
    (subst (MayObserve old.watch.observers.pairs) (sym c.asked_from-watching.ensures) (may_observe old c.self.invariant c.args.from c.args.mid c.args.content c.args.observe acts))
