use Rattle.std.proofs.Common.{◌≡◌, ◌<◌, ℕ, max, refl, sym, ap, ◌∙◌, subst, arith}
use Rattle.dots_registry.specs.RegistryValues.{time_of}
use Rattle.dots_server.specs.ServerValues.{ServerValue, RestartsWith}
use Rattle.dots_server.proofs.ServerValues.{restarts_later, restarts_still, lives_later}
use Rattle.dots_server.proofs.server.Server.move_time.Goals as goal

later_is : (at before : ℕ) → before < at → at ≡ max at before
later_is at before less = omega (arith, less)

pub invariant_of-self : goal.invariant_of-self
invariant_of-self c =
    let old : ServerValue = record { settings = c.self.inside.settings; registry = c.self.inside.ledger.registry; journal = c.self.inside.ledger.journal; watch = c.self.inside.watch; lines = c.self.inside.lines } in
    let new : ServerValue = record { settings = c.self.inside.settings; registry = c.tick-ended.new.self.registry; journal = c.tick-ended.new.self.journal; watch = record c.self.inside.watch { due = c.merged-due.result }; lines = c.self.inside.lines } in
    lives_later c.args.at old new c.tick-ended.result c.requires.early refl (ap (λ among. record c.self.inside.watch { due = among }) c.merged-due.ensures) refl c.tick-ended.ensures.journal
    (c.tick-ended.ensures.time ∙ later_is c.args.at c.time-before.result c.if-at-before.true ∙ ap (max c.args.at) (c.time-before.ensures ∙ ap time_of c.registry.ensures))
    c.tick-ended.ensures.seen c.tick-ended.ensures.represents c.self.invariant

pub returns-then-at-before-clause-kept : goal.returns-then-at-before-clause-kept
returns-then-at-before-clause-kept c = λ settings state entries kept.
    let old : ServerValue = record { settings = c.self.inside.settings; registry = c.self.inside.ledger.registry; journal = c.self.inside.ledger.journal; watch = c.self.inside.watch; lines = c.self.inside.lines } in
    let new : ServerValue = record { settings = c.self.inside.settings; registry = c.tick-ended.new.self.registry; journal = c.tick-ended.new.self.journal; watch = record c.self.inside.watch { due = c.merged-due.result }; lines = c.self.inside.lines } in
    restarts_later c.args.at old new c.tick-ended.result c.requires.early refl (ap (λ among. record c.self.inside.watch { due = among }) c.merged-due.ensures) refl c.tick-ended.ensures.journal
    (c.tick-ended.ensures.time ∙ later_is c.args.at c.time-before.result c.if-at-before.true ∙ ap (max c.args.at) (c.time-before.ensures ∙ ap time_of c.registry.ensures))
    c.tick-ended.ensures.seen c.tick-ended.ensures.represents settings state entries
    (subst (λ server. RestartsWith server settings state entries) (sym c.self.view_is) kept)

pub returns-else-at-before-clause-kept : goal.returns-else-at-before-clause-kept
returns-else-at-before-clause-kept c = λ settings state entries kept.
    let is = c.time-before.ensures ∙ ap time_of c.registry.ensures ∙ ap (λ (server : ServerValue). time_of server.registry) c.self.view_is in
    restarts_still c.args.at c.args.self.now settings state entries (omega (arith, is, c.if-at-before.false)) kept
