use Rattle.std.proofs.Common.{◌≤◌, refl, sym, subst, arith}
use Rattle.dots_registry.specs.RegistryValues.{time_of}
use Rattle.dots_registry.specs.LedgerValues.{LedgerValue, Represents}
use Rattle.dots_registry.proofs.LedgerValues.{represents_later, most_same}
use Rattle.dots_registry.proofs.ledger.Ledger.tick.Goals as goal

pub returns-clause-represents : goal.returns-clause-represents
returns-clause-represents c = λ settings history entries represents.
    represents_later
    c.args.now
    (record { registry = c.self.inside.registry; journal = c.self.inside.journal })
    (record { registry = c.tick.new.self; journal = c.self.inside.journal })
    refl
    (subst (λ (l : LedgerValue). time_of l.registry ≤ c.args.now) (sym c.self.view_is) c.requires.later)
    c.tick.ensures.time
    c.tick.ensures.represents
    c.tick.ensures.filed
    c.tick.ensures.settings
    settings
    history
    entries
    (subst (λ (l : LedgerValue). Represents l settings history entries) (sym c.self.view_is) represents)

pub invariant_of-self : goal.invariant_of-self
invariant_of-self c =
    let inv = c.self.invariant.0 in
    let most = most_same inv.settings c.self.inside.registry c.tick.new.self inv.represents.is_of (c.tick.ensures.settings inv.settings inv.represents.is_of) in
    let room = c.self.invariant.1 in (
      record {
        settings = inv.settings;
        history = inv.history;
        entries = inv.entries;
        represents = represents_later
            c.args.now
            (record { registry = c.self.inside.registry; journal = c.self.inside.journal })
            (record { registry = c.tick.new.self; journal = c.self.inside.journal })
            refl
            (subst (λ (l : LedgerValue). time_of l.registry ≤ c.args.now) (sym c.self.view_is) c.requires.later)
            c.tick.ensures.time
            c.tick.ensures.represents
            c.tick.ensures.filed
            c.tick.ensures.settings
            inv.settings
            inv.history
            inv.entries
            inv.represents;
      },
      omega (arith, most, room),
    )
