use Rattle.std.proofs.Common.{◌≤◌, refl, sym, ap, subst, ◌∙◌}
use Rattle.dots_registry.specs.Gathering.{GatheringValue}
use Rattle.dots_registry.specs.RegistryValues.{time_of}
use Rattle.dots_registry.proofs.Gatherings.{awaits_later}
use Rattle.dots_registry.proofs.RegistryValues.{joined, still_of}
use Rattle.dots_registry.proofs.gathering.Gathering.tick.Goals as goal

pub tick-requires-clause-later : goal.tick-requires-clause-later
tick-requires-clause-later c = subst (λ (g : GatheringValue). time_of g.tables ≤ c.args.now) (sym c.self.view_is) c.requires.later

pub returns-clause-gathers : goal.returns-clause-gathers
returns-clause-gathers c = λ entries gathers. record {
  awaits = awaits_later
      c.args.now
      (joined c.self.inside.live c.self.inside.held c.self.inside.remembered c.self.inside.filters c.self.inside.last)
      c.args.self.now.tables
      c.tick.new.self
      entries
      (ap (λ (g : GatheringValue). g.tables) c.self.view_is)
      c.requires.later
      c.tick.ensures.domains
      c.tick.ensures.limits
      c.tick.ensures.time
      c.tick.ensures.represents
      c.tick.ensures.slots
      gathers.awaits;
  domains = ap (λ (g : GatheringValue). g.domains) c.self.view_is ∙ gathers.domains;
}

pub returns-clause-settings : goal.returns-clause-settings
returns-clause-settings c = λ settings is_of.
    still_of
    settings
    (joined c.self.inside.live c.self.inside.held c.self.inside.remembered c.self.inside.filters c.self.inside.last)
    c.args.self.now.tables
    c.tick.new.self
    c.self.inside.held
    c.self.inside.remembered
    c.self.inside.filters
    c.self.inside.last
    (ap (λ (g : GatheringValue). g.tables) c.self.view_is)
    c.tick.ensures.domains
    c.tick.ensures.limits
    refl
    refl
    (record { scrubs = refl; acls = refl })
    is_of
