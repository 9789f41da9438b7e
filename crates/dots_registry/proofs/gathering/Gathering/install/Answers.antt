use Rattle.std.proofs.Common.{ap, ◌∙◌}
use Rattle.installed_filters.specs.Filters.{FiltersValue}
use Rattle.dots_registry.specs.Gathering.{GatheringValue, with_rows_of}
use Rattle.dots_registry.proofs.Gatherings.{awaits_of, few_domains}
use Rattle.dots_registry.proofs.RegistryValues.{joined}
use Rattle.dots_registry.proofs.gathering.Gathering.install.Goals as goal

pub install_all-requires : goal.install_all-requires
install_all-requires c = record {
  entries = c.requires.entries;
  awaits = awaits_of
      c.requires.settings
      (joined c.self.inside.live c.self.inside.held c.self.inside.remembered c.self.inside.filters c.self.inside.last)
      c.args.self.now.tables
      c.requires.entries
      c.args.self.now.domains
      c.as_slice.result.now
      (ap (λ (g : GatheringValue). g.tables) c.self.view_is)
      c.requires.is_of
      c.requires.gathers
      (c.as_slice.ensures.value ∙ ap (λ (g : GatheringValue). g.domains) c.self.view_is);
  few = few_domains c.requires.entries c.args.self.now.domains c.as_slice.result.now (c.as_slice.ensures.value ∙ ap (λ (g : GatheringValue). g.domains) c.self.view_is) c.requires.gathers.domains c.requires.few;
}

pub returns : goal.returns
returns c = λ entries gathers.
    ap
    (λ (f : FiltersValue). joined c.self.inside.live c.self.inside.held c.self.inside.remembered f c.self.inside.last)
    (c.in_ok-install_all.ensures
    entries
    (awaits_of
    c.requires.settings
    (joined c.self.inside.live c.self.inside.held c.self.inside.remembered c.self.inside.filters c.self.inside.last)
    c.args.self.now.tables
    entries
    c.args.self.now.domains
    c.as_slice.result.now
    (ap (λ (g : GatheringValue). g.tables) c.self.view_is)
    c.requires.is_of
    gathers
    (c.as_slice.ensures.value ∙ ap (λ (g : GatheringValue). g.domains) c.self.view_is)))
    ∙ ap (λ (g : GatheringValue). with_rows_of entries g.tables) c.self.view_is
