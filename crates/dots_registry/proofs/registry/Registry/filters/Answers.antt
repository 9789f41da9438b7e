use Rattle.std.proofs.Common.{◌∙◌, ap}
use Rattle.installed_filters.specs.Filters.{FiltersValue}
use Rattle.dots_registry.specs.RegistryValues.{RegistryValue}
use Rattle.dots_registry.proofs.registry.Registry.filters.Goals as goal

pub returns-clause-scrubs : goal.returns-clause-scrubs
returns-clause-scrubs c = λ entries represents.
    ap (λ (f : FiltersValue). f.scrubs) c.table.ensures ∙ ap (λ (r : RegistryValue). r.filters.scrubs) c.self.view_is ∙ represents.filters.scrubs

pub returns-clause-acls : goal.returns-clause-acls
returns-clause-acls c = λ entries represents.
    ap (λ (f : FiltersValue). f.acls) c.table.ensures ∙ ap (λ (r : RegistryValue). r.filters.acls) c.self.view_is ∙ represents.filters.acls
