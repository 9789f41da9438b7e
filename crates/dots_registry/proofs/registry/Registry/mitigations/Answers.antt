use Rattle.std.proofs.Common.{map, sym, ap, ◌∙◌, subst}
use Rattle.conflict_rules.specs.LiveViews.{live_views_in}
use Rattle.held_resources.specs.Tables.{lost_in}
use Rattle.dots_registry.specs.RegistryValues.{RegistryValue, Represents, time_of}
use Rattle.conflict_rules.specs.Statuses.{view_with, views_in}
use Rattle.dots_registry.proofs.RegistryValues.{joined}
use Rattle.dots_registry.proofs.ViewRows.{views_so}
use Rattle.dots_registry.proofs.registry.Registry.mitigations.Goals as goal

pub returns : goal.returns
returns c = λ entries represents.
    let here : Represents (joined c.self.inside.live c.self.inside.held c.self.inside.remembered c.self.inside.filters c.self.inside.last) entries
    = subst (λ (r : RegistryValue). Represents r entries) (sym c.self.view_is) represents in
    ap (map (view_with (lost_in c.self.inside.held) c.args.domain)) (c.mitigations.ensures entries here.live)
    ∙ views_so c.self.inside.held entries c.args.domain (live_views_in c.args.domain c.args.cuid.now c.self.inside.live.time entries) here.held
    ∙ ap (λ (r : RegistryValue). views_in c.args.domain c.args.cuid.now (time_of r) entries) c.self.view_is
