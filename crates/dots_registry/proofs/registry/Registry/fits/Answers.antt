use Rattle.std.proofs.Common.{sym, ap, ◌∙◌}
use Rattle.dots_registry.specs.RegistryValues.{RegistryValue}
use Rattle.dots_registry.proofs.registry.Registry.fits.Goals as goal

pub fits-requires : goal.fits-requires
fits-requires c = ap (λ (r : RegistryValue). r.live.domains) c.self.view_is ∙ c.requires.domains

pub returns : goal.returns
returns c = λ entries represents.
    c.fits.ensures
    c.args.self.now
    entries
    (record { live_is = ap (λ (r : RegistryValue). r.live) (sym c.self.view_is); held_is = ap (λ (r : RegistryValue). r.held) (sym c.self.view_is) })
    c.requires
    represents
