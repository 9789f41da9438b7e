use Rattle.std.proofs.Common.{sym, ap, subst, ◌∙◌}
use Rattle.dots_history.specs.Fits.{has_one_peer}
use Rattle.dots_history.specs.Histories.{mitigations}
use Rattle.live_mitigations.specs.LiveValues as lives
use Rattle.dots_registry.specs.RegistryValues.{RegistryValue, time_of}
use Rattle.dots_registry.proofs.registry.Registry.has_one_peer.Goals as goal

pub returns : goal.returns
returns c = λ entries represents.
    c.has_one_peer.ensures entries (subst (λ (r : RegistryValue). lives.Represents r.live entries) (sym c.self.view_is) represents.live)
    ∙ ap (λ (r : RegistryValue). has_one_peer c.args.entry.now (mitigations (time_of r) entries)) c.self.view_is
