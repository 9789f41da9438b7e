use Rattle.std.proofs.Common.{sym, ap, subst, ◌∙◌}
use Rattle.dots_history.specs.Fits.{has_one_peer}
use Rattle.dots_history.specs.Histories.{mitigations}
use Rattle.live_mitigations.specs.LiveValues as lives
use Rattle.dots_registry.specs.Gathering.{GatheringValue}
use Rattle.dots_registry.specs.RegistryValues.{time_of}
use Rattle.dots_registry.proofs.Gatherings.{stands}
use Rattle.dots_registry.proofs.gathering.Gathering.has_one_peer.Goals as goal

pub returns : goal.returns
returns c = λ entries gathers.
    c.has_one_peer.ensures
    entries
    (subst (λ (g : GatheringValue). lives.Represents g.tables.live entries) (sym c.self.view_is) (stands entries c.args.self.now.tables gathers.awaits).live)
    ∙ ap (λ (g : GatheringValue). has_one_peer c.args.entry.now (mitigations (time_of g.tables) entries)) c.self.view_is
