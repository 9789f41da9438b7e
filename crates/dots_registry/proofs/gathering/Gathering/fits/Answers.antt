use Rattle.std.proofs.Common.{sym, ap, ◌∙◌}
use Rattle.dots_registry.specs.Gathering.{GatheringValue, with_rows_of}
use Rattle.dots_registry.proofs.Gatherings.{is_of_rows, stands}
use Rattle.dots_registry.proofs.gathering.Gathering.fits.Goals as goal

pub fits-requires : goal.fits-requires
fits-requires c = ap (λ (g : GatheringValue). g.tables.live.domains) c.self.view_is ∙ c.requires.domains

pub returns : goal.returns
returns c = λ entries gathers.
    c.fits.ensures
    (with_rows_of entries c.args.self.now.tables)
    entries
    (record { live_is = ap (λ (g : GatheringValue). g.tables.live) (sym c.self.view_is); held_is = ap (λ (g : GatheringValue). g.tables.held) (sym c.self.view_is) })
    (is_of_rows c.args.settings.now entries c.args.self.now.tables c.requires)
    (stands entries c.args.self.now.tables gathers.awaits)
