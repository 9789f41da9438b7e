use Rattle.std.proofs.Common.{sym, subst, ◌∙◌}
use Rattle.live_mitigations.specs.LiveValues.{LiveValue}
use Rattle.live_mitigations.specs.LiveValues as lives
use Rattle.held_resources.specs.Tables.{Tables}
use Rattle.held_resources.specs.Tables as things
use Rattle.dots_registry.proofs.Conditions.{possible_below, tables_fit, fits_possible, fits_impossible}
use Rattle.dots_registry.proofs.fitting.fits.Goals as goal

pub takes-requires : goal.takes-requires
takes-requires c = possible_below c.args.settings.now c.args.live.now.domains c.args.entry.now c.requires (sym c.is_possible.ensures ∙ c.if-is_possible.true)

pub returns-then-is_possible : goal.returns-then-is_possible
returns-then-is_possible c = λ registry entries has is_of represents.
    c.takes.ensures
    entries
    (subst (λ (l : LiveValue). lives.Represents l entries) has.live_is represents.live)
    (subst (λ (h : Tables). things.Represents h entries) has.held_is represents.held)
    ∙ tables_fit registry c.args.live.now c.args.held.now entries c.args.entry.now has
    ∙ sym (fits_possible c.args.settings.now registry entries c.args.entry.now is_of represents (sym c.is_possible.ensures ∙ c.if-is_possible.true))

pub returns-else-is_possible : goal.returns-else-is_possible
returns-else-is_possible c = λ registry entries has is_of represents.
    c.if-is_possible.false
    ∙ sym (fits_impossible c.args.settings.now registry entries c.args.entry.now is_of represents (sym c.is_possible.ensures ∙ c.if-is_possible.false))
