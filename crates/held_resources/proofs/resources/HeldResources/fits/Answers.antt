use Rattle.std.proofs.Common.{sym, ◌∙◌}
use Rattle.held_resources.proofs.HistoryTables.{accepted_by}
use Rattle.held_resources.proofs.resources.HeldResources.fits.Goals as goal

pub returns : goal.returns
returns c = λ entries represents. c.accepts.ensures ∙ sym (accepted_by _ _ _ represents)
