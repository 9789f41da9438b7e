use Rattle.std.proofs.Common.{sym, ◌∙◌, ◌++◌, ◌∷◌, [], subst}
use Rattle.held_resources.specs.Tables.{Tables, Represents}
use Rattle.held_resources.proofs.HistoryTables.{accepted_by, takes_from, represents_with}
use Rattle.held_resources.proofs.resources.HeldResources.apply.Goals as goal

pub put-requires-clause-takes : goal.put-requires-clause-takes
put-requires-clause-takes c =
    takes_from c.args.self.now c.args.entry (sym (accepted_by c.args.self.now c.requires.fits.0 c.args.entry c.requires.fits.1) ∙ c.requires.fits.2)

pub returns-clause-represents : goal.returns-clause-represents
returns-clause-represents c =
    λ entries represents.
    subst
    (λ (tables : Tables). Represents tables (entries ++ c.args.entry ∷ []))
    (sym c.put.ensures)
    (represents_with
    c.args.self.now
    entries
    c.args.entry
    c.args.slot
    represents
    (sym (accepted_by c.args.self.now c.requires.fits.0 c.args.entry c.requires.fits.1) ∙ c.requires.fits.2))
