use Rattle.std.proofs.Common.{ap, ◌∙◌}
use Rattle.held_resources.specs.Tables.{registrant_in}
use Rattle.held_resources.proofs.HistoryTables.{registrant_is}
use Rattle.held_resources.proofs.resources.HeldResources.registrant.Goals as goal

pub returns : goal.returns
returns c =
    λ entries represents.
    c.registrant_of.ensures ∙ ap registrant_in c.client.ensures ∙ registrant_is _ _ represents (record { domain = c.args.domain; cuid = c.args.cuid.now })
