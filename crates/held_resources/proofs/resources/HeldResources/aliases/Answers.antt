use Rattle.std.proofs.Common.{ap, ◌∙◌}
use Rattle.held_resources.specs.Tables.{aliases_in}
use Rattle.held_resources.proofs.HistoryTables.{aliases_are}
use Rattle.held_resources.proofs.resources.HeldResources.aliases.Goals as goal

pub returns : goal.returns
returns c =
    λ entries represents. c.aliases_of.ensures ∙ ap aliases_in c.client.ensures ∙ aliases_are _ _ represents (record { domain = c.args.domain; cuid = c.args.cuid.now })
