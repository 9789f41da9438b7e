use Rattle.std.proofs.Common.{ap, ◌∙◌}
use Rattle.held_resources.specs.Tables.{acls_in}
use Rattle.held_resources.proofs.HistoryTables.{acls_are}
use Rattle.held_resources.proofs.resources.HeldResources.acls.Goals as goal

pub returns : goal.returns
returns c =
    λ entries represents. c.acls_of.ensures ∙ ap acls_in c.client.ensures ∙ acls_are _ _ represents (record { domain = c.args.domain; cuid = c.args.cuid.now })
