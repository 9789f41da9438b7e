use Rattle.std.proofs.Common.{ap, ◌∙◌}
use Rattle.std.specs.Prelude.{is_some}
use Rattle.held_resources.proofs.HistoryTables.{registered_is}
use Rattle.held_resources.proofs.resources.HeldResources.registered.Goals as goal

pub returns : goal.returns
returns c =
    λ entries represents. c.is_there.ensures ∙ ap is_some c.client.ensures ∙ registered_is _ _ represents (record { domain = c.args.domain; cuid = c.args.cuid.now })
