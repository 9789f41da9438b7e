use Rattle.std.proofs.Common.{ap, ◌∙◌}
use Rattle.held_resources.specs.Tables.{config_in}
use Rattle.held_resources.proofs.HistoryTables.{config_is}
use Rattle.held_resources.proofs.resources.HeldResources.config.Goals as goal

pub returns : goal.returns
returns c = λ entries represents. c.config_in.ensures ∙ ap config_in c.configuration.ensures ∙ config_is _ _ represents c.args.peer
