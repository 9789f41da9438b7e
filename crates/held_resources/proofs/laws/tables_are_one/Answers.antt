use Rattle.held_resources.proofs.HistoryTables.{one_value}
use Rattle.held_resources.proofs.laws.tables_are_one.Goals as goal

pub returns : goal.returns
returns c = one_value
