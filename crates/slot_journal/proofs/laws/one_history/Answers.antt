use Rattle.slot_journal.proofs.Crashing.{one_history}
use Rattle.slot_journal.proofs.laws.one_history.Goals as goal

pub returns : goal.returns
returns c = one_history
