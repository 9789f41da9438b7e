use Rattle.slot_journal.proofs.Crashing.{has_not_refused}
use Rattle.slot_journal.proofs.laws.what_is_stored_is_recovered.Goals as goal

pub returns : goal.returns
returns c = has_not_refused
