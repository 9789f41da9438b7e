use Rattle.slot_journal.proofs.Places.{no_more}
use Rattle.slot_journal.proofs.record_laws.no_front.Goals as goal

pub returns : goal.returns
returns c = no_more
