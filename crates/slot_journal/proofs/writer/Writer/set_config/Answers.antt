use Rattle.slot_journal.proofs.Writings.{both}
use Rattle.slot_journal.proofs.writer.Writer.set_config.Goals as goal

pub returns-clause-written : goal.returns-clause-written
returns-clause-written c = both c.u32.ensures.written c.config.ensures
