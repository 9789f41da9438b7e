use Rattle.slot_journal.proofs.Writings.{both}
use Rattle.slot_journal.proofs.writer.Writer.config.Goals as goal

pub returns : goal.returns
returns c = both c.values.ensures c.values-2.ensures
