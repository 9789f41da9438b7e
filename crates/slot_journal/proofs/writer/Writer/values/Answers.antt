use Rattle.slot_journal.specs.Layout.{values_bytes}
use Rattle.slot_journal.proofs.Writings.{both}
use Rattle.slot_journal.proofs.writer.Writer.values.Goals as goal

pub returns : goal.returns
unfolding values_bytes
returns c = both c.u32.ensures.written (both c.u32-2.ensures.written (both c.u32-3.ensures.written (both c.u32-4.ensures.written (both c.u32-5.ensures.written c.u32-6.ensures.written))))
