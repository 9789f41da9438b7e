use Rattle.std.proofs.Common.{refl}
use Rattle.slot_journal.proofs.Writings.{both, same}
use Rattle.slot_journal.proofs.writer.Writer.optional_prefix.Goals as goal

pub returns-in-Some-clause-written : goal.returns-in-Some-clause-written
returns-in-Some-clause-written c = same (both c.byte-in-Some.ensures c.prefix.ensures.written) (rw (c.in-Some.is) refl)
