use Rattle.std.proofs.Common.{arith}
use Rattle.slot_journal.proofs.Writings.{both, looser}
use Rattle.slot_journal.proofs.writer.Writer.reply.Goals as goal

pub returns-clause-written : goal.returns-clause-written
returns-clause-written c = looser (both c.u16.ensures.written c.bytes.ensures.written) (omega (arith, c.requires))
