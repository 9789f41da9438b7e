use Rattle.std.proofs.Common.{arith}
use Rattle.slot_journal.proofs.Writings.{bytes_are}
use Rattle.slot_journal.proofs.writer.Writer.bytes.Goals as goal

pub returns-clause-typed : goal.returns-clause-typed
returns-clause-typed c = bytes_are c.args.bytes.now (λ i. omega (arith, c.type_inv.bytes i))
