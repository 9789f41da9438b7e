use Rattle.std.proofs.Common.{refl}
use Rattle.slot_journal.proofs.Writings.{both, same}
use Rattle.slot_journal.proofs.writer.Writer.prefix.Goals as goal

pub returns-clause-written : goal.returns-clause-written
returns-clause-written c = same (both c.byte.ensures (both c.byte-2.ensures c.u128.ensures)) (rw (c.version_of.ensures, c.family.ensures.value, c.length.ensures.value, c.number.ensures.value) refl)
