use Rattle.std.proofs.lemmas.Bool.{and_parts}
use Rattle.slot_journal.specs.Layout.{alias_bytes}
use Rattle.slot_journal.proofs.Writings.{both}
use Rattle.slot_journal.proofs.writer.Writer.alias.Goals as goal

pub returns-clause-written : goal.returns-clause-written
unfolding alias_bytes
returns-clause-written c = both c.name.ensures.written c.asked.ensures.written

pub asked-requires : goal.asked-requires
asked-requires c = (and_parts _ _ c.requires).0

pub returns-clause-typed : goal.returns-clause-typed
returns-clause-typed c = record { name = c.name.ensures.typed; asked = c.asked.ensures.typed }
