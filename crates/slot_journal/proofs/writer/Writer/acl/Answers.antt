use Rattle.std.proofs.Common.{refl, subst}
use Rattle.std.specs.List.{AllByRecursion}
use Rattle.slot_journal.specs.Values.{IsAce}
use Rattle.slot_journal.specs.Layout.{acl_bytes}
use Rattle.slot_journal.proofs.Writings.{both, same}
use Rattle.slot_journal.proofs.writer.Writer.acl.Goals as goal

pub returns-clause-written : goal.returns-clause-written
unfolding acl_bytes
returns-clause-written c = same (both c.name.ensures.written (both c.byte.ensures (both c.byte-2.ensures c.aces.ensures.written))) (rw (c.family_byte.ensures, c.activation_byte.ensures, c.items.ensures) refl)

pub returns-clause-typed : goal.returns-clause-typed
returns-clause-typed c = record { name = c.name.ensures.typed; aces = subst (AllByRecursion IsAce) c.items.ensures c.aces.ensures.typed }
