use Rattle.std.proofs.Common.{refl}
use Rattle.slot_journal.specs.Layout.{ace_bytes}
use Rattle.slot_journal.proofs.Writings.{both, same}
use Rattle.slot_journal.proofs.writer.Writer.ace.Goals as goal

pub returns-clause-written : goal.returns-clause-written
unfolding ace_bytes
returns-clause-written c =
    same (both c.name.ensures.written (both c.optional_prefix.ensures.written (both c.optional_prefix-2.ensures.written (both c.optional_protocol.ensures.written (both c.port_test.ensures.written (both c.port_test-2.ensures.written c.byte.ensures))))))
    (rw (c.from.ensures) refl)

pub returns-clause-typed : goal.returns-clause-typed
returns-clause-typed c = record {
  name = c.name.ensures.typed;
  source = c.optional_prefix.ensures.typed;
  destination = c.optional_prefix-2.ensures.typed;
  protocol = c.optional_protocol.ensures.typed;
  source_port = c.port_test.ensures.typed;
  destination_port = c.port_test-2.ensures.typed;
}
