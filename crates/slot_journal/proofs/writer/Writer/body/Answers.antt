use Rattle.std.proofs.Common.{refl, arith, subst}
use Rattle.std.specs.List.{AllByRecursion}
use Rattle.slot_journal.specs.Values.{IsByte}
use Rattle.slot_journal.specs.Layout.{body_bytes}
use Rattle.slot_journal.proofs.Writings.{both, same, looser, entry_sizes}
use Rattle.slot_journal.proofs.writer.Writer.body.Goals as goal

pub returns-clause-written : goal.returns-clause-written
unfolding body_bytes
returns-clause-written c =
    looser
    (same (both c.u64.ensures.written (both c.u32.ensures.written (both c.u16.ensures.written (both c.counted.ensures.written (both c.key.ensures.written (both c.reply.ensures.written (both c.byte.ensures c.fields.ensures.written)))))))
    (rw (c.bytes.ensures.value, c.items.ensures, c.change_byte.ensures) refl))
    (rw (c.bytes.ensures.value) (omega (arith, (entry_sizes c.args.entry.now c.requires).0)))

pub counted-requires : goal.counted-requires
counted-requires c = rw (c.bytes.ensures.value) (omega (arith, (entry_sizes c.args.entry.now c.requires).0))

pub reply-requires : goal.reply-requires
reply-requires c = rw (c.items.ensures) ((entry_sizes c.args.entry.now c.requires).1.0)

pub fields-requires : goal.fields-requires
fields-requires c = (entry_sizes c.args.entry.now c.requires).1.1

pub returns-clause-typed : goal.returns-clause-typed
returns-clause-typed c = record {
  peer = c.u32.ensures.typed;
  domain = c.u16.ensures.typed;
  key = c.key.ensures.typed;
  reply = subst (AllByRecursion IsByte) c.items.ensures c.reply.ensures.typed;
  change = c.fields.ensures.typed;
}
