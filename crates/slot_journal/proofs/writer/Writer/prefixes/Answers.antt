use Rattle.ip_scope.specs.Prefix.{IsPrefix}
use Rattle.slot_journal.specs.Layout.{prefix_bytes}
use Rattle.slot_journal.proofs.Writings.{all_next, one_more}
use Rattle.slot_journal.proofs.writer.Writer.prefixes.Goals as goal

pub loop-prefix-preserved : goal.loop-prefix-preserved
loop-prefix-preserved c = record {
  written = one_more prefix_bytes 18 c.loop-prefix.prefix-index c.args.prefixes.now c.prefix-item.result c.loop-prefix-test.true c.prefix-item.is c.loop-prefix.invariant.written c.prefix.ensures.written;
  typed = all_next IsPrefix c.loop-prefix.prefix-index c.args.prefixes.now c.prefix-item.result c.loop-prefix-test.true c.prefix-item.is c.loop-prefix.invariant.typed c.prefix.ensures.typed;
}
