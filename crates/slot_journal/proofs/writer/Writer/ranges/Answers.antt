use Rattle.slot_journal.specs.Values.{IsRange}
use Rattle.slot_journal.specs.Layout.{ports_bytes}
use Rattle.slot_journal.proofs.Writings.{all_next, one_more}
use Rattle.slot_journal.proofs.writer.Writer.ranges.Goals as goal

pub loop-ports-preserved : goal.loop-ports-preserved
loop-ports-preserved c = record {
  written = one_more ports_bytes 4 c.loop-ports.ports-index c.args.ranges.now c.ports-item.result c.loop-ports-test.true c.ports-item.is c.loop-ports.invariant.written c.ports.ensures.written;
  typed = all_next IsRange c.loop-ports.ports-index c.args.ranges.now c.ports-item.result c.loop-ports-test.true c.ports-item.is c.loop-ports.invariant.typed c.ports.ensures.typed;
}
