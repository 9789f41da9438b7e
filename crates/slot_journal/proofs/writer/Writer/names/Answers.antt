use Rattle.slot_journal.specs.Values.{IsName}
use Rattle.slot_journal.specs.Layout.{counted}
use Rattle.slot_journal.proofs.Writings.{all_next, one_more}
use Rattle.slot_journal.proofs.writer.Writer.names.Goals as goal

pub loop-name-preserved : goal.loop-name-preserved
loop-name-preserved c = record {
  written = one_more counted 65 c.loop-name.name-index c.args.names.now c.name-item.result c.loop-name-test.true c.name-item.is c.loop-name.invariant.written c.name.ensures.written;
  typed = all_next IsName c.loop-name.name-index c.args.names.now c.name-item.result c.loop-name-test.true c.name-item.is c.loop-name.invariant.typed c.name.ensures.typed;
}
