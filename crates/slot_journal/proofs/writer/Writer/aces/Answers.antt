use Rattle.slot_journal.specs.Values.{IsAce}
use Rattle.slot_journal.specs.Layout.{ace_bytes}
use Rattle.slot_journal.proofs.Writings.{all_next, one_more}
use Rattle.slot_journal.proofs.writer.Writer.aces.Goals as goal

pub loop-ace-preserved : goal.loop-ace-preserved
loop-ace-preserved c = record {
  written = one_more ace_bytes 116 c.loop-ace.ace-index c.args.aces.now c.ace-item.result c.loop-ace-test.true c.ace-item.is c.loop-ace.invariant.written c.ace.ensures.written;
  typed = all_next IsAce c.loop-ace.ace-index c.args.aces.now c.ace-item.result c.loop-ace-test.true c.ace-item.is c.loop-ace.invariant.typed c.ace.ensures.typed;
}
