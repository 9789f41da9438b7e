use Rattle.ip_scope.specs.Prefix.{IsPrefix}
use Rattle.slot_journal.proofs.Writings.{all_next}
use Rattle.world_play.proofs.askable.are_prefixes.Goals as goal

pub loop-prefix-preserved : goal.loop-prefix-preserved
loop-prefix-preserved c = record { typed = all_next IsPrefix c.loop-prefix.prefix-index c.args.prefixes.now c.prefix-item.result c.loop-prefix-test.true c.prefix-item.is c.loop-prefix.invariant.typed c.is_prefix.ensures }
