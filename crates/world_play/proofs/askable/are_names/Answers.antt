use Rattle.std.proofs.Common.{ℕ, List}
use Rattle.std.specs.Prelude.{IsTrue}
use Rattle.dots_lists.specs.Name.{is_name}
use Rattle.slot_journal.proofs.Writings.{all_next}
use Rattle.world_play.proofs.askable.are_names.Goals as goal

pub loop-name-preserved : goal.loop-name-preserved
loop-name-preserved c = record { typed = all_next (λ (name : List ℕ). IsTrue (is_name name)) c.loop-name.name-index c.args.names.now c.name-item.result c.loop-name-test.true c.name-item.is c.loop-name.invariant.typed c.is_name.ensures }
