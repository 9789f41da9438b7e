use Rattle.dots_client.specs.Ending.{turns_left}
use Rattle.world_play.proofs.Draining.{Drained}
use Rattle.world_play.proofs.handing.hand_out.Given as goal

abbrev pub invariant-loop : goal.invariant-loop
invariant-loop l = record { drained : Drained l.now l.place l.behind l.fn.client l.client l.fn.packets.items l.packets.items }

abbrev pub decreases-loop : goal.decreases-loop
decreases-loop l = turns_left l.client.waiting
