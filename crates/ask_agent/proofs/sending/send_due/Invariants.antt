use Rattle.std.proofs.Common.{◌≡◌}
use Rattle.dots_client.specs.Ending.{turns_left}
use Rattle.ask_agent.proofs.Draining.{Drained}
use Rattle.ask_agent.proofs.sending.send_due.Given as goal

abbrev pub invariant-loop : goal.invariant-loop
invariant-loop g l = record {
  drained : Drained l.fn.now l.fn.server l.fn.core l.core (g.W.Wire.acts l.fn.wire) (g.W.Wire.moment l.fn.wire) (g.W.Wire.acts l.wire) (g.W.Wire.moment l.wire);
  faults : g.W.Wire.faults l.wire ≡ g.W.Wire.faults l.fn.wire;
  leads : g.W.Wire.leads l.fn.wire l.wire;
}

abbrev pub decreases-loop : goal.decreases-loop
decreases-loop g l = turns_left l.core.waiting
