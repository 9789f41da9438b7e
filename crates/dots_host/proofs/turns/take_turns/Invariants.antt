use Rattle.std.proofs.Common.{◌≡◌, ◌≤◌, false}
use Rattle.dots_host.specs.Runs.{Added}
use Rattle.dots_host.specs.Stopping.{until}
use Rattle.dots_host.proofs.Turning.{Goes}
use Rattle.dots_host.proofs.turns.take_turns.Given as goal

abbrev pub invariant-loop-turn : goal.invariant-loop-turn
invariant-loop-turn g l = record {
  leads : g.W.Wire.leads l.fn.wire l.wire;
  later : g.W.Wire.faults l.fn.wire ≤ g.W.Wire.faults l.wire;
  going : g.A.Agent.over l.agent ≡ false;
  came : Added (g.W.Wire.acts l.fn.wire) (g.W.Wire.acts l.wire) (Goes (until g.A.Agent.over g.A.Agent.step) l.fn.agent l._turn l.agent);
}
