use Rattle.std.proofs.Common.{◌≡◌, ◌≤◌, ◌⊎◌}
use Rattle.dots_host.specs.Becoming.{RestsWith}
use Rattle.dots_host.specs.Runs.{Added}
use Rattle.slot_store.specs.Layout.{needed_of}
use Rattle.slot_journal.specs.Sizes.{slots_of}
use Rattle.gateway_agent.specs.Exchanges.{most_young}
use Rattle.gateway_agent.specs.Stores.{IsOn}
use Rattle.gateway_agent.specs.Passing.{GatewayState}
use Rattle.gateway_agent.specs.Keeping.{AreJoined, IsFor, IsIn, agent}
use Rattle.gateway_agent.specs.Running.{AnyRestart}
use Rattle.gateway_agent.proofs.Runs.{LivesOn}
use Rattle.gateway_agent.proofs.running.take_events.Given as goal

-- What is known of the run so far: where the disk rested at its start; and whatever the disk told, unless a restart was taken.
abbrev pub invariant-loop-turn : goal.invariant-loop-turn
invariant-loop-turn g l = record {
  leads : g.H.Wire.leads l.fn.host l.host;
  later : g.H.Wire.faults l.fn.host ≤ g.H.Wire.faults l.host;
  disk : g.H.Disk.faults l.host ≡ g.H.Disk.faults l.fn.host;
  size : needed_of (slots_of l.fn.settings) ≤ g.H.Disk.extent l.host;
  of : IsFor l.fn.settings l.fn.upstream (agent l.core l.store);
  joined : AreJoined l.core l.store;
  adds : Added (g.H.Wire.acts l.fn.host) (g.H.Wire.acts l.host) (λ _. Unit {0});
  rested : (start : GatewayState) → IsIn (agent l.fn.core l.fn.store) start → RestsWith (g.H.Disk.media l.fn.host) (IsOn l.fn.settings l.fn.store)
      → LivesOn l.fn.settings (most_young (slots_of l.fn.settings)) start (agent l.core l.store) l._turn (RestsWith (g.H.Disk.media l.fn.host) (IsOn l.fn.settings l.fn.store)) (g.H.Disk.media l.fn.host)
      (g.H.Disk.media l.host) (g.H.Wire.acts l.fn.host) (g.H.Wire.acts l.host);
  lives : (start : GatewayState) → IsIn (agent l.fn.core l.fn.store) start
      → Added (g.H.Wire.acts l.fn.host) (g.H.Wire.acts l.host) AnyRestart
      ⊎ LivesOn l.fn.settings (most_young (slots_of l.fn.settings)) start (agent l.core l.store) l._turn (RestsWith (g.H.Disk.media l.fn.host) (IsOn l.fn.settings l.fn.store)) (g.H.Disk.media l.fn.host)
      (g.H.Disk.media l.host) (g.H.Wire.acts l.fn.host) (g.H.Wire.acts l.host);
}
