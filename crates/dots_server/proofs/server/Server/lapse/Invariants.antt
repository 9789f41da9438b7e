use Rattle.std.proofs.Common.{◌≡◌, List, length}
use Rattle.dots_host.specs.Runs.{Added}
use Rattle.dots_settings.specs.Settings.{SettingsValue}
use Rattle.dots_history.specs.declared.entry.Entry.{Entry}
use Rattle.dots_machine.specs.Machine.{State}
use Rattle.dots_server.specs.ServerValues.{RestartsWith}
use Rattle.dots_server.proofs.Lapsing.{LapsedSoFar}
use Rattle.dots_server.proofs.server.Server.lapse.Given as goal

-- The peers before the place had their turns.
abbrev pub invariant-loop-place : goal.invariant-loop-place
invariant-loop-place g l = record {
  lapsed : (settings : SettingsValue) (state : State) (entries : List Entry) → RestartsWith l.fn.self settings state entries
      → LapsedSoFar settings state l.place l.fn.self l.self entries (g.H.Disk.media l.fn.host) (g.H.Disk.media l.host) (g.H.Wire.acts l.fn.host) (g.H.Wire.acts l.host);
  sessions : length l.self.watch.sessions ≡ length l.fn.self.watch.sessions;
  adds : Added (g.H.Wire.acts l.fn.host) (g.H.Wire.acts l.host) (λ _. Unit {0});
  settings : l.self.settings ≡ l.fn.self.settings;
  slots : l.self.journal.slots ≡ l.fn.self.journal.slots;
  extent : g.H.Disk.extent l.host ≡ g.H.Disk.extent l.fn.host;
  disk : g.H.Disk.faults l.host ≡ g.H.Disk.faults l.fn.host;
  wire : g.H.Wire.faults l.host ≡ g.H.Wire.faults l.fn.host;
  leads : g.H.Wire.leads l.fn.host l.host;
}
