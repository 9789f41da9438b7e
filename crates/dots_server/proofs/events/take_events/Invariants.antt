use Rattle.std.proofs.Common.{◌≡◌, ◌≤◌, ◌⊎◌, List}
use Rattle.dots_host.specs.Becoming.{RestsWith}
use Rattle.dots_host.specs.Runs.{Added}
use Rattle.dots_settings.specs.Settings.{SettingsValue}
use Rattle.dots_history.specs.declared.entry.Entry.{Entry}
use Rattle.slot_store.specs.Layout.{needed_of}
use Rattle.slot_journal.specs.DiskEntries as journal
use Rattle.dots_machine.specs.Machine.{State}
use Rattle.dots_machine.specs.Endings.{AnyRestart}
use Rattle.dots_server.specs.ServerValues.{RestartsWith}
use Rattle.dots_server.proofs.Looks.{SeenOn}
use Rattle.dots_server.proofs.events.take_events.Given as goal

-- What is known of the run so far: where the disk rested at its start; and whatever the disk told, unless a restart was taken.
abbrev pub invariant-loop-turn : goal.invariant-loop-turn
invariant-loop-turn g l = record {
  leads : g.H.Wire.leads l.fn.host l.host;
  later : g.H.Wire.faults l.fn.host ≤ g.H.Wire.faults l.host;
  disk : g.H.Disk.faults l.host ≡ g.H.Disk.faults l.fn.host;
  size : needed_of l.server.journal.slots ≤ g.H.Disk.extent l.host;
  settings : l.server.settings ≡ l.fn.server.settings;
  adds : Added (g.H.Wire.acts l.fn.host) (g.H.Wire.acts l.host) (λ _. Unit {0});
  rested : (settings : SettingsValue) (start : State) (stored : List Entry) → RestartsWith l.fn.server settings start stored → RestsWith (g.H.Disk.media l.fn.host) (journal.Represents l.fn.server.journal settings stored)
      → SeenOn g.W.Onlooker.sees settings start l.server l._turn (RestsWith (g.H.Disk.media l.fn.host) (journal.Represents l.fn.server.journal settings stored)) (g.H.Disk.media l.fn.host) (g.H.Disk.media l.host)
      (g.H.Wire.acts l.fn.host) (g.H.Wire.acts l.host) l.fn.onlooker l.onlooker;
  lives : (settings : SettingsValue) (start : State) (stored : List Entry) → RestartsWith l.fn.server settings start stored
      → Added (g.H.Wire.acts l.fn.host) (g.H.Wire.acts l.host) AnyRestart
      ⊎ SeenOn g.W.Onlooker.sees settings start l.server l._turn (RestsWith (g.H.Disk.media l.fn.host) (journal.Represents l.fn.server.journal settings stored)) (g.H.Disk.media l.fn.host) (g.H.Disk.media l.host)
      (g.H.Wire.acts l.fn.host) (g.H.Wire.acts l.host) l.fn.onlooker l.onlooker;
}
