use Rattle.std.proofs.Common.{◌≡◌, ◌+◌, List, length}
use Rattle.dots_host.specs.Runs.{Added}
use Rattle.dots_settings.specs.Settings.{SettingsValue}
use Rattle.dots_history.specs.declared.entry.Entry.{Entry}
use Rattle.dots_machine.specs.Machine.{State}
use Rattle.dots_server.specs.ServerValues.{RestartsWith}
use Rattle.dots_server.specs.Pieces.{TurnsTaken, bytes_on}
use Rattle.dots_server.proofs.server.Server.take_piece.Given as goal

-- The turns so far, from the state that holds all of the piece to one that is still to receive what is left of it.
abbrev pub invariant-fronts : goal.invariant-fronts
invariant-fronts g l = record {
  taken : (settings : SettingsValue) (state : State) (entries : List Entry) → RestartsWith l.fn.self settings state entries
      → TurnsTaken settings l.conn l.fn.piece l.rest state l.fn.self l.self entries (g.H.Disk.media l.fn.host) (g.H.Disk.media l.host) (g.H.Wire.acts l.fn.host) (g.H.Wire.acts l.host);
  adds : Added (g.H.Wire.acts l.fn.host) (g.H.Wire.acts l.host) (λ _. Unit {0});
  settings : l.self.settings ≡ l.fn.self.settings;
  slots : l.self.journal.slots ≡ l.fn.self.journal.slots;
  extent : g.H.Disk.extent l.host ≡ g.H.Disk.extent l.fn.host;
  disk : g.H.Disk.faults l.host ≡ g.H.Disk.faults l.fn.host;
  wire : g.H.Wire.faults l.host ≡ g.H.Wire.faults l.fn.host;
  leads : g.H.Wire.leads l.fn.host l.host;
}

abbrev pub decreases-fronts : goal.decreases-fronts
decreases-fronts g l = bytes_on l.conn l.self.lines + length l.rest
