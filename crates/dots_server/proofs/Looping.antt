-- What the disk of a server holds, in the words of a run.
use Rattle.std.proofs.Common.{◌≤◌, List, arith}
use Rattle.dots_settings.specs.Settings.{SettingsValue}
use Rattle.dots_history.specs.declared.entry.Entry.{Entry}
use Rattle.dots_history.specs.Fits.{last_time}
use Rattle.dots_registry.specs.RegistryValues.{time_of}
use Rattle.dots_machine.specs.Machine.{State}
use Rattle.dots_machine.proofs.Surviving.{within_last}
use Rattle.dots_server.specs.ServerValues.{ServerValue, RestartsWith}
use Rattle.dots_server.specs.Turning.{IsStored}

-- the time of a kept state isn't before that of its last entry
pub timely : (server : ServerValue) (settings : SettingsValue) (state : State) (entries : List Entry) → RestartsWith server settings state entries → last_time state.history ≤ state.time
timely server settings state entries kept =
    let at = kept.represents.represents.time_is in
    let last = within_last (time_of server.registry) state.history kept.represents.represents.registry.live.in_order in
    omega (arith, at, last)

-- what is on the disk of a server that keeps a state
pub restarts_stored : (server : ServerValue) (settings : SettingsValue) (state : State) (entries : List Entry) → RestartsWith server settings state entries → IsStored settings state.time state.history entries
restarts_stored server settings state entries kept = record {
  calm = kept.represents.ledger.calm;
  kept = kept.rests;
  timely = timely server settings state entries kept;
}
