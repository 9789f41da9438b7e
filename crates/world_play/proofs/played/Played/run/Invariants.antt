use Rattle.std.proofs.Common.{◌≡◌, take}
use Rattle.dots_settings.specs.Settings.{SettingsValue}
use Rattle.world_play.specs.Playing.{IsSound, Goes, RunsSo}
use Rattle.world_play.proofs.played.Played.run.Given as goal

abbrev pub invariant-loop-event : goal.invariant-loop-event
invariant-loop-event l = record {
  sound : IsSound l.played;
  parties : l.played.parties ≡ l.fn.self.parties;
  runs : (settings : SettingsValue) → Goes settings (RunsSo settings l.fn.self.parties (take l.event-index l.events)) l.fn.self l.played;
}
