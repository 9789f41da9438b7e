-- What the server of a world keeps, and what it does.
use Rattle.std.specs.Prelude.{◌≡◌, ℕ, ◌≤◌, List, [], ◌∷◌, ◌++◌, map, flat_map, Some}
use Rattle.dots_host.specs.Becoming.{RestsWith}
use Rattle.dots_host.specs.Stored.{media_of}
use Rattle.dots_host.specs.declared.act.Act.{Act}
use Rattle.dots_host.specs.declared.event.Event.{Event}
use Rattle.dots_host.specs.declared.event.Event.TheVariants as event
use Rattle.dots_host.specs.declared.out.OwnedOut.{OwnedOut}
use Rattle.dots_host.specs.Acts.{took}
use Rattle.dots_host.specs.Runs.{outs_of}
use Rattle.dots_settings.specs.Settings.{SettingsValue}
use Rattle.dots_history.specs.declared.entry.Entry.{Entry}
use Rattle.dots_world.specs.declared.party.Packet.{Packet}
use Rattle.dots_world.specs.declared.party.Party.TheVariants.{Server as the_server}
use Rattle.dots_world.specs.Worlds.{sent_act}
use Rattle.dots_world.specs.OneWorld.{StepsWell}
use Rattle.slot_store.specs.Layout.{needed_of}
use Rattle.slot_journal.specs.DiskEntries as journal
use Rattle.dots_machine.specs.Machine.{State, Step, restarted}
use Rattle.dots_server.specs.ServerValues.{RestartsWith}
use Rattle.world_play.specs.declared.parties.Parties.{Parties}
use Rattle.world_play.specs.declared.serving.ServerSide.{ServerSide}
use Rattle.world_play.specs.Calls.{acts_in}
use Rattle.world_play.specs.Packets.{packet_sent}

-- It can take an event.
abbrev pub IsReady : ServerSide → Type 0
IsReady side = needed_of side.server.journal.slots ≤ side.host.disk.extent

-- It is in this state of its machine, and its disk rests with what was accepted.
pub record IsIn (settings : SettingsValue) (side : ServerSide) (state : State) : Type 0 where
  pub entries : List Entry
  pub kept : RestartsWith side.server settings state entries
  pub rests : RestsWith (Some (media_of side.host.disk)) (journal.Represents side.server.journal settings entries)

-- It has taken an event, by one step of its machine that sends no 5.00, and what that sends stands behind the packets and among the acts.
pub record HasServed (settings : SettingsValue) (parties : Parties) (state : State) (came : Event) (at : ℕ) (now : ServerSide) (acts : List Act) (packets packets_now : List Packet) : Type 0 where
  pub owed : List (State × OwnedOut)
  pub new : State
  pub step : StepsWell (Step settings) state came at owed new
  pub is_in : IsIn settings now new
  pub sent : packets_now ≡ packets ++ flat_map (packet_sent parties the_server) (outs_of owed)
  pub told : acts_in now.acts.acts ≡ acts_in acts ++ took came at ∷ map sent_act (outs_of owed)

-- It has restarted.
pub record HasRestarted (settings : SettingsValue) (state : State) (at : ℕ) (now : ServerSide) (acts : List Act) : Type 0 where
  pub is_in : IsIn settings now (restarted settings state at)
  pub told : acts_in now.acts.acts ≡ acts_in acts ++ took event.Restart at ∷ []
