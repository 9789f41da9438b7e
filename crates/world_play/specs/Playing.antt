-- What a world that was played plays of a world.
use Rattle.std.specs.Prelude.{◌≡◌, ℕ, ◌<◌, ◌≤◌, ◌^◌, ⊤, List, max, length, Option, Some}
use Rattle.std.specs.List.{AllByRecursion}
use Rattle.dots_settings.specs.Settings.{SettingsValue}
use Rattle.dots_client.specs.Client.{ClientValue}
use Rattle.dots_machine.specs.Machine.{State, Step}
use Rattle.dots_world.specs.declared.party.Packet.{Packet}
use Rattle.dots_world.specs.declared.event.WorldEvent.{WorldEvent}
use Rattle.dots_world.specs.declared.event.WorldEvent.TheVariants as event
use Rattle.dots_world.specs.Worlds.{World, Serves}
use Rattle.dots_world.specs.OneWorld.{PassesOnWell, ComesWell, BeginsWell, HappensWell, RunsWell}
use Rattle.dots_world.specs.declared.party.Party.{Party}
use Rattle.dots_world.specs.Plans.{Plan, to_server, to_gateway}
use Rattle.dots_host.specs.declared.event.Event.{Event}
use Rattle.dots_host.specs.declared.event.Event.TheVariants as incoming
use Rattle.dots_host.specs.declared.out.OwnedOut.{OwnedOut}
use Rattle.world_play.specs.declared.parties.Parties.{Parties}
use Rattle.world_play.specs.declared.passing.GatewaySide.{GatewaySide}
use Rattle.world_play.specs.declared.serving.ServerSide.{ServerSide}
use Rattle.world_play.specs.Calls.{acts_in}
use Rattle.world_play.specs.Packets.{IsRoutable}
use Rattle.world_play.specs.Parties.{plan_with}
use Rattle.world_play.specs.Passing as passing
use Rattle.world_play.specs.Serving as serving

pub record PlayedValue : Type 0 where
  pub parties : Parties
  pub time : ℕ
  pub server : ServerSide
  pub gateway : GatewaySide
  pub clients : List ClientValue
  pub packets : List Packet

-- The parties of the world are in the states that were come to, their disks rest with what they keep, and all that was sent is the same.
pub record PlaysAs (settings : SettingsValue) (played : PlayedValue) (world : World State) : Type 0 where
  pub time : played.time ≡ world.time
  pub server : serving.IsIn settings played.server world.server
  pub gateway : passing.IsIn played.parties played.gateway world.gateway
  pub clients : played.clients ≡ world.clients
  pub packets : played.packets ≡ world.packets
  pub acts : acts_in played.server.acts.acts ≡ world.acts

-- it can go on
pub record IsSound (played : PlayedValue) : Type 0 where
  pub few : length played.parties.clients < 2 ^ 32
  pub early : played.time < 2 ^ 48
  pub server : serving.IsReady played.server
  pub gateway : passing.IsReady played.parties played.gateway
  pub clients : length played.clients ≡ length played.parties.clients
  pub packets : AllByRecursion (IsRoutable played.parties) played.packets

-- a time is below 2^48 seconds
abbrev pub IsEarly : WorldEvent → Type 0
IsEarly (event.Tick at) = at < 2 ^ 48
IsEarly _ = ⊤

-- from each world that the one plays the other plays one that this leads to
pub record Goes (settings : SettingsValue) (leads : World State → World State → Type 0) (old new : PlayedValue) : Type 0 where
  pub goes : (world : World State) → PlaysAs settings old world → (next : World State) × leads world next × PlaysAs settings new next

-- an event that is no restart
abbrev pub IsTaken : WorldEvent → Type 0
IsTaken event.Restart = ⊥
IsTaken event.GatewayRestart = ⊥
IsTaken _ = ⊤

-- the time is this, or a later one that was before
abbrev pub timed : ℕ → World State → World State
timed at world = record world { time = max world.time at }

-- what a party sent comes to the server, or to the gateway
abbrev pub ComesToServer : (State → Event → ℕ → List (State × OwnedOut) → State → Type 0) → Plan → World State → Party → List ℕ → World State → Type 0
ComesToServer step plan old source bytes new = (peer : ℕ) × (to_server plan source ≡ Some peer) × Serves step plan old (incoming.Datagram peer bytes) new

abbrev pub ComesToGateway : Plan → Party → List ℕ → World State → World State → Type 0
ComesToGateway plan source bytes old new = (peer : ℕ) × (to_gateway plan source ≡ Some peer) × PassesOnWell plan old (incoming.Datagram peer bytes) new

-- The following don't unfold by themselves, so that the machine's step stands in no goal.

unfoldable pub ComesSo : SettingsValue → Parties → Party → Option Party → List ℕ → World State → World State → Type 0
ComesSo settings parties source target bytes old new = ComesWell (Step settings) (plan_with settings parties) old (record { source = source; target = target; bytes = bytes }) target new

unfoldable pub BeginsSo : SettingsValue → Parties → WorldEvent → World State → World State → Type 0
BeginsSo settings parties what old new = BeginsWell (Step settings) (plan_with settings parties) old what new

unfoldable pub HappensSo : SettingsValue → Parties → WorldEvent → World State → World State → Type 0
HappensSo settings parties what old new = HappensWell (Step settings) (plan_with settings parties) old what new

unfoldable pub RunsSo : SettingsValue → Parties → List WorldEvent → World State → World State → Type 0
RunsSo settings parties events old new = RunsWell (Step settings) (plan_with settings parties) old events new
