-- What the gateway of a world keeps, and what it does.
use Rattle.std.specs.Prelude.{◌≡◌, ℕ, ◌≤◌, List, ◌++◌, flat_map, Some}
use Rattle.dots_host.specs.Becoming.{RestsWith}
use Rattle.dots_host.specs.Stored.{media_of}
use Rattle.dots_host.specs.declared.event.Event.{Event}
use Rattle.dots_host.specs.declared.out.OwnedOut.{OwnedOut}
use Rattle.dots_world.specs.declared.party.Packet.{Packet}
use Rattle.dots_world.specs.declared.party.Party.TheVariants.{Gateway as the_gateway}
use Rattle.slot_store.specs.Layout.{needed_of}
use Rattle.gateway_agent.specs.Stores.{IsOn}
use Rattle.gateway_agent.specs.Keeping.{AgentValue, AreJoined, IsFor, agent}
use Rattle.gateway_agent.specs.Keeping as keeping
use Rattle.gateway_agent.specs.Passing.{GatewayState}
use Rattle.gateway_agent.specs.PassingWell.{PassesWell}
use Rattle.world_play.specs.declared.parties.Parties.{Parties}
use Rattle.world_play.specs.declared.passing.GatewaySide.{GatewaySide}
use Rattle.world_play.specs.Parties.{upstream_for}
use Rattle.world_play.specs.Packets.{packet_sent}

abbrev pub agent_of : GatewaySide → AgentValue
agent_of side = agent side.core side.store

-- It is one for these parties, and can take an event.
pub record IsReady (parties : Parties) (side : GatewaySide) : Type 0 where
  pub of : IsFor parties.gateway_settings (upstream_for parties) (agent_of side)
  pub joined : AreJoined side.core side.store
  pub size : needed_of side.store.journal.slots ≤ side.host.disk.extent

-- It is in this state of its machine, and its disk rests with what it keeps.
pub record IsIn (parties : Parties) (side : GatewaySide) (state : GatewayState) : Type 0 where
  pub is_in : keeping.IsIn (agent_of side) state
  pub rests : RestsWith (Some (media_of side.host.disk)) (IsOn parties.gateway_settings side.store)

-- It has taken an event, by one step of its machine for which memory was enough, and what that sends stands behind the packets.
pub record HasPassed (parties : Parties) (state : GatewayState) (came : Event) (at : ℕ) (now : GatewaySide) (packets packets_now : List Packet) : Type 0 where
  pub outs : List OwnedOut
  pub new : GatewayState
  pub passes : PassesWell state came at outs new
  pub is_in : IsIn parties now new
  pub sent : packets_now ≡ packets ++ flat_map (packet_sent parties the_gateway) outs
