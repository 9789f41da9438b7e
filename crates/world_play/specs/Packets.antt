-- What is sent, as packets.
use Rattle.std.specs.Prelude.{◌≡◌, ℕ, ◌<◌, ⊤, Bool, List, [], ◌∷◌, length, Option, Some, None}
use Rattle.std.specs.List.{AllByRecursion}
use Rattle.dots_host.specs.declared.act.Act.{Act}
use Rattle.dots_host.specs.declared.act.Act.TheVariants as act
use Rattle.dots_host.specs.declared.out.OwnedOut.{OwnedOut}
use Rattle.dots_host.specs.declared.out.OwnedOut.TheVariants as owned
use Rattle.dots_world.specs.declared.party.Party.{Party}
use Rattle.dots_world.specs.declared.party.Party.TheVariants.{Client as a_client, Gateway as the_gateway, Server as the_server}
use Rattle.dots_world.specs.declared.party.Packet.{Packet}
use Rattle.dots_world.specs.Plans.{asks_at, to_server, to_gateway}
use Rattle.world_play.specs.declared.parties.Parties.{Parties}
use Rattle.world_play.specs.Parties.{plan_for, target_from}

-- the packet that a party sends so
abbrev pub packet_sent : Parties → Party → OwnedOut → List Packet
packet_sent parties source (owned.To peer bytes) = record { source = source; target = target_from parties source peer; bytes = bytes } ∷ []
packet_sent parties source _ = []

-- and by a call
abbrev pub packets_in : Parties → Party → Act → List Packet
packets_in parties source (act.Gave out done) = packet_sent parties source out
packets_in parties source _ = []

-- and by the client at a place
abbrev pub packet_of : ℕ → Bool → List ℕ → Packet
packet_of place behind bytes = record { source = a_client place; target = Some (asks_at behind); bytes = bytes }

-- a packet goes to one who gets it from a peer, or to a client that there is
abbrev pub Reaches : Parties → Party → Option Party → Type 0
Reaches parties source None = ⊤
Reaches parties source (Some the_server) = (peer : ℕ) × (to_server (plan_for parties) source ≡ Some peer)
Reaches parties source (Some the_gateway) = (peer : ℕ) × (to_gateway (plan_for parties) source ≡ Some peer)
Reaches parties source (Some (a_client i)) = i < length parties.clients

abbrev pub IsRoutable : Parties → Packet → Type 0
IsRoutable parties p = Reaches parties p.source p.target

-- what is put behind packets goes so too
abbrev pub AreRouted : Parties → List Packet → List Packet → Type 0
AreRouted parties packets packets_now = AllByRecursion (IsRoutable parties) packets → AllByRecursion (IsRoutable parties) packets_now

-- the server or the gateway
abbrev pub IsInner : Party → Type 0
IsInner (a_client i) = ⊥
IsInner _ = ⊤
