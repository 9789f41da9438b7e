-- Where packets go there is one who gets them.
use Rattle.std.proofs.Common.{◌≡◌, ℕ, zero, suc, ◌<◌, ◌==◌, Bool, true, false, cond, List, [], ◌∷◌, ◌++◌, length, map, slice_get, position, get_or, Option, Some, None, option_map, refl, sym, ap, ◌∙◌, subst, arith}
use Rattle.std.specs.Prelude.{flat_map}
use Rattle.std.specs.List.{AllByRecursion}
use Rattle.std.proofs.lemmas.List.Quantifiers.{position-Some}
use Rattle.std.proofs.lemmas.Option.{slice_get_within}
use Rattle.dots_host.specs.declared.act.Act.{Act}
use Rattle.dots_host.specs.declared.act.Act.TheVariants as act
use Rattle.dots_host.specs.declared.out.OwnedOut.{OwnedOut}
use Rattle.dots_host.specs.declared.out.OwnedOut.TheVariants as owned
use Rattle.dots_client.specs.Client.{ClientValue}
use Rattle.dots_world.specs.declared.party.Party.{Party}
use Rattle.dots_world.specs.declared.party.Party.TheVariants.{Client as a_client, Gateway as the_gateway, Server as the_server}
use Rattle.dots_world.specs.declared.party.Packet.{Packet}
use Rattle.dots_world.specs.declared.plan.PlanClient.{PlanClient}
use Rattle.dots_world.specs.Plans.{is_direct, is_behind}
use Rattle.dots_world.specs.Worlds.{answers_to}
use Rattle.world_play.specs.declared.parties.Parties.{Parties}
use Rattle.world_play.specs.Clients.{AllHanded, ReceivedAt}
use Rattle.world_play.specs.Parties.{upstream_for}
use Rattle.world_play.specs.Packets.{packet_sent, packets_in, packet_of, Reaches, IsRoutable, AreRouted, IsInner}
use Rattle.world_play.specs.Playing.{PlayedValue, IsSound}

pub all_then : (P : Packet → Type 0) (xs ys : List Packet) → AllByRecursion P xs → AllByRecursion P ys → AllByRecursion P (xs ++ ys)
all_then P [] ys a b = b
all_then P (x ∷ xs) ys a b = (a.0, all_then P xs ys a.1 b)

chosen : (parties : Parties) (source : Party) (b : Bool) (one other : Option Party) → Reaches parties source one → Reaches parties source other → Reaches parties source (cond b one other)
chosen parties source true one other a b = a
chosen parties source false one other a b = b

within_place : (p : PlanClient → Bool) (xs : List PlanClient) (i : ℕ) → position p xs ≡ Some i → i < length xs
within_place p [] i is = absurd (cc is)
within_place p (x ∷ xs) i is = (position-Some p (x ∷ xs) i x is).0

to_client : (parties : Parties) (source : Party) (p : PlanClient → Bool) (found : Option ℕ) → position p parties.clients ≡ found → Reaches parties source (option_map a_client found)
to_client parties source p None is = tt
to_client parties source p (Some i) is = within_place p parties.clients i is

sent_routed : (parties : Parties) (source : Party) (out : OwnedOut) → IsInner source → AllByRecursion (IsRoutable parties) (packet_sent parties source out)
sent_routed parties (a_client i) out inner = absurd inner
sent_routed parties the_server (owned.To peer bytes) inner = (
  chosen parties the_server (peer == parties.gateway) (Some the_gateway) (option_map a_client (position (is_direct peer) parties.clients)) (upstream_for parties, refl)
      (to_client parties the_server (is_direct peer) (position (is_direct peer) parties.clients) refl),
  tt,
)
sent_routed parties the_gateway (owned.To peer bytes) inner = (
  chosen parties the_gateway (peer == upstream_for parties) (Some the_server) (option_map a_client (position (is_behind peer) parties.clients)) (parties.gateway, refl)
      (to_client parties the_gateway (is_behind peer) (position (is_behind peer) parties.clients) refl),
  tt,
)
sent_routed parties the_server (owned.Conn conn bytes) inner = tt
sent_routed parties the_gateway (owned.Conn conn bytes) inner = tt
sent_routed parties the_server (owned.Close conn) inner = tt
sent_routed parties the_gateway (owned.Close conn) inner = tt

calls_routed : (parties : Parties) (source : Party) (calls : List Act) → IsInner source → AllByRecursion (IsRoutable parties) (flat_map (packets_in parties source) calls)
calls_routed parties source [] inner = tt
calls_routed parties source (act.Gave out done ∷ calls) inner =
    all_then (IsRoutable parties) (packet_sent parties source out) (flat_map (packets_in parties source) calls) (sent_routed parties source out inner) (calls_routed parties source calls inner)
calls_routed parties source (act.Took e t ∷ calls) inner = calls_routed parties source calls inner
calls_routed parties source (act.Read o ∷ calls) inner = calls_routed parties source calls inner
calls_routed parties source (act.Wrote a b o ∷ calls) inner = calls_routed parties source calls inner
calls_routed parties source (act.Synced o ∷ calls) inner = calls_routed parties source calls inner

pub post_routed : (parties : Parties) (source : Party) (calls : List Act) (packets packets_now : List Packet) → IsInner source → packets_now ≡ packets ++ flat_map (packets_in parties source) calls
    → AreRouted parties packets packets_now
post_routed parties source calls packets packets_now inner posted = λ routed.
    subst (AllByRecursion (IsRoutable parties)) (sym posted) (all_then (IsRoutable parties) packets (flat_map (packets_in parties source) calls) routed (calls_routed parties source calls inner))

-- ---- what a client sends

there_in : (xs : List PlanClient) (i : ℕ) → i < length xs → (c : PlanClient) × (slice_get xs i ≡ Some c)
there_in [] i less = absurd (omega (arith, less))
there_in (x ∷ xs) zero less = (x, refl)
there_in (x ∷ xs) (suc i) less = there_in xs i (omega (arith, less))

client_routed : (parties : Parties) (place : ℕ) (behind : Bool) (bytes : List ℕ) → place < length parties.clients → IsRoutable parties (packet_of place behind bytes)
client_routed parties place true bytes less = let (c, is) = there_in parties.clients place less in (c.peer, ap (option_map (λ (k : PlanClient). k.peer)) is)
client_routed parties place false bytes less = let (c, is) = there_in parties.clients place less in (c.peer, ap (option_map (λ (k : PlanClient). k.peer)) is)

pub messages_routed : (parties : Parties) (place : ℕ) (behind : Bool) (messages : List (List ℕ)) (packets packets_now : List Packet) → place < length parties.clients
    → packets_now ≡ packets ++ map (packet_of place behind) messages → AreRouted parties packets packets_now
messages_routed parties place behind messages packets packets_now less posted = λ routed. subst (AllByRecursion (IsRoutable parties)) (sym posted) (all_then (IsRoutable parties) packets _ routed (each messages))
  where
    each : (messages : List (List ℕ)) → AllByRecursion (IsRoutable parties) (map (packet_of place behind) messages)
    each [] = tt
    each (message ∷ messages) = (client_routed parties place behind message less, each messages)

pub handed_routed : (parties : Parties) (now : ℕ) (places : List ℕ) (clients new : List ClientValue) (packets packets_now : List Packet) → AllHanded parties.clients now places clients packets new packets_now
    → AreRouted parties packets packets_now
handed_routed parties now [] clients new packets packets_now all = λ routed. subst (AllByRecursion (IsRoutable parties)) (sym all.1) routed
handed_routed parties now (place ∷ places) clients new packets packets_now all = λ routed.
    let (c, planned, between, posted, out, rest) = all in
    handed_routed parties now places between new posted packets_now rest
    (messages_routed parties place c.behind out.messages packets posted (slice_get_within parties.clients place c planned) out.posted routed)

pub received_routed : (parties : Parties) (place : ℕ) (behind : Bool) (bytes : List ℕ) (now : ℕ) (clients new : List ClientValue) (packets packets_now : List Packet) → place < length parties.clients
    → ReceivedAt clients place behind bytes now new packets packets_now → AreRouted parties packets packets_now
received_routed parties place behind bytes now clients new packets packets_now less got = messages_routed parties place behind (answers_to got.said) packets packets_now less got.posted

pub sound_changed : (played : PlayedValue) (new : List ClientValue) (packets : List Packet) → IsSound played → length new ≡ length played.clients → AreRouted played.parties played.packets packets
    → IsSound (record played { clients = new; packets = packets })
sound_changed played new packets sound lengths routed = record {
  few = sound.few;
  early = sound.early;
  server = sound.server;
  gateway = sound.gateway;
  clients = lengths ∙ sound.clients;
  packets = routed sound.packets;
}
