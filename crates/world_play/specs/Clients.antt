-- What clients do, by their places.
use Rattle.std.specs.Prelude.{◌≡◌, ◌≢◌, ℕ, ◌%◌, ◌^◌, ◌⊎◌, Bool, List, [], ◌∷◌, ◌++◌, map, slice_get, Some}
use Rattle.std.specs.List.{slice_set}
use Rattle.dots_client.specs.declared.ask.Ask.{Ask}
use Rattle.dots_client.specs.declared.heard.Heard.{Heard}
use Rattle.dots_client.specs.declared.heard.Heard.TheVariants as heard
use Rattle.dots_client.specs.Client.{ClientValue, asked_at}
use Rattle.dots_client.specs.Receiving.{Receives}
use Rattle.dots_world.specs.declared.party.Packet.{Packet}
use Rattle.dots_world.specs.declared.plan.PlanClient.{PlanClient}
use Rattle.dots_world.specs.Worlds.{MayAsk, Drains, answers_to}
use Rattle.world_play.specs.Packets.{packet_of}

-- the client at the place asks, or there is none that may
abbrev pub AskedAt : List ClientValue → ℕ → Ask → ℕ → List ClientValue → Type 0
AskedAt clients place what now new =
    ((client : ClientValue) × (slice_get clients place ≡ Some client) × MayAsk client what × (new ≡ slice_set clients place (asked_at client what now (client.number % 2 ^ 16))))
    ⊎ (((client : ClientValue) → slice_get clients place ≡ Some client → MayAsk client what → ⊥) × (new ≡ clients))

-- it gets a message, and has memory for what was granted
pub record ReceivedAt (clients : List ClientValue) (place : ℕ) (behind : Bool) (bytes : List ℕ) (now : ℕ) (new : List ClientValue) (packets packets_now : List Packet) : Type 0 where
  pub client : ClientValue
  pub there : slice_get clients place ≡ Some client
  pub said : Heard
  pub after : ClientValue
  pub receives : Receives client bytes now said after
  pub enough : said ≢ heard.NoMemory
  pub leaves : new ≡ slice_set clients place after
  pub posted : packets_now ≡ packets ++ map (packet_of place behind) (answers_to said)

-- it hands out what is due
pub record HandedOut (plan : PlanClient) (now place : ℕ) (clients : List ClientValue) (packets : List Packet) (new : List ClientValue) (packets_now : List Packet) : Type 0 where
  pub client : ClientValue
  pub there : slice_get clients place ≡ Some client
  pub messages : List (List ℕ)
  pub after : ClientValue
  pub drains : Drains now client messages after
  pub leaves : new ≡ slice_set clients place after
  pub posted : packets_now ≡ packets ++ map (packet_of place plan.behind) messages

-- those at these places do, one after the other
abbrev pub AllHanded : List PlanClient → ℕ → List ℕ → List ClientValue → List Packet → List ClientValue → List Packet → Type 0
AllHanded plan now [] clients packets new packets_now = (new ≡ clients) × (packets_now ≡ packets)
AllHanded plan now (place ∷ places) clients packets new packets_now =
    (c : PlanClient) × (slice_get plan place ≡ Some c) × (between : List ClientValue) × (posted : List Packet) × HandedOut c now place clients packets between posted
    × AllHanded plan now places between posted new packets_now
