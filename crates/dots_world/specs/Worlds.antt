-- Clients, a gateway and a server over a network that loses, repeats and reorders what is sent. The server is any machine over the events of a wire.
use Rattle.std.specs.Prelude.{◌≡◌, ℕ, ◌%◌, ◌^◌, max, true, List, [], ◌∷◌, ◌++◌, length, map, flat_map, slice_get, ℤ, Option, Some, None, ⊤}
use Rattle.std.specs.List.{slice_set, range_with_len}
use Rattle.acl_lists.specs.declared.asked.Asked.{Asked}
use Rattle.cbor_profile.specs.Valid.{IsValid}
use Rattle.coap_message.specs.Message.{CoapMessage}
use Rattle.dots_host.specs.declared.event.Event.{Event}
use Rattle.dots_host.specs.declared.event.Event.TheVariants as event
use Rattle.dots_host.specs.declared.out.OwnedOut.{OwnedOut}
use Rattle.dots_host.specs.declared.out.OwnedOut.TheVariants as owned
use Rattle.dots_host.specs.Acts.{WireAct, took, gave}
use Rattle.dots_host.specs.Runs.{outs_of}
use Rattle.reply_bodies.specs.Requests.{request_tree}
use Rattle.dots_client.specs.Asked.{CanAsk}
use Rattle.dots_client.specs.Grants.{IsGranted}
use Rattle.dots_client.specs.Requests.{asking, withdrawing}
use Rattle.dots_client.specs.declared.ask.Ask.{Ask}
use Rattle.dots_client.specs.declared.ask.Ask.TheVariants as ask
use Rattle.dots_client.specs.declared.heard.Heard.{Heard}
use Rattle.dots_client.specs.declared.heard.Heard.TheVariants as heard
use Rattle.dots_client.specs.Client.{ClientValue, IsKnown, ask_fault, mid_for, scope_in, asked_at, tick_answer, tick_after}
use Rattle.dots_client.specs.Receiving.{Receives}
use Rattle.gateway_agent.specs.Passing.{GatewayState, Passes, opened}
use Rattle.dots_machine.specs.Answering.{AreBytes}
pub use Rattle.dots_world.specs.declared.party.Packet.{Packet}
pub use Rattle.dots_world.specs.declared.event.WorldEvent.{WorldEvent}
pub use Rattle.dots_world.specs.declared.event.WorldEvent.TheVariants.{Ask as asks, Tick as ticks, Restart as restarts, GatewayRestart as gateway_restarts, Deliver as delivers}
use Rattle.dots_world.specs.Plans.{Party, a_client, the_gateway, the_server, PlanClient, Plan, upstream_of, asks_at, from_server, from_gateway, to_server, to_gateway}

-- ---- asks

-- what a client asks of its server: a mitigation for a lifetime in seconds, or that one be withdrawn
pub data Aim : Type 0 where
  mitigates : Asked → ℤ → Aim
  withdraws : Aim

-- An ask that was made: by the client at this place, under a number of the client's own, for the mitigation of this mid.
pub record MadeAsk : Type 0 where
  pub who : ℕ
  pub number : ℕ
  pub mid : ℕ
  pub aim : Aim

abbrev pub message_with : ℕ → List ℕ → ℕ → Aim → CoapMessage
message_with number cuid mid (mitigates asked lifetime) = asking number cuid mid asked lifetime
message_with number cuid mid withdraws = withdrawing number cuid mid

-- the request of an ask of a client with this name
abbrev pub message_by : List ℕ → MadeAsk → CoapMessage
message_by cuid a = message_with a.number cuid a.mid a.aim

-- a refresh asks for the scope that the ledger has
abbrev pub aim_for : ClientValue → Ask → Aim
aim_for client (ask.New asked lifetime) = mitigates asked lifetime
aim_for client (ask.Refresh mid lifetime) = mitigates (scope_in mid client.ledger) lifetime
aim_for client (ask.Withdraw mid) = withdraws

abbrev pub made_by : ℕ → ClientValue → Ask → MadeAsk
made_by i client what = record { who = i; number = client.number; mid = mid_for client what; aim = aim_for client what }

-- what a request can say
abbrev pub CanSay : Aim → Type 0
CanSay (mitigates asked lifetime) = CanAsk asked × IsGranted lifetime × IsValid (request_tree asked lifetime)
CanSay withdraws = ⊤

-- The ask is taken: what it refreshes or withdraws is in the ledger, a request can say it, and the client has no fault to find.
pub record MayAsk (client : ClientValue) (what : Ask) : Type 0 where
  pub known : IsKnown what client.ledger
  pub can : CanSay (aim_for client what)
  pub free : ask_fault client what ≡ None

-- ---- a world

-- All packets that were ever sent, in the order of sending; the acts of the server; and all asks that were ever made. The exchanges that the gateway ever
-- made are those that it keeps.
pub record World (S : Type 0) : Type 0 where
  pub time : ℕ
  pub server : S
  pub clients : List ClientValue
  pub gateway : GatewayState
  pub packets : List Packet
  pub acts : List WireAct
  pub asks : List MadeAsk

abbrev pub new_client : PlanClient → ClientValue
new_client c = record { cuid = c.cuid; room = 16; mid = 1; number = 1; waiting = []; ledger = [] }

abbrev pub begun : {S : Type 0} → Plan → S → World S
begun plan server = record {
  time = 0;
  server = server;
  clients = map new_client plan.clients;
  gateway = opened plan.gateway_settings (upstream_of plan) [] 0;
  packets = [];
  acts = [];
  asks = [];
}

-- ---- what the parties send

abbrev pub packet_from : Plan → OwnedOut → List Packet
packet_from plan (owned.To peer bytes) = record { source = the_server; target = from_server plan peer; bytes = bytes } ∷ []
packet_from plan _ = []

abbrev pub packet_passed : Plan → OwnedOut → List Packet
packet_passed plan (owned.To peer bytes) = record { source = the_gateway; target = from_gateway plan peer; bytes = bytes } ∷ []
packet_passed plan _ = []

abbrev pub packet_by : ℕ → PlanClient → List ℕ → Packet
packet_by i c bytes = record { source = a_client i; target = Some (asks_at c.behind); bytes = bytes }

-- ---- the server

abbrev pub sent_act : OwnedOut → WireAct
sent_act out = gave out true

abbrev pub served : {S : Type 0} → Plan → World S → Event → List (S × OwnedOut) → S → World S
served plan old came owed server = record old {
  server = server;
  packets = old.packets ++ flat_map (packet_from plan) (outs_of owed);
  acts = old.acts ++ took came old.time ∷ map sent_act (outs_of owed);
}

-- the server takes an event at the world's time, and all that it sends is sent
abbrev pub Serves : {S : Type 0} → (S → Event → ℕ → List (S × OwnedOut) → S → Type 0) → Plan → World S → Event → World S → Type 0
Serves {S} step plan old came new = (owed : List (S × OwnedOut)) × (server : S) × step old.server came old.time owed server × (new ≡ served plan old came owed server)

-- ---- the gateway

abbrev pub passed : {S : Type 0} → Plan → World S → List OwnedOut → GatewayState → World S
passed plan old outs gateway = record old { gateway = gateway; packets = old.packets ++ flat_map (packet_passed plan) outs }

abbrev pub PassesOn : {S : Type 0} → Plan → World S → Event → World S → Type 0
PassesOn plan old came new = (outs : List OwnedOut) × (gateway : GatewayState) × Passes old.gateway came old.time outs gateway × (new ≡ passed plan old outs gateway)

-- ---- the clients

-- a client is changed, and sends these messages
abbrev pub changed : {S : Type 0} → World S → ℕ → PlanClient → ClientValue → List (List ℕ) → World S
changed old i c client messages = record old { clients = slice_set old.clients i client; packets = old.packets ++ map (packet_by i c) messages }

-- the client at this place, in the plan and in the world
pub record IsClient {S : Type 0} (plan : Plan) (world : World S) (i : ℕ) (c : PlanClient) (client : ClientValue) : Type 0 where
  pub planned : slice_get plan.clients i ≡ Some c
  pub there : slice_get world.clients i ≡ Some client

-- it asks at the world's time, with the Message ID of its request as the random word
abbrev pub asked_now : {S : Type 0} → World S → ℕ → PlanClient → ClientValue → Ask → World S
asked_now old i c client what = record (changed old i c (asked_at client what old.time (client.number % 2 ^ 16)) []) { asks = old.asks ++ made_by i client what ∷ [] }

pub data AsksFor {S : Type 0} (plan : Plan) (old : World S) (i : ℕ) (what : Ask) (new : World S) : Type 0 where
  made : (c : PlanClient) (client : ClientValue) → IsClient plan old i c client → MayAsk client what → new ≡ asked_now old i c client what → AsksFor plan old i what new
  unmade : ((c : PlanClient) (client : ClientValue) → IsClient plan old i c client → ¬ (MayAsk client what)) → new ≡ old → AsksFor plan old i what new

-- a heartbeat is answered, and nothing else
abbrev pub answers_to : Heard → List (List ℕ)
answers_to (heard.Beat answer) = answer ∷ []
answers_to _ = []

pub record ReceivesPacket {S : Type 0} (plan : Plan) (old : World S) (i : ℕ) (bytes : List ℕ) (new : World S) : Type 0 where
  pub c : PlanClient
  pub client : ClientValue
  pub is : IsClient plan old i c client
  pub said : Heard
  pub after : ClientValue
  pub receives : Receives client bytes old.time said after
  pub leaves : new ≡ changed old i c after (answers_to said)

-- what is due is handed out, one message after the other until none is
abbrev pub Drains : ℕ → ClientValue → List (List ℕ) → ClientValue → Type 0
Drains now old [] new = (tick_answer now old ≡ None) × (new ≡ tick_after now old)
Drains now old (message ∷ messages) new = (tick_answer now old ≡ Some message) × Drains now (tick_after now old) messages new

pub record HandsOut {S : Type 0} (plan : Plan) (old : World S) (i : ℕ) (new : World S) : Type 0 where
  pub c : PlanClient
  pub client : ClientValue
  pub is : IsClient plan old i c client
  pub messages : List (List ℕ)
  pub after : ClientValue
  pub drains : Drains old.time client messages after
  pub leaves : new ≡ changed old i c after messages

-- each client at these places does, one after the other
abbrev pub AllHandOut : {S : Type 0} → Plan → List ℕ → World S → World S → Type 0
AllHandOut plan [] old new = new ≡ old
AllHandOut {S} plan (i ∷ places) old new = (between : World S) × HandsOut plan old i between × AllHandOut plan places between new

-- ---- what happens

-- a packet, which is bytes, comes to whom it was sent
abbrev pub Comes : {S : Type 0} → (S → Event → ℕ → List (S × OwnedOut) → S → Type 0) → Plan → World S → Packet → Option Party → World S → Type 0
Comes step plan old p None new = new ≡ old
Comes step plan old p (Some the_server) new = (peer : ℕ) × (to_server plan p.source ≡ Some peer) × Serves step plan old (event.Datagram peer p.bytes) new
Comes step plan old p (Some the_gateway) new = (peer : ℕ) × (to_gateway plan p.source ≡ Some peer) × PassesOn plan old (event.Datagram peer p.bytes) new
Comes step plan old p (Some (a_client i)) new = ReceivesPacket plan old i p.bytes new

abbrev pub Delivers : {S : Type 0} → (S → Event → ℕ → List (S × OwnedOut) → S → Type 0) → Plan → World S → Option Packet → World S → Type 0
Delivers step plan old None new = new ≡ old
Delivers step plan old (Some p) new = AreBytes p.bytes × Comes step plan old p p.target new

-- an event: a packet may come again and again, at any time, or never
abbrev pub Begins : {S : Type 0} → (S → Event → ℕ → List (S × OwnedOut) → S → Type 0) → Plan → World S → WorldEvent → World S → Type 0
Begins step plan old (asks i what) new = AsksFor plan old i what new
Begins step plan old (ticks at) new = Serves step plan (record old { time = max old.time at }) event.Tick new
Begins step plan old restarts new = Serves step plan old event.Restart new
Begins step plan old gateway_restarts new = PassesOn plan old event.Restart new
Begins step plan old (delivers k) new = Delivers step plan old (slice_get old.packets k) new

-- then each client, in the plan's order, hands out what is due
abbrev pub Happens : {S : Type 0} → (S → Event → ℕ → List (S × OwnedOut) → S → Type 0) → Plan → World S → WorldEvent → World S → Type 0
Happens {S} step plan old what new = (between : World S) × Begins step plan old what between × AllHandOut plan (range_with_len 0 (length plan.clients)) between new

abbrev pub Runs : {S : Type 0} → (S → Event → ℕ → List (S × OwnedOut) → S → Type 0) → Plan → World S → List WorldEvent → World S → Type 0
Runs step plan old [] new = new ≡ old
Runs {S} step plan old (what ∷ events) new = (between : World S) × Happens step plan old what between × Runs step plan between events new
