-- When an ask has at most one entry.
use Rattle.std.specs.Prelude.{◌≡◌, ℕ, List, [], ◌∷◌, slice_get, Contains, Some, ⊤}
use Rattle.coap_message.specs.Message.{spelling}
use Rattle.dots_host.specs.declared.event.Event.{Event}
use Rattle.dots_host.specs.declared.out.OwnedOut.{OwnedOut}
use Rattle.dots_keys.specs.declared.request.Request.{Request}
use Rattle.dots_settings.specs.Settings.{SettingsValue}
use Rattle.dots_settings.specs.Lookups.{role_of}
use Rattle.dots_history.specs.declared.entry.Entry.{Entry}
use Rattle.dots_gateway.specs.declared.exchange.Exchange.{Exchange}
use Rattle.dots_gateway.specs.Forwarding.{forwarded}
use Rattle.dots_keys.specs.declared.exchange.Exchange as machine
use Rattle.dots_machine.specs.declared.received.Received.TheVariants as received
use Rattle.dots_machine.specs.Apart.{domain_of}
use Rattle.dots_machine.specs.Domains.{is_gateway}
use Rattle.dots_machine.specs.Machine.{State, later}
use Rattle.dots_machine.specs.MessageRepeats.{sent_for, IsRepeatOf}
use Rattle.dots_machine.specs.Requests.{IsReceived}
use Rattle.dots_world.specs.Forwarding.{passage_for}
use Rattle.dots_world.specs.Plans.{Party, a_client, the_gateway, the_server, PlanClient, Plan, to_server}
use Rattle.dots_world.specs.Worlds.{MadeAsk, message_by, Packet, World, WorldEvent, delivers, Happens}
use Rattle.dots_world.specs.Granted.{IsExchangeOf, IsUnder}

-- The bytes are the ask's request, as its client sent it, or as the gateway passed it on under an exchange of the ask.
pub data CarriesAsk (plan : Plan) (made : List Exchange) (a : MadeAsk) (source : Party) (bytes : List ℕ) : Type 0 where
  sent : (c : PlanClient) → slice_get plan.clients a.who ≡ Some c → source ≡ a_client a.who → bytes ≡ spelling (message_by c.cuid a) → CarriesAsk plan made a source bytes
  sent_on : (x : Exchange) → Contains made x → (of : IsExchangeOf plan a x) → (domain : List ℕ) → source ≡ the_gateway
      → bytes ≡ spelling (forwarded x.number domain (passage_for of.c.cuid a.mid) (message_by of.c.cuid a)) → CarriesAsk plan made a source bytes

-- The datagram finds the entry remembered when it comes, by its own Message ID (RFC 7252, section 4.5).
abbrev pub Finds : SettingsValue → State → ℕ → ℕ → List ℕ → Entry → Type 0
Finds settings state at peer bytes entry =
    (exchange : machine.Exchange) (asked : Request) (domain : ℕ) → IsReceived bytes (is_gateway (role_of settings peer)) (received.Asked exchange asked)
    → domain_of settings (role_of settings peer) asked ≡ Some domain
    → IsRepeatOf settings.limits.remembered (later state at).time state.history (sent_for peer exchange domain) entry

-- A packet of the ask that comes to the server finds each entry of the ask that there is.
abbrev pub FindsAt : {S : Type 0} → (S → List Entry) → (S → ℕ → ℕ → List ℕ → Entry → Type 0) → Plan → MadeAsk → World S → WorldEvent → Type 0
FindsAt history finds plan a old (delivers k) =
    (p : Packet) (peer : ℕ) (entry : Entry) → slice_get old.packets k ≡ Some p → p.target ≡ Some the_server → to_server plan p.source ≡ Some peer
    → CarriesAsk plan old.gateway.kept a p.source p.bytes → Contains (history old.server) entry → IsUnder plan old.gateway.kept entry a
    → finds old.server old.time peer p.bytes entry
FindsAt history finds plan a old _ = ⊤

-- a run in which each does
abbrev pub RunsFinding : {S : Type 0} → (S → Event → ℕ → List (S × OwnedOut) → S → Type 0) → (S → List Entry) → (S → ℕ → ℕ → List ℕ → Entry → Type 0) → Plan → MadeAsk → World S → List WorldEvent → World S → Type 0
RunsFinding step history finds plan a old [] new = new ≡ old
RunsFinding {S} step history finds plan a old (what ∷ events) new =
    (between : World S) × FindsAt history finds plan a old what × Happens step plan old what between × RunsFinding step history finds plan a between events new
