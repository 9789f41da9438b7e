-- A server-domain gateway as a value (RFC 8811, section 2.2.3), and what a datagram of a client and one of its upstream do to it.
use Rattle.std.specs.Prelude.{◌≡◌, ℕ, ◌/◌, Bool, true, false, ◌&&◌, ◌||◌, ◌==◌, if◌then◌else◌, List, [], Option, Some, None, Result, Ok, Err, IsTrue, bytes_eq}
use Rattle.std.specs.List.{find}
use Rattle.coap_message.specs.declared.codes.TheConstants.{PUT, CHANGED}
use Rattle.coap_message.specs.declared.kind.Kind.{Kind}
use Rattle.coap_message.specs.declared.kind.Kind.TheVariants.{Con, Non, Ack, Rst}
use Rattle.coap_message.specs.declared.option_numbers.TheConstants.{URI_PATH}
use Rattle.coap_message.specs.Message.{CoapMessage, IsMessage, spelling}
use Rattle.coap_message.specs.Salvage.{salvaged}
use Rattle.dots_keys.specs.declared.dismissal.Dismissal.{Dismissal}
use Rattle.dots_keys.specs.declared.dismissal.Dismissal.TheVariants as dismissal
use Rattle.dots_keys.specs.Exchanges.{exchange_in, may_ask, is_request, rejected, dismissed_unread}
use Rattle.dots_keys.specs.Replies.{plain, rejection, reset_message}
use Rattle.dots_keys.specs.declared.reject.Reject.{Reject}
use Rattle.dots_keys.specs.declared.reject.Reject.TheVariants as reject
use Rattle.dots_keys.specs.Options.{values_of}
use Rattle.dots_keys.specs.Paths.{heartbeat, resource_at}
use Rattle.dots_history.specs.declared.entry.MessageKey.{MessageKey}
use Rattle.dots_history.specs.declared.entry.MessageKey.TheVariants as key
use Rattle.dots_gateway.specs.declared.exchange.Exchange.{Exchange}
use Rattle.dots_gateway.specs.declared.exchange.Waiting.{Waiting}
use Rattle.dots_gateway.specs.declared.passed.Passed.{Passed}
use Rattle.dots_gateway.specs.declared.passed.Passed.TheVariants as passed
use Rattle.dots_gateway.specs.declared.passed.GatewayFault.{GatewayFault}
use Rattle.dots_gateway.specs.declared.passed.GatewayFault.TheVariants as fault
use Rattle.dots_gateway.specs.declared.routes.Route.{Route}
use Rattle.dots_gateway.specs.Exchanges.{ExchangesValue, at_time, is_full, exchange_for, with_one, is_from, is_passed, key_for}
use Rattle.dots_gateway.specs.Forwarding.{forwarded, answered}
use Rattle.dots_gateway.specs.Routes.{domain_for}
use Rattle.dots_gateway.specs.Wanted.{Passage, Wanted, beat, passage, hop_in, wanted_of}

-- the clients with their domains, the peer that is the upstream, and the exchanges
pub record GatewayValue : Type 0 where
  pub routes : List Route
  pub upstream : ℕ
  pub exchanges : ExchangesValue

-- the gateway at a time, when the exchanges that are over have gone
abbrev pub gateway_at : ℕ → GatewayValue → GatewayValue
gateway_at now g = record g { exchanges = at_time now g.exchanges }

-- what is done with a datagram
abbrev pub Said : Type 0
Said = Result Passed GatewayFault

-- ---- a client's request

-- what is confirmable and can't be read, or is no request, is reset, and any other is ignored (RFC 7252, sections 4.2 and 4.3)
abbrev pub dismissed_said : ℕ → Dismissal → Said
dismissed_said peer (dismissal.Reset id) = Ok (passed.Reply peer (reset_message id))
dismissed_said peer _ = Ok passed.Nothing

-- A message with a critical option that isn't recognised is answered where it is confirmable (RFC 7252, section 5.4.1); any other
-- that is refused is answered.
abbrev pub refused_option : ℕ → Kind → List ℕ → Said
refused_option peer Con reply = Ok (passed.Reply peer reply)
refused_option peer _ reply = Ok passed.Nothing

abbrev pub refused : ℕ → CoapMessage → Reject → Said
refused peer m (reject.Critical number) = refused_option peer m.kind (rejection (exchange_in m) (reject.Critical number))
refused peer m other = Ok (passed.Reply peer (rejection (exchange_in m) other))

-- whether two requests have one type and one Message ID
abbrev pub same_message : MessageKey → MessageKey → Bool
same_message key.Http key.Http = true
same_message (key.Non id) (key.Non other) = id == other
same_message (key.Con id) (key.Con other) = id == other
same_message _ _ = false

-- Whether the request of an exchange came again: as the same bytes, or, where the bytes were lost in a crash, with the same type,
-- Message ID and token.
abbrev pub came_again : Option (List ℕ) → Exchange → List ℕ → CoapMessage → Bool
came_again (Some asked) exchange datagram m = bytes_eq asked datagram
came_again None exchange datagram m = same_message exchange.key (key_for m.kind m.identifier) && bytes_eq exchange.token m.token

-- a request whose peer and Message ID have an exchange: it is passed on once more, with the number that it had, or it is another one
abbrev pub passed_again : List ℕ → List ℕ → CoapMessage → Passage → Waiting → Said
passed_again domain datagram m p k =
    if came_again k.asked k.exchange datagram m
    then Ok (passed.Forward (spelling (forwarded k.exchange.number domain p m)) None)
    else Ok passed.Nothing

-- a new one has the next number, where there is room for it
abbrev pub passed_first : ExchangesValue → ℕ → List ℕ → CoapMessage → Passage → Said
passed_first e peer domain m p =
    if is_full e then Err fault.TableFull
    else Ok (passed.Forward (spelling (forwarded e.next domain p m)) (Some (exchange_for e peer m)))

abbrev pub passed_by : ExchangesValue → ℕ → List ℕ → List ℕ → CoapMessage → Passage → Option Waiting → Said
passed_by e peer domain datagram m p (Some k) = passed_again domain datagram m p k
passed_by e peer domain datagram m p None = passed_first e peer domain m p

-- A Hop-Limit of 1 would be 0 behind the gateway: 5.08 Hop Limit Reached (RFC 8768, sections 3 and 4).
abbrev pub passed_on : ExchangesValue → ℕ → List ℕ → List ℕ → CoapMessage → Passage → Said
passed_on e peer domain datagram m p =
    if p.hop == 1 then Ok (passed.Reply peer (plain 0xa8 (exchange_in m) []))
    else passed_by e peer domain datagram m p (find (is_from peer m.identifier) e.waiting)

abbrev pub wanted_said : ExchangesValue → ℕ → List ℕ → List ℕ → CoapMessage → Result Wanted Reject → Said
wanted_said e peer domain datagram m (Err reject) = refused peer m reject
wanted_said e peer domain datagram m (Ok beat) = Ok (passed.Reply peer (plain CHANGED (exchange_in m) []))
wanted_said e peer domain datagram m (Ok (passage p)) = passed_on e peer domain datagram m p

abbrev pub asked_said : ExchangesValue → ℕ → List ℕ → List ℕ → CoapMessage → Said
asked_said e peer domain datagram m =
    if is_request m then wanted_said e peer domain datagram m (wanted_of m) else dismissed_said peer (rejected m.kind m.identifier)

-- what is said of a datagram of a peer, by the first of these that applies
pub data Ups (g : GatewayValue) (peer : ℕ) (datagram : List ℕ) (said : Said) : Type 0 where
  of_no_client : domain_for g.routes g.upstream peer ≡ None → said ≡ Ok passed.Nothing → Ups g peer datagram said
  unreadable : (domain : List ℕ) → domain_for g.routes g.upstream peer ≡ Some domain
      → ((m : CoapMessage) → IsMessage m → datagram ≡ spelling m → ⊥)
      → said ≡ dismissed_said peer (dismissed_unread (salvaged datagram)) → Ups g peer datagram said
  asking : (domain : List ℕ) (m : CoapMessage) → domain_for g.routes g.upstream peer ≡ Some domain
      → IsMessage m → datagram ≡ spelling m
      → said ≡ asked_said g.exchanges peer domain datagram m → Ups g peer datagram said

-- the gateway then: an exchange that is new waits
abbrev pub after : GatewayValue → List ℕ → Said → GatewayValue
after g datagram (Ok (passed.Forward bytes (Some exchange))) = record g { exchanges = with_one exchange datagram g.exchanges }
after g datagram _ = g

-- ---- the upstream's messages

-- an answer: an acknowledgement or non-confirmable, of the classes 2, 4 and 5 (RFC 7252, sections 5.2 and 5.9)
abbrev pub may_answer : Kind → Bool
may_answer Con = false
may_answer Non = true
may_answer Ack = true
may_answer Rst = false

abbrev pub is_response : CoapMessage → Bool
is_response m = may_answer m.kind && (m.code / 32 == 2 || m.code / 32 == 4 || m.code / 32 == 5)

-- a heartbeat of the server (RFC 9132, section 4.7), with 4.00 as its answer where its Hop-Limit is 0
pub record IsBeat (m : CoapMessage) : Type 0 where
  pub kind : may_ask m.kind ≡ true
  pub code : m.code ≡ PUT
  pub path : resource_at (values_of URI_PATH m.options) ≡ Some heartbeat

abbrev pub beat_answer : CoapMessage → List ℕ
beat_answer m = if hop_in m.options == 0 then rejection (exchange_in m) reject.HopLimit else plain CHANGED (exchange_in m) []

-- the answer to the request of an exchange that waits, whatever its type
abbrev pub answer_to : Option Waiting → CoapMessage → Passed
answer_to None m = passed.Nothing
answer_to (Some k) m = passed.Reply k.exchange.peer (spelling (answered k.exchange m))

abbrev pub response_said : ExchangesValue → CoapMessage → Passed
response_said e m = if is_response m then answer_to (find (is_passed m.token m.identifier) e.waiting) m else passed.Nothing

-- what is said of a datagram of the upstream
pub data Downs (g : GatewayValue) (datagram : List ℕ) (said : Passed) : Type 0 where
  no_message : ((m : CoapMessage) → IsMessage m → datagram ≡ spelling m → ⊥) → said ≡ passed.Nothing → Downs g datagram said
  beating : (m : CoapMessage) → IsMessage m → datagram ≡ spelling m → IsBeat m
      → said ≡ passed.Reply g.upstream (beat_answer m) → Downs g datagram said
  answering : (m : CoapMessage) → IsMessage m → datagram ≡ spelling m → (IsBeat m → ⊥)
      → said ≡ response_said g.exchanges m → Downs g datagram said

-- ---- want of memory

-- what is sent takes memory
abbrev pub takes_memory : Passed → Bool
takes_memory (passed.Forward bytes fresh) = true
takes_memory (passed.Reply to bytes) = true
takes_memory _ = false

abbrev pub may_lack : Said → Bool
may_lack (Ok said) = takes_memory said
may_lack (Err fault) = false

-- Memory may run out where something is to be sent, and all is then left as it was.
abbrev pub UpOrLacks : GatewayValue → ℕ → List ℕ → Said → GatewayValue → Type 0
UpOrLacks g peer datagram (Err fault.NoMemory) new = (said : Said) × Ups g peer datagram said × IsTrue (may_lack said) × (new ≡ g)
UpOrLacks g peer datagram answer new = Ups g peer datagram answer × (new ≡ after g datagram answer)

abbrev pub DownOrLacks : GatewayValue → List ℕ → Passed → Type 0
DownOrLacks g datagram passed.NoMemory = (said : Passed) × Downs g datagram said × IsTrue (takes_memory said)
DownOrLacks g datagram answer = Downs g datagram answer
