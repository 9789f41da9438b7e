-- What a datagram of the server does to a client (RFC 9132, sections 4.4.1.3, 4.4.4 and 4.7).
use Rattle.std.specs.Prelude.{◌≡◌, ◌≢◌, ℕ, ℤ, ◌/◌, ◌⊎◌, Bool, true, false, ◌==◌, List, [], Option, Some, None, IsSome, bytes_eq}
use Rattle.std.specs.Int.{w64, to_be_bytes}
use Rattle.std.specs.List.{find}
use Rattle.acl_lists.specs.declared.asked.Asked.{Asked}
use Rattle.coap_exchange.specs.Firsts.{without_first}
use Rattle.coap_message.specs.declared.codes.TheConstants.{PUT, DELETED, CHANGED, BAD_REQUEST}
use Rattle.coap_message.specs.declared.kind.Kind.TheVariants.{Non}
use Rattle.coap_message.specs.declared.option_numbers.TheConstants.{URI_PATH, HOP_LIMIT}
use Rattle.coap_message.specs.Message.{CoapMessage, IsMessage, spelling}
use Rattle.dots_keys.specs.Options.{values_of, value_of, option_number}
use Rattle.dots_keys.specs.Paths.{heartbeat, resource_at}
use Rattle.dots_client.specs.declared.granted.Granted.{Granted}
use Rattle.dots_client.specs.declared.heard.Heard.{Heard}
use Rattle.dots_client.specs.declared.heard.Heard.TheVariants as heard
use Rattle.dots_client.specs.declared.request.Request.{Request}
use Rattle.dots_client.specs.Answers.{GrantsMid}
use Rattle.dots_client.specs.Client.{ClientValue, WaitingValue}
use Rattle.dots_client.specs.Ledger.{with_row, without_row}

-- ---- heartbeats

-- a PUT to the resource of heartbeats, non-confirmable (section 4.7)
pub record IsBeat (m : CoapMessage) : Type 0 where
  pub kind : m.kind ≡ Non
  pub code : m.code ≡ PUT
  pub path : resource_at (values_of URI_PATH m.options) ≡ Some heartbeat

-- a Hop-Limit of 0 (RFC 8768, section 3)
abbrev pub is_spent_hop : Option (List ℕ) → Bool
is_spent_hop None = false
is_spent_hop (Some value) = option_number value == 0

-- 2.04, and 4.00 where the Hop-Limit is 0, with the Message ID and the token of the heartbeat
abbrev pub beat_code : Bool → ℕ
beat_code true = BAD_REQUEST
beat_code false = CHANGED

abbrev pub beat_answer : CoapMessage → List ℕ
beat_answer m = spelling (record {
  kind = Non;
  code = beat_code (is_spent_hop (value_of HOP_LIMIT m.options));
  identifier = m.identifier;
  token = m.token;
  options = [];
  payload = [];
})

-- ---- answers

abbrev pub has_token : List ℕ → Request → Bool
has_token token request = bytes_eq (to_be_bytes w64 request.number) token

abbrev pub waits_by : List ℕ → WaitingValue → Bool
waits_by token w = has_token token w.request

-- an answer to a request of the client, whatever its Message ID: non-confirmable, its code not of the class of requests, 0, and with
-- the token of a request that waits
pub record Answers (client : ClientValue) (m : CoapMessage) (request : Request) : Type 0 where
  pub kind : m.kind ≡ Non
  pub class : m.code / 32 ≢ 0
  pub sent : (w : WaitingValue) × (find (waits_by m.token) client.waiting ≡ Some w) × (w.request ≡ request)

-- the client without the request of this token
abbrev pub ended : ClientValue → List ℕ → ClientValue
ended client token = record client { waiting = without_first (waits_by token) client.waiting }

abbrev pub granted_row : ℕ → Asked → ℤ → ℕ → Granted
granted_row mid asked lifetime now = record { mid = mid; asked = asked; lifetime = lifetime; at = now }

-- what the answer to a request is, and what it does
abbrev pub Yields : ClientValue → Request → CoapMessage → ℕ → Heard → ClientValue → Type 0
Yields client request m now (heard.Granted mid) new =
    (mid ≡ request.mid) × (asked : Asked) × (lifetime : ℤ) × (request.scope ≡ Some asked) × GrantsMid request.mid m lifetime
    × (new ≡ record (ended client m.token) { ledger = with_row (granted_row mid asked lifetime now) client.ledger })
Yields client request m now (heard.Withdrawn mid) new =
    (mid ≡ request.mid) × (request.scope ≡ None) × (m.code ≡ DELETED)
    × (new ≡ record (ended client m.token) { ledger = without_row mid client.ledger })
Yields client request m now (heard.Refused mid code) new =
    (mid ≡ request.mid) × (code ≡ m.code)
    × ((asked : Asked) (lifetime : ℤ) → request.scope ≡ Some asked → GrantsMid request.mid m lifetime → ⊥)
    × (request.scope ≡ None → m.code ≢ DELETED)
    × (new ≡ ended client m.token)
Yields client request m now _ new = ⊥

-- An answer to a request. Memory may run out where a mitigation was asked for, and all is then left as it was.
abbrev pub YieldsOrLacks : ClientValue → CoapMessage → ℕ → Heard → ClientValue → Type 0
YieldsOrLacks client m now heard.NoMemory new = (request : Request) × Answers client m request × IsSome request.scope × (new ≡ client)
YieldsOrLacks client m now answer new = (request : Request) × Answers client m request × Yields client request m now answer new

-- ---- a datagram

-- what it says, and what it leaves
abbrev pub Receives : ClientValue → List ℕ → ℕ → Heard → ClientValue → Type 0
Receives client bytes now (heard.Beat answer) new =
    (m : CoapMessage) × IsMessage m × (bytes ≡ spelling m) × IsBeat m × (answer ≡ beat_answer m) × (new ≡ client)
Receives client bytes now heard.Nothing new =
    ((m : CoapMessage) (request : Request) → IsMessage m → bytes ≡ spelling m → IsBeat m ⊎ Answers client m request → ⊥) × (new ≡ client)
Receives client bytes now heard.NoMemory new =
    (m : CoapMessage) × (request : Request) × IsMessage m × (bytes ≡ spelling m) × Answers client m request × IsSome request.scope × (new ≡ client)
Receives client bytes now answer new =
    (m : CoapMessage) × (request : Request) × IsMessage m × (bytes ≡ spelling m) × Answers client m request × Yields client request m now answer new
