-- Long answers in blocks (RFC 7959, sections 2.2 to 2.4 and 2.6): what is seen of a request, and what becomes of its reply and of notifications.
use Rattle.std.specs.Prelude.{◌≡◌, ℕ, ◌+◌, ◌*◌, ◌≤◌, ◌==◌, ◌&&◌, ◌⊎◌, not, nat_lt, nat_le, bytes_eq, if◌then◌else◌, Bool, true, false, List, [], ◌∷◌, ◌++◌, length, filter, find, take, drop, codes, Option, Some, None, ⊤}
use Rattle.std.specs.List.{list_any}
use Rattle.std.specs.Set.{remove_key}
use Rattle.coap_message.specs.declared.option_numbers.TheConstants.{OBSERVE}
use Rattle.coap_message.specs.Message.{CoapOption, CoapMessage, IsMessage, options_bytes, spelling}
use Rattle.coap_block.specs.declared.block.BlockOption.{BlockOption}
use Rattle.coap_block.specs.declared.asks.Asks.{Asks}
use Rattle.coap_block.specs.declared.asks.Asks.TheVariants as asks
use Rattle.coap_block.specs.declared.stored.StoredBody.{StoredBody}
use Rattle.coap_block.specs.declared.observed.ObservedRequest.{ObservedRequest}
use Rattle.coap_block.specs.declared.spelling.Which.TheVariants as which
use Rattle.coap_block.specs.Option.{block_of, block_number, shortest, block_size, IsBlock}
use Rattle.coap_block.specs.Spelling.{block_option, among, head_of}

-- A GET whose reply is awaited: who sent it, its Message ID and token, the block that it asks for, where it asks for one, and the request, which is its path and query, spelled as options.
pub record Asked : Type 0 where
  pub peer : ℕ
  pub identifier : ℕ
  pub token : List ℕ
  pub block : Option BlockOption
  pub request : List ℕ

-- the GET whose reply is awaited, the bodies that are stored, and what is observed
pub record Blocks : Type 0 where
  pub awaited : Option Asked
  pub stored : List StoredBody
  pub observed : List ObservedRequest

-- ---- requests

-- the options that are Block2
abbrev pub blocks_in : List CoapOption → List CoapOption
blocks_in options = filter (λ option. option.number == block_option) options

-- what a request asks of blocks: a block where it has exactly one Block2 of at most 3 bytes
abbrev pub asks_of : List CoapOption → Asks
asks_of [] = asks.Whole
asks_of (o ∷ []) = if nat_le (length o.value) 3 then asks.Block (block_of o.value) else asks.Neither
asks_of (o ∷ p ∷ os) = asks.Neither

abbrev pub IsReadable : Asks → Type 0
IsReadable (asks.Block block) = IsBlock block
IsReadable _ = ⊤

abbrev pub is_get : CoapMessage → Bool
is_get message = message.code == 1

-- path and query
abbrev pub request_of : CoapMessage → List ℕ
request_of message = options_bytes 0 (among which.PathAndQuery message.options)

abbrev pub asked_for : ℕ → CoapMessage → Option BlockOption → Asked
asked_for peer message block = record { peer = peer; identifier = message.identifier; token = message.token; block = block; request = request_of message }

abbrev pub awaited_after : ℕ → CoapMessage → Asks → Option Asked
awaited_after peer message asks.Whole = Some (asked_for peer message None)
awaited_after peer message (asks.Block block) = Some (asked_for peer message (Some block))
awaited_after peer message asks.Neither = None

-- whose reply is awaited after a message: that of a GET, unless its Block2 can't be read
abbrev pub awaited_by : ℕ → CoapMessage → Option Asked
awaited_by peer message = if is_get message then awaited_after peer message (asks_of (blocks_in message.options)) else None

abbrev pub without_block : CoapMessage → Asks → CoapMessage
without_block message (asks.Block block) = record message { options = among which.ButBlock message.options }
without_block message _ = message

-- a GET with a block is seen without it, and any other message as it is
abbrev pub seen_of : CoapMessage → CoapMessage
seen_of message = if is_get message then without_block message (asks_of (blocks_in message.options)) else message

-- the bytes spell no message
abbrev pub IsNoMessage : List ℕ → Type 0
IsNoMessage bytes = (message : CoapMessage) → IsMessage message → bytes ≡ spelling message → ⊥

-- a message came, and was seen so
pub record SeesMessage (peer : ℕ) (bytes seen : List ℕ) (awaited : Option Asked) : Type 0 where
  pub message : CoapMessage
  pub is : IsMessage message
  pub spells : bytes ≡ spelling message
  pub seen_as : seen ≡ spelling (seen_of message)
  pub awaits : awaited ≡ awaited_by peer message

-- a datagram came, and was seen so
abbrev pub Sees : ℕ → List ℕ → List ℕ → Option Asked → Type 0
Sees peer bytes seen awaited = SeesMessage peer bytes seen awaited ⊎ (IsNoMessage bytes × (seen ≡ bytes) × (awaited ≡ None))

-- ---- blocks of a body

-- the part of the body that the block is
abbrev pub part_of : List ℕ → BlockOption → List ℕ
part_of body block = take (block_size block.exponent) (drop (block.number * block_size block.exponent) body)

-- whether bytes follow it
abbrev pub follows : List ℕ → BlockOption → Bool
follows body block = nat_lt (block.number * block_size block.exponent + block_size block.exponent) (length body)

-- it begins before the body's end
abbrev pub begins_within : List ℕ → BlockOption → Bool
begins_within body block = nat_lt (block.number * block_size block.exponent) (length body)

-- ---- replies

-- 2.05 to the same peer, with the same token and Message ID
abbrev pub is_reply : Asked → ℕ → CoapMessage → Bool
is_reply asked peer message = asked.peer == peer && (message.code == 69 && (message.identifier == asked.identifier && bytes_eq message.token asked.token))

-- the bytes before the payload
abbrev pub head_size : CoapMessage → ℕ
head_size message = length (head_of message) + length (options_bytes 0 message.options)

-- the Block2 of a reply, which stands among the options by its number
abbrev pub with_block : List CoapOption → BlockOption → List CoapOption
with_block options block = among which.UpToBlock options ++ record { number = block_option; value = shortest (block_number block) } ∷ among which.BehindBlock options

-- the reply cut to a block of the body
abbrev pub cut_to : CoapMessage → BlockOption → List ℕ → CoapMessage
cut_to message block body = record message { options = with_block message.options (record block { more = follows body block }); payload = part_of body block }

-- 4.00, for a block that there isn't
abbrev pub refusal : CoapMessage → CoapMessage
refusal message = record message { code = 128; options = []; payload = codes "block" }

-- 5.00, for want of memory
abbrev pub unavailable : CoapMessage → CoapMessage
unavailable message = record message { code = 160; options = []; payload = [] }

-- the body that is stored for the peer and the request
abbrev pub stored_for : List StoredBody → Asked → Option StoredBody
stored_for stored asked = find (λ body. body.peer == asked.peer && bytes_eq body.request asked.request) stored

abbrev pub body_or : Option StoredBody → List ℕ → List ℕ
body_or (Some stored) body = stored.body
body_or None body = body

abbrev pub without_peer : ℕ → List StoredBody → List StoredBody
without_peer peer stored = filter (λ body. not (body.peer == peer)) stored

-- with the body as the one of its peer
abbrev pub keeping : List StoredBody → ℕ → List ℕ → List ℕ → List StoredBody
keeping stored peer request body = without_peer peer stored ++ record { peer = peer; request = request; body = body } ∷ []

-- what becomes of a reply
pub data Answer : Type 0 where
  -- it stays
  same : Answer
  -- the block that was asked for isn't there
  refused : Answer
  -- its payload is stored, and it is cut to this block
  first : BlockOption → Answer
  -- it is cut to this block of a body
  later : BlockOption → List ℕ → Answer

-- the first block of 1,024 bytes
abbrev pub first_block : BlockOption
first_block = record { number = 0; more = false; exponent = 6 }

-- the block that a reply is cut to: the one that was asked for, or where none was the first one of a payload that is longer
abbrev pub wanted_block : Option BlockOption → List ℕ → Option BlockOption
wanted_block (Some block) payload = Some block
wanted_block None payload = if nat_le (length payload) 1024 then None else Some first_block

abbrev pub later_of : BlockOption → List ℕ → Answer
later_of block body = if begins_within body block then later block body else refused

abbrev pub block_answer : BlockOption → List ℕ → Answer
block_answer block body = if block.exponent == 7 then refused else if block.number == 0 then first block else later_of block body

abbrev pub wanted_answer : Option BlockOption → List ℕ → Answer
wanted_answer None body = same
wanted_answer (Some block) body = block_answer block body

-- A reply with more than 1,024 bytes before its payload stays.
abbrev pub answer_of : List StoredBody → Asked → CoapMessage → Answer
answer_of stored asked message =
    if nat_lt 1024 (head_size message) then same
    else wanted_answer (wanted_block asked.block message.payload) (body_or (stored_for stored asked) message.payload)

-- The reply leaves so, and these bodies are stored then. Where there is no memory to keep one, the peer has none.
abbrev pub IsAnswered : Answer → Asked → CoapMessage → List StoredBody → List ℕ → List StoredBody → Type 0
IsAnswered same asked message old out new = (out ≡ spelling message) × (new ≡ old)
IsAnswered refused asked message old out new = (out ≡ spelling (refusal message)) × (new ≡ old)
IsAnswered (later block body) asked message old out new = (out ≡ spelling (cut_to message block body)) × (new ≡ old)
IsAnswered (first block) asked message old out new =
    (out ≡ spelling (cut_to message block message.payload)) × (new ≡ keeping old asked.peer asked.request message.payload)
    ⊎ (out ≡ spelling (unavailable message)) × (new ≡ without_peer asked.peer old)

-- ---- observers

-- with Observe (RFC 7641, section 2)
abbrev pub has_observe : CoapMessage → Bool
has_observe message = list_any (λ option. option.number == OBSERVE) message.options

-- an observer is a peer and a token
abbrev pub is_observer : ℕ → List ℕ → ObservedRequest → Bool
is_observer peer token observed = observed.peer == peer && bytes_eq observed.token token

abbrev pub without_observer : ℕ → List ℕ → List ObservedRequest → List ObservedRequest
without_observer peer token observed = filter (λ one. not (is_observer peer token one)) observed

abbrev pub is_of_peer : ℕ → ObservedRequest → Bool
is_of_peer peer observed = observed.peer == peer

abbrev pub observed_by : ℕ → List ObservedRequest → List ObservedRequest
observed_by peer observed = filter (is_of_peer peer) observed

-- no peer has more than 136
abbrev pub AreFew : List ObservedRequest → Type 0
AreFew observed = (peer : ℕ) → length (observed_by peer observed) ≤ 136

-- with room for one more of the peer: of 136 that which was noted first goes
abbrev pub with_room : ℕ → List ObservedRequest → List ObservedRequest
with_room peer observed = if nat_lt (length (observed_by peer observed)) 136 then observed else remove_key (is_of_peer peer) observed

-- the others, where this one is noted
abbrev pub beside : Asked → List ObservedRequest → List ObservedRequest
beside asked observed = with_room asked.peer (without_observer asked.peer asked.token observed)

-- The request is observed by its peer and token from now on, or there is no memory to note it.
abbrev pub IsNoted : Asked → List ObservedRequest → List ObservedRequest → Type 0
IsNoted asked old new = (new ≡ beside asked old ++ record { peer = asked.peer; token = asked.token; request = asked.request } ∷ []) ⊎ (new ≡ beside asked old)

-- A reply with Observe says that its request is observed (RFC 7641, section 3.1).
abbrev pub Notes : Bool → Asked → List ObservedRequest → List ObservedRequest → Type 0
Notes true asked old new = IsNoted asked old new
Notes false asked old new = new ≡ old

-- ---- notifications

-- 2.05 with Observe, of which the payload is longer than 1,024 bytes, and what stands before it isn't
abbrev pub is_long_notice : CoapMessage → Bool
is_long_notice message = message.code == 69 && (nat_lt 1024 (length message.payload) && (nat_le (head_size message) 1024 && has_observe message))

-- what is observed, where the message to the peer is a long notification of it
abbrev pub noticed_in : List ObservedRequest → ℕ → CoapMessage → Option ObservedRequest
noticed_in observed peer message = if is_long_notice message then find (is_observer peer message.token) observed else None

-- It leaves as its first block, and its payload is stored as the body of what is observed. Where there is no memory to keep it, it stays, and the peer
-- has no body.
abbrev pub IsNotified : ObservedRequest → CoapMessage → List StoredBody → List ℕ → List StoredBody → Type 0
IsNotified observed message old out new =
    (out ≡ spelling (cut_to message first_block message.payload)) × (new ≡ keeping old observed.peer observed.request message.payload)
    ⊎ (out ≡ spelling message) × (new ≡ without_peer observed.peer old)

abbrev pub IsNoticed : Option ObservedRequest → CoapMessage → List StoredBody → List ℕ → List StoredBody → Type 0
IsNoticed (Some observed) message old out new = IsNotified observed message old out new
IsNoticed None message old out new = (out ≡ spelling message) × (new ≡ old)

-- ---- sends

-- the reply that was awaited was sent, and left so
pub record Replies (old : Blocks) (peer : ℕ) (bytes out : List ℕ) (new : Blocks) : Type 0 where
  pub message : CoapMessage
  pub asked : Asked
  pub is : IsMessage message
  pub spells : bytes ≡ spelling message
  pub awaited : old.awaited ≡ Some asked
  pub reply : is_reply asked peer message ≡ true
  pub answered : IsAnswered (answer_of old.stored asked message) asked message old.stored out new.stored
  pub noted : Notes (has_observe message) asked old.observed new.observed
  pub over : new.awaited ≡ None

-- it isn't the reply that is awaited
abbrev pub IsNoReply : Blocks → ℕ → CoapMessage → Type 0
IsNoReply old peer message = (asked : Asked) → old.awaited ≡ Some asked → is_reply asked peer message ≡ false

-- a long notification of what is observed was sent, and left so
pub record Notifies (old : Blocks) (peer : ℕ) (bytes out : List ℕ) (new : Blocks) : Type 0 where
  pub message : CoapMessage
  pub observed : ObservedRequest
  pub is : IsMessage message
  pub spells : bytes ≡ spelling message
  pub no_reply : IsNoReply old peer message
  pub of : noticed_in old.observed peer message ≡ Some observed
  pub notified : IsNotified observed message old.stored out new.stored
  pub awaits : new.awaited ≡ old.awaited
  pub observes : new.observed ≡ old.observed

-- neither the reply that is awaited nor a long notification
abbrev pub IsOther : Blocks → ℕ → List ℕ → Type 0
IsOther old peer bytes = (message : CoapMessage) → IsMessage message → bytes ≡ spelling message → IsNoReply old peer message × (noticed_in old.observed peer message ≡ None)

-- a datagram was sent to the peer, and left so
abbrev pub Sends : Blocks → ℕ → List ℕ → List ℕ → Blocks → Type 0
Sends old peer bytes out new = Replies old peer bytes out new ⊎ Notifies old peer bytes out new ⊎ (IsOther old peer bytes × (out ≡ bytes) × (new ≡ old))
