-- What a message is answered before it is looked at what it asks (RFC 7252, sections 4.2 and 4.3).
use Rattle.std.specs.Prelude.{ℕ, ◌/◌, Bool, true, false, not, ◌&&◌, ◌==◌, if◌then◌else◌, Option, Some, None}
use Rattle.coap_message.specs.declared.kind.Kind.{Kind}
use Rattle.coap_message.specs.declared.kind.Kind.TheVariants.{Con, Non, Ack, Rst}
use Rattle.coap_message.specs.declared.codes.TheConstants.{EMPTY}
use Rattle.coap_message.specs.Message.{CoapMessage}
use Rattle.dots_keys.specs.declared.exchange.Exchange.{Exchange}
use Rattle.dots_keys.specs.declared.dismissal.Dismissal.{Dismissal}
use Rattle.dots_keys.specs.declared.dismissal.Dismissal.TheVariants as dismissal

-- what a reply takes from its request
abbrev pub exchange_in : CoapMessage → Exchange
exchange_in m = record { kind = m.kind; id = m.identifier; token = m.token }

-- a reply to a confirmable message is its acknowledgement, and any other is non-confirmable (section 5.2)
abbrev pub reply_kind : Kind → Kind
reply_kind Con = Ack
reply_kind _ = Non

-- a confirmable message that is rejected is reset (section 4.2), any other is ignored (section 4.3)
abbrev pub rejected : Kind → ℕ → Dismissal
rejected Con id = dismissal.Reset id
rejected _ id = dismissal.Ignored

-- An empty message that is confirmable, a ping, is reset; a reset rejects the message that had its Message ID; any other is ignored.
abbrev pub emptied : Kind → ℕ → Dismissal
emptied Con id = dismissal.Reset id
emptied Rst id = dismissal.Rejected id
emptied _ id = dismissal.Ignored

-- Requests are confirmable or not; acknowledgements and resets are none (section 3).
abbrev pub may_ask : Kind → Bool
may_ask Con = true
may_ask Non = true
may_ask Ack = false
may_ask Rst = false

-- and their codes are of the class 0 and not that of an empty message
abbrev pub is_request : CoapMessage → Bool
is_request m = may_ask m.kind && not (m.code == EMPTY) && m.code / 32 == 0

-- An empty message asks nothing, and acknowledgements and resets are ignored; what isn't of the class of requests, 0, is rejected; any other
-- asks something.
abbrev pub dismissed : CoapMessage → Option Dismissal
dismissed m =
    if m.code == EMPTY then Some (emptied m.kind m.identifier)
    else if not (may_ask m.kind) then Some dismissal.Ignored
    else if not (m.code / 32 == 0) then Some (rejected m.kind m.identifier)
    else None

-- what can't be read is rejected, where its type and Message ID can be told
abbrev pub dismissed_unread : Option (Kind × ℕ) → Dismissal
dismissed_unread None = dismissal.Ignored
dismissed_unread (Some message) = rejected message.0 message.1
