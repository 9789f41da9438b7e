-- What the header of a datagram says (RFC 7252, section 3).
use Rattle.std.specs.Prelude.{ℕ, ◌/◌, Bool, true, ◌==◌, ◌&&◌, nat_le, List, bytes_eq, Option, Some, None}
use Rattle.coap_message.specs.declared.kind.Kind.{Kind}
use Rattle.coap_message.specs.declared.kind.Kind.TheVariants.{Con, Non, Ack, Rst}
use Rattle.coap_message.specs.declared.codes.TheConstants.{GET}
use Rattle.coap_message.specs.Message.{CoapMessage}
use Rattle.coap_message.specs.MessageReading as reading
use Rattle.dots_edge.specs.declared.head.Head.{Head}

-- what was read, without the bytes behind it
abbrev pub front_of : Option (reading.Head × List ℕ) → Option Head
front_of None = None
front_of (Some read) = Some (record { kind = read.0.kind; code = read.0.code; id = read.0.identifier; token = read.0.token })

-- the header and the token at the front of the bytes
abbrev pub head_in : List ℕ → Option Head
head_in bytes = front_of (reading.head_at bytes)

-- the header of a message
abbrev pub head_of : CoapMessage → Head
head_of m = record { kind = m.kind; code = m.code; id = m.identifier; token = m.token }

-- 0.01 (section 12.1.1)
abbrev pub is_get : Head → Bool
is_get head = head.code == GET

-- a code of the classes 2 to 5 (sections 3 and 5.9)
abbrev pub is_response : Head → Bool
is_response head = nat_le 2 (head.code / 32) && nat_le (head.code / 32) 5

-- An ACK and a RST have the Message ID of what they reply to (section 4.2). Another reply has the token, too (section 5.3.2).
abbrev pub is_reply_to : Head → Head → Bool
is_reply_to asked head = head.id == asked.id && is_matched head.kind
  where
    is_matched : Kind → Bool
    is_matched Ack = true
    is_matched Rst = true
    is_matched _ = bytes_eq head.token asked.token
