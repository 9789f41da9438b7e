-- What a datagram is.
use Rattle.std.specs.Prelude.{◌≡◌, ℕ, Bool, List, Some, None, Result, Ok, Err}
use Rattle.coap_message.specs.declared.fault.CoapFault.{CoapFault}
use Rattle.coap_message.specs.Message.{CoapMessage, IsMessage, spelling}
use Rattle.coap_message.specs.Breaks.{Breaks}
use Rattle.coap_message.specs.Salvage.{salvaged}
use Rattle.dots_keys.specs.declared.reject.Reject.{Reject}
use Rattle.dots_keys.specs.declared.request.Request.{Request}
use Rattle.dots_keys.specs.Meaning.{Means}
use Rattle.dots_keys.specs.declared.dismissal.Dismissal.{Dismissal}
use Rattle.dots_keys.specs.declared.exchange.Exchange.{Exchange}
use Rattle.dots_machine.specs.declared.received.Received.{Received}
use Rattle.dots_machine.specs.declared.received.Received.TheVariants as received
use Rattle.dots_keys.specs.Exchanges.{exchange_in, dismissed, dismissed_unread}

-- a message that asks something, by what it means
abbrev pub received_as : Exchange → Result Request Reject → Received
received_as exchange (Ok request) = received.Asked exchange request
received_as exchange (Err reject) = received.Refused exchange reject

-- what the datagram of a gateway, or of a client, is
pub data IsReceived (datagram : List ℕ) (gateway : Bool) (got : Received) : Type 0 where
  unread : (fault : CoapFault) → Breaks datagram fault → got ≡ received.Unread (dismissed_unread (salvaged datagram)) → IsReceived datagram gateway got
  asks_nothing : (message : CoapMessage) (answer : Dismissal) → IsMessage message → datagram ≡ spelling message → dismissed message ≡ Some answer
      → got ≡ received.Dismissed answer → IsReceived datagram gateway got
  meant : (message : CoapMessage) (answer : Result Request Reject) → IsMessage message → datagram ≡ spelling message → dismissed message ≡ None
      → Means message gateway answer → got ≡ received_as (exchange_in message) answer → IsReceived datagram gateway got
