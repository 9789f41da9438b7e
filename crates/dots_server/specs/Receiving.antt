-- What isn't received for want of memory, and what is.
use Rattle.std.specs.Prelude.{◌≡◌, ℕ, Bool, List, None, IsOk, ⊤}
use Rattle.coap_message.specs.Message.{CoapMessage, IsMessage, spelling}
use Rattle.dots_keys.specs.Heads.{head_of}
use Rattle.dots_keys.specs.Askable.{IsAskable}
use Rattle.dots_keys.specs.Waiting.{WaitsForClient}
use Rattle.dots_keys.specs.declared.exchange.Exchange.{Exchange}
use Rattle.dots_machine.specs.declared.received.Received.{Received}
use Rattle.dots_machine.specs.declared.received.Received.TheVariants as received
use Rattle.dots_keys.specs.Exchanges.{exchange_in, dismissed}

-- the datagram is a message of this exchange, in which all that stands before the body is right
pub record Lacks (datagram : List ℕ) (gateway : Bool) (exchange : Exchange) : Type 0 where
  pub message : CoapMessage
  pub is_message : IsMessage message
  pub spelled : datagram ≡ spelling message
  pub asks : dismissed message ≡ None
  pub head : IsOk (head_of message gateway)
  pub exchange_is : exchange ≡ exchange_in message

-- a request is one that may be asked: it has its mid, its lists are within their numbers, its lifetime can be granted, and a mitigation waits for a
-- lost signal of a client alone
abbrev pub IsGrantable : Received → Type 0
IsGrantable (received.Asked exchange request) = IsAskable request × WaitsForClient request
IsGrantable _ = ⊤
