-- What a datagram of the upstream and the datagram that goes to a client for it have in common, in the words of the standards.
use Rattle.std.specs.Prelude.{◌≡◌, ◌≢◌, ℕ, ◌%◌, ◌^◌, List, [], Some, slice_get}
use Rattle.std.specs.Int.{w64, to_be_bytes}
use Rattle.coap_message.specs.declared.option_numbers.TheConstants.{OBSERVE}
use Rattle.coap_message.specs.Message.{CoapMessage, IsMessage, spelling}
use Rattle.dots_keys.specs.Options.{values_of}
use Rattle.dots_gateway.specs.declared.exchange.Waiting.{Waiting}
use Rattle.dots_gateway.specs.Exchanges.{ExchangesValue, id_of}

-- The message answers an exchange that waits, by the token and the Message ID under which it was passed on. It goes to the client of the
-- exchange, with that client's own token and Message ID (RFC 7252, section 5.3.2), and observes nothing.
pub record IsAnswered (e : ExchangesValue) (datagram : List ℕ) (to : ℕ) (bytes : List ℕ) : Type 0 where
  pub place : ℕ
  pub waits : Waiting
  pub message : CoapMessage
  pub answer : CoapMessage
  pub waiting : slice_get e.waiting place ≡ Some waits
  pub is_message : IsMessage message
  pub spelled : datagram ≡ spelling message
  pub written : bytes ≡ spelling answer
  pub client : to ≡ waits.exchange.peer
  pub number : message.token ≡ to_be_bytes w64 waits.exchange.number
  pub number_id : message.identifier ≡ waits.exchange.number % 2 ^ 16
  pub token : answer.token ≡ waits.exchange.token
  pub id : answer.identifier ≡ id_of waits.exchange.key
  pub code : answer.code ≡ message.code
  pub payload : answer.payload ≡ message.payload
  pub options : (number : ℕ) → number ≢ OBSERVE → values_of number answer.options ≡ values_of number message.options
  pub observe : values_of OBSERVE answer.options ≡ []
