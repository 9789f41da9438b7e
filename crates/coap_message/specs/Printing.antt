-- What is shown of a word that is to write a message in hexadecimal.
use Rattle.std.specs.Prelude.{◌≡◌, ◌⊎◌, ℕ, List, codes}
use Rattle.dots_lists.specs.HexText.{IsHex}
use Rattle.coap_message.specs.declared.fault.CoapFault.{CoapFault}
use Rattle.coap_message.specs.Message.{CoapMessage, IsMessage, spelling}
use Rattle.coap_message.specs.Breaks.{Breaks}
use Rattle.coap_message.specs.declared.printing.Printed.{Printed}
use Rattle.coap_message.specs.declared.printing.Printed.TheVariants as printed
use Rattle.coap_message.specs.MessageText.{message_text, fault_line}

-- the message whose spelling the word writes
pub record PrintsMessage (word text : List ℕ) : Type 0 where
  pub message : CoapMessage
  pub is : IsMessage message
  pub writes : IsHex word (spelling message)
  pub prints : text ≡ message_text message

-- the first fault of the bytes that the word writes
pub record PrintsFault (word text : List ℕ) : Type 0 where
  pub bytes : List ℕ
  pub fault : CoapFault
  pub writes : IsHex word bytes
  pub breaks : Breaks bytes fault
  pub prints : text ≡ fault_line fault

-- that the word writes no bytes
pub record PrintsNoHex (word text : List ℕ) : Type 0 where
  pub none : (bytes : List ℕ) → ¬ (IsHex word bytes)
  pub prints : text ≡ codes "fault hex\n"

abbrev pub IsPrinted : List ℕ → Printed → Type 0
IsPrinted word (printed.Message text) = PrintsMessage word text
IsPrinted word (printed.Fault text) = PrintsFault word text ⊎ PrintsNoHex word text
