-- The message of a frame in a datagram, and the frame of some parts.
use Rattle.std.specs.Prelude.{◌≡◌, ℕ, List, ◌++◌}
use Rattle.coap_message.specs.declared.kind.Kind.TheVariants.{Con}
use Rattle.coap_message.specs.declared.parts.Parts.{Parts}
use Rattle.coap_message.specs.Message.{CoapOption, CoapMessage, IsMessage, options_bytes, payload_bytes, spelling}
use Rattle.coap_message.specs.MessageReading.{Splits}
use Rattle.coap_message.specs.Parts.{options_of}
use Rattle.coap_tcp.specs.Frames.{FrameValue}

-- confirmable, with Message ID 0
abbrev pub datagram_of : FrameValue → List CoapOption → List ℕ → CoapMessage
datagram_of f options payload = record { kind = Con; code = f.code; identifier = 0; token = f.token; options = options; payload = payload }

-- the bytes spell the message that has the code, the token, the options and the payload of a frame
pub record IsDatagram (bytes : List ℕ) (f : FrameValue) : Type 0 where
  pub options : List CoapOption
  pub payload : List ℕ
  pub rest : Splits f.rest options payload
  pub is : IsMessage (datagram_of f options payload)
  pub spelled : bytes ≡ spelling (datagram_of f options payload)

-- the options, and the marker and the payload
abbrev pub rest_of : Parts → List ℕ
rest_of parts = options_bytes 0 (options_of parts.options.now parts.values.now) ++ payload_bytes parts.payload.now

-- the kind and the Message ID of the parts are in no frame
abbrev pub frame_of : Parts → FrameValue
frame_of parts = record { code = parts.code; token = parts.token.now; rest = rest_of parts }
