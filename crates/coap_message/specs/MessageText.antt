-- What is printed of a CoAP message, for people who look at a capture.
use Rattle.std.specs.Prelude.{ℕ, ◌+◌, ◌/◌, ◌%◌, List, [], ◌∷◌, ◌++◌, codes, decimal, flat_map}
use Rattle.hex.specs.Hex.{encode_lower}
use Rattle.coap_message.specs.declared.kind.Kind.{Kind}
use Rattle.coap_message.specs.declared.kind.Kind.TheVariants.{Con, Non, Ack, Rst}
use Rattle.coap_message.specs.declared.fault.CoapFault.{CoapFault}
use Rattle.coap_message.specs.declared.fault.CoapFault.TheVariants.{Short, Version, TokenLength, EmptyWithMore, ReservedNibble, NumberTooLarge, EmptyPayload}
use Rattle.coap_message.specs.Message.{CoapOption, CoapMessage}
use Rattle.coap_message.specs.FaultText.{fault_place}

abbrev pub kind_name : Kind → List ℕ
kind_name Con = codes "con"
kind_name Non = codes "non"
kind_name Ack = codes "ack"
kind_name Rst = codes "rst"

-- a code as the standard writes it: its class, a dot, and its detail in two digits (RFC 7252, section 3)
abbrev pub code_text : ℕ → List ℕ
code_text code = (48 + code / 32) ∷ 46 ∷ (48 + code % 32 / 10) ∷ (48 + code % 32 % 10) ∷ []

-- bytes in hexadecimal, or `-` where there are none
abbrev pub hex_or_dash : List ℕ → List ℕ
hex_or_dash [] = codes "-"
hex_or_dash (byte ∷ bytes) = encode_lower (byte ∷ bytes)

-- `KIND C.DD ID TOKEN`
abbrev pub head_line : CoapMessage → List ℕ
head_line m =
    kind_name m.kind ++ codes " " ++ code_text m.code ++ codes " " ++ decimal m.identifier ++ codes " " ++ hex_or_dash m.token ++ codes "\n"

-- `option N HEX`
abbrev pub option_line : CoapOption → List ℕ
option_line option = codes "option " ++ decimal option.number ++ codes " " ++ hex_or_dash option.value ++ codes "\n"

-- `payload HEX`, where there is one
abbrev pub payload_line : List ℕ → List ℕ
payload_line [] = []
payload_line (byte ∷ bytes) = codes "payload " ++ hex_or_dash (byte ∷ bytes) ++ codes "\n"

abbrev pub message_text : CoapMessage → List ℕ
message_text m = head_line m ++ flat_map option_line m.options ++ payload_line m.payload

abbrev pub fault_name : CoapFault → List ℕ
fault_name (Short at) = codes "short"
fault_name (Version at) = codes "version"
fault_name (TokenLength at) = codes "token-length"
fault_name (EmptyWithMore at) = codes "empty-with-more"
fault_name (ReservedNibble at) = codes "reserved-nibble"
fault_name (NumberTooLarge at) = codes "number-too-large"
fault_name (EmptyPayload at) = codes "empty-payload"

-- `fault NAME AT`
abbrev pub fault_line : CoapFault → List ℕ
fault_line fault = codes "fault " ++ fault_name fault ++ codes " " ++ decimal (fault_place fault) ++ codes "\n"
