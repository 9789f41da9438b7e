-- What is printed of a fault.
use Rattle.std.specs.Prelude.{ℕ, List, ◌++◌, codes, decimal}
use Rattle.coap_message.specs.declared.fault.CoapFault.{CoapFault}
use Rattle.coap_message.specs.declared.fault.CoapFault.TheVariants.{Short, Version, TokenLength, EmptyWithMore, ReservedNibble, NumberTooLarge, EmptyPayload}

-- what is wrong
abbrev pub fault_words : CoapFault → List ℕ
fault_words (Short at) = codes "the bytes end too early"
fault_words (Version at) = codes "the version isn't 1"
fault_words (TokenLength at) = codes "the token is longer than 8 bytes"
fault_words (EmptyWithMore at) = codes "an empty message has more than a header"
fault_words (ReservedNibble at) = codes "a nibble of an option is 15"
fault_words (NumberTooLarge at) = codes "an option's number is above 65535"
fault_words (EmptyPayload at) = codes "no payload follows the marker"

-- and where
abbrev pub fault_place : CoapFault → ℕ
fault_place (Short at) = at
fault_place (Version at) = at
fault_place (TokenLength at) = at
fault_place (EmptyWithMore at) = at
fault_place (ReservedNibble at) = at
fault_place (NumberTooLarge at) = at
fault_place (EmptyPayload at) = at

abbrev pub fault_text : CoapFault → List ℕ
fault_text fault = fault_words fault ++ codes " at " ++ decimal (fault_place fault)
