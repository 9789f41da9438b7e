-- Which options of a message are written.
use Rattle.std.specs.Prelude.{ℕ, ◌==◌, ◌||◌, not, nat_le, nat_lt, Bool, List, filter}
use Rattle.coap_message.specs.Message.{CoapOption, CoapMessage, header}
use Rattle.coap_block.specs.declared.spelling.Which.{Which}
use Rattle.coap_block.specs.declared.spelling.Which.TheVariants as which

-- the number of Block2 (RFC 7959, section 6)
abbrev pub block_option : ℕ
block_option = 23

-- whether an option of this number is among those
abbrev pub is_among : Which → ℕ → Bool
is_among which.ButBlock number = not (number == block_option)
is_among which.UpToBlock number = nat_le number block_option
is_among which.BehindBlock number = nat_lt block_option number
is_among which.PathAndQuery number = number == 11 || number == 15

abbrev pub among : Which → List CoapOption → List CoapOption
among which options = filter (λ option. is_among which option.number) options

-- what stands in front of the options
abbrev pub head_of : CoapMessage → List ℕ
head_of message = header message.kind message.code message.identifier message.token
