-- The first fault of bytes that are no message, from left to right (RFC 7252, sections 3, 3.1 and 4.1).
use Rattle.std.specs.Prelude.{◌≡◌, ℕ, ◌+◌, ◌-◌, ◌/◌, ◌%◌, List, [], ◌∷◌, ◌++◌, length, drop, Option, Some, None, not, nat_lt, ◌==◌, ◌&&◌, ◌||◌, if◌then◌else◌, ◌⊎◌}
use Rattle.coap_message.specs.declared.fault.CoapFault.{CoapFault}
use Rattle.coap_message.specs.declared.fault.CoapFault.TheVariants.{Short, Version, TokenLength, EmptyWithMore, ReservedNibble, NumberTooLarge, EmptyPayload}
use Rattle.coap_message.specs.Message.{CoapOption, AreOptions, options_bytes, last_number}
use Rattle.coap_message.specs.MessageReading.{extended_at}

-- Below, `end` is how many bytes there are, and `at` is the place of an option's first byte.

-- in the header or the token
abbrev pub head_break : List ℕ → Option CoapFault
head_break [] = Some (Short 0)
head_break (first ∷ []) = Some (Short 1)
head_break (first ∷ code ∷ []) = Some (Short 2)
head_break (first ∷ code ∷ high ∷ []) = Some (Short 3)
head_break (first ∷ code ∷ high ∷ low ∷ rest) =
    let token_length = first % 16 in
    if not (first / 64 == 1) then Some (Version 0)
    else if nat_lt 8 token_length then Some (TokenLength 0)
    else if code == 0 && nat_lt 0 token_length then Some (EmptyWithMore 0)
    else if code == 0 && nat_lt 0 (length rest) then Some (EmptyWithMore 4)
    else if nat_lt (length rest) token_length then Some (Short (4 + length rest))
    else None

-- the bytes behind the token
abbrev pub behind_head : List ℕ → List ℕ
behind_head [] = []
behind_head (first ∷ bytes) = drop (3 + first % 16) bytes

-- in an option with this number: its length and the bytes behind that, or None where the extension of the length is cut
abbrev pub value_break : ℕ → ℕ → ℕ → Option (ℕ × List ℕ) → Option CoapFault
value_break end at number None = Some (Short end)
value_break end at number (Some len) =
    if nat_lt 65535 number then Some (NumberTooLarge at)
    else if nat_lt (length len.1) len.0 then Some (Short end)
    else None

-- in an option whose length has the nibble `n`: its delta and the bytes behind that, or None where the extension of the delta is cut
abbrev pub length_break : ℕ → ℕ → ℕ → ℕ → Option (ℕ × List ℕ) → Option CoapFault
length_break end at previous n None = Some (Short end)
length_break end at previous n (Some delta) = value_break end at (previous + delta.0) (extended_at n delta.1)

-- in an option in front of the bytes, behind one with the number `previous`
unfoldable pub option_break : ℕ → ℕ → List ℕ → Option CoapFault
option_break end previous [] = Some (Short end)
option_break end previous (first ∷ bytes) =
    let at = end - length (first ∷ bytes) in
    if first / 16 == 15 || first % 16 == 15 then Some (ReservedNibble at)
    else length_break end at previous (first % 16) (extended_at (first / 16) bytes)

-- in what follows the options: nothing, the marker and a payload, or one more option
abbrev pub rest_break : ℕ → ℕ → List ℕ → Option CoapFault
rest_break end previous [] = None
rest_break end previous (first ∷ bytes) =
    if not (first == 0xff) then option_break end previous (first ∷ bytes)
    else if length bytes == 0 then Some (EmptyPayload (end - 1))
    else None

-- behind some whole options
pub record OptionsBreak (end : ℕ) (bytes : List ℕ) (fault : CoapFault) : Type 0 where
  pub options : List CoapOption
  pub rest : List ℕ
  pub are : AreOptions 0 options
  pub parts : bytes ≡ options_bytes 0 options ++ rest
  pub breaks : rest_break end (last_number 0 options) rest ≡ Some fault

-- the first fault of the bytes
abbrev pub Breaks : List ℕ → CoapFault → Type 0
Breaks bytes fault = (head_break bytes ≡ Some fault) ⊎ ((head_break bytes ≡ None) × OptionsBreak (length bytes) (behind_head bytes) fault)
