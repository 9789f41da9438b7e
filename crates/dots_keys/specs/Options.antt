-- The options of a request (RFC 7252, sections 5.4 and 5.10; RFC 7641, section 2; RFC 8768, section 3).
use Rattle.std.specs.Prelude.{ℕ, ◌+◌, ◌*◌, ◌%◌, Bool, false, not, ◌&&◌, ◌||◌, ◌==◌, nat_le, if◌then◌else◌, List, [], ◌∷◌, length, Option, Some, None}
use Rattle.coap_message.specs.Message.{CoapOption}

-- The known options with their lengths: Uri-Host 3, Observe 6, Uri-Port 7, Uri-Path 11, Content-Format 12, Uri-Query 15,
-- Hop-Limit 16 and Accept 17.
abbrev pub has_length : ℕ → ℕ → Bool
has_length number len =
    (number == 3 && nat_le 1 len && nat_le len 255) || (number == 6 && nat_le len 3) || (number == 7 && nat_le len 2)
    || (number == 11 && nat_le len 255) || (number == 12 && nat_le len 2) || (number == 15 && nat_le len 255)
    || (number == 16 && len == 1) || (number == 17 && nat_le len 2)

abbrev pub is_repeatable : ℕ → Bool
is_repeatable number = number == 11 || number == 15

abbrev pub is_number : Option ℕ → ℕ → Bool
is_number None number = false
is_number (Some previous) number = previous == number

-- An option is recognised where it is known and of its length, and no second one that may stand once only, whatever the first one
-- is. Options stand in the order of their numbers, so a second one directly follows one with its number.
abbrev pub is_recognised : Option ℕ → CoapOption → Bool
is_recognised previous option =
    has_length option.number (length option.value) && (is_repeatable option.number || not (is_number previous option.number))

-- odd numbers are those of critical options
abbrev pub is_critical : ℕ → Bool
is_critical number = number % 2 == 1

-- the number of the first critical option that isn't recognised, behind one with the number `previous`
abbrev pub first_critical : Option ℕ → List CoapOption → Option ℕ
first_critical previous [] = None
first_critical previous (option ∷ options) =
    if is_critical option.number && not (is_recognised previous option) then Some option.number else first_critical (Some option.number) options

-- the values of the options with this number, in order
abbrev pub values_of : ℕ → List CoapOption → List (List ℕ)
values_of number [] = []
values_of number (option ∷ options) = if option.number == number then option.value ∷ values_of number options else values_of number options

-- The recognised value of an option that may stand once only: that of the first one, if it has its length. All others are passed
-- over, and so is the first one if it hasn't.
abbrev pub recognised_value : ℕ → List (List ℕ) → Option (List ℕ)
recognised_value number [] = None
recognised_value number (value ∷ values) = if has_length number (length value) then Some value else None

abbrev pub value_of : ℕ → List CoapOption → Option (List ℕ)
value_of number options = recognised_value number (values_of number options)

-- the number in an option's value, which may have leading zeros (RFC 7252, section 3.2)
abbrev pub number_after : ℕ → List ℕ → ℕ
number_after n [] = n
number_after n (byte ∷ bytes) = number_after (256 * n + byte) bytes

abbrev pub option_number : List ℕ → ℕ
option_number bytes = number_after 0 bytes
