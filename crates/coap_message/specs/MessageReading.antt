-- Reading the parts of a message from the left.
use Rattle.std.specs.Prelude.{◌≡◌, ℕ, zero, suc, ◌+◌, ◌/◌, ◌%◌, List, [], ◌∷◌, ◌++◌, length, take, drop, Option, Some, None, Result, Ok, Err, not, nat_lt, ◌==◌, ◌&&◌, ◌||◌, if◌then◌else◌}
use Rattle.std.specs.Int.{w16, from_be_bytes}
use Rattle.coap_message.specs.declared.kind.Kind.{Kind}
use Rattle.coap_message.specs.declared.kind.Kind.TheVariants.{Con, Non, Ack, Rst}
use Rattle.coap_message.specs.Message.{CoapOption, CoapMessage, AreOptions, options_bytes, payload_bytes}

infixl 10 ◌>>=◌
abbrev pub ◌>>=◌ : {A B : Type 0} → Option A → (A → Option B) → Option B
(Some x) >>= f = f x
None >>= f = None

-- What a function returned, seen by view, is what reading gives.
abbrev pub Gives : {X Y : Type 0} → (X → Y) → Option X → Option Y → Type 0
Gives view (Some x) read = read ≡ Some (view x)
Gives view None read = read ≡ None

-- the same of a function that names the fault
abbrev pub Reads : {X Y E : Type 0} → (X → Y) → Result X E → Option Y → Type 0
Reads view (Ok x) read = read ≡ Some (view x)
Reads view (Err e) read = read ≡ None

abbrev pub one_byte : List ℕ → Option (ℕ × List ℕ)
one_byte [] = None
one_byte (b ∷ rest) = Some (b + 13, rest)

abbrev pub two_bytes : List ℕ → Option (ℕ × List ℕ)
two_bytes [] = None
two_bytes (a ∷ []) = None
two_bytes (a ∷ b ∷ rest) = Some (from_be_bytes w16 (a ∷ b ∷ []) + 269, rest)

-- a delta or a length with this nibble, its extension in front of the bytes, and the bytes behind that
unfoldable pub extended_at : ℕ → List ℕ → Option (ℕ × List ℕ)
extended_at n bytes =
    if nat_lt n 13 then Some (n, bytes)
    else if n == 13 then one_byte bytes
    else if n == 14 then two_bytes bytes
    else None

-- the option in front of the bytes, behind one with the number `previous`, and the bytes behind it
unfoldable pub option_at : ℕ → List ℕ → Option (CoapOption × List ℕ)
option_at previous [] = None
option_at previous (first ∷ bytes) = do
  delta ← extended_at (first / 16) bytes
  len ← extended_at (first % 16) delta.1
  if nat_lt 65535 (previous + delta.0) then None else if nat_lt (length len.1) len.0 then None else Some (record { number = previous + delta.0; value = take len.0 len.1 }, drop len.0 len.1)

-- an option, and the options behind it
abbrev pub option_then : Option (CoapOption × List ℕ) → (ℕ → List ℕ → List CoapOption) → List CoapOption
option_then None others = []
option_then (Some x) others = x.0 ∷ others x.0.number x.1

unfoldable pub options_within : ℕ → ℕ → List ℕ → List CoapOption
options_within zero previous bytes = []
options_within (suc n) previous bytes = option_then (option_at previous bytes) (options_within n)

-- the options in front of the bytes, behind one with the number `previous`; each takes a byte at least
unfoldable pub options_in : ℕ → List ℕ → List CoapOption
options_in previous bytes = options_within (length bytes) previous bytes

-- the bytes are these options and this payload
pub record Splits (bytes : List ℕ) (options : List CoapOption) (payload : List ℕ) : Type 0 where
  pub are : AreOptions 0 options
  pub parts : bytes ≡ options_bytes 0 options ++ payload_bytes payload

-- what stands behind the token
pub record Rest : Type 0 where
  pub options : List CoapOption
  pub payload : List ℕ

-- what stands in front of the options
pub record Head : Type 0 where
  pub kind : Kind
  pub code : ℕ
  pub identifier : ℕ
  pub token : List ℕ

-- the type of these two bits
abbrev pub kind_of : ℕ → Kind
kind_of zero = Con
kind_of (suc zero) = Non
kind_of (suc (suc zero)) = Ack
kind_of (suc (suc (suc n))) = Rst

-- the header and the token in front of the bytes, and the bytes behind them
unfoldable pub head_at : List ℕ → Option (Head × List ℕ)
head_at [] = None
head_at (first ∷ []) = None
head_at (first ∷ code ∷ []) = None
head_at (first ∷ code ∷ high ∷ []) = None
head_at (first ∷ code ∷ high ∷ low ∷ rest) =
    if not (first / 64 == 1) then None
    else if nat_lt 8 (first % 16) then None
    else if code == 0 && (nat_lt 0 (first % 16) || nat_lt 0 (length rest)) then None
    else if nat_lt (length rest) (first % 16) then None
    else Some (record { kind = kind_of (first / 16 % 4); code = code; identifier = from_be_bytes w16 (high ∷ low ∷ []); token = take (first % 16) rest }, drop (first % 16) rest)

-- a message whose options stand in bytes
abbrev pub message_in : Kind → ℕ → ℕ → List ℕ → List ℕ → List ℕ → CoapMessage
message_in kind code identifier token options payload = record { kind = kind; code = code; identifier = identifier; token = token; options = options_in 0 options; payload = payload }

abbrev pub message_from : Head → List ℕ → List ℕ → CoapMessage
message_from head options payload = message_in head.kind head.code head.identifier head.token options payload
