-- A message and its one spelling (RFC 7252, section 3).
use Rattle.std.specs.Prelude.{◌≡◌, ℕ, ◌+◌, ◌-◌, ◌*◌, ◌^◌, ◌<◌, ◌≤◌, List, [], ◌∷◌, ◌++◌, length, nat_lt, if◌then◌else◌}
use Rattle.std.specs.Int.{w16, to_be_bytes}
use Rattle.coap_message.specs.declared.kind.Kind.{Kind}
use Rattle.coap_message.specs.declared.kind.Kind.TheVariants.{Con, Non, Ack, Rst}

pub record CoapOption : Type 0 where
  pub number : ℕ
  pub value : List ℕ

-- in the standard's words; the kind is its Type, the identifier its Message ID
pub record CoapMessage : Type 0 where
  pub kind : Kind
  pub code : ℕ
  pub identifier : ℕ
  pub token : List ℕ
  pub options : List CoapOption
  pub payload : List ℕ

-- the options behind one with the number `previous`: numbers don't fall, and the greatest length has 65,804 bytes (section 3.1)
abbrev pub AreOptions : ℕ → List CoapOption → Type 0
AreOptions previous [] = Unit {0}
AreOptions previous (o ∷ os) = (previous ≤ o.number) × (o.number < 2 ^ 16) × (length o.value ≤ 65804) × AreOptions o.number os

-- the number of the last option
abbrev pub last_number : ℕ → List CoapOption → ℕ
last_number previous [] = previous
last_number previous (o ∷ os) = last_number o.number os

-- code 0.00 has nothing but the identifier (section 4.1)
abbrev pub IsEmptyMessage : CoapMessage → Type 0
IsEmptyMessage m = (m.token ≡ []) × (m.options ≡ []) × (m.payload ≡ [])

-- what has a spelling
pub record IsMessage (m : CoapMessage) : Type 0 where
  pub code : m.code < 256
  pub identifier : m.identifier < 2 ^ 16
  pub token : length m.token ≤ 8
  pub options : AreOptions 0 m.options
  pub empty : m.code ≡ 0 → IsEmptyMessage m

-- the two bits of the type
abbrev pub kind_number : Kind → ℕ
kind_number Con = 0
kind_number Non = 1
kind_number Ack = 2
kind_number Rst = 3

-- Version 1, the type and the length of the token in one byte, the code, the identifier and the token
abbrev pub header : Kind → ℕ → ℕ → List ℕ → List ℕ
header kind code identifier token = (64 + 16 * kind_number kind + length token) ∷ code ∷ to_be_bytes w16 identifier ++ token

-- A delta or a length is four bits and an extension: none below 13, else one byte above 13 or two above 269 (section 3.1).
abbrev pub nibble : ℕ → ℕ
nibble n = if nat_lt n 13 then n else if nat_lt n 269 then 13 else 14

abbrev pub extension : ℕ → List ℕ
extension n = if nat_lt n 13 then [] else if nat_lt n 269 then (n - 13) ∷ [] else to_be_bytes w16 (n - 269)

-- an option behind one with the number `previous`
abbrev pub option_bytes : ℕ → CoapOption → List ℕ
option_bytes previous o =
    let delta = o.number - previous in
    let len = length o.value in
    (16 * nibble delta + nibble len) ∷ extension delta ++ extension len ++ o.value

abbrev pub options_bytes : ℕ → List CoapOption → List ℕ
options_bytes previous [] = []
options_bytes previous (o ∷ os) = option_bytes previous o ++ options_bytes o.number os

-- a payload that isn't empty stands behind the marker
abbrev pub payload_bytes : List ℕ → List ℕ
payload_bytes [] = []
payload_bytes (b ∷ bs) = 0xff ∷ b ∷ bs

abbrev pub spelling : CoapMessage → List ℕ
spelling m = header m.kind m.code m.identifier m.token ++ options_bytes 0 m.options ++ payload_bytes m.payload
