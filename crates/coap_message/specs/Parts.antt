-- The parts that a message is written from.
use Rattle.std.specs.Prelude.{◌≡◌, ℕ, ◌^◌, ◌<◌, ◌≤◌, List, [], ◌∷◌, ◌++◌, length, take, drop, sum_by}
use Rattle.std.specs.List.{AllByRecursion}
use Rattle.coap_message.specs.declared.parts.OptionPart.{OptionPart}
use Rattle.coap_message.specs.declared.parts.Parts.{Parts}
use Rattle.coap_message.specs.Message.{CoapOption, CoapMessage, spelling}

-- the options, each with its value from the front of the values
abbrev pub options_of : List OptionPart → List ℕ → List CoapOption
options_of [] values = []
options_of (part ∷ parts) values = record { number = part.number; value = take part.length values } ∷ options_of parts (drop part.length values)

abbrev pub message_of : Parts → CoapMessage
message_of parts = record { kind = parts.kind; code = parts.code; identifier = parts.id; token = parts.token.now; options = options_of parts.options.now parts.values.now; payload = parts.payload.now }

-- numbers don't fall, and the greatest length is 65,804
abbrev pub AreParts : ℕ → List OptionPart → Type 0
AreParts previous [] = Unit {0}
AreParts previous (part ∷ parts) = (previous ≤ part.number) × (part.length ≤ 65804) × AreParts part.number parts

pub record IsValid (parts : Parts) : Type 0 where
  pub token : length parts.token.now ≤ 8
  pub options : AreParts 0 parts.options.now
  pub values : sum_by (λ part. part.length) parts.options.now ≡ length parts.values.now
  -- code 0.00 has nothing but the identifier
  pub empty : parts.code ≡ 0 → (parts.token.now ≡ []) × (parts.options.now ≡ []) × (parts.payload.now ≡ [])
  pub size : length (spelling (message_of parts)) < 2 ^ 64

-- what the types of the parts say
pub record InRange (parts : Parts) : Type 0 where
  pub code : parts.code < 256
  pub id : parts.id < 2 ^ 16
  pub numbers : AllByRecursion (λ part. part.number < 2 ^ 16) parts.options.now

-- the parts that options are written from
abbrev pub parts_of : List CoapOption → List OptionPart
parts_of [] = []
parts_of (o ∷ os) = record { number = o.number; length = length o.value } ∷ parts_of os

abbrev pub values_of : List CoapOption → List ℕ
values_of [] = []
values_of (o ∷ os) = o.value ++ values_of os
