-- A message in a stream of bytes, and its one spelling: a frame (RFC 8323, section 3.2).
use Rattle.std.specs.Prelude.{◌≡◌, ℕ, ◌+◌, ◌-◌, ◌*◌, ◌<◌, ◌≤◌, List, [], ◌∷◌, ◌++◌, length, slice_index, nat_lt, if◌then◌else◌}
use Rattle.std.specs.Int.{w32, to_be_bytes}
use Rattle.coap_message.specs.Message.{CoapOption, nibble, extension}
use Rattle.coap_message.specs.MessageReading.{Splits}

abbrev pub AreBytes : List ℕ → Type 0
AreBytes bytes = (i : ℕ) → slice_index bytes i < 256

-- in the standard's words; the rest is the options, and the marker and the payload
pub record FrameValue : Type 0 where
  pub code : ℕ
  pub token : List ℕ
  pub rest : List ℕ

-- The length is that of the rest: four bits and an extension. Up to 65,804 both are those of an option's length; the nibble 15 has
-- four bytes above 65,805.
abbrev pub length_nibble : ℕ → ℕ
length_nibble n = if nat_lt n 65805 then nibble n else 15

abbrev pub length_extension : ℕ → List ℕ
length_extension n = if nat_lt n 65805 then extension n else to_be_bytes w32 (n - 65805)

-- in front of a rest of n bytes: the length and the length of the token in one byte, the extension, the code and the token
abbrev pub front_bytes : ℕ → List ℕ → ℕ → List ℕ
front_bytes code token n = (16 * length_nibble n + length token) ∷ length_extension n ++ code ∷ [] ++ token

abbrev pub frame_bytes : FrameValue → List ℕ
frame_bytes f = front_bytes f.code f.token (length f.rest) ++ f.rest

-- the bytes are options, and nothing or the marker and a payload
abbrev pub IsRest : List ℕ → Type 0
IsRest bytes = (options : List CoapOption) × (payload : List ℕ) × Splits bytes options payload

-- what is taken: the token has 8 bytes at most, and the rest 4,096
pub record IsFrame (f : FrameValue) : Type 0 where
  pub code : f.code < 256
  pub token : length f.token ≤ 8
  pub size : length f.rest ≤ 4096
  pub rest : IsRest f.rest

-- the bytes begin with this frame, and these stand behind it
pub record BeginsWith (bytes : List ℕ) (f : FrameValue) (behind : List ℕ) : Type 0 where
  pub is : IsFrame f
  pub parts : bytes ≡ frame_bytes f ++ behind
