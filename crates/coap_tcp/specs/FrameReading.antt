-- Reading what stands at the front of a stream, from the left (RFC 8323, section 3.2).
use Rattle.std.specs.Prelude.{ℕ, ◌+◌, ◌/◌, ◌%◌, List, [], ◌∷◌, length, take, drop, Bool, true, false, Option, Some, None, nat_lt, ◌==◌, if◌then◌else◌, ⊤}
use Rattle.std.specs.Int.{w32, from_be_bytes}
use Rattle.coap_message.specs.Message.{options_bytes}
use Rattle.coap_message.specs.MessageReading.{extended_at, options_in}
use Rattle.coap_tcp.specs.declared.fault.FrameFault.{FrameFault}
use Rattle.coap_tcp.specs.declared.fault.FrameFault.TheVariants.{Token, TooLong, Options}
use Rattle.coap_tcp.specs.declared.frame.Frame.{Frame}
use Rattle.coap_tcp.specs.declared.frame.FrameCut as code
use Rattle.coap_tcp.specs.declared.frame.FrameCut.TheVariants as cuts
use Rattle.coap_tcp.specs.Frames.{FrameValue}

-- what stands at the front of a stream: a frame, the beginning of one, or no frame, whatever follows
pub data FrameCutValue : Type 0 where
  takes : FrameValue → FrameCutValue
  waits : FrameCutValue
  refuses : FrameFault → FrameCutValue

abbrev pub four_bytes : List ℕ → Option (ℕ × List ℕ)
four_bytes [] = None
four_bytes (a ∷ []) = None
four_bytes (a ∷ b ∷ []) = None
four_bytes (a ∷ b ∷ c ∷ []) = None
four_bytes (a ∷ b ∷ c ∷ d ∷ bytes) = Some (from_be_bytes w32 (a ∷ b ∷ c ∷ d ∷ []) + 65805, bytes)

-- the length of this nibble with its extension in front of the bytes, and the bytes behind that
unfoldable pub length_at : ℕ → List ℕ → Option (ℕ × List ℕ)
length_at n bytes = if n == 15 then four_bytes bytes else extended_at n bytes

-- what stands behind the options: nothing, or the marker and a payload that isn't empty
abbrev pub is_ending : List ℕ → Bool
is_ending [] = true
is_ending (b ∷ []) = false
is_ending (b ∷ c ∷ bytes) = b == 0xff

-- whether the bytes are options, and nothing or the marker and a payload
unfoldable pub is_rest : List ℕ → Bool
is_rest bytes = is_ending (drop (length (options_bytes 0 (options_in 0 bytes))) bytes)

-- the frame is there whole
abbrev pub with_rest : FrameValue → FrameCutValue
with_rest f = if is_rest f.rest then takes f else refuses Options

-- the length n and that of the token t are known, and these bytes stand behind them
unfoldable pub cut_value_behind : ℕ → ℕ → List ℕ → FrameCutValue
cut_value_behind t n [] = waits
cut_value_behind t n (code ∷ bytes) =
    if nat_lt (length bytes) (t + n) then waits
    else with_rest (record { code = code; token = take t bytes; rest = take n (drop t bytes) })

-- the length with the bytes behind it, or None where its extension is cut
unfoldable pub with_length : ℕ → Option (ℕ × List ℕ) → FrameCutValue
with_length t None = waits
with_length t (Some x) = if nat_lt 4096 x.0 then refuses TooLong else cut_value_behind t x.0 x.1

unfoldable pub frame_at : List ℕ → FrameCutValue
frame_at [] = waits
frame_at (first ∷ bytes) =
    if nat_lt 8 (first % 16) then refuses Token
    else with_length (first % 16) (length_at (first / 16) bytes)

-- what the code's answers stand for
abbrev pub frame_value : Frame → FrameValue
frame_value frame = record { code = frame.code; token = frame.token.now; rest = frame.rest.now }

abbrev pub cut_value : code.FrameCut → FrameCutValue
cut_value (cuts.Message frame) = takes (frame_value frame)
cut_value cuts.More = waits
cut_value (cuts.Refused fault) = refuses fault

-- P of the frame, where there is one
abbrev pub IfFrame : code.FrameCut → (Frame → Type 0) → Type 0
IfFrame (cuts.Message frame) P = P frame
IfFrame cuts.More P = ⊤
IfFrame (cuts.Refused fault) P = ⊤
