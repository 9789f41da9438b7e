-- Frames that are served, those that a server sends by itself, and the frames of any bytes.
use Rattle.std.proofs.Common.{◌≡◌, ℕ, zero, suc, ◌+◌, ◌<◌, ◌≤◌, List, [], ◌∷◌, ◌++◌, length, drop, refl, sym, ap, subst, ◌∙◌, append_assoc, arith, inl, inr}
use Rattle.std.specs.Prelude.{◌⊎◌}
use Rattle.std.proofs.lemmas.List.{drop-append-le, drop_at, length-append}
use Rattle.coap_message.proofs.Steps.{IsBytes, IsBytes-drop, IsBytes-rest}
use Rattle.coap_tcp.specs.declared.fault.FrameFault.{FrameFault}
use Rattle.coap_tcp.specs.declared.frame.Frame.{Frame}
use Rattle.coap_tcp.specs.Frames.{FrameValue, IsFrame, BeginsWith, frame_bytes}
use Rattle.coap_tcp.specs.FrameReading.{FrameCutValue, takes, refuses, frame_at, frame_value}
use Rattle.coap_tcp.specs.FrameReading as reading
use Rattle.coap_tcp.specs.Streams.{IsStream, frames_bytes}
use Rattle.coap_tcp.proofs.CutValues.{frame_found, found_size}
use Rattle.coap_tcp.specs.declared.turn.Turn as code
use Rattle.coap_tcp.specs.declared.turn.Turn.TheVariants as turns
use Rattle.coap_tcp.specs.Turns.{plain, IfServes}

-- ---- what stands at the front

-- what stands at the front is one of three
pub which_cut : (cut : FrameCutValue) → (cut ≡ reading.waits) ⊎ ((fault : FrameFault) × (cut ≡ refuses fault)) ⊎ ((f : FrameValue) × (cut ≡ takes f))
which_cut (takes f) = inr (inr (f, refl))
which_cut reading.waits = inl refl
which_cut (refuses fault) = inr (inl (fault, refl))

pub fits_front : (bytes more : List ℕ) → IsBytes (bytes ++ more) → IsBytes bytes
fits_front [] more fits i = omega arith
fits_front (b ∷ bytes) more fits zero = fits 0
fits_front (b ∷ bytes) more fits (suc i) = fits_front bytes more (IsBytes-rest b (bytes ++ more) fits) i

-- behind a frame that is whole stands the same, whatever follows
pub left_behind : (bytes more : List ℕ) (f : FrameValue) → IsBytes (bytes ++ more) → frame_at bytes ≡ takes f → drop (length (frame_bytes f)) (bytes ++ more) ≡ drop (length (frame_bytes f)) bytes ++ more
left_behind bytes more f fits e =
    let front = fits_front bytes more fits in
    drop-append-le (length (frame_bytes f)) bytes more (found_size bytes f (frame_found bytes f front e)).1

-- ---- a frame that is served

-- what holds of the frame that was cut holds of the one that is served
pub served_same : (P : FrameValue → ℕ → Type 0) (turn : code.Turn) (f : Frame) → IfServes turn (λ served. (frame_value served ≡ frame_value f) × (served.length ≡ f.length)) → P (frame_value f) f.length
    → IfServes turn (λ frame. P (frame_value frame) frame.length)
served_same P turns.Waits f same holds = tt
served_same P turns.Begins f same holds = tt
served_same P turns.Passes f same holds = tt
served_same P (turns.Answers pong) f same holds = tt
served_same P (turns.Serves frame) f same holds = subst (λ (g : FrameValue). P g frame.length) (sym same.0) (subst (P (frame_value f)) (sym same.1) holds)
served_same P turns.Aborts f same holds = tt
served_same P turns.Closes f same holds = tt

-- ---- a frame without options and payload

pub plain_frame : (code : ℕ) (token : List ℕ) → code < 256 → length token ≤ 8 → IsFrame (plain code token)
plain_frame code token low short = record { code = low; token = short; size = omega arith; rest = ([], [], record { are = tt; parts = refl }) }

-- ---- the frames of any bytes

pub record HasStream (bytes : List ℕ) : Type 0 where
  pub messages : List FrameValue
  pub end : FrameCutValue
  pub rest : List ℕ
  pub stream : IsStream bytes messages end rest

pub first_then : (bytes behind : List ℕ) (f : FrameValue) (fs : List FrameValue) (end : FrameCutValue) (rest : List ℕ) → BeginsWith bytes f behind → IsStream behind fs end rest → IsStream bytes (f ∷ fs) end rest
first_then bytes behind f fs end rest begins later = record {
  are = (begins.is, later.are);
  parts = begins.parts ∙ ap (λ (y : List ℕ). frame_bytes f ++ y) later.parts ∙ sym (append_assoc (frame_bytes f) (frames_bytes fs) rest);
  as_cut = later.as_cut;
  ends = later.ends;
}

fits_after : (bytes front behind : List ℕ) → bytes ≡ front ++ behind → IsBytes bytes → IsBytes behind
fits_after bytes front behind e fits = subst IsBytes (ap (drop (length front)) e ∙ drop_at front behind (length front) refl) (IsBytes-drop (length front) bytes fits)

stream_within : (n : ℕ) (bytes : List ℕ) → length bytes ≤ n → IsBytes bytes → HasStream bytes
unfolding frame_at
stream_within zero [] le fits = record { messages = []; end = reading.waits; rest = []; stream = record { are = tt; parts = refl; as_cut = refl; ends = tt } }
stream_within zero (b ∷ bytes) le fits = absurd (omega (arith, le))
stream_within (suc n) bytes le fits =
    elim (which_cut (frame_at bytes)) [
      | inl e ↦ record { messages = []; end = reading.waits; rest = bytes; stream = record { are = tt; parts = refl; as_cut = e; ends = tt } }
      | inr (inl p) ↦ record { messages = []; end = refuses p.0; rest = bytes; stream = record { are = tt; parts = refl; as_cut = p.1; ends = tt } }
      | inr (inr p) ↦
          let found = frame_found bytes p.0 fits p.1 in
          let size = found_size bytes p.0 found in
          let all : length bytes ≡ length (frame_bytes p.0) + length found.0 = ap (λ (y : List ℕ). length y) found.1.parts ∙ length-append (frame_bytes p.0) found.0 in
          let later = stream_within n found.0 (omega (arith, size.0, all, le)) (fits_after bytes (frame_bytes p.0) found.0 found.1.parts fits) in
          record { messages = p.0 ∷ later.messages; end = later.end; rest = later.rest; stream = first_then bytes found.0 p.0 later.messages later.end later.rest found.1 later.stream }
    ]

-- all bytes are those of a stream
pub stream_from : (bytes : List ℕ) → IsBytes bytes → HasStream bytes
stream_from bytes fits = stream_within (length bytes) bytes (omega arith) fits
