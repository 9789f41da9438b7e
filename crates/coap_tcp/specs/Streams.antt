-- The frames of a stream, by all of its bytes, and by the pieces in which they come.
use Rattle.std.specs.Prelude.{◌≡◌, ◌⊎◌, ℕ, List, [], ◌∷◌, ◌++◌, ⊤}
use Rattle.std.specs.List.{AllByRecursion}
use Rattle.coap_tcp.specs.declared.fault.FrameFault.{FrameFault}
use Rattle.coap_tcp.specs.Frames.{FrameValue, IsFrame, frame_bytes}
use Rattle.coap_tcp.specs.FrameReading.{FrameCutValue, takes, waits, refuses, frame_at}

-- the frames, one behind the other
abbrev pub frames_bytes : List FrameValue → List ℕ
frames_bytes [] = []
frames_bytes (f ∷ fs) = frame_bytes f ++ frames_bytes fs

-- a stream ends where more is waited for, and at its first fault
abbrev pub IsEnd : FrameCutValue → Type 0
IsEnd (takes f) = ⊥
IsEnd waits = ⊤
IsEnd (refuses fault) = ⊤

-- the bytes of a stream are these frames, one behind the other, and then the rest, which no frame begins
pub record IsStream (bytes : List ℕ) (frames : List FrameValue) (end : FrameCutValue) (rest : List ℕ) : Type 0 where
  pub are : AllByRecursion IsFrame frames
  pub parts : bytes ≡ frames_bytes frames ++ rest
  pub as_cut : frame_at rest ≡ end
  pub ends : IsEnd end

-- the pieces, one behind the other
abbrev pub joined : List (List ℕ) → List ℕ
joined [] = []
joined (piece ∷ pieces) = piece ++ joined pieces

-- a fault is the last that is read, and what follows it isn't looked at
abbrev pub IsRefused : List ℕ → List FrameValue → FrameCutValue → Type 0
IsRefused buffered frames end = (fault : FrameFault) × (rest : List ℕ) × IsStream buffered frames (refuses fault) rest × (end ≡ refuses fault)

-- what a reader takes who has some bytes buffered and gets the others in pieces, and takes what is whole before each piece
abbrev pub AreRead : List ℕ → List (List ℕ) → List FrameValue → FrameCutValue → Type 0
AreRead buffered [] frames end = (rest : List ℕ) × IsStream buffered frames end rest
AreRead buffered (piece ∷ pieces) frames end =
    IsRefused buffered frames end
    ⊎ ((first : List FrameValue) × (rest : List ℕ) × (later : List FrameValue)
    × IsStream buffered first waits rest × AreRead (rest ++ piece) pieces later end × (frames ≡ first ++ later))
