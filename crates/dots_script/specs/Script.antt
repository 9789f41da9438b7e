-- Script lines: what comes to a server, one event a line, each line ended by a line feed.
use Rattle.std.specs.Prelude.{◌≡◌, ℕ, ◌^◌, ◌<◌, List, [], ◌∷◌, ◌++◌, codes, decimal}
use Rattle.dots_lists.specs.HexText.{IsHex}
use Rattle.dots_host.specs.declared.event.Event.{Event}
use Rattle.dots_host.specs.declared.event.Event.TheVariants as event

-- a line is skipped where it is blank or begins with `#`
abbrev pub IsSkipped : List ℕ → Type 0
IsSkipped [] = Unit {0}
IsSkipped (byte ∷ line) = byte ≡ 35

-- `NUMBER HEX`: a number, and bytes behind it
pub record IsNumberAndBytes (text : List ℕ) (number : ℕ) (bytes : List ℕ) : Type 0 where
  pub digits : List ℕ
  pub spelled : text ≡ decimal number ++ (codes " " ++ digits)
  pub small : number < 2 ^ 32
  pub read : IsHex digits bytes

-- `NUMBER NUMBER`: two numbers
pub record AreTwoNumbers (text : List ℕ) (first second : ℕ) : Type 0 where
  pub spelled : text ≡ decimal first ++ (codes " " ++ decimal second)
  pub first_small : first < 2 ^ 32
  pub second_small : second < 2 ^ 32

-- `NUMBER`
pub record IsNumber (text : List ℕ) (number : ℕ) : Type 0 where
  pub spelled : text ≡ decimal number
  pub small : number < 2 ^ 32

-- the words are this word, and behind it what is of this form
abbrev pub BeginsWith : List ℕ → List ℕ → (List ℕ → Type 0) → Type 0
BeginsWith word words Form = (behind : List ℕ) × (words ≡ word ++ behind) × Form behind

-- The words say the event. `from PEER HEX`: a datagram of these bytes comes from the peer. `open CONN PEER`: the peer opens the
-- connection of this number. `piece CONN HEX`: these bytes come on the connection. `close CONN`: the connection is closed. `tick`: the
-- time has come. `restart`: the server lost all but its disk and begins again.
abbrev pub SaysEvent : List ℕ → Event → Type 0
SaysEvent words (event.Datagram peer bytes) = BeginsWith (codes "from ") words (λ behind. IsNumberAndBytes behind peer bytes)
SaysEvent words (event.Opened conn peer) = BeginsWith (codes "open ") words (λ behind. AreTwoNumbers behind conn peer)
SaysEvent words (event.Piece conn bytes) = BeginsWith (codes "piece ") words (λ behind. IsNumberAndBytes behind conn bytes)
SaysEvent words (event.Closed conn) = BeginsWith (codes "close ") words (λ behind. IsNumber behind conn)
SaysEvent words event.Tick = words ≡ codes "tick"
SaysEvent words event.Restart = words ≡ codes "restart"
SaysEvent words _ = ⊥

-- `at T` and the words of an event: it comes at this time
pub record IsEventLine (line : List ℕ) (event : Event) (at : ℕ) : Type 0 where
  pub words : List ℕ
  pub spelled : line ≡ codes "at " ++ (decimal at ++ (codes " " ++ words))
  pub time : at < 2 ^ 48
  pub says : SaysEvent words event
