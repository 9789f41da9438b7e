-- What a piece of a connection comes to in a run: what stands at the front is answered, one turn after the other.
use Rattle.std.specs.Prelude.{◌≡◌, ℕ, ◌+◌, Bool, true, false, List, [], ◌∷◌, ◌++◌, length, drop, Option, Some, None, ⊤}
use Rattle.dots_host.specs.declared.out.OwnedOut.{OwnedOut}
use Rattle.dots_host.specs.Acts.{Timed}
use Rattle.dots_host.specs.Runs.{Turn, Chain}
use Rattle.dots_host.specs.Media.{Media}
use Rattle.dots_settings.specs.Settings.{SettingsValue}
use Rattle.dots_history.specs.declared.entry.Entry.{Entry}
use Rattle.stream_table.specs.Lines.{Line, PeerLines, line_of}
use Rattle.rest_answers.specs.declared.answer.RestAnswer.TheVariants as answer
use Rattle.rest_answers.specs.declared.caller.Caller.{Caller}
use Rattle.rest_answers.specs.declared.front.RestFront.TheVariants as front
use Rattle.rest_answers.specs.Answer.{RestAnswer}
use Rattle.rest_answers.specs.Turns.{RestFront, caller_of, IsFront, Rests}
use Rattle.dots_machine.specs.Machine.{State, AnswersFront, receiving, with_entry}
use Rattle.dots_server.specs.ServerValues.{ServerValue, RestartsWith, IsAcceptable}
use Rattle.dots_server.specs.Turning.{Turned, Broke, Stored, LiesOn, last_left, Chained}
use Rattle.dots_server.specs.Taking.{stored_of}

-- ---- what stands at the front

-- in a state, by its history: who asks, and what it is
abbrev pub IsFrontAt : SettingsValue → ℕ → State → Line → RestFront → Type 0
IsFrontAt settings conn state line at =
    (caller : Caller) × (caller_of settings conn state.lines ≡ Some caller) × IsFront settings state.time state.history caller line.buffered at

-- an accepted entry can be taken
abbrev pub CanAnswer : RestAnswer → ServerValue → Type 0
CanAnswer (answer.Accept reply entry) server = IsAcceptable server entry
CanAnswer _ server = ⊤

abbrev pub CanAnswerFront : RestFront → ServerValue → Type 0
CanAnswerFront (front.Answered size close answered) server = CanAnswer answered server
CanAnswerFront _ server = ⊤

-- the state with the entry of what is accepted
abbrev pub having : RestAnswer → State → State
having (answer.Accept reply entry) state = with_entry state entry
having _ state = state

abbrev pub IsAcceptedBy : RestAnswer → Type 0
IsAcceptedBy answered = (reply : List ℕ) × (entry : Entry) × (answered ≡ answer.Accept reply entry)

-- ---- one turn

-- It was answered, and what that led to is kept.
pub record FrontAnswered (settings : SettingsValue) (conn : ℕ) (state : State) (old now : ServerValue) (entries : List Entry) (media media_now : Option Media) (acts acts_now : Option (List Timed)) : Type 0 where
  pub sends : List OwnedOut
  pub new : State
  pub few : List Entry
  pub answers : AnswersFront settings conn state sends new
  pub kept : RestartsWith now settings new few
  pub turned : Turned settings state new sends (LiesOn settings (stored_of old entries)) (LiesOn settings (stored_of now few)) media media_now acts acts_now

-- More is waited for, or the connection is gone, and nothing was done.
pub record FrontRests (settings : SettingsValue) (conn : ℕ) (state : State) (old now : ServerValue) (entries : List Entry) (media media_now : Option Media) (acts acts_now : Option (List Timed)) : Type 0 where
  pub rests : Rests conn state.lines
  pub kept : RestartsWith now settings state entries
  pub written : now.journal ≡ old.journal
  pub still : media_now ≡ media
  pub silent : acts_now ≡ acts

abbrev pub IsFrontTaken : Bool → SettingsValue → ℕ → State → ServerValue → ServerValue → List Entry → Option Media → Option Media → Option (List Timed) → Option (List Timed) → Type 0
IsFrontTaken true settings conn state old now entries media media_now acts acts_now = FrontAnswered settings conn state old now entries media media_now acts acts_now
IsFrontTaken false settings conn state old now entries media media_now acts acts_now = FrontRests settings conn state old now entries media media_now acts acts_now

-- The disk failed while an entry was written that a request asks for.
pub record FrontBroke (settings : SettingsValue) (conn : ℕ) (state : State) (server : ServerValue) (entries : List Entry) (media media_now : Option Media) (acts acts_now : Option (List Timed)) : Type 0 where
  pub sends : List OwnedOut
  pub new : State
  pub answers : AnswersFront settings conn state sends new
  pub entry : Entry
  pub adds : new.history ≡ state.history ++ entry ∷ []
  pub broke : Broke settings state new (LiesOn settings (stored_of server entries)) media media_now acts acts_now

-- ---- one turn, while bytes aren't held yet

-- These bytes came, and the front was answered. Those are left then, behind what is held.
pub record PieceAnswered (settings : SettingsValue) (conn : ℕ) (rest left : List ℕ) (state : State) (old now : ServerValue) (entries : List Entry) (media media_now : Option Media) (acts acts_now : Option (List Timed)) : Type 0 where
  pub sends : List OwnedOut
  pub new : State
  pub few : List Entry
  pub answers : AnswersFront settings conn (receiving conn rest state) sends (receiving conn left new)
  pub kept : RestartsWith now settings new few
  pub turned : Turned settings state new sends (LiesOn settings (stored_of old entries)) (LiesOn settings (stored_of now few)) media media_now acts acts_now

-- so many of the bytes are held now; or none is left, since the connection rests
abbrev pub IsPieceTaken : Option ℕ → SettingsValue → ℕ → List ℕ → State → ServerValue → ServerValue → List Entry → Option Media → Option Media → Option (List Timed) → Option (List Timed) → Type 0
IsPieceTaken (Some taken) settings conn rest state old now entries media media_now acts acts_now = PieceAnswered settings conn rest (drop taken rest) state old now entries media media_now acts acts_now
IsPieceTaken None settings conn rest state old now entries media media_now acts acts_now = FrontRests settings conn (receiving conn rest state) old now entries media media_now acts acts_now

-- ---- a whole piece

-- These turns of it were carried out, and these bytes aren't held yet.
pub record TurnsTaken (settings : SettingsValue) (conn : ℕ) (piece rest : List ℕ) (state : State) (old now : ServerValue) (entries : List Entry) (media media_now : Option Media) (acts acts_now : Option (List Timed)) : Type 0 where
  pub turns : List (Turn State)
  pub reached : State
  pub few : List Entry
  pub fronts : Chain (AnswersFront settings conn) (receiving conn piece state) turns (receiving conn rest reached)
  pub kept : RestartsWith now settings reached few
  pub chained : Chained settings state.time state (stored_of old entries) turns (stored_of now few) media media_now acts acts_now
  pub time : reached.time ≡ state.time
  pub left : reached.history ≡ (last_left state turns).history

-- It was taken: what stood at the front was answered, turn by turn, until the connection rested.
pub record PieceTaken (settings : SettingsValue) (conn : ℕ) (piece : List ℕ) (state : State) (old now : ServerValue) (entries : List Entry) (media media_now : Option Media) (acts acts_now : Option (List Timed)) : Type 0 where
  pub turns : List (Turn State)
  pub rested : State
  pub few : List Entry
  pub fronts : Chain (AnswersFront settings conn) (receiving conn piece state) turns rested
  pub rests : Rests conn rested.lines
  pub kept : RestartsWith now settings rested few
  pub chained : Chained settings state.time state (stored_of old entries) turns (stored_of now few) media media_now acts acts_now
  pub time : rested.time ≡ state.time
  pub left : rested.history ≡ (last_left state turns).history

-- The disk failed in a turn of it, while an entry was written that a request asks for.
pub record PieceBroke (settings : SettingsValue) (conn : ℕ) (piece : List ℕ) (state : State) (server : ServerValue) (entries : List Entry) (media media_now : Option Media) (acts acts_now : Option (List Timed)) : Type 0 where
  pub turns : List (Turn State)
  pub between : State
  pub last : Turn State
  pub fronts : Chain (AnswersFront settings conn) (receiving conn piece state) turns between
  pub answers : AnswersFront settings conn between last.sends last.left
  pub entry : Entry
  pub adds : last.left.history ≡ between.history ++ entry ∷ []
  pub stored : Stored
  pub there : Option Media
  pub told : Option (List Timed)
  pub chained : Chained settings state.time state (stored_of server entries) turns stored media there acts told
  pub time : last.left.time ≡ state.time
  pub left : between.history ≡ (last_left state turns).history
  pub broke : Broke settings (last_left state turns) last.left (LiesOn settings stored) there media_now told acts_now

-- ---- that it ends

-- how many bytes are held of a connection, and one more while it is there
abbrev pub bytes_in : Option Line → ℕ
bytes_in None = 0
bytes_in (Some line) = length line.buffered + 1

abbrev pub bytes_on : ℕ → List PeerLines → ℕ
bytes_on conn lines = bytes_in (line_of conn lines)
