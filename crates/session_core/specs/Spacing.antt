-- What a list of calls makes of the sessions.
use Rattle.std.specs.Prelude.{◌≡◌, ℕ, ◌≤◌, if◌then◌else◌, List, [], ◌∷◌, Option, MatchOption}
use Rattle.session_core.specs.declared.contact.PeerContact.{PeerContact}
use Rattle.session_core.specs.declared.contact.Beat.{Beat}
use Rattle.session_core.specs.Contacts.{heard_from, begun_with, numbered}
use Rattle.session_core.specs.Beating.{Beating, has_lost, row_forgotten, NoneLost, IsNextLost, has_due, row_sent, NoneBeats, IsNextBeat}

-- A message of a peer is heard at a time, a session with one begins at a time, a Message ID is taken, or what comes next at a time is
-- asked for: a session that is lost, or a heartbeat. There is none, or this one.
pub data Call : Type 0 where
  Hears : ℕ → ℕ → Call
  Begins : ℕ → ℕ → Call
  Numbers : ℕ → Call
  Loses : Beating → ℕ → Option ℕ → Call
  Beats : Beating → ℕ → Option Beat → Call

-- what is kept after a call
abbrev pub Makes : List PeerContact → Call → List PeerContact → Type 0
Makes old (Hears peer now) new = new ≡ heard_from peer now old
Makes old (Begins peer now) new = new ≡ begun_with peer now old
Makes old (Numbers peer) new = new ≡ numbered peer old
Makes old (Loses beats now lost) new = MatchOption lost (NoneLost beats now old new) (λ peer. IsNextLost beats now old new peer)
Makes old (Beats beats now given) new = MatchOption given (NoneBeats beats now old new) (λ beat. IsNextBeat beats now old new beat)

-- one call after the other
abbrev pub Run : List PeerContact → List Call → List PeerContact → Type 0
Run old [] new = new ≡ old
Run old (call ∷ calls) new = (between : List PeerContact) × Makes old call between × Run between calls new

-- no call is of an earlier time
abbrev pub IsSince : ℕ → Call → Type 0
IsSince time (Hears peer now) = time ≤ now
IsSince time (Begins peer now) = time ≤ now
IsSince time (Numbers peer) = Unit {0}
IsSince time (Loses beats now lost) = time ≤ now
IsSince time (Beats beats now given) = time ≤ now

abbrev pub AreSince : ℕ → List Call → Type 0
AreSince time [] = Unit {0}
AreSince time (call ∷ calls) = IsSince time call × AreSince time calls

-- ---- a tick: at one time sessions that are lost are asked for until there is none, and then heartbeats until none is due

-- these are the peers whose sessions are lost
abbrev pub LosesAll : Beating → ℕ → List PeerContact → List ℕ → List PeerContact → Type 0
LosesAll beats now old [] new = NoneLost beats now old new
LosesAll beats now old (peer ∷ lost) new = (between : List PeerContact) × IsNextLost beats now old between peer × LosesAll beats now between lost new

-- these are the heartbeats
abbrev pub BeatsAll : Beating → ℕ → List PeerContact → List Beat → List PeerContact → Type 0
BeatsAll beats now old [] new = NoneBeats beats now old new
BeatsAll beats now old (beat ∷ given) new = (between : List PeerContact) × IsNextBeat beats now old between beat × BeatsAll beats now between given new

abbrev pub Tick : Beating → ℕ → List PeerContact → List ℕ → List Beat → List PeerContact → Type 0
Tick beats now old lost given new = (between : List PeerContact) × LosesAll beats now old lost between × BeatsAll beats now between given new

-- a session that is lost is forgotten
abbrev pub without_lost : Beating → ℕ → PeerContact → PeerContact
without_lost beats now row = if has_lost beats now row then row_forgotten row else row

-- a heartbeat that is due is sent
abbrev pub with_beat : Beating → ℕ → PeerContact → PeerContact
with_beat beats now row = if has_due beats now row then row_sent now row else row
