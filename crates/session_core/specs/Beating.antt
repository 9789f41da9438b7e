-- Heartbeats (RFC 9132, section 4.7): which sessions are lost, and which heartbeats are due. With an interval of 0 neither is.
use Rattle.std.specs.Prelude.{◌≡◌, ℕ, ◌+◌, ◌*◌, Bool, nat_lt, nat_le, ◌&&◌, is_some, false, if◌then◌else◌, List, Option, Some, None, option_map, option_and_then}
use Rattle.session_core.specs.declared.contact.Session.{Session}
use Rattle.session_core.specs.declared.contact.Contact.{Contact}
use Rattle.session_core.specs.declared.contact.PeerContact.{PeerContact}
use Rattle.session_core.specs.declared.contact.Beat.{Beat}
use Rattle.session_core.specs.Contacts.{session_of, next_id, row_begun}
use Rattle.session_core.specs.Firsts.{IsNowhere, IsFirst}

-- the interval of each peer in seconds, and the number of heartbeats that may be missed
abbrev pub Beating : Type 0
Beating = ℕ → ℕ × ℕ

-- whatever is said of a peer, it is this
abbrev pub Agrees : (ℕ → ℕ × ℕ → Type 0) → Beating → Type 0
Agrees Says by = (peer : ℕ) (beat : ℕ × ℕ) → Says peer beat → beat ≡ by peer

-- ---- sessions that are lost

-- the peer was heard longer ago than the heartbeats that may be missed take
abbrev pub is_lost : ℕ × ℕ → ℕ → Session → Bool
is_lost by now session = nat_lt 0 by.0 && nat_lt (session.heard + by.0 * by.1) now

abbrev pub lost_in : ℕ × ℕ → ℕ → Option Session → Bool
lost_in by now None = false
lost_in by now (Some session) = is_lost by now session

abbrev pub has_lost : Beating → ℕ → PeerContact → Bool
has_lost beats now row = lost_in (beats row.peer) now (session_of row)

-- the session is forgotten, and Message IDs go on
abbrev pub contact_forgotten : Contact → Contact
contact_forgotten contact = record { number = contact.number; session = None }

abbrev pub row_forgotten : PeerContact → PeerContact
row_forgotten row = record { peer = row.peer; contact = option_map contact_forgotten row.contact }

-- no session is lost
abbrev pub NoneLost : Beating → ℕ → List PeerContact → List PeerContact → Type 0
NoneLost beats now old new = IsNowhere (has_lost beats now) old new

-- this is the first peer whose session is lost, and that is forgotten
pub record IsNextLost (beats : Beating) (now : ℕ) (old new : List PeerContact) (peer : ℕ) : Type 0 where
  pub row : PeerContact
  pub first : IsFirst (has_lost beats now) row_forgotten old new row
  pub own : peer ≡ row.peer

-- there is a session
abbrev pub has_session : PeerContact → Bool
has_session row = is_some (session_of row)

-- ---- the turn of one peer at a tick

-- a session begins where the peer is watched and has none
abbrev pub row_watched : Bool → ℕ → PeerContact → PeerContact
row_watched watched now row = if watched then row_begun now row else row

-- and then its session is lost, by this interval and number of heartbeats that may be missed
abbrev pub turn_loses : Bool → ℕ × ℕ → ℕ → PeerContact → Bool
turn_loses watched by now row = lost_in by now (session_of (row_watched watched now row))

-- one that is lost is forgotten
abbrev pub row_turned : Bool → ℕ × ℕ → ℕ → PeerContact → PeerContact
row_turned watched by now row = if turn_loses watched by now row then row_forgotten (row_watched watched now row) else row_watched watched now row

-- ---- heartbeats

-- the interval has passed since the last heartbeat
abbrev pub is_due : ℕ → ℕ → Session → Bool
is_due interval now session = nat_lt 0 interval && nat_le (session.beat + interval) now

-- the peer was heard at most the interval ago
abbrev pub was_heard : ℕ → ℕ → Session → Bool
was_heard interval now session = nat_le now (session.heard + interval)

-- with this Message ID
abbrev pub beat_to : ℕ → ℕ → ℕ → ℕ → Session → Option Beat
beat_to interval now peer id session =
    if is_due interval now session then Some (record { peer = peer; id = id; heard = was_heard interval now session }) else None

abbrev pub beat_in : ℕ → ℕ → ℕ → Contact → Option Beat
beat_in interval now peer contact = option_and_then (beat_to interval now peer contact.number) contact.session

-- the heartbeat that a peer is to be sent
abbrev pub due_beat : Beating → ℕ → PeerContact → Option Beat
due_beat beats now row = option_and_then (beat_in (beats row.peer).0 now row.peer) row.contact

abbrev pub has_due : Beating → ℕ → PeerContact → Bool
has_due beats now row = is_some (due_beat beats now row)

-- there is a session, which was sent its last heartbeat, or began, before now
abbrev pub beat_before : ℕ → Option Session → Bool
beat_before now None = false
beat_before now (Some session) = nat_lt session.beat now

abbrev pub has_waited : ℕ → PeerContact → Bool
has_waited now row = beat_before now (session_of row)

-- a heartbeat is sent now, and takes a Message ID
abbrev pub session_sent : ℕ → Session → Session
session_sent now session = record { heard = session.heard; beat = now }

abbrev pub contact_sent : ℕ → Contact → Contact
contact_sent now contact = record { number = next_id contact.number; session = option_map (session_sent now) contact.session }

abbrev pub row_sent : ℕ → PeerContact → PeerContact
row_sent now row = record { peer = row.peer; contact = option_map (contact_sent now) row.contact }

-- no peer is due a heartbeat
abbrev pub NoneBeats : Beating → ℕ → List PeerContact → List PeerContact → Type 0
NoneBeats beats now old new = IsNowhere (has_due beats now) old new

-- this is the heartbeat of the first peer that is due one, and it counts as sent
pub record IsNextBeat (beats : Beating) (now : ℕ) (old new : List PeerContact) (beat : Beat) : Type 0 where
  pub row : PeerContact
  pub first : IsFirst (has_due beats now) (row_sent now) old new row
  pub due : due_beat beats now row ≡ Some beat
