-- Peers that are heard, sessions that begin, and the Message IDs of the messages to these peers that begin here.
use Rattle.std.specs.Prelude.{ℕ, ◌+◌, ◌%◌, Bool, ◌==◌, if◌then◌else◌, is_some, List, [], ◌∷◌, find, Option, Some, None, option_map, option_and_then}
use Rattle.dots_settings.specs.declared.peer.PeerRow.{PeerRow}
use Rattle.session_core.specs.declared.contact.Session.{Session}
use Rattle.session_core.specs.declared.contact.Contact.{Contact}
use Rattle.session_core.specs.declared.contact.PeerContact.{PeerContact}

abbrev pub is_of : ℕ → PeerContact → Bool
is_of peer row = row.peer == peer

-- a peer of the settings that wasn't heard yet
abbrev pub unheard : PeerRow → PeerContact
unheard row = record { peer = row.peer; contact = None }

abbrev pub session_in : Contact → Option Session
session_in contact = contact.session

abbrev pub session_of : PeerContact → Option Session
session_of row = option_and_then session_in row.contact

-- the row of this peer becomes another, and the others are as they were
abbrev pub with_row : ℕ → (PeerContact → PeerContact) → List PeerContact → List PeerContact
with_row peer becomes [] = []
with_row peer becomes (row ∷ rows) = if is_of peer row then becomes row ∷ rows else row ∷ with_row peer becomes rows

-- ---- hearing

-- the session goes on, or one begins whose first heartbeat is counted from now
abbrev pub session_heard : ℕ → Option Session → Session
session_heard now None = record { heard = now; beat = now }
session_heard now (Some session) = record { heard = now; beat = session.beat }

-- numbers begin with the time at which the peer is heard first, in 16 bits
abbrev pub number_heard : ℕ → Option Contact → ℕ
number_heard now None = now % 65536
number_heard now (Some contact) = contact.number

abbrev pub row_heard : ℕ → PeerContact → PeerContact
row_heard now row = record {
  peer = row.peer;
  contact = Some (record { number = number_heard now row.contact; session = Some (session_heard now (session_of row)) });
}

abbrev pub heard_from : ℕ → ℕ → List PeerContact → List PeerContact
heard_from peer now rows = with_row peer (row_heard now) rows

-- ---- beginning

-- as if the peer was heard first now; where it has a session nothing changes
abbrev pub row_begun : ℕ → PeerContact → PeerContact
row_begun now row = if is_some (session_of row) then row else row_heard now row

abbrev pub begun_with : ℕ → ℕ → List PeerContact → List PeerContact
begun_with peer now rows = with_row peer (row_begun now) rows

-- ---- Message IDs

-- they rise by one, in 16 bits
abbrev pub next_id : ℕ → ℕ
next_id id = (id + 1) % 65536

abbrev pub number_at : Contact → ℕ
number_at contact = contact.number

-- that of the next message, once the peer was heard
abbrev pub number_in : PeerContact → Option ℕ
number_in row = option_map number_at row.contact

abbrev pub number_of : ℕ → List PeerContact → Option ℕ
number_of peer rows = option_and_then number_in (find (is_of peer) rows)

abbrev pub contact_numbered : Contact → Contact
contact_numbered contact = record { number = next_id contact.number; session = contact.session }

abbrev pub row_numbered : PeerContact → PeerContact
row_numbered row = record { peer = row.peer; contact = option_map contact_numbered row.contact }

abbrev pub numbered : ℕ → List PeerContact → List PeerContact
numbered peer rows = with_row peer row_numbered rows
