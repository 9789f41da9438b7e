-- Signals of clients that are lost, and that come back, where a mitigation waits for that (RFC 9132, section 4.4.1, trigger-mitigation).
use Rattle.std.specs.Prelude.{◌≡◌, ℕ, ◌+◌, ◌*◌, nat_lt, Bool, false, not, ◌==◌, ◌&&◌, if◌then◌else◌, List, [], ◌∷◌, ◌++◌, filter, Option, Some, None, option_map}
use Rattle.dots_settings.specs.declared.peer.Role.{Role}
use Rattle.dots_settings.specs.declared.peer.Role.TheVariants as role
use Rattle.dots_settings.specs.Settings.{SettingsValue}
use Rattle.dots_settings.specs.Lookups.{role_of}
use Rattle.dots_history.specs.declared.entry.Entry.{Entry}
use Rattle.dots_history.specs.declared.change.Change.{Change}
use Rattle.dots_history.specs.declared.change.Change.TheVariants as change
use Rattle.dots_history.specs.declared.entry.MessageKey.TheVariants as key
use Rattle.dots_history.specs.Histories.{held, alone}
use Rattle.dots_history.specs.Held.{is_lost_of}
use Rattle.dots_history.specs.HistoryReading.{is_waiting}
use Rattle.session_core.specs.declared.contact.Session.{Session}
use Rattle.session_core.specs.declared.contact.PeerContact.{PeerContact}
use Rattle.session_core.specs.Contacts.{session_of, row_begun}
use Rattle.session_core.specs.Spacing.{without_lost}
use Rattle.dots_machine.specs.ConfiguredPeers.{beating_at}

-- the domain of a client's peer
abbrev pub domain_of_client : Role → Option ℕ
domain_of_client (role.Client domain) = Some domain
domain_of_client _ = None

abbrev pub own_domain : SettingsValue → ℕ → Option ℕ
own_domain settings peer = domain_of_client (role_of settings peer)

-- What is kept of a signal that is lost or back: it is of the peer and its domain, of no client, and of no message.
abbrev pub signal_entry : ℕ → ℕ → Change → ℕ → Entry
signal_entry time peer change domain = record {
  time = time;
  peer = peer;
  domain = domain;
  cuid = [];
  key = key.Http;
  reply = [];
  change = change;
}

-- the signal of a client of the domain is lost, by the entries of this domain alone
abbrev pub is_lost_in : List Entry → ℕ → ℕ → Bool
is_lost_in history domain peer = is_lost_of (held (alone domain history)) peer

-- a mitigation of the client waits, and its signal isn't lost yet
abbrev pub is_watched_in : ℕ → List Entry → ℕ → ℕ → Bool
is_watched_in time history domain peer = is_waiting time (alone domain history) peer && not (is_lost_in history domain peer)

abbrev pub watched_by : ℕ → List Entry → ℕ → Option ℕ → Bool
watched_by time history peer None = false
watched_by time history peer (Some domain) = is_watched_in time history domain peer

-- no gateway's is, and no stranger's
abbrev pub is_watched : SettingsValue → ℕ → List Entry → ℕ → Bool
is_watched settings time history peer = watched_by time history peer (own_domain settings peer)

-- ---- at a tick each peer has its turn, in the order of the settings

-- when a peer was heard last, if a session with it goes on
pub record LastHeard : Type 0 where
  pub peer : ℕ
  pub heard : Option ℕ

abbrev pub heard_at : Session → ℕ
heard_at session = session.heard

abbrev pub last_heard : PeerContact → LastHeard
last_heard row = record { peer = row.peer; heard = option_map heard_at (session_of row) }

-- the peer was heard longer ago than the heartbeats that may be missed take
abbrev pub is_silent : ℕ × ℕ → ℕ → Option ℕ → Bool
is_silent by time None = false
is_silent by time (Some heard) = nat_lt 0 by.0 && nat_lt (heard + by.0 * by.1) time

abbrev pub loss_in : ℕ → List Entry → ℕ → Option ℕ → List Entry
loss_in time history peer None = []
loss_in time history peer (Some domain) = if is_watched_in time history domain peer then signal_entry time peer change.Lost domain ∷ [] else []

-- the signal of a watched client that is silent is lost, and this is kept
abbrev pub loss_of : SettingsValue → ℕ → List Entry → LastHeard → List Entry
loss_of settings time history row =
    if is_silent (beating_at settings time history row.peer) time row.heard then loss_in time history row.peer (own_domain settings row.peer) else []

-- A session begins with a client that is watched and has none, so that its silence is noticed after a restart, too; and that of a silent peer is
-- forgotten.
abbrev pub row_lapsed : SettingsValue → ℕ → List Entry → PeerContact → PeerContact
row_lapsed settings time history row =
    without_lost (beating_at settings time history) time (if is_watched settings time history row.peer then row_begun time row else row)

-- each has its turn by the entries that those before it left
abbrev pub history_lapsed : SettingsValue → ℕ → List Entry → List LastHeard → List Entry
history_lapsed settings time history [] = history
history_lapsed settings time history (row ∷ rows) = history_lapsed settings time (history ++ loss_of settings time history row) rows

abbrev pub rows_lapsed : SettingsValue → ℕ → List Entry → List PeerContact → List PeerContact
rows_lapsed settings time history [] = []
rows_lapsed settings time history (row ∷ rows) =
    row_lapsed settings time history row ∷ rows_lapsed settings time (history ++ loss_of settings time history (last_heard row)) rows

-- ---- a message of a client whose signal is lost

abbrev pub back_in : ℕ → List Entry → ℕ → Option ℕ → List Entry
back_in time history peer None = []
back_in time history peer (Some domain) = if is_lost_in history domain peer then signal_entry time peer change.Back domain ∷ [] else []

-- It can be read, and so the signal is back, which is kept before it is decided on.
abbrev pub back_of : SettingsValue → ℕ → List Entry → ℕ → List Entry
back_of settings time history peer = back_in time history peer (own_domain settings peer)
