-- What a domain has of a state: its entries, and when its clients were heard.
use Rattle.std.specs.Prelude.{◌≡◌, ℕ, ◌+◌, Bool, false, ◌==◌, if◌then◌else◌, List, [], ◌∷◌, ◌++◌, map, filter, Option, Some, None}
use Rattle.dots_settings.specs.Settings.{SettingsValue}
use Rattle.dots_settings.specs.declared.peer.PeerRow.{PeerRow}
use Rattle.dots_history.specs.declared.entry.Entry.{Entry}
use Rattle.dots_history.specs.Histories.{alone}
use Rattle.session_core.specs.Contacts.{unheard}
use Rattle.dots_machine.specs.Signals.{own_domain, LastHeard, last_heard, is_silent, is_watched, loss_of, history_lapsed, back_of}
use Rattle.dots_machine.specs.ConfiguredPeers.{beating_at}
use Rattle.dots_machine.specs.Machine.{State}

pub record Part : Type 0 where
  pub entries : List Entry
  pub heard : List LastHeard

abbrev pub is_domain : ℕ → Option ℕ → Bool
is_domain domain None = false
is_domain domain (Some other) = other == domain

-- a client of the domain
abbrev pub is_client_in : SettingsValue → ℕ → LastHeard → Bool
is_client_in settings domain row = is_domain domain (own_domain settings row.peer)

abbrev pub heard_in : SettingsValue → ℕ → State → List LastHeard
heard_in settings domain state = filter (is_client_in settings domain) (map last_heard state.contacts)

abbrev pub part_of : SettingsValue → ℕ → State → Part
part_of settings domain state = record { entries = alone domain state.history; heard = heard_in settings domain state }

-- ---- what becomes of it

-- a client is heard at the time
abbrev pub heard_now : ℕ → ℕ → List LastHeard → List LastHeard
heard_now time peer [] = []
heard_now time peer (row ∷ rows) =
    if row.peer == peer then record { peer = row.peer; heard = Some time } ∷ rows else row ∷ heard_now time peer rows

-- and its signal is back, where it was lost
abbrev pub part_heard : SettingsValue → ℕ → ℕ → Part → Part
part_heard settings time peer part = record {
  entries = part.entries ++ back_of settings time part.entries peer;
  heard = heard_now time peer part.heard;
}

-- at a tick each client has its turn: one that is watched and wasn't heard counts as heard now, and one that is silent is forgotten
abbrev pub begun_at : ℕ → Option ℕ → Option ℕ
begun_at time None = Some time
begun_at time (Some heard) = Some heard

abbrev pub unless_silent : ℕ × ℕ → ℕ → Option ℕ → Option ℕ
unless_silent by time heard = if is_silent by time heard then None else heard

abbrev pub last_heard_lapsed : SettingsValue → ℕ → List Entry → LastHeard → LastHeard
last_heard_lapsed settings time history row = record {
  peer = row.peer;
  heard = unless_silent (beating_at settings time history row.peer) time (if is_watched settings time history row.peer then begun_at time row.heard else row.heard);
}

abbrev pub heard_lapsed : SettingsValue → ℕ → List Entry → List LastHeard → List LastHeard
heard_lapsed settings time history [] = []
heard_lapsed settings time history (row ∷ rows) =
    last_heard_lapsed settings time history row ∷ heard_lapsed settings time (history ++ loss_of settings time history row) rows

abbrev pub part_lapsed : SettingsValue → ℕ → Part → Part
part_lapsed settings time part = record {
  entries = history_lapsed settings time part.entries part.heard;
  heard = heard_lapsed settings time part.entries part.heard;
}

-- at a restart what was accepted stays, and nobody was heard
abbrev pub part_restarted : SettingsValue → ℕ → Part → Part
part_restarted settings domain part = record {
  entries = part.entries;
  heard = filter (is_client_in settings domain) (map last_heard (map unheard settings.peers));
}
