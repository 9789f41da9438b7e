-- Signals that are lost and that come back, as a server finds and keeps them.
use Rattle.std.specs.Prelude.{◌≡◌, ◌≢◌, ℕ, Bool, if◌then◌else◌, List, [], ◌∷◌, ◌++◌, slice_get, Option, Some, None}
use Rattle.dots_host.specs.Acts.{Timed}
use Rattle.dots_host.specs.Runs.{Turn, owed_in}
use Rattle.dots_host.specs.Media.{Media}
use Rattle.dots_settings.specs.Settings.{SettingsValue}
use Rattle.dots_history.specs.declared.entry.Entry.{Entry}
use Rattle.dots_history.specs.declared.change.Change.{Change}
use Rattle.session_core.specs.declared.contact.PeerContact.{PeerContact}
use Rattle.session_core.specs.Places.{with_place}
use Rattle.dots_machine.specs.Signals.{own_domain, signal_entry, is_lost_in, is_watched_in, last_heard, loss_of, row_lapsed}
use Rattle.dots_machine.specs.Machine.{State, lapsed}
use Rattle.dots_server.specs.ServerValues.{ServerValue, RestartsWith}
use Rattle.dots_server.specs.Turning.{Broke, Stored, LiesOn, Grows, last_left, Chained}
use Rattle.dots_server.specs.Taking.{stored_of}

-- ---- what is found

abbrev pub passing : (ℕ → Bool) → Option ℕ → Option ℕ
passing test None = None
passing test (Some domain) = if test domain then Some domain else None

-- the domain of a client that is watched
abbrev pub watched_domain : SettingsValue → ℕ → List Entry → ℕ → Option ℕ
watched_domain settings time history peer = passing (λ domain. is_watched_in time history domain peer) (own_domain settings peer)

-- the domain of a client whose signal is lost
abbrev pub lost_domain : SettingsValue → List Entry → ℕ → Option ℕ
lost_domain settings history peer = passing (λ domain. is_lost_in history domain peer) (own_domain settings peer)

-- and that is heard
abbrev pub returned : Bool → SettingsValue → List Entry → ℕ → Option ℕ
returned heard settings history peer = if heard then lost_domain settings history peer else None

-- what is kept of a client of this domain, or nothing of nobody
abbrev pub signals : ℕ → ℕ → Change → Option ℕ → List Entry
signals time peer change None = []
signals time peer change (Some domain) = signal_entry time peer change domain ∷ []

-- ---- the turn of the peer at a place

-- what is kept of it
abbrev pub loss_in_row : SettingsValue → ℕ → List Entry → Option PeerContact → List Entry
loss_in_row settings time history None = []
loss_in_row settings time history (Some row) = loss_of settings time history (last_heard row)

abbrev pub loss_at : SettingsValue → ℕ → State → List Entry
loss_at settings place state = loss_in_row settings state.time state.history (slice_get state.contacts place)

-- its session has begun, or is forgotten
abbrev pub with_turn : SettingsValue → ℕ → State → State
with_turn settings place state = record state { contacts = with_place place (row_lapsed settings state.time state.history) state.contacts }

abbrev pub lapsed_at : SettingsValue → ℕ → State → State
lapsed_at settings place state = record (with_turn settings place state) { history = state.history ++ loss_at settings place state }

-- ---- the turns of all peers

-- Each peer had its turn. On the disk stands a step for each, which sends nothing.
pub record HasLapsed (settings : SettingsValue) (state : State) (old now : ServerValue) (entries : List Entry) (media media_now : Option Media) (acts acts_now : Option (List Timed)) : Type 0 where
  pub steps : List (Turn State)
  pub silent : owed_in steps ≡ []
  pub few : List Entry
  pub kept : RestartsWith now settings (lapsed settings state) few
  pub chained : Chained settings state.time state (stored_of old entries) steps (stored_of now few) media media_now acts acts_now
  pub left : (lapsed settings state).history ≡ (last_left state steps).history

-- The disk failed while it was kept that a signal is lost.
pub record LapseBroke (settings : SettingsValue) (state : State) (server : ServerValue) (entries : List Entry) (media media_now : Option Media) (acts acts_now : Option (List Timed)) : Type 0 where
  pub adds : (lapsed settings state).history ≢ state.history
  pub steps : List (Turn State)
  pub silent : owed_in steps ≡ []
  pub stored : Stored
  pub there : Option Media
  pub told : Option (List Timed)
  pub chained : Chained settings state.time state (stored_of server entries) steps stored media there acts told
  pub grows : Grows (last_left state steps).history (lapsed settings state).history
  pub broke : Broke settings (last_left state steps) (lapsed settings state) (LiesOn settings stored) there media_now told acts_now
