-- What a server keeps: the settings, a registry of what the history comes to, the journal in which its entries are, the observers, the sessions
-- with its peers, and the connections that are open.
use Rattle.std.specs.Prelude.{◌≡◌, ℕ, ◌<◌, ◌^◌, true, List, ⊤}
use Rattle.std.specs.List.{list_all}
use Rattle.dots_settings.specs.Settings.{SettingsValue}
use Rattle.dots_history.specs.declared.entry.Entry.{Entry}
use Rattle.dots_history.specs.Bounds.{within_bounds}
use Rattle.dots_history.specs.Histories.{Kept, mitigations}
use Rattle.dots_history.specs.Calm.{is_own}
use Rattle.dots_history.specs.Fits.{last_time, has_one_peer}
use Rattle.dots_registry.specs.RegistryValues.{RegistryValue, IsOf, time_of}
use Rattle.dots_registry.specs.RegistryValues as registry
use Rattle.dots_registry.specs.ObserverViews.{views_of}
use Rattle.dots_registry.specs.Fitting.{fits_now}
use Rattle.slot_store.specs.StoreValues.{JournalValue}
use Rattle.slot_journal.specs.Sizes.{slots_of}
use Rattle.dots_registry.specs.LedgerValues.{LedgerValue}
use Rattle.dots_registry.specs.LedgerValues as ledger
use Rattle.dots_registry.specs.Limits.{ClientsKeepLimits}
use Rattle.coap_exchange.specs.Pairs.{pairs_of}
use Rattle.coap_observe.specs.Observed.{ObservedValue}
use Rattle.coap_observe.specs.DueAmong.{AreNotified}
use Rattle.coap_observe.specs.Observing.{ObserversValue}
use Rattle.session_core.specs.declared.watch.Watch.{Watch}
use Rattle.stream_table.specs.Lines.{PeerLines, AreOf}
use Rattle.stream_table.specs.Places.{AreApart}
use Rattle.dots_machine.specs.Verdict.{Verdict}
use Rattle.dots_machine.specs.declared.verdict.Verdict.TheVariants as verdict
use Rattle.dots_machine.specs.Machine.{State}

pub record ServerValue : Type 0 where
  pub settings : SettingsValue
  pub registry : RegistryValue
  pub journal : JournalValue
  pub watch : Watch
  pub lines : List PeerLines

-- the observers, with the room that the settings say
abbrev pub observers_of : SettingsValue → List ObservedValue → ObserversValue
observers_of settings observed = record { room = settings.limits.observers; pairs = pairs_of settings; observed = observed }

abbrev pub ledger_of : ServerValue → LedgerValue
ledger_of server = record { registry = server.registry; journal = server.journal }

-- A server represents a state: its registry is of the settings, and represents the history at the state's time, which is below
-- 2^48; its observers, its sessions and its connections are those of the state; and the entries are the settings' own and within bounds, and the clients keep the limits.
pub record Represents (server : ServerValue) (settings : SettingsValue) (state : State) : Type 0 where
  pub settings_are : server.settings ≡ settings
  pub is_of : IsOf settings server.registry
  pub registry : registry.Represents server.registry state.history
  pub time_is : time_of server.registry ≡ state.time
  pub observers : server.watch.observers ≡ observers_of settings state.observers
  pub contacts : server.watch.sessions ≡ state.contacts
  pub lines : server.lines ≡ state.lines
  pub early : state.time < 2 ^ 48
  pub own : list_all (is_own settings) state.history ≡ true
  pub bounded : list_all within_bounds state.history ≡ true
  pub limits : ClientsKeepLimits settings.limits state.time state.history

-- It represents a state of which these entries are on its disk: they are calm, and a part of the history with its view at the state's time.
pub record RepresentsWith (server : ServerValue) (settings : SettingsValue) (state : State) (entries : List Entry) : Type 0 where
  pub represents : Represents server settings state
  pub ledger : ledger.Represents (ledger_of server) settings state.history entries
  pub slots : server.journal.slots ≡ slots_of settings

-- And they have the view of the history at the time of its last entry, so that a restart finds what was accepted, whatever its time is.
pub record RestartsWith (server : ServerValue) (settings : SettingsValue) (state : State) (entries : List Entry) : Type 0 where
  pub represents : RepresentsWith server settings state entries
  pub rests : Kept settings.limits.remembered (last_time state.history) entries state.history

-- It represents some state, of which some entries are on its disk. What its observers were notified of last is what there is to see, but for
-- those among whom one may be due. There is a row for each client, and no number stands for two connections.
pub record IsServing (server : ServerValue) : Type 0 where
  pub state : State
  pub entries : List Entry
  pub represents : RepresentsWith server server.settings state entries
  pub notified : AreNotified (views_of server.registry) server.watch.due server.watch.observers.observed
  pub rows : AreOf server.settings.peers server.lines
  pub apart : AreApart server.lines

-- An entry can be taken: it is of the registry's time, and for each state that the server represents it fits the history, is the settings' own,
-- and has the peer of each live mitigation of its client.
pub record IsAcceptable (server : ServerValue) (entry : Entry) : Type 0 where
  pub now : entry.time ≡ time_of server.registry
  pub fits : (settings : SettingsValue) (state : State) → Represents server settings state → fits_now settings server.registry state.history entry ≡ true
  pub own : (settings : SettingsValue) (state : State) → Represents server settings state → is_own settings entry ≡ true
  pub one_peer : (settings : SettingsValue) (state : State) → Represents server settings state → has_one_peer entry (mitigations entry.time state.history) ≡ true

abbrev pub IsAccepted : Verdict → Type 0
IsAccepted decided = (reply : List ℕ) × (entry : Entry) × (decided ≡ verdict.Accept reply entry)

-- What shows mitigations is a message before it is carried out.
abbrev pub CanCarryOut : Verdict → ServerValue → Type 0
CanCarryOut (verdict.Accept reply entry) server = IsAcceptable server entry
CanCarryOut (verdict.Retrieves exchange body) server = ⊥
CanCarryOut _ server = ⊤
