-- The turn of one peer at a tick.
use Rattle.std.proofs.Common.{◌≡◌, ℕ, ◌+◌, ◌*◌, zero, suc, Bool, true, false, ◌&&◌, List, [], ◌∷◌, Option, Some, None, refl, sym, ap, ◌∙◌, subst, arith}
use Rattle.std.specs.Prelude.{nat_lt, if◌then◌else◌, is_some, slice_get, option_map}
use Rattle.std.proofs.lemmas.Bool.Decides.{nat_tests}
use Rattle.std.proofs.lemmas.Option.{same_Some}
use Rattle.dots_settings.specs.Settings.{SettingsValue}
use Rattle.dots_history.specs.declared.entry.Entry.{Entry}
use Rattle.dots_history.specs.declared.change.Change.TheVariants as change
use Rattle.session_core.specs.declared.contact.Session.{Session}
use Rattle.session_core.specs.declared.contact.PeerContact.{PeerContact}
use Rattle.session_core.specs.Contacts.{session_of, session_heard, row_heard, row_begun}
use Rattle.session_core.specs.Beating.{lost_in, is_lost, row_forgotten, row_watched, turn_loses, row_turned}
use Rattle.session_core.specs.Places.{row_peer, with_place}
use Rattle.session_core.specs.Spacing.{without_lost}
use Rattle.session_core.proofs.Turns.{begun_peer}
use Rattle.dots_machine.specs.ConfiguredPeers.{beating_at}
use Rattle.dots_machine.specs.Signals.{own_domain, last_heard, heard_at, is_silent, is_watched, loss_in, loss_of, row_lapsed}
use Rattle.dots_machine.specs.Machine.{State}
use Rattle.dots_registry.specs.RegistryValues.{RegistryValue}
use Rattle.dots_server.specs.HearingPeers.{SaysBeat}
use Rattle.dots_server.proofs.HearingPeers.{agrees}
use Rattle.dots_server.specs.ServerValues.{ServerValue, Represents, RepresentsWith, RestartsWith, IsServing}
use Rattle.dots_server.specs.Signals.{passing, watched_domain, signals, loss_in_row, loss_at, with_turn}
use Rattle.dots_server.proofs.LostSignals.{passing_all, passing_none, loss_found, watched_found}

pub place_same : (place : ℕ) (f g : PeerContact → PeerContact) (rows : List PeerContact) → ((row : PeerContact) → slice_get rows place ≡ Some row → f row ≡ g row) → with_place place f rows ≡ with_place place g rows
place_same place f g [] same = refl
place_same zero f g (row ∷ rows) same = ap (λ r. r ∷ rows) (same row refl)
place_same (suc place) f g (row ∷ rows) same = ap (λ rs. row ∷ rs) (place_same place f g rows (λ r there. same r there))

-- ---- the row

module _ (settings : SettingsValue) (t : ℕ) (history : List Entry) (row : PeerContact) where
  watched_peer : (b : Bool) → (row_watched b t row).peer ≡ row.peer
  watched_peer true = begun_peer t row
  watched_peer false = refl

  turned_is : (watched : Bool) (by : ℕ × ℕ) → watched ≡ is_watched settings t history row.peer → by ≡ beating_at settings t history row.peer → row_turned watched by t row ≡ row_lapsed settings t history row
  turned_is watched by watched_so by_so =
      ap (λ b. row_turned b by t row) watched_so ∙ ap (λ beat. row_turned (is_watched settings t history row.peer) beat t row) by_so ∙ by_watch (is_watched settings t history row.peer)
    where
      by_watch : (b : Bool) → row_turned b (beating_at settings t history row.peer) t row ≡ without_lost (beating_at settings t history) t (if b then row_begun t row else row)
      by_watch b =
          ap
          (λ p. if lost_in (beating_at settings t history p) t (session_of (row_watched b t row)) then row_forgotten (row_watched b t row) else row_watched b t row)
          (sym (watched_peer b))

  not_yet : (n : ℕ) → nat_lt (t + n) t ≡ false
  not_yet n = grind (arith, nat_tests)

  never : (b c : Bool) → c ≡ false → b && c ≡ false
  never true c is = is
  never false c is = refl

  -- the session of a peer that is watched is lost where the peer was silent
  lost_silent : (by : ℕ × ℕ) → lost_in by t (session_of (row_begun t row)) ≡ is_silent by t (last_heard row).heard
  lost_silent by = by_session (session_of row) refl
    where
      by_session : (o : Option Session) → session_of row ≡ o → lost_in by t (session_of (if is_some o then row else row_heard t row)) ≡ is_silent by t (option_map heard_at o)
      by_session None at =
          ap (λ o. is_lost by t (session_heard t o)) at ∙ never (nat_lt 0 by.0) (nat_lt (t + by.0 * by.1) t) (not_yet (by.0 * by.1))
      by_session (Some session) at = ap (lost_in by t) at

  -- what is kept of it
  loss_is : (domain : Option ℕ) (lost : Bool) (by : ℕ × ℕ) → domain ≡ watched_domain settings t history row.peer → by ≡ beating_at settings t history row.peer → lost ≡ turn_loses (is_some domain) by t row
      → signals t row.peer change.Lost (if lost then domain else None) ≡ loss_of settings t history (last_heard row)
  loss_is domain lost by found by_so lost_so =
      by_domain domain lost_so
      ∙ ap (λ o. if silent by then signals t row.peer change.Lost o else []) found
      ∙ ap (λ es. if silent by then es else []) (sym (loss_found settings t history row.peer))
      ∙ ap (λ beat. if silent beat then loss_in t history row.peer (own_domain settings row.peer) else []) by_so
    where
      silent : ℕ × ℕ → Bool
      silent beat = is_silent beat t (last_heard row).heard

      nothing : List Entry
      nothing = []

      either : (b : Bool) → nothing ≡ (if b then nothing else nothing)
      either true = refl
      either false = refl

      none_is : (b : Bool) → signals t row.peer change.Lost (if b then None else None) ≡ nothing
      none_is true = refl
      none_is false = refl

      some_is : (d : ℕ) (b : Bool) → signals t row.peer change.Lost (if b then Some d else None) ≡ (if b then signals t row.peer change.Lost (Some d) else [])
      some_is d true = refl
      some_is d false = refl

      by_domain : (o : Option ℕ) → lost ≡ turn_loses (is_some o) by t row
          → signals t row.peer change.Lost (if lost then o else None) ≡ (if silent by then signals t row.peer change.Lost o else [])
      by_domain None at = none_is lost ∙ either (silent by)
      by_domain (Some d) at = ap (λ b. signals t row.peer change.Lost (if b then Some d else None)) (at ∙ lost_silent by) ∙ some_is d (silent by)

passing_if : (b : Bool) (o : Option ℕ) → passing (λ _. b) o ≡ (if b then o else None)
passing_if true o = sym (passing_all o)
passing_if false o = sym (passing_none o)

-- ---- the row at a place

module _ (settings : SettingsValue) (state : State) (place peer : ℕ) (there : option_map row_peer (slice_get state.contacts place) ≡ Some peer)
    (domain : Option ℕ) (by : ℕ × ℕ) (found : domain ≡ watched_domain settings state.time state.history peer) (by_so : by ≡ beating_at settings state.time state.history peer) where
  peer_is : (row : PeerContact) → slice_get state.contacts place ≡ Some row → row.peer ≡ peer
  peer_is row at = same_Some row.peer peer (ap (option_map row_peer) (sym at) ∙ there)

  pub turn_is : with_place place (row_turned (is_some domain) by state.time) state.contacts ≡ (with_turn settings place state).contacts
  turn_is =
      place_same place (row_turned (is_some domain) by state.time) (row_lapsed settings state.time state.history) state.contacts (λ row at.
      let is = peer_is row at in
      turned_is settings state.time state.history row (is_some domain) by
      (ap is_some found ∙ sym (watched_found settings state.time state.history peer) ∙ ap (is_watched settings state.time state.history) (sym is))
      (by_so ∙ ap (beating_at settings state.time state.history) (sym is)))

  pub loss_at_is : (lost : Bool) → option_map (turn_loses (is_some domain) by state.time) (slice_get state.contacts place) ≡ Some lost
      → signals state.time peer change.Lost (passing (λ _. lost) domain) ≡ loss_at settings place state
  loss_at_is lost is = ap (signals state.time peer change.Lost) (passing_if lost domain) ∙ by_row (slice_get state.contacts place) refl
    where
      by_row : (o : Option PeerContact) → slice_get state.contacts place ≡ o → signals state.time peer change.Lost (if lost then domain else None) ≡ loss_in_row settings state.time state.history o
      by_row None at = absurd (cc (there, at))
      by_row (Some row) at =
          let here = peer_is row at in
          ap (λ p. signals state.time p change.Lost (if lost then domain else None)) (sym here)
          ∙ loss_is settings state.time state.history row domain lost by (found ∙ ap (watched_domain settings state.time state.history) (sym here))
          (by_so ∙ ap (beating_at settings state.time state.history) (sym here))
          (same_Some lost (turn_loses (is_some domain) by state.time row) (sym is ∙ ap (option_map (turn_loses (is_some domain) by state.time)) at))

-- ---- a server with other sessions

module _ (old : ServerValue) (rows : List PeerContact) where
  abbrev pub with_sessions : ServerValue
  with_sessions = record old { watch = record old.watch { sessions = rows } }

  sessions_represents : (settings : SettingsValue) (state : State) (entries : List Entry) → RepresentsWith old settings state entries → RepresentsWith with_sessions settings (record state { contacts = rows }) entries
  sessions_represents settings state entries represents =
      let of = represents.represents in record {
        represents = record {
          settings_are = of.settings_are;
          is_of = of.is_of;
          registry = of.registry;
          time_is = of.time_is;
          observers = of.observers;
          contacts = refl;
          lines = of.lines;
          early = of.early;
          own = of.own;
          bounded = of.bounded;
          limits = of.limits;
        };
        ledger = represents.ledger;
        slots = represents.slots;
      }

  pub sessions_restarts : (settings : SettingsValue) (state : State) (entries : List Entry) → RestartsWith old settings state entries → RestartsWith with_sessions settings (record state { contacts = rows }) entries
  sessions_restarts settings state entries kept = record { represents = sessions_represents settings state entries kept.represents; rests = kept.rests }

  pub sessions_live : IsServing old → IsServing with_sessions
  sessions_live serving = record {
    state = record serving.state { contacts = rows };
    entries = serving.entries;
    represents = sessions_represents old.settings serving.state serving.entries serving.represents;
    notified = serving.notified;
    rows = serving.rows;
    apart = serving.apart;
  }

-- what a server of this state says of a peer's heartbeats
pub beat_there : (server : ServerValue) (settings : SettingsValue) (state : State) → Represents server settings state → (tables : RegistryValue) (peer : ℕ) (by : ℕ × ℕ) → tables ≡ server.registry
    → SaysBeat server.settings tables peer by → by ≡ beating_at settings state.time state.history peer
beat_there server settings state represents tables peer by are says =
    agrees server settings state represents peer by (subst (λ t. SaysBeat server.settings t peer by) are says)
