-- What a server represents, as it goes on.
use Rattle.std.proofs.Common.{◌≡◌, ◌==◌, ℕ, Option, ◌<◌, ◌≤◌, ◌^◌, Bool, true, false, ◌&&◌, nat_le, nat_lt, cond, length, append-nil, List, [], ◌∷◌, ◌++◌, max, sym, ap, ◌∙◌, subst, arith}
use Rattle.std.specs.List.{list_all}
use Rattle.std.proofs.lemmas.Bool.{and_parts, and_from}
use Rattle.std.proofs.lemmas.List.Folds.{list_all-append}
use Rattle.dots_settings.specs.declared.limits.Limits.{Limits}
use Rattle.dots_settings.specs.Settings.{SettingsValue}
use Rattle.dots_history.specs.declared.entry.Entry.{Entry}
use Rattle.dots_history.specs.Bounds.{within_bounds}
use Rattle.dots_history.specs.Histories.{Kept, mitigations}
use Rattle.dots_history.specs.Calm.{is_of_settings, came_rightly, is_own}
use Rattle.dots_history.specs.Fits.{last_time, has_one_peer, fits, joins}
use Rattle.dots_history.proofs.Joining.{last_of_push}
use Rattle.dots_registry.specs.RegistryValues.{time_of, number_remembered}
use Rattle.slot_store.specs.StoreValues.{JournalValue}
use Rattle.dots_registry.specs.LedgerValues.{CanAccept, joins_at}
use Rattle.dots_registry.specs.LedgerValues as ledger
use Rattle.dots_registry.specs.Limits.{ClientsKeepLimits}
use Rattle.dots_registry.proofs.FittingEntries.{limits_later, limits_fitting}
use Rattle.dots_machine.specs.Machine.{State, later, with_entry}
use Rattle.session_core.specs.declared.watch.Watch.{Watch}
use Rattle.std.proofs.lemmas.List.Elements.{filter-append}
use Rattle.coap_observe.specs.declared.observer.Observer.{Observer}
use Rattle.coap_observe.specs.declared.due_among.DueAmong.{DueAmong}
use Rattle.coap_observe.specs.DueAmong.{includes, joined, merged, AreNotified}
use Rattle.coap_observe.specs.Seen.{list_for}
use Rattle.coap_observe.proofs.Notified.{changed_notified, merged_notified}
use Rattle.dots_history.specs.Histories.{alone}
use Rattle.dots_registry.specs.ObserverViews.{views_of}
use Rattle.conflict_rules.proofs.Alone.{views_apart}
use Rattle.dots_machine.specs.Observing.{seen_among, seen_at}
use Rattle.dots_server.proofs.Watching.{seen_same}
use Rattle.stream_table.specs.Lines.{PeerLines, AreOf}
use Rattle.stream_table.specs.Places.{AreApart}
use Rattle.dots_server.specs.ServerValues.{ServerValue, ledger_of, Represents, RepresentsWith, RestartsWith, IsServing, IsAcceptable}

-- ---- the connections are those that were

rows_still : (old new : ServerValue) → new.settings ≡ old.settings → new.lines ≡ old.lines → AreOf old.settings.peers old.lines → AreOf new.settings.peers new.lines
rows_still old new same connections rows =
    subst (λ (s : SettingsValue). AreOf s.peers new.lines) (sym same) (subst (λ (lines : List PeerLines). AreOf old.settings.peers lines) (sym connections) rows)

apart_still : (old new : ServerValue) → new.lines ≡ old.lines → AreApart old.lines → AreApart new.lines
apart_still old new connections apart = subst AreApart (sym connections) apart

-- ---- the time of the tables was moved

module _ (at : ℕ) (old new : ServerValue) (ended : DueAmong) (early : at < 2 ^ 48) (same : new.settings ≡ old.settings) (watch : new.watch ≡ record old.watch { due = merged old.watch.due ended }) (connections : new.lines ≡ old.lines) (journal : new.journal ≡ old.journal) (time : time_of new.registry ≡ max at (time_of old.registry))
    (seen : (domain : ℕ) (cuid : List ℕ) (mid : Option ℕ) → includes ended domain ≡ false → views_of new.registry domain cuid mid ≡ views_of old.registry domain cuid mid)
    (goes : (settings : SettingsValue) (history entries : List Entry) → ledger.Represents (ledger_of old) settings history entries → ledger.Represents (ledger_of new) settings history entries) where
  with_later : (settings : SettingsValue) (state : State) (entries : List Entry) → RepresentsWith old settings state entries → RepresentsWith new settings (later state at) entries
  with_later settings state entries represents =
      let tables = goes settings state.history entries represents.ledger in
      let young = represents.represents.early in record {
        represents = record {
          settings_are = same ∙ represents.represents.settings_are;
          is_of = tables.is_of;
          registry = tables.registry;
          time_is = time ∙ ap (max at) represents.represents.time_is;
          observers = ap (λ (w : Watch). w.observers) watch ∙ represents.represents.observers;
          contacts = ap (λ (w : Watch). w.sessions) watch ∙ represents.represents.contacts;
          lines = connections ∙ represents.represents.lines;
          early = omega (arith, early, young);
          own = represents.represents.own;
          bounded = represents.represents.bounded;
          limits = limits_later settings.limits state.time (max at state.time) state.history (omega arith) represents.represents.limits;
        };
        ledger = tables;
        slots = ap (λ (j : JournalValue). j.slots) journal ∙ represents.slots;
      }

  pub restarts_later : (settings : SettingsValue) (state : State) (entries : List Entry) → RestartsWith old settings state entries → RestartsWith new settings (later state at) entries
  restarts_later settings state entries kept = record { represents = with_later settings state entries kept.represents; rests = kept.rests }

  pub lives_later : IsServing old → IsServing new
  lives_later serving = record {
    state = later serving.state at;
    entries = serving.entries;
    represents = subst (λ s. RepresentsWith new s (later serving.state at) serving.entries) (sym same) (with_later old.settings serving.state serving.entries serving.represents);
    notified = subst (λ (w : Watch). AreNotified (views_of new.registry) w.due w.observers.observed) (sym watch)
        (merged_notified (views_of old.registry) (views_of new.registry) old.watch.due ended (λ o out. seen o.domain o.cuid o.mid out) old.watch.observers.observed serving.notified);
    rows = rows_still old new same connections serving.rows;
    apart = apart_still old new connections serving.apart;
  }

-- a time that isn't later changes nothing
pub restarts_still : (at : ℕ) (server : ServerValue) (settings : SettingsValue) (state : State) (entries : List Entry) → at ≤ time_of server.registry → RestartsWith server settings state entries
    → RestartsWith server settings (later state at) entries
restarts_still at server settings state entries early kept =
    let is = kept.represents.represents.time_is in
    let same : state.time ≡ max at state.time = omega (arith, early, is) in
    subst (λ t. RestartsWith server settings (record state { time = t }) entries) same kept

-- ---- an entry is taken

list_with : {A : Type 0} (test : A → Bool) (xs : List A) (x : A) → list_all test xs ≡ true → test x ≡ true → list_all test (xs ++ x ∷ []) ≡ true
list_with test xs x all one = list_all-append test xs (x ∷ []) ∙ ap (λ b. b && (test x && true)) all ∙ ap (λ b. b && true) one

pub own_with : (settings : SettingsValue) (server : ServerValue) (state : State) (entry : Entry) → Represents server settings state → IsAcceptable server entry
    → list_all (is_own settings) (with_entry state entry).history ≡ true
own_with settings server state entry represents can = list_with (is_own settings) state.history entry represents.own (can.own settings state represents)

-- an entry that can be taken joins each history that the server represents
pub joins_there : (server : ServerValue) (settings : SettingsValue) (state : State) (entry : Entry) → Represents server settings state → IsAcceptable server entry
    → joins_at settings (time_of server.registry) state.history entry ≡ true
joins_there server settings state entry represents can =
    let t = time_of server.registry in
    let bounded = and_parts (within_bounds entry) (nat_le t entry.time && fits settings state.history entry) (can.fits settings state represents) in
    let timed = and_parts (nat_le t entry.time) (fits settings state.history entry) bounded.1 in
    let own = and_parts (is_of_settings settings entry) (came_rightly entry) (can.own settings state represents) in
    and_from (within_bounds entry) (nat_le t entry.time && joins settings state.history entry) bounded.0
    (and_from (nat_le t entry.time) (joins settings state.history entry) timed.0
    (and_from (fits settings state.history entry) (came_rightly entry && has_one_peer entry (mitigations entry.time state.history)) timed.1
    (and_from (came_rightly entry) (has_one_peer entry (mitigations entry.time state.history)) own.1 (can.one_peer settings state represents))))

pub can_accept : (server : ServerValue) (entry : Entry) → IsServing server → IsAcceptable server entry → CanAccept (ledger_of server) entry
can_accept server entry serving can = record {
  settings = server.settings;
  history = serving.state.history;
  entries = serving.entries;
  represents = serving.represents.ledger;
  joins = joins_there server server.settings serving.state entry serving.represents.represents can;
}

-- what others see isn't changed by an entry of a domain
elsewhere : (settings : SettingsValue) (t : ℕ) (history : List Entry) (entry : Entry) (o : Observer) → (entry.domain == o.domain) ≡ false
    → list_for (seen_at settings t history) o ≡ list_for (seen_at settings t (history ++ entry ∷ [])) o
elsewhere settings t history entry o other =
    ap (λ views. seen_among o.mid (cond (nat_lt o.domain (length settings.domains)) views []))
    (views_apart t history (history ++ entry ∷ []) o.domain o.cuid
    (sym
    (filter-append (λ (e : Entry). e.domain == o.domain) history (entry ∷ [])
    ∙ ap (λ b. alone o.domain history ++ cond b (entry ∷ []) []) other
    ∙ append-nil (alone o.domain history))))

module _ (entry : Entry) (old new : ServerValue) (can : IsAcceptable old entry) (same : new.settings ≡ old.settings) (watch : new.watch ≡ record old.watch { due = joined old.watch.due entry.domain }) (connections : new.lines ≡ old.lines) (slots : new.journal.slots ≡ old.journal.slots) (time : time_of new.registry ≡ entry.time) where
  -- it is in the tables and on the disk
  with_entry_restarts : (settings : SettingsValue) (state : State) (entries few : List Entry) → RepresentsWith old settings state entries → ledger.Represents (ledger_of new) settings (state.history ++ entry ∷ []) few
      → RepresentsWith new settings (with_entry state entry) few
  with_entry_restarts settings state entries few represents tables =
      let fits = and_parts _ _ (can.fits settings state represents.represents) in
      let at : entry.time ≡ state.time = can.now ∙ represents.represents.time_is in record {
        represents = record {
          settings_are = same ∙ represents.represents.settings_are;
          is_of = tables.is_of;
          registry = tables.registry;
          time_is = time ∙ at;
          observers = ap (λ (w : Watch). w.observers) watch ∙ represents.represents.observers;
          contacts = ap (λ (w : Watch). w.sessions) watch ∙ represents.represents.contacts;
          lines = connections ∙ represents.represents.lines;
          early = represents.represents.early;
          own = own_with settings old state entry represents.represents can;
          bounded = list_with within_bounds state.history entry represents.represents.bounded fits.0;
          limits = subst (λ t. ClientsKeepLimits settings.limits t (state.history ++ entry ∷ [])) at
              (limits_fitting settings state.time state.history entry represents.represents.limits (omega (arith, at)) (and_parts _ _ fits.1).1);
        };
        ledger = tables;
        slots = slots ∙ represents.slots;
      }

  -- the entries have the view of the history at the entry's time, which is that of the last entry
  pub restarts_with : (settings : SettingsValue) (state : State) (entries few : List Entry) → RepresentsWith old settings state entries → ledger.Represents (ledger_of new) settings (state.history ++ entry ∷ []) few
      → RestartsWith new settings (with_entry state entry) few
  restarts_with settings state entries few represents tables = record {
    represents = with_entry_restarts settings state entries few represents tables;
    rests = subst (λ n. Kept n (last_time (state.history ++ entry ∷ [])) few (state.history ++ entry ∷ [])) (ap (λ (limits : Limits). limits.remembered) tables.is_of.limits)
        (subst (λ t. Kept (number_remembered new.registry) t few (state.history ++ entry ∷ [])) (time ∙ sym (last_of_push state.history entry)) tables.kept);
  }

  pub lives_with : (few : List Entry) → (serving : IsServing old) → ledger.Represents (ledger_of new) old.settings (serving.state.history ++ entry ∷ []) few → IsServing new
  lives_with few serving tables = record {
    state = with_entry serving.state entry;
    entries = few;
    represents = subst (λ s. RepresentsWith new s (with_entry serving.state entry) few) (sym same) here;
    notified = subst (λ (w : Watch). AreNotified (views_of new.registry) w.due w.observers.observed) (sym watch)
        (changed_notified (views_of old.registry) (views_of new.registry) old.watch.due entry.domain
        (λ o other.
        ap (λ lists. list_for lists o) (seen_same old old.settings serving.state serving.represents.represents)
        ∙ elsewhere old.settings serving.state.time serving.state.history entry o other
        ∙ ap (λ lists. list_for lists o) (sym (seen_same new old.settings (with_entry serving.state entry) here.represents)))
        old.watch.observers.observed serving.notified);
    rows = rows_still old new same connections serving.rows;
    apart = apart_still old new connections serving.apart;
  }
    where
      here : RepresentsWith new old.settings (with_entry serving.state entry) few
      here = with_entry_restarts old.settings serving.state serving.entries few serving.represents tables

-- the disk failed, and the tables are as they were
pub lives_still : (domain : ℕ) (old new : ServerValue) (few : List Entry) (serving : IsServing old) → new.settings ≡ old.settings → new.watch ≡ record old.watch { due = joined old.watch.due domain } → new.lines ≡ old.lines
    → new.journal.slots ≡ old.journal.slots → time_of new.registry ≡ time_of old.registry → ledger.Represents (ledger_of new) old.settings serving.state.history few → IsServing new
lives_still domain old new few serving same watch connections slots time tables = record {
  state = serving.state;
  entries = few;
  represents = subst (λ s. RepresentsWith new s serving.state few) (sym same) here;
  notified = subst (λ (w : Watch). AreNotified (views_of new.registry) w.due w.observers.observed) (sym watch)
      (changed_notified (views_of old.registry) (views_of new.registry) old.watch.due domain
      (λ o other. ap (λ lists. list_for lists o) (seen_same old old.settings serving.state represents.represents ∙ sym (seen_same new old.settings serving.state here.represents)))
      old.watch.observers.observed serving.notified);
  rows = rows_still old new same connections serving.rows;
  apart = apart_still old new connections serving.apart;
}
  where
    represents : RepresentsWith old old.settings serving.state serving.entries
    represents = serving.represents

    here : RepresentsWith new old.settings serving.state few
    here = record {
      represents = record {
        settings_are = same;
        is_of = tables.is_of;
        registry = tables.registry;
        time_is = time ∙ represents.represents.time_is;
        observers = ap (λ (w : Watch). w.observers) watch ∙ represents.represents.observers;
        contacts = ap (λ (w : Watch). w.sessions) watch ∙ represents.represents.contacts;
        lines = connections ∙ represents.represents.lines;
        early = represents.represents.early;
        own = represents.represents.own;
        bounded = represents.represents.bounded;
        limits = represents.represents.limits;
      };
      ledger = tables;
      slots = slots ∙ represents.slots;
    }
