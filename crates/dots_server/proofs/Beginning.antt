-- What a server represents when it begins, and when it begins anew.
use Rattle.std.proofs.Common.{◌≡◌, ℕ, ◌<◌, ◌≤◌, ◌^◌, true, List, [], ◌∷◌, map, max, Option, Some, None, refl, sym, ap, ◌∙◌, subst, arith}
use Rattle.std.specs.Prelude.{flat_map}
use Rattle.std.specs.List.{list_all, AllByRecursion}
use Rattle.std.proofs.lemmas.Bool.{and_from}
use Rattle.dots_host.specs.Media.{Media}
use Rattle.dots_host.specs.Becoming.{Leaves, RestsWith}
use Rattle.slot_store.specs.Gates.{Sees}
use Rattle.slot_store.specs.Opening.{Is}
use Rattle.dots_settings.specs.declared.limits.Limits.{Limits}
use Rattle.dots_settings.specs.Settings.{SettingsValue}
use Rattle.dots_history.specs.declared.entry.Entry.{Entry}
use Rattle.dots_history.specs.Bounds.{within_bounds}
use Rattle.dots_history.specs.Histories.{Within, Kept, View, last}
use Rattle.dots_history.specs.Fits.{last_or, last_time}
use Rattle.dots_history.proofs.Composing.{kept_refl, kept_later}
use Rattle.dots_registry.specs.RegistryValues.{time_of, number_remembered}
use Rattle.slot_store.specs.Layout.{needed_of}
use Rattle.slot_store.specs.StoreValues.{JournalValue}
use Rattle.slot_journal.specs.declared.fault.JournalFault.{JournalFault}
use Rattle.slot_journal.specs.declared.fault.JournalFault.TheVariants as faults
use Rattle.slot_journal.specs.Sizes.{slots_of}
use Rattle.slot_journal.specs.DiskEntries.{HasRecord, HasEntries}
use Rattle.slot_journal.specs.DiskEntries as journal
use Rattle.slot_journal.proofs.Crashing.{one_history, represents_has}
use Rattle.slot_journal.specs.Untaken.{RefusesLedger, IsFailure}
use Rattle.slot_journal.specs.Refused.{IsNoSize, IsSmallBy}
use Rattle.dots_registry.specs.LedgerValues.{LedgerValue}
use Rattle.dots_registry.specs.LedgerValues as ledger
use Rattle.dots_registry.proofs.Recovering.{fails_alone}
use Rattle.dots_registry.proofs.Wholes.{ledger_whole}
use Rattle.dots_registry.specs.Limits.{ClientsKeepLimits}
use Rattle.dots_registry.proofs.CalmLimits.{limits_calm, limits_whole, own_calm, early_calm}
use Rattle.session_core.specs.declared.watch.Watch.{Watch}
use Rattle.coap_observe.specs.DueAmong.{AreNotified}
use Rattle.coap_observe.specs.Observing.{ObserversValue}
use Rattle.dots_registry.specs.ObserverViews.{views_of}
use Rattle.session_core.specs.Contacts.{unheard}
use Rattle.stream_table.specs.Lines.{PeerLines, peer_in, no_lines}
use Rattle.stream_table.specs.Places.{AreApart}
use Rattle.stream_table.proofs.Apart.{apart_begun}
use Rattle.dots_machine.specs.Machine.{State, begun_from, restarted}
use Rattle.dots_server.specs.ServerValues.{ServerValue, observers_of, ledger_of, RestartsWith, IsServing}

-- ---- a server begins

-- what has a record is within bounds
bounded_by : (entries : List Entry) → AllByRecursion HasRecord entries → list_all within_bounds entries ≡ true
bounded_by [] each = refl
bounded_by (e ∷ entries) each = and_from (within_bounds e) (list_all within_bounds entries) each.0.within (bounded_by entries each.1)

module _ (settings : SettingsValue) (at : ℕ) (tables : LedgerValue) (held : List Entry) (early : at < 2 ^ 48) (represents : ledger.Represents tables settings held held)
    (time : time_of tables.registry ≡ max at (last_time held)) (slots : tables.journal.slots ≡ slots_of settings) (each : AllByRecursion HasRecord held)
    (watch : Watch) (unobserved : watch.observers ≡ observers_of settings []) (unheard_all : watch.sessions ≡ map unheard settings.peers)
    (lines : List PeerLines) (closed : lines ≡ flat_map no_lines settings.peers) where
  abbrev begun : ServerValue
  begun = record { settings = settings; registry = tables.registry; journal = tables.journal; watch = watch; lines = lines }

  pub begun_restarts : RestartsWith begun settings (restarted settings (begun_from settings held) at) held
  begun_restarts =
      let young = early_calm settings held represents.calm in record {
        represents = record {
          represents = record {
            settings_are = refl;
            is_of = represents.is_of;
            registry = represents.registry;
            time_is = time;
            observers = unobserved;
            contacts = unheard_all;
            lines = closed;
            early = omega (arith, early, young);
            own = own_calm settings held represents.calm;
            bounded = bounded_by held each;
            limits = limits_calm settings (max at (last_time held)) held represents.calm (omega arith);
          };
          ledger = represents;
          slots = slots;
        };
        rests = kept_refl settings.limits.remembered (last_time held) held;
      }

  pub begun_lives : IsServing begun
  begun_lives = record {
    state = restarted settings (begun_from settings held) at;
    entries = held;
    represents = begun_restarts.represents;
    notified = subst (λ (v : ObserversValue). AreNotified (views_of tables.registry) watch.due v.observed) (sym unobserved) tt;
    rows = ap (map peer_in) closed;
    apart = subst AreApart (sym closed) (apart_begun settings.peers);
  }

-- ---- a server begins anew

-- the time of the last entry, by the last entry
abbrev head_time : ℕ → List Entry → ℕ
head_time t [] = t
head_time t (e ∷ later) = e.time

last_at : (t : ℕ) (e : Entry) (later : List Entry) → head_time t (last (e ∷ later)) ≡ last_or e.time later
last_at t e [] = refl
last_at t e (x ∷ later) = last_at t x later

last_is : (entries : List Entry) → last_time entries ≡ head_time 0 (last entries)
last_is [] = refl
last_is (e ∷ later) = sym (last_at 0 e later)

pub same_last : (n t : ℕ) (few all : List Entry) → Kept n t few all → last_time few ≡ last_time all
same_last n t few all kept = last_is few ∙ ap (λ (v : View). head_time 0 v.last) kept.same_view ∙ sym (last_is all)

within_or : (low high : ℕ) (entries : List Entry) → Within low entries high → Within low entries (last_or low entries)
within_or low high [] within = omega arith
within_or low high (e ∷ later) within = (within.0, within_or e.time high later within.1)

within_to : (low high more : ℕ) (entries : List Entry) → high ≤ more → Within low entries high → Within low entries more
within_to low high more [] le within = omega (arith, le, within)
within_to low high more (e ∷ later) le within = (within.0, within_to e.time high more later le within.1)

-- what was kept on the disk is all that is needed of the history, whatever the time
module _ (settings : SettingsValue) (at : ℕ) (old new : ServerValue) (state : State) (entries : List Entry) (kept : RestartsWith old settings state entries) (begun_anew : RestartsWith new settings (restarted settings (begun_from settings entries) at) entries) where
  same_time : last_time entries ≡ last_time state.history
  same_time = same_last settings.limits.remembered (last_time state.history) entries state.history kept.rests

  remembers : number_remembered new.registry ≡ settings.limits.remembered
  remembers = ap (λ (limits : Limits). limits.remembered) begun_anew.represents.represents.is_of.limits

  now : time_of new.registry ≡ max at (last_time state.history)
  now = begun_anew.represents.represents.time_is ∙ ap (max at) same_time

  kept_now : Kept (number_remembered new.registry) (time_of new.registry) entries state.history
  kept_now =
      subst (λ n. Kept n (time_of new.registry) entries state.history) (sym remembers)
      (kept_later settings.limits.remembered (last_time state.history) (time_of new.registry) entries state.history (omega (arith, now)) kept.rests)

  within_now : Within 0 state.history (time_of new.registry)
  within_now =
      within_to 0 (last_time state.history) (time_of new.registry) state.history (omega (arith, now)) (within_or 0 (time_of old.registry) state.history kept.represents.represents.registry.live.in_order)

  whole : ledger.Represents (ledger_of new) settings state.history entries
  whole = ledger_whole (ledger_of new) settings entries state.history begun_anew.represents.ledger kept_now kept.represents.represents.own within_now

  pub restarted_restarts : RestartsWith new settings (restarted settings state at) entries
  restarted_restarts =
      let young = begun_anew.represents.represents.early in record {
        represents = record {
          represents = record {
            settings_are = begun_anew.represents.represents.settings_are;
            is_of = whole.is_of;
            registry = whole.registry;
            time_is = now;
            observers = begun_anew.represents.represents.observers;
            contacts = begun_anew.represents.represents.contacts;
            lines = begun_anew.represents.represents.lines;
            early = subst (λ t. max at t < 2 ^ 48) same_time young;
            own = kept.represents.represents.own;
            bounded = kept.represents.represents.bounded;
            limits = limits_whole settings.limits settings.limits.remembered (max at (last_time state.history)) entries state.history
                (kept_later settings.limits.remembered (last_time state.history) (max at (last_time state.history)) entries state.history (omega arith) kept.rests)
                (subst (λ t. ClientsKeepLimits settings.limits (max at t) entries) same_time begun_anew.represents.represents.limits);
          };
          ledger = whole;
          slots = begun_anew.represents.slots;
        };
        rests = kept.rests;
      }

-- ---- the disk

-- where the disk rests with them, a read gives them, and what is recovered is the same
pub seen_of : (media : Option Media) (P : (ℕ → ℕ) → Type 0) → RestsWith media P → (seen : ℕ → ℕ) × Sees media seen × RestsWith media (Is seen) × P seen
seen_of None P rests = absurd rests
seen_of (Some media) P rests = (media.now.seen, refl, (rests.0, refl), rests.1)

pub same_found : (settings : SettingsValue) (media : Option Media) (value : JournalValue) (entries found : List Entry) → RestsWith media (journal.Represents value settings entries)
    → ((seen : ℕ → ℕ) → Sees media seen → HasEntries settings seen found) → found ≡ entries
same_found settings media value entries found rests found_there =
    let (seen, sees, is, represents) = seen_of media (journal.Represents value settings entries) rests in
    one_history settings seen found entries (found_there seen sees) (represents_has value settings entries seen represents)

-- a disk of the size that a server needs isn't too small for its settings
pub restart_sized : (given : SettingsValue) (server : ServerValue) (extent : ℕ) (fault : JournalFault) → given ≡ server.settings → server.journal.slots ≡ slots_of server.settings
    → IsSmallBy given extent fault → needed_of server.journal.slots ≤ extent → IsNoSize fault
restart_sized given server extent (faults.TooSmall needed found) same slots small large =
    let enough = subst (λ n. needed_of n ≤ extent) (slots ∙ ap slots_of (sym same)) large in
    let all = small.0 in
    let is = small.1 in
    let less = small.2 in
    absurd (omega (arith, enough, all, is, less))
restart_sized given server extent (faults.NotOurs at) same slots small large = tt
restart_sized given server extent (faults.SettingsChanged stored was) same slots small large = tt
restart_sized given server extent faults.DiskFault same slots small large = tt
restart_sized given server extent faults.NoMemory same slots small large = tt

-- ---- a restart finds what was left, under the settings that the server had

module _ (settings given : SettingsValue) (same : given ≡ settings) (old : ServerValue) (state : State) (entries : List Entry) (kept : RestartsWith old settings state entries) (media media_new : Option Media)
    (rests : RestsWith media (journal.Represents old.journal settings entries)) where
  pub restart_moments : ((seen : ℕ → ℕ) (held : List Entry) → RestsWith media (Is seen) → HasEntries given seen held → Leaves media media_new (λ image. HasEntries given image held))
      → Leaves media media_new (λ image. HasEntries settings image entries)
  restart_moments moments =
      let (seen, sees, is, represents) = seen_of media (journal.Represents old.journal settings entries) rests in
      let holds = represents_has old.journal settings entries seen represents in
      subst (λ s. Leaves media media_new (λ image. HasEntries s image entries)) same (moments seen entries is (subst (λ s. HasEntries s seen entries) (sym same) holds))

  pub restart_fails : (extent : ℕ) (fault : JournalFault) → needed_of (slots_of settings) ≤ extent
      → ((seen : ℕ → ℕ) → Sees media seen → RefusesLedger given extent seen media_new fault) → IsFailure fault
  restart_fails extent fault size refused =
      let (seen, sees, is, represents) = seen_of media (journal.Represents old.journal settings entries) rests in
      fails_alone settings extent seen media_new entries fault (subst (λ s. RefusesLedger s extent seen media_new fault) same (refused seen sees))
      (represents_has old.journal settings entries seen represents) kept.represents.ledger.calm size

  module _ (at : ℕ) (new : ServerValue) where
    found_same : (held : List Entry) → RestartsWith new settings (restarted settings (begun_from settings held) at) held
        → ((seen : ℕ → ℕ) → Sees media seen → HasEntries settings seen held × RestsWith media_new (journal.Represents new.journal settings held))
        → RestartsWith new settings (restarted settings state at) entries × RestsWith media_new (journal.Represents new.journal settings entries)
    found_same held begun found =
        let (seen, sees, is, represents) = seen_of media (journal.Represents old.journal settings entries) rests in
        let one = same_found settings media old.journal entries held rests (λ seen sees. (found seen sees).0) in (
          restarted_restarts settings at old new state entries kept (subst (λ es. RestartsWith new settings (restarted settings (begun_from settings es) at) es) one begun),
          subst (λ es. RestsWith media_new (journal.Represents new.journal settings es)) one (found seen sees).1,
        )

    pub restart_found : (held : List Entry) → RestartsWith new given (restarted given (begun_from given held) at) held
        → ((seen : ℕ → ℕ) → Sees media seen → HasEntries given seen held × RestsWith media_new (journal.Represents new.journal given held))
        → RestartsWith new settings (restarted settings state at) entries × RestsWith media_new (journal.Represents new.journal settings entries)
    restart_found held begun found =
        found_same held (subst (λ s. RestartsWith new s (restarted s (begun_from s held) at) held) same begun)
        (subst (λ s. (seen : ℕ → ℕ) → Sees media seen → HasEntries s seen held × RestsWith media_new (journal.Represents new.journal s held)) same found)
