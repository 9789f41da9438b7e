-- A server goes on representing a state as observers come, go and are notified.
use Rattle.std.proofs.Common.{◌≡◌, inl, inr, ℕ, List, [], refl, sym, ap, ◌∙◌, subst}
use Rattle.dots_host.specs.declared.out.OwnedOut.{OwnedOut}
use Rattle.coap_exchange.specs.declared.pair.Pair.{Pair}
use Rattle.coap_observe.specs.Seen.{Lists}
use Rattle.std.specs.Prelude.{not}
use Rattle.coap_observe.specs.declared.due_among.DueAmong.{DueAmong}
use Rattle.coap_observe.specs.DueAmong.{AreNotified}
use Rattle.coap_observe.specs.Observed.{ObservedValue, is_token, had_id}
use Rattle.coap_observe.proofs.Notified.{registered_notified, filtered_notified, anybody_notified}
use Rattle.coap_observe.specs.Observing.{ObserversValue}
use Rattle.session_core.specs.declared.contact.PeerContact.{PeerContact}
use Rattle.session_core.specs.declared.watch.Watch.{Watch}
use Rattle.session_core.specs.Notifying.{Notifies, IsKnown}
use Rattle.session_core.proofs.Ordering.{pass_all}
use Rattle.dots_settings.specs.Settings.{SettingsValue}
use Rattle.dots_history.specs.declared.entry.Entry.{Entry}
use Rattle.dots_registry.specs.ObserverViews.{views_of}
use Rattle.dots_machine.specs.declared.watching.Watching.{Watching}
use Rattle.dots_machine.specs.declared.watching.Watching.TheVariants as watching
use Rattle.dots_machine.specs.Verdict.{Verdict}
use Rattle.dots_machine.specs.Observing.{bodies_at, observing}
use Rattle.dots_machine.specs.Machine.{State, seen_in, watched, Notified}
use Rattle.dots_server.specs.Observing.{changed, bodies_of}
use Rattle.dots_server.specs.ServerValues.{ServerValue, observers_of, Represents, RepresentsWith, RestartsWith, IsServing}
use Rattle.dots_server.proofs.Watching.{seen_same, bodies_same}

-- the observers and the sessions became others
module _ (old : ServerValue) (watch : Watch) (settings : SettingsValue) (state : State) (observers : List ObservedValue) (contacts : List PeerContact)
    (observers_are : watch.observers ≡ observers_of settings observers) (sessions_are : watch.sessions ≡ contacts) where
  abbrev with_watch : ServerValue
  with_watch = record old { watch = watch }

  abbrev with_notified : State
  with_notified = record state { observers = observers; contacts = contacts }

  pub watch_represents : (entries : List Entry) → RepresentsWith old settings state entries → RepresentsWith with_watch settings with_notified entries
  watch_represents entries represents =
      let of = represents.represents in record {
        represents = record {
          settings_are = of.settings_are;
          is_of = of.is_of;
          registry = of.registry;
          time_is = of.time_is;
          observers = observers_are;
          contacts = sessions_are;
          lines = of.lines;
          early = of.early;
          own = of.own;
          bounded = of.bounded;
          limits = of.limits;
        };
        ledger = represents.ledger;
        slots = represents.slots;
      }

  pub watch_restarts : (entries : List Entry) → RestartsWith old settings state entries → RestartsWith with_watch settings with_notified entries
  watch_restarts entries kept = record { represents = watch_represents entries kept.represents; rests = kept.rests }

-- what others were notified of goes on being what there is to see
still_notified : (lists : Lists) (among : DueAmong) (room peer : ℕ) (asked : Watching) (os : List ObservedValue) → AreNotified lists among os → AreNotified lists among (changed room lists peer asked os)
still_notified lists among room peer (watching.Registers observer) os notified = registered_notified lists among room observer os notified
still_notified lists among room peer (watching.Cancels token) os notified = filtered_notified lists among (λ o. not (is_token peer token o)) os notified
still_notified lists among room peer (watching.Rejects id) os notified = filtered_notified lists among (λ o. not (had_id peer id o)) os notified
still_notified lists among room peer watching.Nothing os notified = notified

-- ---- what is asked of observation is done
module _ (old : ServerValue) (peer : ℕ) (asked : Watching) where
  abbrev pub with_changed : ServerValue
  with_changed = record old {
    watch = record old.watch {
      observers = record old.watch.observers { observed = changed old.watch.observers.room (views_of old.registry) peer asked old.watch.observers.observed };
    };
  }

  changed_are : (settings : SettingsValue) (state : State) → Represents old settings state
      → with_changed.watch.observers ≡ observers_of settings (changed settings.limits.observers (seen_in settings state) peer asked state.observers)
  changed_are settings state of =
      ap (λ (v : ObserversValue). with_observed v (changed v.room (views_of old.registry) peer asked v.observed)) of.observers
      ∙ ap (λ lists. observers_of settings (changed settings.limits.observers lists peer asked state.observers)) (seen_same old settings state of)
    where
      with_observed : ObserversValue → List ObservedValue → ObserversValue
      with_observed v observed = record v { observed = observed }

  pub observed_restarts : (settings : SettingsValue) (state : State) (entries : List Entry) (said : Watching) (decided : Verdict) (replies : List OwnedOut) → RestartsWith old settings state entries
      → ((lists : Lists) → observing settings lists peer said decided replies state.observers ≡ changed settings.limits.observers lists peer asked state.observers)
      → RestartsWith with_changed settings (watched settings peer said decided replies state) entries
  observed_restarts settings state entries said decided replies kept does =
      watch_restarts old with_changed.watch settings state (observing settings (seen_in settings state) peer said decided replies state.observers) state.contacts
      (changed_are settings state kept.represents.represents ∙ ap (observers_of settings) (sym (does (seen_in settings state)))) kept.represents.represents.contacts entries kept

  pub observed_lives : IsServing old → IsServing with_changed
  observed_lives serving = record {
    state = record serving.state { observers = changed old.settings.limits.observers (seen_in old.settings serving.state) peer asked serving.state.observers };
    entries = serving.entries;
    represents = watch_represents old with_changed.watch old.settings serving.state
        (changed old.settings.limits.observers (seen_in old.settings serving.state) peer asked serving.state.observers) serving.state.contacts
        (changed_are old.settings serving.state serving.represents.represents) serving.represents.represents.contacts serving.entries serving.represents;
    notified = still_notified (views_of old.registry) old.watch.due old.watch.observers.room peer asked old.watch.observers.observed serving.notified;
    rows = serving.rows;
    apart = serving.apart;
  }

-- ---- observers are notified
module _ (old : ServerValue) (watch : Watch) (room : watch.observers.room ≡ old.watch.observers.room) (pairs : watch.observers.pairs ≡ old.watch.observers.pairs) where
  abbrev pub with_others : ServerValue
  with_others = record old { watch = watch }

  others_are : (settings : SettingsValue) (state : State) → Represents old settings state → watch.observers ≡ observers_of settings watch.observers.observed
  others_are settings state of =
      ap (λ r. made r watch.observers.pairs) (room ∙ ap (λ (v : ObserversValue). v.room) of.observers)
      ∙ ap (λ p. made settings.limits.observers p) (pairs ∙ ap (λ (v : ObserversValue). v.pairs) of.observers)
    where
      made : ℕ → List Pair → ObserversValue
      made room pairs = record { room = room; pairs = pairs; observed = watch.observers.observed }

  pub notified_restarts : (settings : SettingsValue) (state : State) (entries : List Entry) → RestartsWith old settings state entries
      → RestartsWith with_others settings (record state { observers = watch.observers.observed; contacts = watch.sessions }) entries
  notified_restarts settings state entries kept =
      watch_restarts old watch settings state watch.observers.observed watch.sessions (others_are settings state kept.represents.represents) refl entries kept

  pub notified_lives : IsKnown (views_of old.registry) watch.due watch.observers.observed → IsServing old → IsServing with_others
  notified_lives known serving = record {
    state = record serving.state { observers = watch.observers.observed; contacts = watch.sessions };
    entries = serving.entries;
    represents = watch_represents old watch old.settings serving.state watch.observers.observed watch.sessions
        (others_are old.settings serving.state serving.represents.represents) refl serving.entries serving.represents;
    notified = by_known known;
    rows = serving.rows;
    apart = serving.apart;
  }
    where
      by_known : IsKnown (views_of old.registry) watch.due watch.observers.observed → AreNotified (views_of old.registry) watch.due watch.observers.observed
      by_known (inl (is, notified)) = subst (λ among. AreNotified (views_of old.registry) among watch.observers.observed) (sym is) notified
      by_known (inr (is, one)) = subst (λ among. AreNotified (views_of old.registry) among watch.observers.observed) (sym is) (anybody_notified (views_of old.registry) watch.observers.observed)

  -- as the machine notifies them
  pub notified_so : (settings : SettingsValue) (state : State) (sends : List OwnedOut) → Represents old settings state
      → Notifies (views_of old.registry) (bodies_of old.registry) old.watch.observers.observed old.watch.sessions sends watch.observers.observed watch.sessions
      → Notified settings state sends (record state { observers = watch.observers.observed; contacts = watch.sessions })
  notified_so settings state sends of notifies = (
    watch.observers.observed,
    watch.sessions,
    subst (λ lists. Notifies lists (bodies_at settings state.time state.history) state.observers state.contacts sends watch.observers.observed watch.sessions) (seen_same old settings state of)
        (subst (λ bodies. Notifies (views_of old.registry) bodies state.observers state.contacts sends watch.observers.observed watch.sessions) (bodies_same old settings state of)
        (subst (λ (v : ObserversValue). Notifies (views_of old.registry) (bodies_of old.registry) v.observed state.contacts sends watch.observers.observed watch.sessions) of.observers
        (subst (λ contacts. Notifies (views_of old.registry) (bodies_of old.registry) old.watch.observers.observed contacts sends watch.observers.observed watch.sessions) of.contacts notifies))),
    refl,
  )

-- none is notified
pub none_notified : (settings : SettingsValue) (state : State) → Notified settings state [] state
none_notified settings state =
    (state.observers, state.contacts, pass_all (seen_in settings state) (bodies_at settings state.time state.history) state.observers state.contacts, refl)
