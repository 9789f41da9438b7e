-- A registry and a ledger that represent entries with the view of a history represent the whole history, where its entries are the
-- settings' own.
use Rattle.std.proofs.Common.{◌≡◌, ℕ, Bool, true, not, List, [], ◌∷◌, map, filter, inl, inr, refl, sym, ap, ◌∙◌, subst}
use Rattle.std.specs.Prelude.{nat_lt}
use Rattle.std.specs.List.{list_all}
use Rattle.std.proofs.lemmas.Bool.{cases_Bool, and_parts, and_from, or_left, or_right, not_from_false, lt-ltb}
use Rattle.dots_settings.specs.Settings.{SettingsValue}
use Rattle.dots_history.specs.declared.entry.Entry.{Entry}
use Rattle.dots_history.specs.Entries.{signals}
use Rattle.dots_history.specs.Histories.{View, Within, Kept, mitigations, recent, held, alone}
use Rattle.dots_history.proofs.Remembering.{recent_are_lasts}
use Rattle.dots_history.specs.Calm.{is_of_settings, came_rightly, is_own}
use Rattle.dots_history.specs.Tables.{bare, bare_mitigation, ring}
use Rattle.dots_history.specs.Views.{mitigations_of}
use Rattle.dots_history.proofs.Apart.{apart}
use Rattle.dots_history.proofs.Bare.{bare_mitigations}
use Rattle.live_mitigations.specs.LiveValues.{LiveValue, puts, is_inside}
use Rattle.live_mitigations.specs.LiveValues as lives
use Rattle.held_resources.specs.Tables.{Have}
use Rattle.coap_exchange.specs.Rings.{RingValue}
use Rattle.coap_exchange.specs.Noting.{Remembers, AllRemember, said_by_entry}
use Rattle.installed_filters.proofs.HistoryRows.{rows_same}
use Rattle.installed_filters.proofs.Limits.{limits_same}
use Rattle.dots_registry.specs.RegistryValues.{RegistryValue, IsOf, time_of, number_remembered, has_ring}
use Rattle.dots_registry.specs.RegistryValues as registry
use Rattle.dots_registry.proofs.Rings.{own_has_ring}
use Rattle.dots_registry.proofs.RegistryValues.{own_inside}
use Rattle.dots_registry.specs.LedgerValues.{LedgerValue, Represents}

-- ---- by the settings

inside_of : (settings : SettingsValue) (r : RegistryValue) (e : Entry) → IsOf settings r → is_of_settings settings e ≡ true
    → is_inside r.live.domains e ≡ true
inside_of settings r e is_of own =
    elim (cases_Bool (puts e)) [
      | inl put ↦
          or_right
          (not (puts e))
          (nat_lt e.domain r.live.domains)
          (lt-ltb e.domain r.live.domains (own_inside settings r e is_of own put))
      | inr quiet ↦ or_left (not (puts e)) (nat_lt e.domain r.live.domains) (not_from_false (puts e) quiet)
    ]

own_passes : (settings : SettingsValue) (test : Entry → Bool) → ((e : Entry) → is_of_settings settings e ≡ true → test e ≡ true)
    → (entries : List Entry) → list_all (is_own settings) entries ≡ true → list_all test entries ≡ true
own_passes settings test passes [] own = refl
own_passes settings test passes (e ∷ later) own =
    let parts = and_parts (is_own settings e) (list_all (is_own settings) later) own in
    and_from
    (test e)
    (list_all test later)
    (passes e (and_parts (is_of_settings settings e) (came_rightly e) parts.0).0)
    (own_passes settings test passes later parts.1)

-- ---- by the view

alone_by_all : (t domain : ℕ) (entries : List Entry)
    → mitigations t (alone domain (map bare entries)) ≡ mitigations_of domain (map bare_mitigation (mitigations t entries))
alone_by_all t domain entries = apart domain t (map bare entries) ∙ ap (mitigations_of domain) (bare_mitigations t entries)

same_alone : (t domain : ℕ) (few all : List Entry) → mitigations t few ≡ mitigations t all
    → mitigations t (alone domain (map bare few)) ≡ mitigations t (alone domain (map bare all))
same_alone t domain few all same =
    alone_by_all t domain few
    ∙ ap (λ ms. mitigations_of domain (map bare_mitigation ms)) same
    ∙ sym (alone_by_all t domain all)

same_ring : (n peer domain : ℕ) (few all : List Entry) → recent n few ≡ recent n all → ring n peer domain few ≡ ring n peer domain all
same_ring n peer domain few all same =
    sym (recent_are_lasts n peer domain few) ∙ ap (filter (signals peer domain)) same ∙ recent_are_lasts n peer domain all

live_whole : (live : LiveValue) (few all : List Entry) → mitigations live.time few ≡ mitigations live.time all → lives.Represents live few
    → list_all (is_inside live.domains) all ≡ true → Within 0 all live.time → lives.Represents live all
live_whole live few all same represents inside within = record {
  in_order = within;
  inside = inside;
  are_tables = represents.are_tables;
  rows = λ domain less. represents.rows domain less ∙ same_alone live.time domain few all same;
}

remember_whole : (n : ℕ) (rings : List RingValue) (few all : List Entry) → recent n few ≡ recent n all → AllRemember n rings few → AllRemember n rings all
remember_whole n rings few all same remembers = λ peer domain r there.
    let is : Remembers n few peer domain r = remembers peer domain r there in
    record { room = is.room; messages = is.messages ∙ ap (map said_by_entry) (same_ring n peer domain few all same) }

-- ---- the whole

pub registry_whole : (settings : SettingsValue) (r : RegistryValue) (few all : List Entry) → IsOf settings r → registry.Represents r few
    → Kept (number_remembered r) (time_of r) few all → list_all (is_own settings) all ≡ true → Within 0 all (time_of r) → registry.Represents r all
registry_whole settings r few all is_of represents same own within =
    let alive : mitigations (time_of r) few ≡ mitigations (time_of r) all = ap (λ (v : View). v.mitigations) same.same_view in
    let standing : held few ≡ held all = ap (λ (v : View). v.held) same.same_view in
    record {
      live = live_whole
          r.live
          few
          all
          alive
          represents.live
          (own_passes settings (is_inside r.live.domains) (λ e is. inside_of settings r e is_of is) all own)
          within;
      held = subst (Have r.held) standing represents.held;
      remembered = remember_whole (number_remembered r) r.rings few all (ap (λ (v : View). v.recent) same.same_view) represents.remembered;
      signalled = own_passes settings (has_ring r.rings) (λ e is. own_has_ring settings r e is_of is) all own;
      filters = rows_same r.filters (time_of r) all few (sym alive) (sym standing) represents.filters;
      limits = limits_same r.live.limits (time_of r) all few (sym alive) (sym standing) represents.limits;
    }

pub ledger_whole : (ledger : LedgerValue) (settings : SettingsValue) (entries history : List Entry) → Represents ledger settings entries entries
    → Kept (number_remembered ledger.registry) (time_of ledger.registry) entries history → list_all (is_own settings) history ≡ true
    → Within 0 history (time_of ledger.registry) → Represents ledger settings history entries
ledger_whole ledger settings entries history represents same own within = record {
  is_of = represents.is_of;
  registry = registry_whole settings ledger.registry entries history represents.is_of represents.registry same own within;
  represents_filed = represents.represents_filed;
  calm = represents.calm;
  kept = same;
  used = represents.used;
  free = represents.free;
}
