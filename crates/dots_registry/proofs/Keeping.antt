-- A registry represents each part of a history that has its view, and nothing of it is left open.
use Rattle.std.proofs.Common.{◌≡◌, ℕ, ◌<◌, ◌≤◌, true, List, [], ◌∷◌, map, filter, inl, inr, sym, ap, ◌∙◌, subst, arith}
use Rattle.std.specs.List.{list_all}
use Rattle.dots_settings.specs.Settings.{SettingsValue}
use Rattle.dots_settings.specs.declared.limits.Limits.{Limits}
use Rattle.dots_history.specs.declared.entry.Entry.{Entry}
use Rattle.dots_history.specs.Entries.{signals}
use Rattle.dots_history.specs.Histories.{View, Within, IsPart, Kept, Calm, mitigations, recent, alone}
use Rattle.dots_history.specs.Keeping.{kept}
use Rattle.dots_history.proofs.Remembering.{recent_are_lasts}
use Rattle.dots_history.specs.Tables.{bare, bare_mitigation, ring}
use Rattle.dots_history.specs.Views.{mitigations_of}
use Rattle.dots_history.proofs.Apart.{apart}
use Rattle.dots_history.proofs.Bare.{bare_mitigations}
use Rattle.dots_history.specs.Calm.{is_own}
use Rattle.dots_history.specs.Containing.{scrubs_inside, lists_inside}
use Rattle.dots_history.proofs.Containing.{scrub_rows_inside, acl_rows_inside}
use Rattle.dots_history.proofs.Parts.{part_list_all}
use Rattle.dots_history.proofs.ViewLemmas.{dropping}
use Rattle.live_mitigations.specs.LiveValues.{LiveValue, rows_for, is_inside}
use Rattle.live_mitigations.specs.LiveValues as lives
use Rattle.held_resources.specs.Tables.{Have, SameButSlots}
use Rattle.held_resources.proofs.HistoryTables.{one_value}
use Rattle.coap_exchange.specs.Rings.{RingValue, messages_of, reply_to}
use Rattle.coap_exchange.specs.Noting.{Remembers, AllRemember, said_by_entry}
use Rattle.dots_history.specs.Rows.{plain_rows, acl_rows}
use Rattle.installed_filters.proofs.HistoryRows.{rows_same}
use Rattle.installed_filters.proofs.Limits.{limits_same}
use Rattle.dots_registry.specs.RegistryValues.{RegistryValue, Represents, SameSize, time_of, number_remembered, has_ring}
use Rattle.dots_registry.proofs.Rings.{replies}

-- ---- the times of a part

low_high : (low high : ℕ) (xs : List Entry) → Within low xs high → low ≤ high
low_high low high [] is = is
low_high low high (x ∷ xs) is = let here = is.0 in let rest = low_high x.time high xs is.1 in omega (arith, here, rest)

lower : (less low high : ℕ) (xs : List Entry) → less ≤ low → Within low xs high → Within less xs high
lower less low high [] below is = omega (arith, below, is)
lower less low high (x ∷ xs) below is = let here = is.0 in (omega (arith, below, here), is.1)

within_part : (low high : ℕ) (few all : List Entry) → IsPart few all → Within low all high → Within low few high
within_part low high [] all part is = low_high low high all is
within_part low high (x ∷ few) [] part is = absurd part
within_part low high (x ∷ few) (y ∷ all) (inl same) is =
    subst (λ (z : Entry). Within low (z ∷ few) high) (sym same.0) (is.0, within_part y.time high few all same.1 is.1)
within_part low high (x ∷ few) (y ∷ all) (inr part) is = within_part low high (x ∷ few) all part (lower low y.time high all is.0 is.1)

-- ---- by the view

alone_by_all : (t domain : ℕ) (entries : List Entry)
    → mitigations t (alone domain (map bare entries)) ≡ mitigations_of domain (map bare_mitigation (mitigations t entries))
alone_by_all t domain entries = apart domain t (map bare entries) ∙ ap (mitigations_of domain) (bare_mitigations t entries)

ring_by_recent : (n peer domain : ℕ) (few all : List Entry) → recent n few ≡ recent n all → ring n peer domain few ≡ ring n peer domain all
ring_by_recent n peer domain few all same =
    sym (recent_are_lasts n peer domain few) ∙ ap (filter (signals peer domain)) same ∙ recent_are_lasts n peer domain all

live_part : (live : LiveValue) (few all : List Entry) → IsPart few all → mitigations live.time few ≡ mitigations live.time all → lives.Represents live all
    → lives.Represents live few
live_part live few all part same represents = record {
  in_order = within_part 0 live.time few all part represents.in_order;
  inside = part_list_all (is_inside live.domains) few all part represents.inside;
  are_tables = represents.are_tables;
  rows = λ domain within.
      represents.rows domain within
      ∙ alone_by_all live.time domain all
      ∙ ap (λ ms. mitigations_of domain (map bare_mitigation ms)) (sym same)
      ∙ sym (alone_by_all live.time domain few);
}

remember_part : (n : ℕ) (rings : List RingValue) (few all : List Entry) → recent n few ≡ recent n all → AllRemember n rings all → AllRemember n rings few
remember_part n rings few all same remembers = λ peer domain r there.
    let is : Remembers n all peer domain r = remembers peer domain r there in
    record { room = is.room; messages = is.messages ∙ ap (map said_by_entry) (sym (ring_by_recent n peer domain few all same)) }

pub part_represents : (registry : RegistryValue) (few all : List Entry) → Kept (number_remembered registry) (time_of registry) few all → Represents registry all
    → Represents registry few
part_represents registry few all same represents = record {
  live = live_part registry.live few all same.is_part (ap (λ (v : View). v.mitigations) same.same_view) represents.live;
  held = subst (Have registry.held) (sym (ap (λ (v : View). v.held) same.same_view)) represents.held;
  remembered = remember_part (number_remembered registry) registry.rings few all (ap (λ (v : View). v.recent) same.same_view) represents.remembered;
  signalled = part_list_all (has_ring registry.rings) few all same.is_part represents.signalled;
  filters = rows_same
      registry.filters
      (time_of registry)
      few
      all
      (ap (λ (v : View). v.mitigations) same.same_view)
      (ap (λ (v : View). v.held) same.same_view)
      represents.filters;
  limits = limits_same
      registry.live.limits
      (time_of registry)
      few
      all
      (ap (λ (v : View). v.mitigations) same.same_view)
      (ap (λ (v : View). v.held) same.same_view)
      represents.limits;
}

pub named_represents : (registry : RegistryValue) (entries : List Entry) → Calm entries → Represents registry entries
    → Represents registry (kept (number_remembered registry) (time_of registry) entries)
named_represents registry entries calm represents =
    part_represents
    registry
    (kept (number_remembered registry) (time_of registry) entries)
    entries
    (dropping (number_remembered registry) (time_of registry) entries represents.live.in_order calm)
    represents

-- ---- one for a history

pub same_live_rows : (a b : RegistryValue) (entries : List Entry) → SameSize a b → Represents a entries → Represents b entries → (domain : ℕ) → domain < a.live.domains
    → rows_for a.live domain ≡ rows_for b.live domain
same_live_rows a b entries same of_a of_b domain within =
    of_a.live.rows domain within
    ∙ ap (λ t. mitigations t (alone domain (map bare entries))) same.time
    ∙ sym (of_b.live.rows domain (subst (λ n. domain < n) same.domains within))

pub same_things : (a b : RegistryValue) (entries : List Entry) → SameSize a b → Represents a entries → Represents b entries → SameButSlots a.held b.held
same_things a b entries same of_a of_b = one_value a.held b.held entries same.sizes of_a.held of_b.held

pub same_replies : (a b : RegistryValue) (entries : List Entry) → SameSize a b → Represents a entries → Represents b entries → (now peer domain id : ℕ)
    → reply_to id now (messages_of peer domain a.rings) ≡ reply_to id now (messages_of peer domain b.rings)
same_replies a b entries same of_a of_b now peer domain id =
    replies a entries (number_remembered a) now peer domain id of_a.remembered of_a.signalled
    ∙ sym (replies
    b
    entries
    (number_remembered a)
    now
    peer
    domain
    id
    (subst (λ n. AllRemember n b.rings entries) (sym (ap (λ (l : Limits). l.remembered) same.limits)) of_b.remembered)
    of_b.signalled)

pub same_scrubs : (a b : RegistryValue) (entries : List Entry) → SameSize a b → Represents a entries → Represents b entries → a.filters.scrubs ≡ b.filters.scrubs
same_scrubs a b entries same of_a of_b =
    of_a.filters.scrubs ∙ ap (λ t. plain_rows t entries) same.time ∙ sym of_b.filters.scrubs

pub same_acls : (a b : RegistryValue) (entries : List Entry) → SameSize a b → Represents a entries → Represents b entries → a.filters.acls ≡ b.filters.acls
same_acls a b entries same of_a of_b = of_a.filters.acls ∙ ap (λ t. acl_rows t entries) same.time ∙ sym of_b.filters.acls

-- ---- inside the domains

pub scrubs_inside_domains : (settings : SettingsValue) (registry : RegistryValue) (entries : List Entry) → Represents registry entries
    → list_all (is_own settings) entries ≡ true → list_all (scrubs_inside settings) registry.filters.scrubs ≡ true
scrubs_inside_domains settings registry entries represents own =
    ap (list_all (scrubs_inside settings)) represents.filters.scrubs ∙ scrub_rows_inside settings (time_of registry) entries own

pub acls_inside_domains : (settings : SettingsValue) (registry : RegistryValue) (entries : List Entry) → Represents registry entries
    → list_all (is_own settings) entries ≡ true → list_all (lists_inside settings) registry.filters.acls ≡ true
acls_inside_domains settings registry entries represents own =
    ap (list_all (lists_inside settings)) represents.filters.acls ∙ acl_rows_inside settings (time_of registry) entries own
