-- A ledger goes on to represent a history.
use Rattle.std.proofs.Common.{◌≡◌, ℕ, ◌+◌, ◌≤◌, true, ◌&&◌, List, [], ◌∷◌, ◌++◌, length, map, refl, sym, ap, subst, ◌∙◌, le_refl, arith}
use Rattle.std.specs.Prelude.{nat_le}
use Rattle.std.proofs.lemmas.Bool.{and_parts, and_from, leb-true}
use Rattle.dots_settings.specs.Settings.{SettingsValue}
use Rattle.dots_settings.specs.declared.limits.Limits.{Limits}
use Rattle.dots_history.specs.declared.entry.Entry.{Entry}
use Rattle.dots_history.specs.Bounds.{within_bounds}
use Rattle.dots_history.specs.Histories.{View, Kept, Calm, mitigations}
use Rattle.dots_history.specs.Keeping.{kept}
use Rattle.dots_history.specs.Capacities.{Capacities, most_named}
use Rattle.dots_history.specs.Calm.{came_rightly, numbers_from}
use Rattle.dots_history.specs.Fits.{fits, joins, is_calm, has_one_peer, last_time}
use Rattle.dots_history.proofs.CalmCuts.{calm_more, calm_at_end, named_is_calm}
use Rattle.dots_history.proofs.Composing.{kept_trans, kept_later, kept_more}
use Rattle.dots_history.proofs.ViewLemmas.{dropping}
use Rattle.held_resources.specs.Tables.{Sizes, sizes_of}
use Rattle.coap_exchange.specs.declared.pair.Pair.{Pair}
use Rattle.coap_exchange.specs.Pairs.{pairs_of}
use Rattle.coap_exchange.specs.Rings.{RingValue}
use Rattle.dots_history.specs.Filed.{Filed, entry_of}
use Rattle.dots_registry.specs.Kept.{filed}
use Rattle.dots_registry.proofs.Numbering.{filed_entries, filed_more}
use Rattle.dots_registry.specs.RegistryValues.{RegistryValue, IsOf, time_of, limits_of, number_remembered, pair_of}
use Rattle.dots_registry.specs.RegistryValues as registry
use Rattle.dots_registry.specs.Filed.{RepresentsFiled, actor_of, most_kept}
use Rattle.dots_registry.specs.Fitting.{FitsIn, fits_now, fits_then}
use Rattle.dots_registry.proofs.Conditions.{same_fits}
use Rattle.slot_store.specs.StoreValues.{JournalValue}
use Rattle.dots_registry.specs.LedgerValues.{LedgerValue, Represents, joins_at}

-- ---- how many slots a compaction keeps is by the settings

abbrev pub pair_actor : Pair → ℕ × ℕ
pair_actor pair = (pair.peer, pair.domain)

abbrev pub capacities : List (ℕ × ℕ) → Sizes → Limits → Capacities
capacities actors sizes limits = record {
  actors = actors;
  peers = sizes.peers;
  domains = numbers_from 0 sizes.domains;
  losers = sizes.own;
  mitigations = limits.domain_mitigations;
  clients = limits.clients;
  aliases = limits.aliases;
  acls = limits.acls;
}

abbrev pub most_by : SettingsValue → ℕ
most_by settings = most_named (capacities (map pair_actor (pairs_of settings)) (sizes_of settings) settings.limits) settings.limits.remembered

actors_are : (rings : List RingValue) → map actor_of rings ≡ map pair_actor (map pair_of rings)
actors_are [] = refl
actors_are (ring ∷ rings) = ap (λ (actors : List (ℕ × ℕ)). (ring.pair.peer, ring.pair.domain) ∷ actors) (actors_are rings)

pub most_is : (settings : SettingsValue) (r : RegistryValue) → IsOf settings r → most_kept r ≡ most_by settings
most_is settings r is_of =
    ap (λ (actors : List (ℕ × ℕ)). most_named (capacities actors r.held.sizes r.live.limits) r.live.limits.remembered) (actors_are r.rings ∙ ap (map pair_actor) is_of.pairs)
    ∙ ap (λ (s : Sizes). most_named (capacities (map pair_actor (pairs_of settings)) s r.live.limits) r.live.limits.remembered) is_of.sizes
    ∙ ap (λ (l : Limits). most_named (capacities (map pair_actor (pairs_of settings)) (sizes_of settings) l) l.remembered) is_of.limits

pub most_same : (settings : SettingsValue) (old new : RegistryValue) → IsOf settings old → IsOf settings new → most_kept new ≡ most_kept old
most_same settings old new is_of still = most_is settings new still ∙ sym (most_is settings old is_of)

pub number_same : (settings : SettingsValue) (old new : RegistryValue) → IsOf settings old → IsOf settings new → number_remembered new ≡ number_remembered old
number_same settings old new is_of still = ap (λ (l : Limits). l.remembered) (still.limits ∙ sym is_of.limits)

-- ---- time

pub represents_later : (now : ℕ) (old new : LedgerValue) → new.journal ≡ old.journal → time_of old.registry ≤ now → time_of new.registry ≡ now
    → ((entries : List Entry) → registry.Represents old.registry entries → registry.Represents new.registry entries)
    → ((all : List Filed) → RepresentsFiled old.registry all → RepresentsFiled new.registry all)
    → ((settings : SettingsValue) → IsOf settings old.registry → IsOf settings new.registry)
    → (settings : SettingsValue) (history entries : List Entry) → Represents old settings history entries → Represents new settings history entries
represents_later now old new same less at stand file keep settings history entries represents =
    let number = number_same settings old.registry new.registry represents.is_of (keep settings represents.is_of) in
    let most = most_same settings old.registry new.registry represents.is_of (keep settings represents.is_of) in
    let free = represents.free in
    let slots = ap (λ (j : JournalValue). j.slots) same in
    record {
      is_of = keep settings represents.is_of;
      registry = stand history represents.registry;
      represents_filed = file (filed entries) represents.represents_filed;
      calm = represents.calm;
      kept = subst
          (λ n. Kept n (time_of new.registry) entries history)
          (sym number)
          (subst
          (λ t. Kept (number_remembered old.registry) t entries history)
          (sym at)
          (kept_later (number_remembered old.registry) (time_of old.registry) now entries history less represents.kept));
      used = ap (λ (j : JournalValue). j.used) same ∙ represents.used;
      free = omega (arith, most, free, slots);
    }

-- ---- what joins the history joins the entries

abbrev pub JoinsParts : SettingsValue → ℕ → List Entry → Entry → Type 0
JoinsParts settings t history e = (within_bounds e ≡ true) × (nat_le t e.time ≡ true) × (fits settings history e ≡ true) × (came_rightly e ≡ true)
    × (has_one_peer e (mitigations e.time history) ≡ true)

pub joins_parts : (settings : SettingsValue) (t : ℕ) (history : List Entry) (e : Entry) → joins_at settings t history e ≡ true → JoinsParts settings t history e
joins_parts settings t history e is =
    let front = and_parts (within_bounds e) (nat_le t e.time && joins settings history e) is in
    let back = and_parts (nat_le t e.time) (joins settings history e) front.1 in
    let both = and_parts (fits settings history e) (came_rightly e && has_one_peer e (mitigations e.time history)) back.1 in
    let more = and_parts (came_rightly e) (has_one_peer e (mitigations e.time history)) both.1 in
    (front.0, back.0, both.0, more.0, more.1)

fits_then_of : (settings : SettingsValue) (r : RegistryValue) (history : List Entry) (e : Entry) → JoinsParts settings (time_of r) history e
    → fits_now settings r history e ≡ true
fits_then_of settings r history e parts =
    and_from (within_bounds e) (fits_then settings r history e) parts.0 (and_from (nat_le (time_of r) e.time) (fits settings history e) parts.1 parts.2)

pub fits_in : (ledger : LedgerValue) (settings : SettingsValue) (history entries : List Entry) (e : Entry) → Represents ledger settings history entries
    → joins_at settings (time_of ledger.registry) history e ≡ true → FitsIn ledger.registry e
fits_in ledger settings history entries e represents joins = record {
  settings = settings;
  entries = history;
  is_of = represents.is_of;
  represents = represents.registry;
  fits = fits_then_of settings ledger.registry history e (joins_parts settings (time_of ledger.registry) history e joins);
}

-- the registry represents the entries
represents_entries : (ledger : LedgerValue) (settings : SettingsValue) (history entries : List Entry) → Represents ledger settings history entries
    → registry.Represents ledger.registry entries
represents_entries ledger settings history entries represents = subst (registry.Represents ledger.registry) (filed_entries entries) represents.represents_filed.represents

pub joins_entries : (ledger : LedgerValue) (settings : SettingsValue) (history entries : List Entry) (e : Entry) → Represents ledger settings history entries
    → joins_at settings (time_of ledger.registry) history e ≡ true → joins settings entries e ≡ true
joins_entries ledger settings history entries e represents joins_so =
    let r = ledger.registry in
    let parts = joins_parts settings (time_of r) history e joins_so in
    let now : fits_now settings r entries e ≡ true =
    same_fits settings r entries history e represents.is_of (represents_entries ledger settings history entries represents) represents.registry
    ∙ fits_then_of settings r history e parts in
    let later = kept_later (number_remembered r) (time_of r) e.time entries history (leb-true (time_of r) e.time parts.1) represents.kept in
    let live : mitigations e.time entries ≡ mitigations e.time history = ap (λ (v : View). v.mitigations) later.same_view in
    let own = and_parts (within_bounds e) (fits_then settings r entries e) now in
    and_from
    (fits settings entries e)
    (came_rightly e && has_one_peer e (mitigations e.time entries))
    (and_parts (nat_le (time_of r) e.time) (fits settings entries e) own.1).1
    (and_from (came_rightly e) (has_one_peer e (mitigations e.time entries)) parts.3 (ap (has_one_peer e) live ∙ parts.4))

-- ---- one more entry

pub kept_with : (n t : ℕ) (e : Entry) (few all : List Entry) → t ≤ e.time → Kept n t few all → Kept n e.time (few ++ e ∷ []) (all ++ e ∷ [])
kept_with n t e few all less is = kept_more n t e.time few all (e ∷ []) is (less, le_refl e.time)

pub later_of : (settings : SettingsValue) (t : ℕ) (history : List Entry) (e : Entry) → joins_at settings t history e ≡ true → t ≤ e.time
later_of settings t history e joins = leb-true t e.time (joins_parts settings t history e joins).1

pub represents_more : (slot : ℕ) (e : Entry) (old new : LedgerValue) → new.journal.used ≡ old.journal.used + 1 → new.journal.slots ≡ old.journal.slots
    → slot ≡ old.journal.used → time_of new.registry ≡ e.time
    → ((entries : List Entry) → registry.Represents old.registry entries → registry.Represents new.registry (entries ++ e ∷ []))
    → ((all : List Filed) → RepresentsFiled old.registry all → RepresentsFiled new.registry (all ++ record { entry = e; slot = slot } ∷ []))
    → ((settings : SettingsValue) → IsOf settings old.registry → IsOf settings new.registry)
    → (settings : SettingsValue) (history entries : List Entry) → Represents old settings history entries → joins_at settings (time_of old.registry) history e ≡ true
    → Represents new settings (history ++ e ∷ []) (entries ++ e ∷ [])
represents_more slot e old new used slots at time stand file keep settings history entries represents joins =
    let number = number_same settings old.registry new.registry represents.is_of (keep settings represents.is_of) in
    let most = most_same settings old.registry new.registry represents.is_of (keep settings represents.is_of) in
    let free = represents.free in
    let less = later_of settings (time_of old.registry) history e joins in
    let before = represents.used in
    let one = length_more entries e in
    record {
      is_of = keep settings represents.is_of;
      registry = stand history represents.registry;
      represents_filed = subst
          (RepresentsFiled new.registry)
          (ap (λ (k : ℕ). filed entries ++ record { entry = e; slot = k } ∷ []) (at ∙ represents.used) ∙ sym (filed_more entries e))
          (file (filed entries) represents.represents_filed);
      calm = calm_more settings entries e represents.calm (joins_entries old settings history entries e represents joins);
      kept = subst
          (λ n. Kept n (time_of new.registry) (entries ++ e ∷ []) (history ++ e ∷ []))
          (sym number)
          (subst
          (λ t. Kept (number_remembered old.registry) t (entries ++ e ∷ []) (history ++ e ∷ []))
          (sym time)
          (kept_with (number_remembered old.registry) (time_of old.registry) e entries history less represents.kept));
      used = omega (arith, used, before, one);
      free = omega (arith, most, free, slots);
    }
  where
    length_more : (xs : List Entry) (x : Entry) → length (xs ++ x ∷ []) ≡ length xs + 1
    length_more [] x = omega arith
    length_more (y ∷ xs) x = let rest = length_more xs x in omega (arith, rest)

-- ---- a compaction

calm_of : (settings : SettingsValue) (entries : List Entry) → is_calm settings entries ≡ true → Calm entries
calm_of settings entries calm = (calm_at_end settings (last_time entries) entries calm (le_refl (last_time entries))).peers

pub kept_again : (ledger : LedgerValue) (settings : SettingsValue) (history entries : List Entry) → Represents ledger settings history entries
    → Kept (number_remembered ledger.registry) (time_of ledger.registry) (kept (number_remembered ledger.registry) (time_of ledger.registry) entries) history
kept_again ledger settings history entries represents =
    let n = number_remembered ledger.registry in
    let t = time_of ledger.registry in
    kept_trans
    n
    t
    (kept n t entries)
    entries
    history
    (dropping n t entries (represents_entries ledger settings history entries represents).live.in_order (calm_of settings entries represents.calm))
    represents.kept

pub represents_compacted : (keep : List ℕ) (old new : LedgerValue) → new.journal.used ≡ length keep → new.journal.slots ≡ old.journal.slots
    → time_of new.registry ≡ time_of old.registry
    → ((entries : List Entry) → registry.Represents old.registry entries → registry.Represents new.registry entries)
    → ((es : List Entry) → RepresentsFiled old.registry (filed es) → Calm (map entry_of (filed es))
    → RepresentsFiled new.registry (filed (kept (number_remembered old.registry) (time_of old.registry) (map entry_of (filed es)))))
    → ((settings : SettingsValue) → IsOf settings old.registry → IsOf settings new.registry)
    → (settings : SettingsValue) (history entries : List Entry) → length keep ≡ length (kept (number_remembered old.registry) (time_of old.registry) entries)
    → Represents old settings history entries
    → Represents new settings history (kept (number_remembered old.registry) (time_of old.registry) entries)
represents_compacted keep old new used slots time stand file still settings history entries many represents =
    let n = number_remembered old.registry in
    let t = time_of old.registry in
    let few = kept n t entries in
    let number = number_same settings old.registry new.registry represents.is_of (still settings represents.is_of) in
    let most = most_same settings old.registry new.registry represents.is_of (still settings represents.is_of) in
    let free = represents.free in
    record {
      is_of = still settings represents.is_of;
      registry = stand history represents.registry;
      represents_filed = subst
          (λ es. RepresentsFiled new.registry (filed (kept n t es)))
          (filed_entries entries)
          (file entries represents.represents_filed (subst Calm (sym (filed_entries entries)) (calm_of settings entries represents.calm)));
      calm = named_is_calm settings n t entries represents.calm;
      kept = subst
          (λ k. Kept k (time_of new.registry) few history)
          (sym number)
          (subst (λ u. Kept n u few history) (sym time) (kept_again old settings history entries represents));
      used = used ∙ many;
      free = omega (arith, most, free, slots);
    }
