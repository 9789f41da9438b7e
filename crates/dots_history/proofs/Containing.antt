-- What the rows of a history filter lies inside the domains of their clients, where its entries are the settings' own.
use Rattle.std.proofs.Common.{◌≡◌, ℕ, Bool, true, false, cond, ◌&&◌, List, [], ◌∷◌, ◌++◌, filter, map, Option, Some, None, inl, inr, refl, sym, ap, ◌∙◌}
use Rattle.std.specs.Prelude.{option_to_list, option_map}
use Rattle.std.specs.List.{list_any, list_all, flat_map}
use Rattle.std.proofs.lemmas.Bool.{false≢true, cond_both, and_parts, and_from, or_left, or_right, or_cases}
use Rattle.std.proofs.lemmas.List.{map-append}
use Rattle.std.proofs.lemmas.List.Folds.{list_all-append}
use Rattle.ip_scope.specs.declared.address.Addr.{Addr}
use Rattle.ip_scope.specs.declared.family.Family.{Family}
use Rattle.ip_scope.specs.Family.{same_family}
use Rattle.ip_scope.specs.Prefix.{PrefixValue, inside, holds}
use Rattle.acl_lists.specs.declared.ace.Ace.{Ace}
use Rattle.acl_lists.specs.declared.acl.Acl.{Acl}
use Rattle.acl_lists.specs.declared.packet.Packet.{Packet}
use Rattle.acl_lists.specs.Matching.{source_matches, destination_matches, protocol_matches, port_passes, where_given, goes_to, ace_matches}
use Rattle.acl_lists.specs.declared.rows.AclRow.{AclRow}
use Rattle.dots_settings.specs.Settings.{SettingsValue}
use Rattle.dots_history.specs.declared.entry.Entry.{Entry}
use Rattle.dots_history.specs.declared.put.Target.{Target}
use Rattle.dots_history.specs.declared.change.Change.{Change}
use Rattle.dots_history.specs.declared.change.Change.TheVariants as change
use Rattle.dots_history.specs.declared.status.Status.TheVariants.{Open}
use Rattle.dots_history.specs.Entries.{is_configuration, option_any}
use Rattle.dots_history.specs.Histories.{Mitigation, live, status, stays, is_nil, mitigations, held}
use Rattle.dots_history.specs.Rows.{Row, targets_of, rows_of, plain_row, plain_rows, acl_of, acl_row, acl_rows_of, acl_rows, list_rows}
use Rattle.dots_settings.specs.Lookups.{role_of, prefixes_of}
use Rattle.dots_history.specs.Calm.{may_act, may_configure, all_inside, destination_inside, change_inside, is_of_settings, came_rightly, is_own, acts_rightly, loses_rightly, waits_rightly}
use Rattle.dots_history.specs.Containing.{scrubs_inside, lists_inside}

-- ---- what an entry of the settings' own names lies inside its domain
abbrev targets_inside : SettingsValue → ℕ → List Target → Bool
targets_inside settings domain targets = list_all (λ (target : Target). all_inside (prefixes_of settings domain) target.prefixes) targets

put_of_change : (settings : SettingsValue) (domain : ℕ) (c : Change) (configures acts b : Bool) → is_configuration c ≡ b
    → cond b configures (acts && change_inside settings (prefixes_of settings domain) c) ≡ true → targets_inside settings domain (targets_of c) ≡ true
unfolding is_configuration
put_of_change settings domain (change.Put put) configures acts true same is = absurd (false≢true same)
put_of_change settings domain (change.Put put) configures acts false same is =
    (and_parts acts (change_inside settings (prefixes_of settings domain) (change.Put put)) is).1
put_of_change settings domain _ configures acts b same is = refl

abbrev acl_inside : SettingsValue → ℕ → Option Acl → Bool
acl_inside settings domain None = true
acl_inside settings domain (Some acl) = list_all (λ (ace : Ace). destination_inside (prefixes_of settings domain) ace.destination) acl.aces

acl_of_change : (settings : SettingsValue) (domain : ℕ) (c : Change) (configures acts b : Bool) → is_configuration c ≡ b
    → cond b configures (acts && change_inside settings (prefixes_of settings domain) c) ≡ true → acl_inside settings domain (acl_of c) ≡ true
unfolding is_configuration
acl_of_change settings domain (change.SetAcl acl) configures acts true same is = absurd (false≢true same)
acl_of_change settings domain (change.SetAcl acl) configures acts false same is =
    (and_parts acts (change_inside settings (prefixes_of settings domain) (change.SetAcl acl)) is).1
acl_of_change settings domain _ configures acts b same is = refl

put_inside : (settings : SettingsValue) (e : Entry) → is_own settings e ≡ true → targets_inside settings e.domain (targets_of e.change) ≡ true
put_inside settings e own =
    put_of_change
    settings
    e.domain
    e.change
    (is_nil e.cuid && may_configure (role_of settings e.peer) e.domain)
    (may_act settings (role_of settings e.peer) e.domain)
    (is_configuration e.change)
    refl
    (and_parts (acts_rightly settings e) (loses_rightly settings e && waits_rightly settings e) (and_parts (is_of_settings settings e) (came_rightly e) own).0).0

list_inside : (settings : SettingsValue) (e : Entry) → is_own settings e ≡ true → acl_inside settings e.domain (acl_of e.change) ≡ true
list_inside settings e own =
    acl_of_change
    settings
    e.domain
    e.change
    (is_nil e.cuid && may_configure (role_of settings e.peer) e.domain)
    (may_act settings (role_of settings e.peer) e.domain)
    (is_configuration e.change)
    refl
    (and_parts (acts_rightly settings e) (loses_rightly settings e && waits_rightly settings e) (and_parts (is_of_settings settings e) (came_rightly e) own).0).0

some_or_none : {A : Type 0} → (b : Bool) (test : A → Bool) (x : A) (rest : List A) → test x ≡ true → list_all test rest ≡ true
    → list_all test (option_to_list (cond b (Some x) None) ++ rest) ≡ true
some_or_none true test x rest passes all = and_from (test x) (list_all test rest) passes all
some_or_none false test x rest passes all = all

-- ---- scrub rows
prefixes_inside : (settings : SettingsValue) (standing : List Entry) (put : Entry) (target : Target) (prefixes : List PrefixValue)
    → all_inside (prefixes_of settings put.domain) prefixes ≡ true
    → list_all (scrubs_inside settings) (map (plain_row standing) (map (λ (p : PrefixValue). record { put = put; target = target; prefix = p }) prefixes)) ≡ true
prefixes_inside settings standing put target [] all = refl
prefixes_inside settings standing put target (p ∷ prefixes) all =
    let parts = and_parts (list_any (inside p) (prefixes_of settings put.domain)) (all_inside (prefixes_of settings put.domain) prefixes) all in
    and_from
    (list_any (inside p) (prefixes_of settings put.domain))
    (list_all (scrubs_inside settings) (map (plain_row standing) (map (λ (q : PrefixValue). record { put = put; target = target; prefix = q }) prefixes)))
    parts.0
    (prefixes_inside settings standing put target prefixes parts.1)

abbrev rows_with : Entry → List Target → List Row
rows_with put targets = flat_map (λ (target : Target). map (λ (p : PrefixValue). record { put = put; target = target; prefix = p }) target.prefixes) targets

targets_rows : (settings : SettingsValue) (standing : List Entry) (put : Entry) (targets : List Target) → targets_inside settings put.domain targets ≡ true
    → list_all (scrubs_inside settings) (map (plain_row standing) (rows_with put targets)) ≡ true
targets_rows settings standing put [] all = refl
targets_rows settings standing put (target ∷ targets) all =
    let front = map (λ (p : PrefixValue). record { put = put; target = target; prefix = p }) target.prefixes in
    let parts = and_parts (all_inside (prefixes_of settings put.domain) target.prefixes) (targets_inside settings put.domain targets) all in
    ap (list_all (scrubs_inside settings)) (map-append (plain_row standing) front (rows_with put targets))
    ∙ list_all-append (scrubs_inside settings) (map (plain_row standing) front) (map (plain_row standing) (rows_with put targets))
    ∙ and_from
    (list_all (scrubs_inside settings) (map (plain_row standing) front))
    (list_all (scrubs_inside settings) (map (plain_row standing) (rows_with put targets)))
    (prefixes_inside settings standing put target target.prefixes parts.0)
    (targets_rows settings standing put targets parts.1)

abbrev put_is_inside : SettingsValue → Mitigation → Bool
put_is_inside settings m = targets_inside settings m.put.domain (targets_of m.put.change)

live_inside : (settings : SettingsValue) (t : ℕ) (entries : List Entry) → list_all (is_own settings) entries ≡ true
    → list_all (put_is_inside settings) (mitigations t entries) ≡ true
live_inside settings t [] all = refl
live_inside settings t (e ∷ later) all =
    let parts = and_parts (is_own settings e) (list_all (is_own settings) later) all in
    some_or_none
    (live t e (status e Open later))
    (put_is_inside settings)
    (record { put = e; status = status e Open later })
    (mitigations t later)
    (put_inside settings e parts.0)
    (live_inside settings t later parts.1)

rows_in_inside : (settings : SettingsValue) (standing : List Entry) (ms : List Mitigation) → list_all (put_is_inside settings) ms ≡ true
    → list_all (scrubs_inside settings) (map (plain_row standing) (flat_map (λ (m : Mitigation). rows_of m.put) ms)) ≡ true
rows_in_inside settings standing [] all = refl
rows_in_inside settings standing (m ∷ ms) all =
    let rest = flat_map (λ (x : Mitigation). rows_of x.put) ms in
    let parts = and_parts (put_is_inside settings m) (list_all (put_is_inside settings) ms) all in
    ap (list_all (scrubs_inside settings)) (map-append (plain_row standing) (rows_of m.put) rest)
    ∙ list_all-append (scrubs_inside settings) (map (plain_row standing) (rows_of m.put)) (map (plain_row standing) rest)
    ∙ and_from
    (list_all (scrubs_inside settings) (map (plain_row standing) (rows_of m.put)))
    (list_all (scrubs_inside settings) (map (plain_row standing) rest))
    (targets_rows settings standing m.put (targets_of m.put.change) parts.0)
    (rows_in_inside settings standing ms parts.1)

pub scrub_rows_inside : (settings : SettingsValue) (t : ℕ) (entries : List Entry) → list_all (is_own settings) entries ≡ true
    → list_all (scrubs_inside settings) (plain_rows t entries) ≡ true
scrub_rows_inside settings t entries all = rows_in_inside settings (held entries) (mitigations t entries) (live_inside settings t entries all)

-- ---- list rows
held_own : (settings : SettingsValue) (entries : List Entry) → list_all (is_own settings) entries ≡ true → list_all (is_own settings) (held entries) ≡ true
held_own settings [] all = refl
held_own settings (e ∷ later) all =
    let parts = and_parts (is_own settings e) (list_all (is_own settings) later) all in
    some_or_none (stays e later) (is_own settings) e (held later) parts.0 (held_own settings later parts.1)

filter_own : (settings : SettingsValue) (keep : Entry → Bool) (es : List Entry) → list_all (is_own settings) es ≡ true
    → list_all (is_own settings) (filter keep es) ≡ true
filter_own settings keep [] all = refl
filter_own settings keep (e ∷ es) all =
    let parts = and_parts (is_own settings e) (list_all (is_own settings) es) all in
    let go = filter_own settings keep es parts.1 in
    cond_both
    (keep e)
    (e ∷ filter keep es)
    (filter keep es)
    (λ ys. list_all (is_own settings) ys ≡ true)
    (λ is. and_from (is_own settings e) (list_all (is_own settings) (filter keep es)) parts.0 go)
    (λ out. go)

row_inside : (settings : SettingsValue) (t : ℕ) (entries : List Entry) (e : Entry) (o : Option Acl) (rest : List AclRow) → acl_inside settings e.domain o ≡ true
    → list_all (lists_inside settings) rest ≡ true → list_all (lists_inside settings) (option_to_list (acl_row t entries e o) ++ rest) ≡ true
row_inside settings t entries e None rest is all = all
row_inside settings t entries e (Some acl) rest is all =
    and_from
    (list_all (λ (ace : Ace). destination_inside (prefixes_of settings e.domain) ace.destination) acl.aces)
    (list_all (lists_inside settings) rest)
    is
    all

rows_of_inside : (settings : SettingsValue) (t : ℕ) (entries es : List Entry) → list_all (is_own settings) es ≡ true
    → list_all (lists_inside settings) (acl_rows_of t entries es) ≡ true
rows_of_inside settings t entries [] all = refl
rows_of_inside settings t entries (e ∷ es) all =
    let parts = and_parts (is_own settings e) (list_all (is_own settings) es) all in
    row_inside
    settings
    t
    entries
    e
    (acl_of e.change)
    (acl_rows_of t entries es)
    (list_inside settings e parts.0)
    (rows_of_inside settings t entries es parts.1)

pub acl_rows_inside : (settings : SettingsValue) (t : ℕ) (entries : List Entry) → list_all (is_own settings) entries ≡ true
    → list_all (lists_inside settings) (acl_rows t entries) ≡ true
acl_rows_inside settings t entries all =
    rows_of_inside
    settings
    t
    entries
    (list_rows entries)
    (filter_own settings (λ (e : Entry). option_any (λ (acl : Acl). true) (acl_of e.change)) (held entries) (held_own settings entries all))

-- ---- an entry of a list without a destination
goes_inside : (domain : List PrefixValue) (family : Family) (address : Addr) → goes_to domain family address ≡ true
    → list_any (λ (prefix : PrefixValue). holds prefix address.family address.number) domain ≡ true
goes_inside [] family address is = absurd (false≢true is)
goes_inside (p ∷ domain) family address is =
    elim (or_cases (same_family p.family family && holds p address.family address.number) (goes_to domain family address) is) [
      | inl here ↦
          or_left
          (holds p address.family address.number)
          (list_any (λ (prefix : PrefixValue). holds prefix address.family address.number) domain)
          (and_parts (same_family p.family family) (holds p address.family address.number) here).1
      | inr beyond ↦
          or_right
          (holds p address.family address.number)
          (list_any (λ (prefix : PrefixValue). holds prefix address.family address.number) domain)
          (goes_inside domain family address beyond)
    ]

pub matches_inside : (acl : Acl) (ace : Ace) (domain : List PrefixValue) (packet : Packet) → ace.destination ≡ None → ace_matches acl ace domain packet ≡ true
    → list_any (λ (prefix : PrefixValue). holds prefix packet.destination.family packet.destination.number) domain ≡ true
matches_inside acl ace domain packet none is =
    let source = source_matches ace packet in
    let destination = destination_matches acl ace domain packet in
    let protocol = protocol_matches ace packet in
    let from = port_passes ace.source_port (option_map (λ ports. ports.0) packet.ports) in
    let to = port_passes ace.destination_port (option_map (λ ports. ports.1) packet.ports) in
    let four = (and_parts (((source && destination) && protocol) && from) to is).0 in
    let three = (and_parts ((source && destination) && protocol) from four).0 in
    let two = (and_parts (source && destination) protocol three).0 in
    let matches = (and_parts source destination two).1 in
    goes_inside
    domain
    acl.family
    packet.destination
    (sym (ap
    (where_given
    (λ (prefix : PrefixValue). holds prefix packet.destination.family packet.destination.number)
    (goes_to domain acl.family packet.destination))
    none)
    ∙ matches)
