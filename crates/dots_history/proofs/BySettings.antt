-- Calm by the settings of a server.
use Rattle.std.proofs.Common.{◌≡◌, ℕ, ◌+◌, ◌<◌, ◌≤◌, zero, suc, Bool, true, false, cond, not, ◌&&◌, ◌||◌, List, [], ◌∷◌, map, length, Some, inl, inr, refl, sym, ap, ◌∙◌, subst, arith}
use Rattle.std.specs.Prelude.{◌==◌, nat_lt, unwrap_or}
use Rattle.std.specs.List.{list_any, list_all, find, flat_map}
use Rattle.std.specs.Option.{option_map}
use Rattle.std.proofs.lemmas.Bool.{false≢true, both_ways, cases_Bool, and_parts, and_from, or_left, or_right, eqb-true, eq-eqb, ltb-true, or_cases, not_from_true}
use Rattle.std.proofs.lemmas.List.Folds.{list_any-append}
use Rattle.dots_settings.specs.declared.peer.PeerRow.{PeerRow}
use Rattle.dots_settings.specs.declared.peer.Role.{Role}
use Rattle.dots_settings.specs.declared.peer.Role.TheVariants as role
use Rattle.dots_settings.specs.Settings.{SettingsValue}
use Rattle.dots_history.specs.declared.entry.Entry.{Entry}
use Rattle.dots_history.specs.declared.change.Change.{Change}
use Rattle.dots_history.specs.declared.change.Change.TheVariants as change
use Rattle.dots_history.specs.Entries.{same_client, is_signal, signals, is_configuration, is_lost, is_loss}
use Rattle.dots_history.specs.Histories.{Mitigation, IsPart, tally, is_nil, mitigations, held}
use Rattle.dots_history.specs.Keeping.{names, kept}
use Rattle.dots_settings.specs.Lookups.{no_domain, role_of, prefixes_of}
use Rattle.dots_history.specs.Calm.{may_act, may_configure, is_http, change_inside, is_own, numbers_from, acts_by, acts_for, capacities_of, IsCalmBy, acts_rightly, loses_rightly, waits_rightly, is_client_of, loser_by, loser_of}
use Rattle.dots_history.specs.Capacities.{Capacities, belongs, KeepsCapacities, has_client, is_registration, is_alias, is_list, most_named, belongs_there, loses_as}
use Rattle.dots_history.proofs.Touching.{as_signal}
use Rattle.dots_history.proofs.Keeping.{kept_is_part, kept_within}
use Rattle.dots_history.proofs.ViewLemmas.{kept_mitigations, kept_held}
use Rattle.dots_history.proofs.Calmness.{kept_is_calm}
use Rattle.dots_history.proofs.Bounding.{named_few}

-- a number below n is among the first n
among_numbers : (first n d : ℕ) → first ≤ d → d < first + n → list_any (λ k. d == k) (numbers_from first n) ≡ true
among_numbers first zero d low high = absurd (omega (arith, low, high))
among_numbers first (suc n) d low high =
    elim (cases_Bool (d == first)) [
      | inl here ↦ or_left (d == first) (list_any (λ k. d == k) (numbers_from (suc first) n)) here
      | inr other ↦
          let apart = not_same d first other in
          or_right
          (d == first)
          (list_any (λ k. d == k) (numbers_from (suc first) n))
          (among_numbers (suc first) n d (omega (arith, low, apart)) (omega (arith, high)))
    ]
  where
    not_same : (a b : ℕ) → (a == b) ≡ false → a ≡ b → ⊥
    not_same a b out same = both_ways (a == b) out (eq-eqb a b same)

abbrev acts : Entry → ℕ × ℕ → Bool
acts e actor = signals actor.0 actor.1 e

of_numbers : (e : Entry) (peer : ℕ) (numbers : List ℕ) → is_signal e.change ≡ true → e.peer ≡ peer → list_any (λ k. e.domain == k) numbers ≡ true
    → list_any (acts e) (map (λ domain. (peer, domain)) numbers) ≡ true
of_numbers e peer [] signal own there = absurd (false≢true there)
of_numbers e peer (k ∷ numbers) signal own there =
    elim (cases_Bool (e.domain == k)) [
      | inl here ↦ or_left (signals peer k e) (list_any (acts e) (map (λ domain. (peer, domain)) numbers)) (as_signal peer k e signal own (eqb-true e.domain k here))
      | inr other ↦
          or_right
          (signals peer k e)
          (list_any (acts e) (map (λ domain. (peer, domain)) numbers))
          (of_numbers e peer numbers signal own (sym (ap (λ b. b || list_any (λ k. e.domain == k) numbers) other) ∙ there))
    ]

-- by the row of a peer
abbrev Acts : SettingsValue → Entry → Role → Type 0
Acts settings e role = cond (is_configuration e.change) (may_configure role e.domain) (may_act settings role e.domain) ≡ true

by_role : (settings : SettingsValue) (e : Entry) (r : Role) → Acts settings e r → is_signal e.change ≡ true
    → list_any (acts e) (acts_by (length settings.domains) e.peer r) ≡ true
by_role settings e role.Stranger may signal = absurd (none (is_configuration e.change) may)
  where
    none : (b : Bool) → cond b false false ≡ true → ⊥
    none true is = false≢true is
    none false is = false≢true is
by_role settings e (role.Client own) may signal =
    let same : own ≡ e.domain = eqb-true own e.domain (own_domain (is_configuration e.change) may) in
    or_left (signals e.peer own e) false (as_signal e.peer own e signal refl (sym same))
  where
    own_domain : (b : Bool) → cond b (own == e.domain) ((own == e.domain) && nat_lt e.domain (length settings.domains)) ≡ true → (own == e.domain) ≡ true
    own_domain true is = is
    own_domain false is = (and_parts (own == e.domain) (nat_lt e.domain (length settings.domains)) is).0
by_role settings e role.Gateway may signal = gateway (is_configuration e.change) may
  where
    gateway : (b : Bool) → cond b (e.domain == no_domain) (nat_lt e.domain (length settings.domains)) ≡ true
        → list_any (acts e) (acts_by (length settings.domains) e.peer role.Gateway) ≡ true
    gateway true is =
        or_left
        (signals e.peer no_domain e)
        (list_any (acts e) (map (λ domain. (e.peer, domain)) (numbers_from 0 (length settings.domains))))
        (as_signal e.peer no_domain e signal refl (eqb-true e.domain no_domain is))
    gateway false is =
        let below : e.domain < length settings.domains = ltb-true e.domain (length settings.domains) is in
        or_right
        (signals e.peer no_domain e)
        (list_any (acts e) (map (λ domain. (e.peer, domain)) (numbers_from 0 (length settings.domains))))
        (of_numbers
        e
        e.peer
        (numbers_from 0 (length settings.domains))
        signal
        refl
        (among_numbers 0 (length settings.domains) e.domain (omega arith) (omega (arith, below))))

abbrev pub role_in : List PeerRow → ℕ → Role
role_in rows peer = unwrap_or (option_map (λ (row : PeerRow). row.role) (find (λ (row : PeerRow). row.peer == peer) rows)) role.Stranger

by_rows : (settings : SettingsValue) (e : Entry) (rows : List PeerRow) → Acts settings e (role_in rows e.peer) → is_signal e.change ≡ true
    → list_any (acts e) (flat_map (acts_for settings) rows) ≡ true
by_rows settings e [] may signal = by_role settings e role.Stranger may signal
by_rows settings e (row ∷ rows) may signal =
    elim (cases_Bool (row.peer == e.peer)) [
      | inl here ↦
          let peer : row.peer ≡ e.peer = eqb-true row.peer e.peer here in
          let told : role_in (row ∷ rows) e.peer ≡ row.role =
          ap (λ b. unwrap_or (option_map (λ (r : PeerRow). r.role) (cond b (Some row) (find (λ (r : PeerRow). r.peer == e.peer) rows))) role.Stranger) here in
          list_any-append (acts e) (acts_for settings row) (flat_map (acts_for settings) rows)
          ∙ or_left
          (list_any (acts e) (acts_for settings row))
          (list_any (acts e) (flat_map (acts_for settings) rows))
          (subst
          (λ p. list_any (acts e) (acts_by (length settings.domains) p row.role) ≡ true)
          (sym peer)
          (by_role settings e row.role (subst (Acts settings e) told may) signal))
      | inr other ↦
          let told : role_in (row ∷ rows) e.peer ≡ role_in rows e.peer =
          ap (λ b. unwrap_or (option_map (λ (r : PeerRow). r.role) (cond b (Some row) (find (λ (r : PeerRow). r.peer == e.peer) rows))) role.Stranger) other in
          list_any-append (acts e) (acts_for settings row) (flat_map (acts_for settings) rows)
          ∙ or_right
          (list_any (acts e) (acts_for settings row))
          (list_any (acts e) (flat_map (acts_for settings) rows))
          (by_rows settings e rows (subst (Acts settings e) told may) signal)
    ]

-- whoever acts is one of the peers, and acts for one of the domains
has_peer : (settings : SettingsValue) (e : Entry) (rows : List PeerRow) → Acts settings e (role_in rows e.peer)
    → list_any (λ peer. e.peer == peer) (map (λ (row : PeerRow). row.peer) rows) ≡ true
has_peer settings e [] may = absurd (none (is_configuration e.change) may)
  where
    none : (b : Bool) → cond b false false ≡ true → ⊥
    none true is = false≢true is
    none false is = false≢true is
has_peer settings e (row ∷ rows) may =
    elim (cases_Bool (row.peer == e.peer)) [
      | inl here ↦
          or_left
          (e.peer == row.peer)
          (list_any (λ peer. e.peer == peer) (map (λ (r : PeerRow). r.peer) rows))
          (eq-eqb e.peer row.peer (sym (eqb-true row.peer e.peer here)))
      | inr other ↦
          let told : role_in (row ∷ rows) e.peer ≡ role_in rows e.peer =
          ap (λ b. unwrap_or (option_map (λ (r : PeerRow). r.role) (cond b (Some row) (find (λ (r : PeerRow). r.peer == e.peer) rows))) role.Stranger) other in
          or_right
          (e.peer == row.peer)
          (list_any (λ peer. e.peer == peer) (map (λ (r : PeerRow). r.peer) rows))
          (has_peer settings e rows (subst (Acts settings e) told may))
    ]

below_domains : (settings : SettingsValue) (r : Role) (domain : ℕ) → may_act settings r domain ≡ true → domain < length settings.domains
below_domains settings role.Stranger domain may = absurd (false≢true may)
below_domains settings (role.Client own) domain may =
    ltb-true domain (length settings.domains) (and_parts (own == domain) (nat_lt domain (length settings.domains)) may).1
below_domains settings role.Gateway domain may = ltb-true domain (length settings.domains) may

acts_own : (settings : SettingsValue) (e : Entry) → is_own settings e ≡ true → Acts settings e (role_of settings e.peer)
acts_own settings e own =
    by_kind
    (is_configuration e.change)
    (and_parts (acts_rightly settings e) (loses_rightly settings e && waits_rightly settings e)
    (and_parts
    (acts_rightly settings e && (loses_rightly settings e && waits_rightly settings e))
    (is_signal e.change || is_http e.key)
    own).0).0
  where
    by_kind : (b : Bool)
        → cond
        b
        (is_nil e.cuid && may_configure (role_of settings e.peer) e.domain)
        (may_act settings (role_of settings e.peer) e.domain && change_inside settings (prefixes_of settings e.domain) e.change)
        ≡ true
        → cond b (may_configure (role_of settings e.peer) e.domain) (may_act settings (role_of settings e.peer) e.domain) ≡ true
    by_kind true is = (and_parts (is_nil e.cuid) (may_configure (role_of settings e.peer) e.domain) is).1
    by_kind false is =
        (and_parts (may_act settings (role_of settings e.peer) e.domain) (change_inside settings (prefixes_of settings e.domain) e.change) is).0

-- the three parts of what is of the settings
rightly : (settings : SettingsValue) (e : Entry) → is_own settings e ≡ true
    → (acts_rightly settings e ≡ true) × (loses_rightly settings e ≡ true) × (waits_rightly settings e ≡ true)
rightly settings e own =
    let of_settings = (and_parts (acts_rightly settings e && (loses_rightly settings e && waits_rightly settings e)) (is_signal e.change || is_http e.key) own).0 in
    let parts = and_parts (acts_rightly settings e) (loses_rightly settings e && waits_rightly settings e) of_settings in
    let rest = and_parts (loses_rightly settings e) (waits_rightly settings e) parts.1 in
    (parts.0, rest.0, rest.1)

lost_loss : (c : Change) → is_lost c ≡ true → is_loss c ≡ true
unfolding is_lost is_loss
lost_loss change.Lost is = refl
lost_loss _ is = absurd (false≢true is)

loser_here : (e : Entry) (r : Role) → is_client_of r e.domain ≡ true → list_any (loses_as e) (loser_by e.peer r) ≡ true
loser_here e role.Stranger is = absurd (false≢true is)
loser_here e role.Gateway is = absurd (false≢true is)
loser_here e (role.Client own) is =
    or_left (loses_as e (e.peer, own)) false
    (and_from (e.peer == e.peer) (e.domain == own) (eq-eqb e.peer e.peer refl) (eq-eqb e.domain own (sym (eqb-true own e.domain is))))

-- a client peer is among those whose signal may be lost
pub loser_in : (e : Entry) (rows : List PeerRow) → is_client_of (role_in rows e.peer) e.domain ≡ true → list_any (loses_as e) (flat_map loser_of rows) ≡ true
loser_in e [] is = absurd (false≢true is)
loser_in e (row ∷ rows) is =
    elim (cases_Bool (row.peer == e.peer)) [
      | inl here ↦
          let peer : row.peer ≡ e.peer = eqb-true row.peer e.peer here in
          let told : role_in (row ∷ rows) e.peer ≡ row.role =
          ap (λ b. unwrap_or (option_map (λ (r : PeerRow). r.role) (cond b (Some row) (find (λ (r : PeerRow). r.peer == e.peer) rows))) role.Stranger) here in
          list_any-append (loses_as e) (loser_of row) (flat_map loser_of rows)
          ∙ or_left
          (list_any (loses_as e) (loser_of row))
          (list_any (loses_as e) (flat_map loser_of rows))
          (subst
          (λ p. list_any (loses_as e) (loser_by p row.role) ≡ true)
          (sym peer)
          (loser_here e row.role (subst (λ r. is_client_of r e.domain ≡ true) told is)))
      | inr other ↦
          let told : role_in (row ∷ rows) e.peer ≡ role_in rows e.peer =
          ap (λ b. unwrap_or (option_map (λ (r : PeerRow). r.role) (cond b (Some row) (find (λ (r : PeerRow). r.peer == e.peer) rows))) role.Stranger) other in
          list_any-append (loses_as e) (loser_of row) (flat_map loser_of rows)
          ∙ or_right
          (list_any (loses_as e) (loser_of row))
          (list_any (loses_as e) (flat_map loser_of rows))
          (loser_in e rows (subst (λ r. is_client_of r e.domain ≡ true) told is))
    ]

own_belongs : (settings : SettingsValue) (e : Entry) → is_own settings e ≡ true → belongs (capacities_of settings) e ≡ true
own_belongs settings e own =
    let may = acts_own settings e own in
    let loses = (rightly settings e own).1 in
    and_from
    (belongs_there (capacities_of settings) e)
    (not (is_lost e.change) || list_any (loses_as e) (flat_map loser_of settings.peers))
    (and_from
    (not (is_signal e.change) || list_any (acts e) (flat_map (acts_for settings) settings.peers))
    (cond
    (is_configuration e.change)
    (list_any (λ peer. e.peer == peer) (map (λ (row : PeerRow). row.peer) settings.peers))
    (list_any (λ domain. e.domain == domain) (numbers_from 0 (length settings.domains))))
    (signal_or_not (is_signal e.change) refl may)
    (of_kind (is_configuration e.change) may (has_peer settings e settings.peers may)))
    (lost_or_not (is_lost e.change) refl loses)
  where
    lost_or_not : (b : Bool) → is_lost e.change ≡ b → loses_rightly settings e ≡ true → (not b || list_any (loses_as e) (flat_map loser_of settings.peers)) ≡ true
    lost_or_not false is rightly = refl
    lost_or_not true is rightly =
        elim (or_cases (not (is_loss e.change)) (is_nil e.cuid && is_client_of (role_of settings e.peer) e.domain) rightly) [
          | inl out ↦ absurd (both_ways (not (is_loss e.change)) (not_from_true (is_loss e.change) (lost_loss e.change is)) out)
          | inr client ↦ loser_in e settings.peers (and_parts (is_nil e.cuid) (is_client_of (role_of settings e.peer) e.domain) client).1
        ]

    signal_or_not : (b : Bool) → is_signal e.change ≡ b → Acts settings e (role_of settings e.peer)
        → (not b || list_any (acts e) (flat_map (acts_for settings) settings.peers)) ≡ true
    signal_or_not true is may = by_rows settings e settings.peers may is
    signal_or_not false is may = refl

    of_kind : (b : Bool) → cond b (may_configure (role_of settings e.peer) e.domain) (may_act settings (role_of settings e.peer) e.domain) ≡ true
        → list_any (λ peer. e.peer == peer) (map (λ (row : PeerRow). row.peer) settings.peers) ≡ true
        → cond
        b
        (list_any (λ peer. e.peer == peer) (map (λ (row : PeerRow). row.peer) settings.peers))
        (list_any (λ domain. e.domain == domain) (numbers_from 0 (length settings.domains)))
        ≡ true
    of_kind true may there = there
    of_kind false may there =
        let below = below_domains settings (role_of settings e.peer) e.domain may in
        among_numbers 0 (length settings.domains) e.domain (omega arith) (omega (arith, below))

all_belong : (settings : SettingsValue) (entries : List Entry) → list_all (is_own settings) entries ≡ true → list_all (belongs (capacities_of settings)) entries ≡ true
all_belong settings [] all = refl
all_belong settings (e ∷ later) all =
    let parts = and_parts (is_own settings e) (list_all (is_own settings) later) all in
    and_from
    (belongs (capacities_of settings) e)
    (list_all (belongs (capacities_of settings)) later)
    (own_belongs settings e parts.0)
    (all_belong settings later parts.1)

part_all : (test : Entry → Bool) (xs ys : List Entry) → IsPart xs ys → list_all test ys ≡ true → list_all test xs ≡ true
part_all test [] ys part all = refl
part_all test (x ∷ xs) [] part all = absurd part
part_all test (x ∷ xs) (y ∷ ys) (inl part) all =
    let parts = and_parts (test y) (list_all test ys) all in
    and_from (test x) (list_all test xs) (ap test part.0 ∙ parts.0) (part_all test xs ys part.1 parts.1)
part_all test (x ∷ xs) (y ∷ ys) (inr part) all = part_all test (x ∷ xs) ys part (and_parts (test y) (list_all test ys) all).1

-- capacities are of what a history comes to
abbrev KeepsIn : Capacities → List Mitigation → List Entry → Type 0
KeepsIn room ms standing =
    ((domain : ℕ) → tally (λ (m : Mitigation). m.put.domain == domain) ms ≤ room.mitigations)
    × ((domain : ℕ) → tally (λ (e : Entry). is_registration e.change && (e.domain == domain)) standing ≤ room.clients)
    × (list_all (has_client standing) standing ≡ true)
    × ((client : Entry) → tally (λ (e : Entry). is_alias e.change && same_client client e) standing ≤ room.aliases)
    × ((client : Entry) → tally (λ (e : Entry). is_list e.change && same_client client e) standing ≤ room.acls)

keeps_in : (room : Capacities) (t : ℕ) (xs ys : List Entry) → mitigations t xs ≡ mitigations t ys → held xs ≡ held ys → KeepsCapacities room t ys → KeepsCapacities room t xs
keeps_in room t xs ys live standing keeps =
    let all = subst
    (λ hs. KeepsIn room (mitigations t xs) hs)
    (sym standing)
    (subst (λ ms. KeepsIn room ms (held ys)) (sym live) (keeps.live, keeps.registered, keeps.owned, keeps.aliased, keeps.listed)) in
    record { live = all.0; registered = all.1; owned = all.2; aliased = all.3; listed = all.4 }

pub named_calm : (settings : SettingsValue) (n t : ℕ) (entries : List Entry) → IsCalmBy settings t entries → IsCalmBy settings t (kept n t entries)
named_calm settings n t entries calm =
    let live = kept_mitigations n t 0 [] entries calm.times calm.peers in
    let standing = kept_held n t [] entries calm.peers in
    record {
      times = kept_within (names n t) [] 0 t entries calm.times;
      own = part_all (is_own settings) (kept n t entries) entries (kept_is_part (names n t) [] entries) calm.own;
      peers = kept_is_calm n t t entries calm.times calm.peers;
      capacities = keeps_in (capacities_of settings) t (kept n t entries) entries live standing calm.capacities;
      of_client = λ client. subst (λ ms. tally (λ (m : Mitigation). same_client client m.put) ms ≤ settings.limits.client_mitigations) (sym live) (calm.of_client client);
    }

pub calm_few : (settings : SettingsValue) (n t : ℕ) (entries : List Entry) → IsCalmBy settings t entries → length (kept n t entries) ≤ most_named (capacities_of settings) n
calm_few settings n t entries calm = named_few (capacities_of settings) n t entries (all_belong settings entries calm.own) calm.capacities

pub empty_calm : (settings : SettingsValue) (t : ℕ) → IsCalmBy settings t []
empty_calm settings t = record {
  times = omega arith;
  own = refl;
  peers = record {};
  capacities = record {
    live = λ domain. omega arith;
    registered = λ domain. omega arith;
    owned = refl;
    aliased = λ client. omega arith;
    listed = λ client. omega arith;
  };
  of_client = λ client. omega arith;
}
