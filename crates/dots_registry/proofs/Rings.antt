-- Whose messages a registry remembers, by the settings and by a history.
use Rattle.std.proofs.Common.{◌≡◌, ℕ, zero, suc, ◌<◌, Bool, true, false, cond, not, ◌&&◌, ◌||◌, List, [], ◌∷◌, ◌++◌, map, length, Some, None, inl, inr, refl, sym, ap, ◌∙◌, subst, arith}
use Rattle.std.specs.Prelude.{◌==◌, nat_lt, unwrap_or}
use Rattle.std.specs.List.{list_any, list_all, find, flat_map}
use Rattle.std.specs.Option.{option_map}
use Rattle.std.proofs.lemmas.Bool.{false≢true, both_ways, cases_Bool, cases_eq, cond-true, cond-false, and_parts, and_from, or_left, or_right, eqb-true, eq-eqb, ltb-true, false_from_ne_true}
use Rattle.std.proofs.lemmas.List.{map-append}
use Rattle.std.proofs.lemmas.List.Folds.{list_any-append}
use Rattle.dots_settings.specs.declared.peer.PeerRow.{PeerRow}
use Rattle.dots_settings.specs.declared.peer.Role.{Role}
use Rattle.dots_settings.specs.declared.peer.Role.TheVariants as role
use Rattle.dots_settings.specs.Settings.{SettingsValue}
use Rattle.dots_settings.specs.Lookups.{no_domain, role_of, prefixes_of}
use Rattle.dots_history.specs.declared.entry.Entry.{Entry}
use Rattle.dots_history.specs.Entries.{is_signal, signals, is_configuration, may_repeat}
use Rattle.dots_history.specs.Histories.{is_nil, is_recent, or_else, remembered}
use Rattle.dots_history.specs.Calm.{is_of_settings, may_act, may_configure, change_inside, acts_rightly, loses_rightly, waits_rightly}
use Rattle.coap_exchange.specs.declared.pair.Pair.{Pair}
use Rattle.coap_exchange.specs.Pairs.{is_pair, pair_with, below, pairs_of_role, pairs_of_row}
use Rattle.coap_exchange.specs.Rings.{RingValue, is_ring_of, messages_of, reply_to, noted}
use Rattle.coap_exchange.specs.Noting.{AllRemember, message_of}
use Rattle.coap_exchange.proofs.HistoryRings.{noted_remembers, other_remembers, replies_remembered, pairs_noted}
use Rattle.dots_registry.specs.RegistryValues.{RegistryValue, IsOf, Represents, time_of, number_remembered, has_ring, pair_of, rings_with}

-- ---- by the settings

same_pair : (peer domain other : ℕ) → other ≡ domain → is_pair peer domain (pair_with peer other) ≡ true
same_pair peer domain other same = and_from (peer == peer) (other == domain) (eq-eqb peer peer refl) (eq-eqb other domain same)

below_has : (peer domain n : ℕ) → domain < n → list_any (is_pair peer domain) (map (pair_with peer) (below n)) ≡ true
below_has peer domain zero less = absurd (omega (arith, less))
below_has peer domain (suc n) less =
    ap (list_any (is_pair peer domain)) (map-append (pair_with peer) (below n) (n ∷ []))
    ∙ list_any-append (is_pair peer domain) (map (pair_with peer) (below n)) (pair_with peer n ∷ [])
    ∙ elim (cases_eq domain n) [
      | inl here ↦
          or_right
          (list_any (is_pair peer domain) (map (pair_with peer) (below n)))
          (is_pair peer domain (pair_with peer n) || false)
          (or_left (is_pair peer domain (pair_with peer n)) false (same_pair peer domain n (sym here)))
      | inr other ↦
          or_left
          (list_any (is_pair peer domain) (map (pair_with peer) (below n)))
          (is_pair peer domain (pair_with peer n) || false)
          (below_has peer domain n (omega (arith, less, other)))
    ]

abbrev Acts : SettingsValue → Entry → Role → Type 0
Acts settings e role = cond (is_configuration e.change) (may_configure role e.domain) (may_act settings role e.domain) ≡ true

acts : (settings : SettingsValue) (e : Entry) → is_of_settings settings e ≡ true → Acts settings e (role_of settings e.peer)
acts settings e own =
    by_kind (is_configuration e.change) (and_parts (acts_rightly settings e) (loses_rightly settings e && waits_rightly settings e) own).0
  where
    by_kind : (b : Bool)
        → cond b
        (is_nil e.cuid && may_configure (role_of settings e.peer) e.domain)
        (may_act settings (role_of settings e.peer) e.domain && change_inside settings (prefixes_of settings e.domain) e.change)
        ≡ true
        → cond b (may_configure (role_of settings e.peer) e.domain) (may_act settings (role_of settings e.peer) e.domain) ≡ true
    by_kind true is = (and_parts (is_nil e.cuid) (may_configure (role_of settings e.peer) e.domain) is).1
    by_kind false is = (and_parts (may_act settings (role_of settings e.peer) e.domain) (change_inside settings (prefixes_of settings e.domain) e.change) is).0

by_role : (settings : SettingsValue) (e : Entry) (r : Role) → Acts settings e r
    → list_any (is_pair e.peer e.domain) (pairs_of_role (length settings.domains) e.peer r) ≡ true
by_role settings e role.Stranger may = absurd (none (is_configuration e.change) may)
  where
    none : (b : Bool) → cond b false false ≡ true → ⊥
    none true is = false≢true is
    none false is = false≢true is
by_role settings e (role.Client own) may =
    or_left (is_pair e.peer e.domain (pair_with e.peer own)) false (same_pair e.peer e.domain own (eqb-true own e.domain (own_domain (is_configuration e.change) may)))
  where
    own_domain : (b : Bool) → cond b (own == e.domain) ((own == e.domain) && nat_lt e.domain (length settings.domains)) ≡ true → (own == e.domain) ≡ true
    own_domain true is = is
    own_domain false is = (and_parts (own == e.domain) (nat_lt e.domain (length settings.domains)) is).0
by_role settings e role.Gateway may =
    list_any-append (is_pair e.peer e.domain) (map (pair_with e.peer) (below (length settings.domains))) (pair_with e.peer 65535 ∷ []) ∙ gateway (is_configuration e.change) may
  where
    gateway : (b : Bool) → cond b (e.domain == no_domain) (nat_lt e.domain (length settings.domains)) ≡ true
        → (list_any (is_pair e.peer e.domain) (map (pair_with e.peer) (below (length settings.domains))) || list_any (is_pair e.peer e.domain) (pair_with e.peer 65535 ∷ [])) ≡ true
    gateway true is =
        or_right
        (list_any (is_pair e.peer e.domain) (map (pair_with e.peer) (below (length settings.domains))))
        (is_pair e.peer e.domain (pair_with e.peer 65535) || false)
        (or_left (is_pair e.peer e.domain (pair_with e.peer 65535)) false (same_pair e.peer e.domain 65535 (sym (eqb-true e.domain no_domain is))))
    gateway false is =
        or_left
        (list_any (is_pair e.peer e.domain) (map (pair_with e.peer) (below (length settings.domains))))
        (is_pair e.peer e.domain (pair_with e.peer 65535) || false)
        (below_has e.peer e.domain (length settings.domains) (ltb-true e.domain (length settings.domains) is))

abbrev role_in : List PeerRow → ℕ → Role
role_in rows peer = unwrap_or (option_map (λ (row : PeerRow). row.role) (find (λ (row : PeerRow). row.peer == peer) rows)) role.Stranger

by_rows : (settings : SettingsValue) (e : Entry) (rows : List PeerRow) → Acts settings e (role_in rows e.peer)
    → list_any (is_pair e.peer e.domain) (flat_map (pairs_of_row (length settings.domains)) rows) ≡ true
by_rows settings e [] may = by_role settings e role.Stranger may
by_rows settings e (row ∷ rows) may =
    list_any-append (is_pair e.peer e.domain) (pairs_of_row (length settings.domains) row) (flat_map (pairs_of_row (length settings.domains)) rows)
    ∙ elim (cases_Bool (row.peer == e.peer)) [
      | inl here ↦
          let peer : row.peer ≡ e.peer = eqb-true row.peer e.peer here in
          let told : role_in (row ∷ rows) e.peer ≡ row.role =
          ap (λ b. unwrap_or (option_map (λ (r : PeerRow). r.role) (cond b (Some row) (find (λ (r : PeerRow). r.peer == e.peer) rows))) role.Stranger) here in
          or_left
          (list_any (is_pair e.peer e.domain) (pairs_of_row (length settings.domains) row))
          (list_any (is_pair e.peer e.domain) (flat_map (pairs_of_row (length settings.domains)) rows))
          (subst
          (λ p. list_any (is_pair e.peer e.domain) (pairs_of_role (length settings.domains) p row.role) ≡ true)
          (sym peer)
          (by_role settings e row.role (subst (Acts settings e) told may)))
      | inr other ↦
          let told : role_in (row ∷ rows) e.peer ≡ role_in rows e.peer =
          ap (λ b. unwrap_or (option_map (λ (r : PeerRow). r.role) (cond b (Some row) (find (λ (r : PeerRow). r.peer == e.peer) rows))) role.Stranger) other in
          or_right
          (list_any (is_pair e.peer e.domain) (pairs_of_row (length settings.domains) row))
          (list_any (is_pair e.peer e.domain) (flat_map (pairs_of_row (length settings.domains)) rows))
          (by_rows settings e rows (subst (Acts settings e) told may))
    ]

by_pairs : (peer domain : ℕ) (rings : List RingValue) → list_any (is_ring_of peer domain) rings ≡ list_any (is_pair peer domain) (map pair_of rings)
by_pairs peer domain [] = refl
by_pairs peer domain (ring ∷ rings) = ap (λ b. is_ring_of peer domain ring || b) (by_pairs peer domain rings)

-- an entry of the settings is of a peer and domain whose messages are remembered
pub own_has_ring : (settings : SettingsValue) (registry : RegistryValue) (e : Entry) → IsOf settings registry → is_of_settings settings e ≡ true
    → has_ring registry.rings e ≡ true
own_has_ring settings registry e is_of own =
    or_right
    (not (is_signal e.change))
    (list_any (is_ring_of e.peer e.domain) registry.rings)
    (by_pairs e.peer e.domain registry.rings
    ∙ ap (list_any (is_pair e.peer e.domain)) is_of.pairs
    ∙ by_rows settings e settings.peers (acts settings e own))

-- ---- rings with a message more

same_pairs : (slot : ℕ) (e : Entry) (rings : List RingValue) → map pair_of (rings_with slot e rings) ≡ map pair_of rings
same_pairs slot e rings = by_kind (is_signal e.change)
  where
    by_kind : (b : Bool) → map pair_of (cond b (noted e.peer e.domain (message_of slot e) rings) rings) ≡ map pair_of rings
    by_kind true = pairs_noted e.peer e.domain (message_of slot e) rings
    by_kind false = refl

pub made_pairs : (slot : ℕ) (e : Entry) (old new : List RingValue) → new ≡ rings_with slot e old → map pair_of new ≡ map pair_of old
made_pairs slot e old new made = ap (map pair_of) made ∙ same_pairs slot e old

pub remember_more : (n slot : ℕ) (rings : List RingValue) (entries : List Entry) (e : Entry) → AllRemember n rings entries
    → AllRemember n (rings_with slot e rings) (entries ++ e ∷ [])
remember_more n slot rings entries e all =
    elim (cases_Bool (is_signal e.change)) [
      | inl is ↦
          subst
          (λ rs. AllRemember n rs (entries ++ e ∷ []))
          (sym (cond-true (is_signal e.change) (noted e.peer e.domain (message_of slot e) rings) rings is))
          (noted_remembers n slot rings entries e is all)
      | inr out ↦
          subst
          (λ rs. AllRemember n rs (entries ++ e ∷ []))
          (sym (cond-false (is_signal e.change) (noted e.peer e.domain (message_of slot e) rings) rings out))
          (other_remembers n rings entries e out all)
    ]

abbrev has_pair : List Pair → Entry → Bool
has_pair pairs e = not (is_signal e.change) || list_any (is_pair e.peer e.domain) pairs

all_by_pairs : (rings : List RingValue) (entries : List Entry) → list_all (has_ring rings) entries ≡ list_all (has_pair (map pair_of rings)) entries
all_by_pairs rings [] = refl
all_by_pairs rings (e ∷ entries) =
    ap (λ b. (not (is_signal e.change) || b) && list_all (has_ring rings) entries) (by_pairs e.peer e.domain rings)
    ∙ ap (λ b. has_pair (map pair_of rings) e && b) (all_by_pairs rings entries)

-- which entries are of remembered peers and domains is by the pairs alone
pub still_signalled : (old new : List RingValue) (entries : List Entry) → map pair_of new ≡ map pair_of old → list_all (has_ring old) entries ≡ true
    → list_all (has_ring new) entries ≡ true
still_signalled old new entries same is =
    all_by_pairs new entries ∙ ap (λ pairs. list_all (has_pair pairs) entries) same ∙ sym (all_by_pairs old entries) ∙ is

-- ---- replies

found : {A : Type 0} (test : A → Bool) (xs : List A) → list_any test xs ≡ true → (x : A) × (find test xs ≡ Some x)
found test [] is = absurd (false≢true is)
found {A = A} test (x ∷ xs) is = by_test (test x) is (found test xs)
  where
    by_test : (b : Bool) → (b || list_any test xs) ≡ true → (list_any test xs ≡ true → (y : A) × (find test xs ≡ Some y))
        → (y : A) × (cond b (Some x) (find test xs) ≡ Some y)
    by_test true is rest = (x, refl)
    by_test false is rest = rest is

not_found : {A : Type 0} (test : A → Bool) (xs : List A) → list_any test xs ≡ false → find test xs ≡ None
not_found test [] is = refl
not_found test (x ∷ xs) is = by_test (test x) is (not_found test xs)
  where
    by_test : (b : Bool) → (b || list_any test xs) ≡ false → (list_any test xs ≡ false → find test xs ≡ None) → cond b (Some x) (find test xs) ≡ None
    by_test true is rest = absurd (false≢true (sym is))
    by_test false is rest = rest is

no_signal : (peer domain : ℕ) (rings : List RingValue) (e : Entry) → list_any (is_ring_of peer domain) rings ≡ false → has_ring rings e ≡ true
    → signals peer domain e ≡ false
unfolding signals
no_signal peer domain rings e none has =
    false_from_ne_true (is_signal e.change && ((e.peer == peer) && (e.domain == domain))) (λ is.
    let parts = and_parts (is_signal e.change) ((e.peer == peer) && (e.domain == domain)) is in
    let both = and_parts (e.peer == peer) (e.domain == domain) parts.1 in
    let there : list_any (is_ring_of e.peer e.domain) rings ≡ true =
    sym (ap (λ b. not b || list_any (is_ring_of e.peer e.domain) rings) parts.0) ∙ has in
    both_ways
    (list_any (is_ring_of peer domain) rings)
    none
    (sym (ap (λ p. list_any (is_ring_of p e.domain) rings) (eqb-true e.peer peer both.0) ∙ ap (λ d. list_any (is_ring_of peer d) rings) (eqb-true e.domain domain both.1))
    ∙ there))

nothing_remembered : (n t peer domain id : ℕ) (rings : List RingValue) (entries : List Entry) → list_any (is_ring_of peer domain) rings ≡ false
    → list_all (has_ring rings) entries ≡ true → remembered n t peer domain id entries ≡ None
nothing_remembered n t peer domain id rings [] none all = refl
nothing_remembered n t peer domain id rings (e ∷ later) none all =
    let parts = and_parts (has_ring rings e) (list_all (has_ring rings) later) all in
    ap
    (λ b. or_else (remembered n t peer domain id later) (cond (b && (is_recent n e later && may_repeat t id e.time e.key)) (Some e) None))
    (no_signal peer domain rings e none parts.0)
    ∙ ap (λ o. or_else o None) (nothing_remembered n t peer domain id rings later none parts.1)

pub replies : (registry : RegistryValue) (entries : List Entry) (n t peer domain id : ℕ) → AllRemember n registry.rings entries
    → list_all (has_ring registry.rings) entries ≡ true
    → reply_to id t (messages_of peer domain registry.rings) ≡ option_map (λ (e : Entry). e.reply) (remembered n t peer domain id entries)
replies registry entries n t peer domain id all signalled =
    elim (cases_Bool (list_any (is_ring_of peer domain) registry.rings)) [
      | inl is ↦
          let ring = found (is_ring_of peer domain) registry.rings is in
          replies_remembered n t peer domain id registry.rings entries ring.0 all ring.1
      | inr none ↦
          ap
          (λ o. reply_to id t (unwrap_or (option_map (λ (ring : RingValue). ring.messages) o) []))
          (not_found (is_ring_of peer domain) registry.rings none)
          ∙ ap (option_map (λ (e : Entry). e.reply)) (sym (nothing_remembered n t peer domain id registry.rings entries none signalled))
    ]

pub repeat_is : (inside now : RegistryValue) (t peer domain id : ℕ) (entries : List Entry) → inside ≡ now → t ≡ time_of inside → Represents now entries
    → reply_to id t (messages_of peer domain inside.rings)
    ≡ option_map (λ (e : Entry). e.reply) (remembered (number_remembered now) (time_of now) peer domain id entries)
repeat_is inside now t peer domain id entries same is represents =
    let here : Represents inside entries = subst (λ r. Represents r entries) (sym same) represents in
    subst
    (λ r.
    reply_to id t (messages_of peer domain inside.rings)
    ≡ option_map (λ (e : Entry). e.reply) (remembered (number_remembered r) (time_of r) peer domain id entries))
    same
    (ap (λ x. reply_to id x (messages_of peer domain inside.rings)) is
    ∙ replies inside entries (number_remembered inside) (time_of inside) peer domain id here.remembered here.signalled)
