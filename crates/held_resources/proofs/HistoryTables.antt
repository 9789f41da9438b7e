-- What the tables answer is of the history, and what one more entry makes of them represents the longer one.
use Rattle.std.proofs.Common.{◌≡◌, ◌⊎◌, ℕ, suc, zero, ◌+◌, ◌<◌, ◌≤◌, Bool, true, false, cond, not, ◌&&◌, ◌||◌, List, [], ◌∷◌, ◌++◌, map, filter, length, set, get_or, replicate, Option, Some, None, inl, inr, refl, sym, ap, ◌∙◌, subst, arith}
use Rattle.std.specs.Prelude.{◌==◌, nat_lt, nat_le, is_some, slice_get, option_map}
use Rattle.std.specs.List.{list_any, list_all, find, flat_map}
use Rattle.std.proofs.lemmas.Bool.{false≢true, both_ways, cond_both, cond-false, cases_Bool, and_parts, and_from, or_parts, or_from, or_cases, not_from_true, not-true, eqb-true, eqb-false, eq-eqb, leb-true, le-leb, ltb-true, false_from_ne_true}
use Rattle.std.proofs.lemmas.List.{length-replicate}
use Rattle.std.proofs.lemmas.Option.{none-some, same_Some}
use Rattle.dots_settings.specs.declared.peer.PeerRow.{PeerRow}
use Rattle.dots_settings.specs.Settings.{SettingsValue}
use Rattle.dots_history.specs.declared.entry.Entry.{Entry}
use Rattle.dots_history.specs.declared.change.Change.{Change}
use Rattle.dots_history.specs.declared.change.Change.TheVariants as change
use Rattle.dots_history.specs.Entries.{same_client, is_held, undoes, is_configuration, is_loss}
use Rattle.dots_history.specs.Histories.{tally, held}
use Rattle.dots_history.specs.Rows.{is_lost_in}
use Rattle.dots_history.specs.Calm.{loser_of}
use Rattle.dots_history.specs.Capacities.{is_registration, is_alias, is_list, has_client, loses_as}
use Rattle.dots_history.specs.Tables.{Client, client_of, is_of}
use Rattle.dots_history.specs.Views.{held_with}
use Rattle.dots_history.specs.Fits as laws
use Rattle.dots_history.proofs.GoingOn.{held_push}
use Rattle.dots_history.proofs.Joining.{owned_with}
use Rattle.dots_history.proofs.Single.{of_itself, is_of_client, client_is_of}
use Rattle.held_resources.specs.declared.rooms.Rooms.{Rooms}
use Rattle.held_resources.specs.declared.configurations.Configuration.{Configuration}
use Rattle.held_resources.specs.declared.signals.Signal.{Signal}
use Rattle.dots_history.specs.Held.{aliases_of, acls_of, registers, is_registered, registrant, config_of}
use Rattle.dots_history.specs.Filed.{Filed}
use Rattle.held_resources.specs.Rows.{HeldRows, rows_more}
use Rattle.held_resources.specs.Tables.{SameButSlots, Sizes, Tables, Clients, Holding, Have, Represents, KeepsRoom, is_placed, is_known, holding_of, holdings, clients_of, clients_with, list_with, has_cuid, aliases_with, acls_with, update, tables_with, configuration_with, configuration_of, no_configuration, peer_of, no_clients, rooms_of, sizes_of, client_at, in_clients, registrant_in, aliases_in, acls_in, number_in, config_in, own_of, no_loss, signal_with, signal_of, lost_in}
use Rattle.held_resources.specs.Accepting.{keeps_rooms, keeps_room, takes, Takes, rightly, takes_in, accepts_by, accepts}
use Rattle.dots_history.proofs.Written.{other_way, own_aliases, own_acls, number_of_aliases, number_of_acls, no_aliases, no_acls}
use Rattle.held_resources.proofs.Holdings.{IsFresh, length_holdings, own_holdings, others_holdings, any_is, still_some, find_client, any_client, if_registered, registered_cases, not_registered}
use Rattle.held_resources.proofs.Configs.{configurations_with, no_config, find_configuration}
use Rattle.held_resources.proofs.Losses.{signals_with, find_lost}

-- ---- places
pub none_past : {A : Type 0} (xs : List A) (i : ℕ) → slice_get xs i ≡ None → length xs ≤ i
none_past [] i is = omega arith
none_past (x ∷ xs) zero is = absurd (none-some x (sym is))
none_past (x ∷ xs) (suc i) is = let rest = none_past xs i is in omega (arith, rest)

pub length_updated : {A : Type 0} (f : A → A) (i : ℕ) (xs : List A) → length (update f i xs) ≡ length xs
length_updated f i [] = refl
length_updated f zero (x ∷ xs) = refl
length_updated f (suc i) (x ∷ xs) = let rest = length_updated f i xs in omega (arith, rest)

pub set_updated : {A : Type 0} (f : A → A) (i : ℕ) (xs : List A) (x : A) → i < length xs → x ≡ get_or xs i x → set xs i (f x) ≡ update f i xs
set_updated f i [] x within is = absurd (omega (arith, within))
set_updated f zero (y ∷ xs) x within is = ap (λ z. f z ∷ xs) is
set_updated f (suc i) (y ∷ xs) x within is = ap (λ zs. y ∷ zs) (set_updated f i xs x (omega (arith, within)) is)

pub updated_past : {A : Type 0} (f : A → A) (i : ℕ) (xs : List A) → length xs ≤ i → update f i xs ≡ xs
updated_past f i [] past = refl
updated_past f zero (y ∷ xs) past = absurd (omega (arith, past))
updated_past f (suc i) (y ∷ xs) past = ap (λ zs. y ∷ zs) (updated_past f i xs (omega (arith, past)))

get_updated : {A : Type 0} (f : A → A) (i : ℕ) (xs : List A) → slice_get (update f i xs) i ≡ option_map f (slice_get xs i)
get_updated f i [] = refl
get_updated f zero (x ∷ xs) = refl
get_updated f (suc i) (x ∷ xs) = get_updated f i xs

get_other : {A : Type 0} (f : A → A) (i j : ℕ) (xs : List A) → (i ≡ j → ⊥) → slice_get (update f i xs) j ≡ slice_get xs j
get_other f i j [] other = refl
get_other f zero zero (x ∷ xs) other = absurd (other refl)
get_other f zero (suc j) (x ∷ xs) other = refl
get_other f (suc i) zero (x ∷ xs) other = refl
get_other f (suc i) (suc j) (x ∷ xs) other = get_other f i j xs (λ same. other (ap suc same))

-- ---- domains that there are
registration_configures : (c : Change) → is_registration c ≡ true → is_configuration c ≡ false
unfolding is_registration is_configuration
registration_configures change.Register is = refl
registration_configures _ is = absurd (false≢true is)

known_below : (sizes : Sizes) (x : Entry) → is_known sizes x ≡ true → is_configuration x.change ≡ false → x.domain < sizes.domains
known_below sizes x known other =
    ltb-true
    x.domain
    sizes.domains
    (sym (cond-false (is_configuration x.change) (list_any (λ peer. x.peer == peer) sizes.peers) (nat_lt x.domain sizes.domains) other)
    ∙ (and_parts (is_placed sizes x) (not (is_loss x.change) || list_any (loses_as x) sizes.own) known).0)

none_beyond : (sizes : Sizes) (domain : ℕ) (x : Entry) → is_known sizes x ≡ true → sizes.domains ≤ domain → is_registration x.change && (x.domain == domain) ≡ false
none_beyond sizes domain x known past =
    false_from_ne_true
    (is_registration x.change && (x.domain == domain))
    (λ is.
    let parts = and_parts (is_registration x.change) (x.domain == domain) is in
    let below = known_below sizes x known (registration_configures x.change parts.0) in
    let same = eqb-true x.domain domain parts.1 in
    omega (arith, below, same, past))

no_number : (sizes : Sizes) (domain : ℕ) (xs : List Entry) → list_all (is_known sizes) xs ≡ true → sizes.domains ≤ domain
    → tally (λ (x : Entry). is_registration x.change && (x.domain == domain)) xs ≡ 0
no_number sizes domain [] all past = refl
no_number sizes domain (x ∷ xs) all past =
    let parts = and_parts (is_known sizes x) (list_all (is_known sizes) xs) all in
    ap (λ b. cond b 1 0 + tally (λ (x : Entry). is_registration x.change && (x.domain == domain)) xs) (none_beyond sizes domain x parts.0 past)
    ∙ (let rest = no_number sizes domain xs parts.1 past in omega (arith, rest))

no_client : (sizes : Sizes) (client : Client) (xs : List Entry) → list_all (is_known sizes) xs ≡ true → sizes.domains ≤ client.domain
    → is_registered client xs ≡ false
no_client sizes client [] all past = refl
no_client sizes client (x ∷ xs) all past =
    let parts = and_parts (is_known sizes x) (list_all (is_known sizes) xs) all in
    or_from
    (is_registration x.change && is_of client x)
    (is_registered client xs)
    (false_from_ne_true
    (is_registration x.change && is_of client x)
    (λ is.
    let both = and_parts (is_registration x.change) (is_of client x) is in
    both_ways
    (is_registration x.change && (x.domain == client.domain))
    (none_beyond sizes client.domain x parts.0 past)
    (and_from (is_registration x.change) (x.domain == client.domain) both.0 (eq-eqb x.domain client.domain (ap (λ (c : Client). c.domain) (is_of_client client x both.1))))))
    (no_client sizes client xs parts.1 past)

-- ---- readers
module _ (tables : Tables) (es : List Entry) (have : Have tables es) where
  pub client_is : (client : Client) → client_at client.domain client.cuid tables.clients ≡ if_registered tables.sizes.rooms client es es
  client_is client = by_clients (slice_get tables.clients client.domain) refl
    where
      by_clients : (o : Option Clients) → slice_get tables.clients client.domain ≡ o → in_clients client.cuid o ≡ if_registered tables.sizes.rooms client es es
      by_clients None none =
          let past = none_past tables.clients client.domain none in
          let number = have.domains in
          sym (not_registered tables.sizes.rooms client es es (no_client tables.sizes client es have.known (omega (arith, past, number))))
      by_clients (Some clients) some =
          ap (λ (c : Clients). find (has_cuid client.cuid) c.list) (have.clients client.domain clients some)
          ∙ find_client tables.sizes.rooms client es es

  pub registered_is : (client : Client) → is_some (client_at client.domain client.cuid tables.clients) ≡ is_registered client es
  registered_is client =
      ap is_some (client_is client)
      ∙ still_some (λ (x : Entry). holding_of tables.sizes.rooms es x.peer client) (find (registers client) es)
      ∙ any_is (registers client) es

  pub registrant_is : (client : Client) → registrant_in (client_at client.domain client.cuid tables.clients) ≡ registrant client es
  registrant_is client = ap registrant_in (client_is client) ∙ of_found (find (registers client) es)
    where
      of_found : (o : Option Entry) → registrant_in (option_map (λ (x : Entry). holding_of tables.sizes.rooms es x.peer client) o) ≡ option_map (λ (x : Entry). x.peer) o
      of_found None = refl
      of_found (Some x) = refl

  pub aliases_are : (client : Client) → aliases_in (client_at client.domain client.cuid tables.clients) ≡ aliases_of client es
  aliases_are client =
      ap aliases_in (client_is client)
      ∙ registered_cases
      tables.sizes.rooms
      client
      es
      es
      (λ o. aliases_in o ≡ aliases_of client es)
      (λ x. refl)
      (λ out. sym (no_aliases client es have.owned out))

  pub acls_are : (client : Client) → acls_in (client_at client.domain client.cuid tables.clients) ≡ acls_of client es
  acls_are client =
      ap acls_in (client_is client)
      ∙ registered_cases
      tables.sizes.rooms
      client
      es
      es
      (λ o. acls_in o ≡ acls_of client es)
      (λ x. refl)
      (λ out. sym (no_acls client es have.owned out))

  pub number_is : (domain : ℕ) → number_in (slice_get tables.clients domain) ≡ tally (λ (x : Entry). is_registration x.change && (x.domain == domain)) es
  number_is domain = by_clients (slice_get tables.clients domain) refl
    where
      by_clients : (o : Option Clients) → slice_get tables.clients domain ≡ o
          → number_in o ≡ tally (λ (x : Entry). is_registration x.change && (x.domain == domain)) es
      by_clients None none =
          let past = none_past tables.clients domain none in
          let number = have.domains in
          sym (no_number tables.sizes domain es have.known (omega (arith, past, number)))
      by_clients (Some clients) some =
          ap (λ (c : Clients). length c.list) (have.clients domain clients some) ∙ length_holdings tables.sizes.rooms domain es es

  pub config_is : (peer : ℕ) → config_in (find (λ (s : Configuration). peer == s.peer) tables.configurations) ≡ config_of peer es
  config_is peer =
      ap (λ configurations. config_in (find (λ (s : Configuration). peer == s.peer) configurations)) have.configurations
      ∙ find_configuration peer es tables.sizes.peers
      ∙ cond_both
      (list_any (λ p. peer == p) tables.sizes.peers)
      (config_of peer es)
      None
      (λ o. o ≡ config_of peer es)
      (λ is. refl)
      (λ out. sym (no_config tables.sizes peer es have.known out))

  pub lost_is : (peer domain : ℕ) → lost_in tables peer domain ≡ is_lost_in es peer domain
  lost_is peer domain =
      ap (list_any (λ (s : Signal). s.lost && ((peer == s.peer) && (domain == s.domain)))) have.signals
      ∙ find_lost tables.sizes peer domain es have.known

-- ---- which entries fit
-- by what is held before
abbrev pub accepts_in : Sizes → List Entry → Entry → Bool
accepts_in sizes es e = is_known sizes e && (laws.registers_rightly es e && keeps_rooms sizes.rooms e (held_with e es))

pub accepts_held : (sizes : Sizes) (before : List Entry) (e : Entry) → accepts sizes before e ≡ accepts_in sizes (held before) e
accepts_held sizes before e =
    ap (λ held_now. is_known sizes e && (laws.registers_rightly (held before) e && keeps_rooms sizes.rooms e held_now)) (held_push e before)

and_same : (a x y : Bool) → (a ≡ true → x ≡ y) → (a && x) ≡ (a && y)
and_same true x y same = same refl
and_same false x y same = refl

law_registered : (es : List Entry) (e : Entry) → laws.is_registered es e ≡ is_registered (client_of e) es
law_registered [] e = refl
law_registered (r ∷ es) e =
    ap (λ b. (is_registration r.change && b) || laws.is_registered es e) (other_way r e ∙ of_itself e r)
    ∙ ap (λ b. (is_registration r.change && is_of (client_of e) r) || b) (law_registered es e)

law_rightly : (es : List Entry) (e : Entry) → laws.registers_rightly es e ≡ rightly e.change (is_registered (client_of e) es)
law_rightly es e = ap (rightly e.change) (law_registered es e)

-- a registration is of a client that isn't registered
not_yet : (c : Change) (registered : Bool) → is_registration c ≡ true → rightly c registered ≡ true → registered ≡ false
not_yet c registered is right =
    let parts = and_parts (not (is_registration c) || not registered) (not (is_alias c || is_list c) || registered) right in
    elim (or_cases (not (is_registration c)) (not registered) parts.0) [
      | inl out ↦ absurd (both_ways (not (is_registration c)) (not_from_true (is_registration c) is) out)
      | inr out ↦ not-true registered out
    ]

-- an alias or a list is of one that is
owns_nothing : (c : Change) (registered : Bool) → registered ≡ false → rightly c registered ≡ true → (is_alias c ≡ false) × (is_list c ≡ false)
owns_nothing c registered out right =
    let parts = and_parts (not (is_registration c) || not registered) (not (is_alias c || is_list c) || registered) right in
    elim (or_cases (not (is_alias c || is_list c)) registered parts.1) [
      | inl none ↦ or_parts (is_alias c) (is_list c) (not-true (is_alias c || is_list c) none)
      | inr is ↦ absurd (both_ways registered out is)
    ]

fresh_of : (rooms : Rooms) (e : Entry) (es : List Entry) → list_all (has_client es) es ≡ true → is_registered (client_of e) es ≡ false
    → IsFresh rooms e.domain e es
fresh_of rooms e es owned out = record {
  aliases = no_aliases (client_of e) es owned out;
  acls = no_acls (client_of e) es owned out;
  none = any_client rooms (client_of e) es es ∙ out;
}

tally_same : (p q : Entry → Bool) → ((x : Entry) → p x ≡ q x) → (xs : List Entry) → tally p xs ≡ tally q xs
tally_same p q same [] = refl
tally_same p q same (x ∷ xs) = ap (λ b. cond b 1 0 + tally p xs) (same x) ∙ ap (λ n. cond (q x) 1 0 + n) (tally_same p q same xs)

-- how many aliases and access lists the entry's client has after it
aliases_then : (e : Entry) (es : List Entry)
    → tally (λ (x : Entry). is_alias x.change && same_client e x) (held_with e es) ≡ length (aliases_with e.change (aliases_of (client_of e) es))
aliases_then e es =
    tally_same
    (λ x. is_alias x.change && same_client e x)
    (λ x. is_alias x.change && is_of (client_of e) x)
    (λ x. ap (λ b. is_alias x.change && b) (of_itself e x))
    (held_with e es)
    ∙ sym (number_of_aliases (client_of e) (held_with e es))
    ∙ ap length (own_aliases (client_of e) e es (client_is_of e))

acls_then : (e : Entry) (es : List Entry)
    → tally (λ (x : Entry). is_list x.change && same_client e x) (held_with e es) ≡ length (acls_with e.change (acls_of (client_of e) es))
acls_then e es =
    tally_same
    (λ x. is_list x.change && same_client e x)
    (λ x. is_list x.change && is_of (client_of e) x)
    (λ x. ap (λ b. is_list x.change && b) (of_itself e x))
    (held_with e es)
    ∙ sym (number_of_acls (client_of e) (held_with e es))
    ∙ ap length (own_acls (client_of e) e es (client_is_of e))

no_alias_with : (c : Change) → is_alias c ≡ false → length (aliases_with c []) ≡ 0
unfolding is_alias
no_alias_with (change.SetAlias alias) out = absurd (false≢true (sym out))
no_alias_with _ out = refl

no_acl_with : (c : Change) → is_list c ≡ false → length (acls_with c []) ≡ 0
unfolding is_list
no_acl_with (change.SetAcl acl) out = absurd (false≢true (sym out))
no_acl_with _ out = refl

zero_fits : (n most : ℕ) → n ≡ 0 → nat_le n most ≡ true
zero_fits n most is = le-leb n most (omega (arith, is))

-- the client's own numbers
abbrev own_rooms : Rooms → Entry → List Entry → Bool
own_rooms rooms e es =
    nat_le (tally (λ (x : Entry). is_alias x.change && same_client e x) (held_with e es)) rooms.aliases
    && nat_le (tally (λ (x : Entry). is_list x.change && same_client e x) (held_with e es)) rooms.acls

own_fits : (rooms : Rooms) (e : Entry) (es : List Entry) → list_all (has_client es) es ≡ true
    → rightly e.change (is_registered (client_of e) es) ≡ true → own_rooms rooms e es ≡ keeps_room e.change (if_registered rooms (client_of e) es es)
own_fits rooms e es owned right =
    let als = aliases_then e es in
    let ls = acls_then e es in
    ap (λ n. nat_le n rooms.aliases && nat_le (tally (λ (x : Entry). is_list x.change && same_client e x) (held_with e es)) rooms.acls) als
    ∙ ap (λ n. nat_le (length (aliases_with e.change (aliases_of (client_of e) es))) rooms.aliases && nat_le n rooms.acls) ls
    ∙ registered_cases
    rooms
    (client_of e)
    es
    es
    (λ o.
    nat_le (length (aliases_with e.change (aliases_of (client_of e) es))) rooms.aliases
    && nat_le (length (acls_with e.change (acls_of (client_of e) es))) rooms.acls
    ≡ keeps_room e.change o)
    (λ x. refl)
    (λ out.
    let kinds = owns_nothing e.change (is_registered (client_of e) es) out right in
    and_from
    (nat_le (length (aliases_with e.change (aliases_of (client_of e) es))) rooms.aliases)
    (nat_le (length (acls_with e.change (acls_of (client_of e) es))) rooms.acls)
    (zero_fits
    (length (aliases_with e.change (aliases_of (client_of e) es)))
    rooms.aliases
    (ap (λ given. length (aliases_with e.change given)) (no_aliases (client_of e) es owned out) ∙ no_alias_with e.change kinds.0))
    (zero_fits
    (length (acls_with e.change (acls_of (client_of e) es)))
    rooms.acls
    (ap (λ ls. length (acls_with e.change ls)) (no_acls (client_of e) es owned out) ∙ no_acl_with e.change kinds.1)))

-- what is held after an entry that is known is known
left_known : (sizes : Sizes) (e : Entry) (xs : List Entry) → list_all (is_known sizes) xs ≡ true → list_all (is_known sizes) (filter (λ x. not (undoes x e)) xs) ≡ true
left_known sizes e [] all = refl
left_known sizes e (x ∷ xs) all =
    let parts = and_parts (is_known sizes x) (list_all (is_known sizes) xs) all in
    let go = left_known sizes e xs parts.1 in
    cond_both
    (not (undoes x e))
    (x ∷ filter (λ x. not (undoes x e)) xs)
    (filter (λ x. not (undoes x e)) xs)
    (λ ys. list_all (is_known sizes) ys ≡ true)
    (λ is. and_from (is_known sizes x) (list_all (is_known sizes) (filter (λ x. not (undoes x e)) xs)) parts.0 go)
    (λ out. go)

all_append : (test : Entry → Bool) (xs ys : List Entry) → list_all test xs ≡ true → list_all test ys ≡ true → list_all test (xs ++ ys) ≡ true
all_append test [] ys all more = more
all_append test (x ∷ xs) ys all more =
    let parts = and_parts (test x) (list_all test xs) all in
    and_from (test x) (list_all test (xs ++ ys)) parts.0 (all_append test xs ys parts.1 more)

known_with : (sizes : Sizes) (e : Entry) (es : List Entry) → list_all (is_known sizes) es ≡ true → is_known sizes e ≡ true
    → list_all (is_known sizes) (held_with e es) ≡ true
known_with sizes e es all known =
    all_append
    (is_known sizes)
    (filter (λ x. not (undoes x e)) es)
    (cond (is_held e.change) (e ∷ []) [])
    (left_known sizes e es all)
    (cond_both
    (is_held e.change)
    (e ∷ [])
    []
    (λ ys. list_all (is_known sizes) ys ≡ true)
    (λ is. and_from (is_known sizes e) true known refl)
    (λ out. refl))

module _ (tables : Tables) (es : List Entry) (have : Have tables es) (e : Entry) where
  fresh_if : rightly e.change (is_registered (client_of e) es) ≡ true → is_registration e.change ≡ true → IsFresh tables.sizes.rooms e.domain e es
  fresh_if right registers =
      fresh_of tables.sizes.rooms e es have.owned (not_yet e.change (is_registered (client_of e) es) registers right)

  own_list : (e.domain == e.domain) ≡ true → rightly e.change (is_registered (client_of e) es) ≡ true
      → holdings tables.sizes.rooms e.domain (held_with e es) (held_with e es) ≡ list_with tables.sizes.rooms e.peer e.cuid e.change (holdings tables.sizes.rooms e.domain es es)
  own_list own right = own_holdings tables.sizes.rooms e.domain e es own (fresh_if right)

  rooms_by : is_known tables.sizes e ≡ true → rightly e.change (is_registered (client_of e) es) ≡ true
      → keeps_rooms tables.sizes.rooms e (held_with e es) ≡ takes_in e (slice_get tables.clients e.domain)
  rooms_by known right = by_clients (slice_get tables.clients e.domain) refl
    where
      rooms : Rooms
      rooms = tables.sizes.rooms

      number : ℕ
      number = tally (λ (x : Entry). is_registration x.change && (x.domain == e.domain)) (held_with e es)

      by_clients : (o : Option Clients) → slice_get tables.clients e.domain ≡ o → keeps_rooms tables.sizes.rooms e (held_with e es) ≡ takes_in e o
      by_clients None none =
          let past = none_past tables.clients e.domain none in
          let size = have.domains in
          let beyond : tables.sizes.domains ≤ e.domain = omega (arith, past, size) in
          let out = no_client tables.sizes (client_of e) es have.known beyond in
          and_from
          (nat_le (tally (λ (x : Entry). is_registration x.change && (x.domain == e.domain)) (held_with e es)) tables.sizes.rooms.clients)
          (own_rooms tables.sizes.rooms e es)
          (zero_fits
          (tally (λ (x : Entry). is_registration x.change && (x.domain == e.domain)) (held_with e es))
          tables.sizes.rooms.clients
          (no_number tables.sizes e.domain (held_with e es) (known_with tables.sizes e es have.known known) beyond))
          (own_fits tables.sizes.rooms e es have.owned right
          ∙ ap (keeps_room e.change) (not_registered tables.sizes.rooms (client_of e) es es out))
      by_clients (Some clients) some =
          ap
          (λ n. nat_le n tables.sizes.rooms.clients && own_rooms tables.sizes.rooms e es)
          (sym (length_holdings tables.sizes.rooms e.domain (held_with e es) (held_with e es)) ∙ ap length (own_list (eq-eqb e.domain e.domain refl) right))
          ∙ ap
          (λ b.
          nat_le (length (list_with tables.sizes.rooms e.peer e.cuid e.change (holdings tables.sizes.rooms e.domain es es))) tables.sizes.rooms.clients && b)
          (own_fits tables.sizes.rooms e es have.owned right ∙ ap (keeps_room e.change) (sym (find_client tables.sizes.rooms (client_of e) es es)))
          ∙ ap (takes e.peer e.cuid e.change) (sym (have.clients e.domain clients some))

  pub accepts_is : accepts_in tables.sizes es e ≡ accepts_by tables e
  accepts_is =
      and_same
      (is_known tables.sizes e)
      (laws.registers_rightly es e && keeps_rooms tables.sizes.rooms e (held_with e es))
      (rightly e.change (is_some (client_at e.domain e.cuid tables.clients)) && takes_in e (slice_get tables.clients e.domain))
      (λ known.
      ap (λ b. b && keeps_rooms tables.sizes.rooms e (held_with e es)) (law_rightly es e)
      ∙ and_same
      (rightly e.change (is_registered (client_of e) es))
      (keeps_rooms tables.sizes.rooms e (held_with e es))
      (takes_in e (slice_get tables.clients e.domain))
      (rooms_by known)
      ∙ ap
      (λ b. rightly e.change b && takes_in e (slice_get tables.clients e.domain))
      (sym (registered_is tables es have (client_of e))))

  -- ---- one more entry
  pub have_with : (slot : ℕ) → accepts_in tables.sizes es e ≡ true → Have (tables_with (record { entry = e; slot = slot }) tables) (held_with e es)
  have_with slot accepted =
      let parts = and_parts (is_known tables.sizes e) (laws.registers_rightly es e && keeps_rooms tables.sizes.rooms e (held_with e es)) accepted in
      let more = and_parts (laws.registers_rightly es e) (keeps_rooms tables.sizes.rooms e (held_with e es)) parts.1 in
      let right : rightly e.change (is_registered (client_of e) es) ≡ true = sym (law_rightly es e) ∙ more.0 in
      record {
        domains = length_updated (clients_with e.peer e.cuid e.change) e.domain tables.clients ∙ have.domains;
        clients = λ domain clients some. by_domain right domain clients some (cases_Bool (e.domain == domain));
        configurations = ap (map (configuration_with e)) have.configurations ∙ configurations_with e es tables.sizes.peers;
        signals = ap (map (signal_with e)) have.signals ∙ signals_with e es tables.sizes.own;
        owned = owned_with
            e
            es
            have.owned
            (and_parts (not (is_registration e.change) || not (laws.is_registered es e)) (has_client es e) more.0).1;
        known = known_with tables.sizes e es have.known parts.0;
      }
    where
      clients_by : Rooms → List Holding → Clients
      clients_by rooms list = record { rooms = rooms; list = list }

      by_map : (o : Option Clients) (f : Clients → Clients) (c : Clients) → option_map f o ≡ Some c → (b : Clients) × (o ≡ Some b) × (f b ≡ c)
      by_map None f c is = absurd (none-some c is)
      by_map (Some b) f c is = (b, refl, same_Some (f b) c is)

      by_domain : rightly e.change (is_registered (client_of e) es) ≡ true → (domain : ℕ) (clients : Clients)
          → slice_get (update (clients_with e.peer e.cuid e.change) e.domain tables.clients) domain ≡ Some clients
          → ((e.domain == domain) ≡ true) ⊎ ((e.domain == domain) ≡ false)
          → clients ≡ clients_of tables.sizes.rooms domain (held_with e es)
      by_domain right domain clients some (inl own) =
          let same = eqb-true e.domain domain own in
          let there = by_map
          (slice_get tables.clients e.domain)
          (clients_with e.peer e.cuid e.change)
          clients
          (sym (get_updated (clients_with e.peer e.cuid e.change) e.domain tables.clients)
          ∙ ap (slice_get (update (clients_with e.peer e.cuid e.change) e.domain tables.clients)) same
          ∙ some) in
          sym there.2
          ∙ ap (clients_with e.peer e.cuid e.change) (have.clients e.domain there.0 there.1)
          ∙ ap (clients_by tables.sizes.rooms) (sym (own_list (eq-eqb e.domain e.domain refl) right))
          ∙ ap (λ d. clients_of tables.sizes.rooms d (held_with e es)) same
      by_domain right domain clients some (inr other) =
          have.clients
          domain
          clients
          (sym (get_other (clients_with e.peer e.cuid e.change) e.domain domain tables.clients (eqb-false e.domain domain other)) ∙ some)
          ∙ ap (clients_by tables.sizes.rooms) (sym (others_holdings tables.sizes.rooms domain e es other))

pub takes_of : (peer : ℕ) (cuid : List ℕ) (c : Change) (clients : Clients) → takes peer cuid c clients ≡ true → (is_registration c ≡ true → is_some (find (has_cuid cuid) clients.list) ≡ false)
    → Takes peer cuid c clients
takes_of peer cuid c clients is fresh =
    let parts = and_parts (nat_le (length (list_with clients.rooms peer cuid c clients.list)) clients.rooms.clients) (keeps_room c (find (has_cuid cuid) clients.list)) is in
    record {
      number = leb-true (length (list_with clients.rooms peer cuid c clients.list)) clients.rooms.clients parts.0;
      rooms = λ holding there. room_of holding (sym (ap (keeps_room c) there) ∙ parts.1);
      fresh = λ registers. sym (any_is (has_cuid cuid) clients.list) ∙ fresh registers;
    }
  where
    room_of : (holding : Holding) → keeps_room c (Some holding) ≡ true → KeepsRoom c holding
    room_of holding is =
        let both = and_parts
        (nat_le (length (aliases_with c holding.aliases)) holding.rooms.aliases)
        (nat_le (length (acls_with c holding.acls)) holding.rooms.acls)
        is in
        record {
          aliases = leb-true (length (aliases_with c holding.aliases)) holding.rooms.aliases both.0;
          acls = leb-true (length (acls_with c holding.acls)) holding.rooms.acls both.1;
        }

-- what is asked of the domain's clients before the entry is put in
pub takes_from : (tables : Tables) (e : Entry) → accepts_by tables e ≡ true → (clients : Clients) → slice_get tables.clients e.domain ≡ Some clients
    → Takes e.peer e.cuid e.change clients
takes_from tables e accepted clients some =
    let parts = and_parts
    (is_known tables.sizes e)
    (rightly e.change (is_some (client_at e.domain e.cuid tables.clients)) && takes_in e (slice_get tables.clients e.domain))
    accepted in
    let more = and_parts (rightly e.change (is_some (client_at e.domain e.cuid tables.clients))) (takes_in e (slice_get tables.clients e.domain)) parts.1 in
    takes_of
    e.peer
    e.cuid
    e.change
    clients
    (sym (ap (takes_in e) some) ∙ more.1)
    (λ registers.
    ap (λ o. is_some (in_clients e.cuid o)) (sym some)
    ∙ not_yet e.change (is_some (client_at e.domain e.cuid tables.clients)) registers more.0)

-- ---- as clauses say it
pub represents_with : (tables : Tables) (before : List Entry) (e : Entry) (slot : ℕ) → Represents tables before → accepts_by tables e ≡ true
    → Represents (tables_with (record { entry = e; slot = slot }) tables) (before ++ e ∷ [])
represents_with tables before e slot represents accepted =
    subst
    (Have (tables_with (record { entry = e; slot = slot }) tables))
    (sym (held_push e before))
    (have_with tables (held before) represents e slot (accepts_is tables (held before) represents e ∙ accepted))

pub accepted_by : (tables : Tables) (before : List Entry) (e : Entry) → Represents tables before → accepts tables.sizes before e ≡ accepts_by tables e
accepted_by tables before e represents = accepts_held tables.sizes before e ∙ accepts_is tables (held before) represents e

-- ---- as the fields have it
abbrev pub tables_of : Rooms → List Clients → List Configuration → List Signal → HeldRows → Tables
tables_of rooms clients configurations signals slots = record {
  sizes = record { domains = length clients; rooms = rooms; peers = map peer_of configurations; own = map own_of signals };
  clients = clients;
  configurations = configurations;
  signals = signals;
  slots = slots;
}

same_peers : (e : Entry) (configurations : List Configuration) → map peer_of (map (configuration_with e) configurations) ≡ map peer_of configurations
same_peers e [] = refl
same_peers e (s ∷ configurations) = ap (λ peers. s.peer ∷ peers) (same_peers e configurations)

same_own : (e : Entry) (signals : List Signal) → map own_of (map (signal_with e) signals) ≡ map own_of signals
same_own e [] = refl
same_own e (s ∷ signals) = ap (λ own. own_of s ∷ own) (same_own e signals)

abbrev with_sizes : Sizes → List Clients → List Configuration → List Signal → HeldRows → Tables
with_sizes sizes clients configurations signals slots =
    record { sizes = sizes; clients = clients; configurations = configurations; signals = signals; slots = slots }

abbrev sizes_by : ℕ → Rooms → List ℕ → List (ℕ × ℕ) → Sizes
sizes_by domains rooms peers own = record { domains = domains; rooms = rooms; peers = peers; own = own }

pub fields_with : (rooms : Rooms) (clients after : List Clients) (configurations then : List Configuration) (signals since : List Signal) (slots now : HeldRows) (x : Filed)
    → after ≡ update (clients_with x.entry.peer x.entry.cuid x.entry.change) x.entry.domain clients → then ≡ map (configuration_with x.entry) configurations
    → since ≡ map (signal_with x.entry) signals → now ≡ rows_more x slots
    → tables_of rooms after then since now ≡ tables_with x (tables_of rooms clients configurations signals slots)
fields_with rooms clients after configurations then signals since slots now x changed configured told filed =
    let e = x.entry in
    let more = map (configuration_with e) configurations in
    let later = map (signal_with e) signals in
    let others = update (clients_with e.peer e.cuid e.change) e.domain clients in
    ap (λ cs. tables_of rooms cs then since now) changed
    ∙ ap (λ ss. tables_of rooms others ss since now) configured
    ∙ ap (λ ls. tables_of rooms others more ls now) told
    ∙ ap (tables_of rooms others more later) filed
    ∙ ap
    (λ n. with_sizes (sizes_by n rooms (map peer_of more) (map own_of later)) others more later (rows_more x slots))
    (length_updated (clients_with e.peer e.cuid e.change) e.domain clients)
    ∙ ap (λ peers. with_sizes (sizes_by (length clients) rooms peers (map own_of later)) others more later (rows_more x slots)) (same_peers e configurations)
    ∙ ap
    (λ own. with_sizes (sizes_by (length clients) rooms (map peer_of configurations) own) others more later (rows_more x slots))
    (same_own e signals)

-- ---- the empty history
get_replicated : {A : Type 0} (n i : ℕ) (x y : A) → slice_get (replicate n x) i ≡ Some y → y ≡ x
get_replicated zero i x y is = absurd (none-some y is)
get_replicated (suc n) zero x y is = sym (same_Some x y is)
get_replicated (suc n) (suc i) x y is = get_replicated n i x y is

no_peers : (rows : List PeerRow) → map peer_of (map no_configuration rows) ≡ map (λ (row : PeerRow). row.peer) rows
no_peers [] = refl
no_peers (row ∷ rows) = ap (λ peers. row.peer ∷ peers) (no_peers rows)

configurations_at_first : (rows : List PeerRow) → map no_configuration rows ≡ map (configuration_of []) (map peer_of (map no_configuration rows))
configurations_at_first [] = refl
configurations_at_first (row ∷ rows) = ap (λ configurations. no_configuration row ∷ configurations) (configurations_at_first rows)

no_own : (own : List (ℕ × ℕ)) → map own_of (map no_loss own) ≡ own
no_own [] = refl
no_own (o ∷ own) = ap (λ rest. o ∷ rest) (no_own own)

signals_at_first : (own : List (ℕ × ℕ)) → map no_loss own ≡ map (signal_of []) (map own_of (map no_loss own))
signals_at_first [] = refl
signals_at_first (o ∷ own) = ap (λ signals. no_loss o ∷ signals) (signals_at_first own)

pub at_first : (rooms : Rooms) (count : ℕ) (rows : List PeerRow) (own : List (ℕ × ℕ)) (slots : HeldRows)
    → Have (tables_of rooms (replicate count (no_clients rooms)) (map no_configuration rows) (map no_loss own) slots) []
at_first rooms count rows own slots = record {
  domains = refl;
  clients = λ domain clients some. get_replicated count domain (no_clients rooms) clients some;
  configurations = configurations_at_first rows;
  signals = signals_at_first own;
  owned = refl;
  known = refl;
}

pub represents_first : (rooms : Rooms) (count : ℕ) (rows : List PeerRow) (own : List (ℕ × ℕ)) (clients : List Clients) (configurations : List Configuration) (signals : List Signal) (slots : HeldRows)
    → clients ≡ replicate count (no_clients rooms) → configurations ≡ map no_configuration rows → signals ≡ map no_loss own
    → Represents (tables_of rooms clients configurations signals slots) []
represents_first rooms count rows own clients configurations signals slots empty none heard =
    subst (λ cs. Have (tables_of rooms cs configurations signals slots) []) (sym empty)
    (subst (λ ss. Have (tables_of rooms (replicate count (no_clients rooms)) ss signals slots) []) (sym none)
    (subst (λ ls. Have (tables_of rooms (replicate count (no_clients rooms)) (map no_configuration rows) ls slots) []) (sym heard) (at_first rooms count rows own slots)))

pub sizes_first : (settings : SettingsValue) (rooms : Rooms) (count : ℕ) (clients : List Clients) (configurations : List Configuration) (signals : List Signal) (slots : HeldRows)
    → rooms ≡ rooms_of settings.limits → count ≡ length settings.domains
    → clients ≡ replicate count (no_clients rooms) → configurations ≡ map no_configuration settings.peers → signals ≡ map no_loss (flat_map loser_of settings.peers)
    → (tables_of rooms clients configurations signals slots).sizes ≡ sizes_of settings
sizes_first settings rooms count clients configurations signals slots limits number empty none heard =
    let n = length settings.domains in
    let peers = map (λ (row : PeerRow). row.peer) settings.peers in
    ap (λ cs. sizes_by (length cs) rooms (map peer_of configurations) (map own_of signals)) empty
    ∙ ap (λ k. sizes_by k rooms (map peer_of configurations) (map own_of signals)) (length-replicate count (no_clients rooms) ∙ number)
    ∙ ap (λ ss. sizes_by n rooms (map peer_of ss) (map own_of signals)) none
    ∙ ap (λ ps. sizes_by n rooms ps (map own_of signals)) (no_peers settings.peers)
    ∙ ap (λ ls. sizes_by n rooms peers (map own_of ls)) heard
    ∙ ap (λ own. sizes_by n rooms peers own) (no_own (flat_map loser_of settings.peers))
    ∙ ap (λ r. sizes_by n r peers (flat_map loser_of settings.peers)) limits

-- ---- tables of one history
all_same : {A : Type 0} (xs ys : List A) → length xs ≡ length ys
    → ((i : ℕ) (x y : A) → slice_get xs i ≡ Some x → slice_get ys i ≡ Some y → x ≡ y) → xs ≡ ys
all_same [] [] size each = refl
all_same [] (y ∷ ys) size each = absurd (omega (arith, size))
all_same (x ∷ xs) [] size each = absurd (omega (arith, size))
all_same (x ∷ xs) (y ∷ ys) size each =
    ap (λ z. z ∷ xs) (each zero x y refl refl)
    ∙ ap (λ zs. y ∷ zs) (all_same xs ys (omega (arith, size)) (λ i a b in_xs in_ys. each (suc i) a b in_xs in_ys))

pub one_value : (a b : Tables) (entries : List Entry) → a.sizes ≡ b.sizes → Represents a entries → Represents b entries → SameButSlots a b
one_value a b entries sizes first second = record {
  sizes = sizes;
  clients = all_same
      a.clients
      b.clients
      (first.domains ∙ ap (λ (s : Sizes). s.domains) sizes ∙ sym second.domains)
      (λ i x y in_a in_b.
      first.clients i x in_a
      ∙ ap (λ (s : Sizes). clients_of s.rooms i (held entries)) sizes
      ∙ sym (second.clients i y in_b));
  configurations = first.configurations ∙ ap (λ (s : Sizes). map (configuration_of (held entries)) s.peers) sizes ∙ sym second.configurations;
  signals = first.signals ∙ ap (λ (s : Sizes). map (signal_of (held entries)) s.own) sizes ∙ sym second.signals;
}

-- what is the same but for the slots represents the same
pub same_represents : (a b : Tables) (entries : List Entry) → SameButSlots a b → Represents b entries → Represents a entries
same_represents a b entries same have = record {
  domains = ap length same.clients ∙ have.domains ∙ sym (ap (λ (s : Sizes). s.domains) same.sizes);
  clients = λ domain clients some.
      have.clients domain clients (ap (λ cs. slice_get cs domain) (sym same.clients) ∙ some)
      ∙ ap (λ (s : Sizes). clients_of s.rooms domain (held entries)) (sym same.sizes);
  configurations = same.configurations ∙ have.configurations ∙ ap (λ (s : Sizes). map (configuration_of (held entries)) s.peers) (sym same.sizes);
  signals = same.signals ∙ have.signals ∙ ap (λ (s : Sizes). map (signal_of (held entries)) s.own) (sym same.sizes);
  owned = have.owned;
  known = subst (λ s. list_all (is_known s) (held entries) ≡ true) (sym same.sizes) have.known;
}
