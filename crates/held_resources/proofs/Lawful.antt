-- What the laws come to: clients and peers are apart, mitigations hold nothing, and what fits is accepted.
use Rattle.std.proofs.Common.{◌≡◌, ℕ, Bool, true, false, cond, not, ◌&&◌, ◌||◌, List, [], ◌∷◌, ◌++◌, map, filter, length, Option, Some, None, inl, inr, refl, sym, ap, ◌∙◌, subst, append-nil}
use Rattle.std.specs.Prelude.{option_to_list, ◌==◌, nat_lt, nat_le, unwrap_or}
use Rattle.std.specs.List.{list_any, find, flat_map}
use Rattle.std.specs.Option.{option_map}
use Rattle.std.proofs.lemmas.Bool.{false≢true, cond_both, cond-true, cond-false, cases_Bool, and_parts, and_right, and_from, or_from, or_left, or_right, or_cases}
use Rattle.std.proofs.lemmas.Option.{none-some}
use Rattle.dots_settings.specs.declared.peer.PeerRow.{PeerRow}
use Rattle.dots_settings.specs.declared.peer.Role.{Role}
use Rattle.dots_settings.specs.declared.peer.Role.TheVariants as role
use Rattle.dots_settings.specs.Settings.{SettingsValue}
use Rattle.dots_settings.specs.Lookups.{role_of, prefixes_of}
use Rattle.dots_history.specs.declared.entry.Entry.{Entry}
use Rattle.dots_history.specs.declared.change.Change.{Change}
use Rattle.dots_history.specs.declared.change.Change.TheVariants as change
use Rattle.dots_history.specs.Entries.{same_client, is_held, undoes, undoes_of_client, undoes_of_peer, undoes_alias, undoes_acl, undoes_loss, reconfigures, resumes, is_deregister, is_configuration, is_lost, is_loss}
use Rattle.dots_history.specs.Histories.{Mitigation, is_nil, held, tally, mitigations}
use Rattle.dots_history.specs.Calm.{is_of_settings, acts_rightly, loses_rightly, waits_rightly, is_client_of, loser_of, may_act, may_configure, change_inside}
use Rattle.dots_history.specs.Capacities.{is_registration, loses_as}
use Rattle.dots_history.specs.Fits as laws
use Rattle.dots_history.specs.Tables.{Client, is_of}
use Rattle.dots_history.specs.Views.{held_with}
use Rattle.dots_history.proofs.BySettings.{loser_in}
use Rattle.dots_history.proofs.GoingOn.{held_push}
use Rattle.dots_history.specs.Held.{aliases_of, acls_of, is_registered, of_client, written}
use Rattle.held_resources.specs.Tables.{Have, Represents, Tables, sizes_of, is_placed, is_known}
use Rattle.held_resources.specs.Accepting.{accepts, keeps_rooms}
use Rattle.dots_history.proofs.Written.{written_alone, with_other, other_aliases, other_acls}
use Rattle.held_resources.proofs.Holdings.{turned_eq}

-- ---- registrations
registration_of : Change → Option Change
registration_of change.Register = Some change.Register
registration_of _ = None

deregisters : Change → Change → Bool
deregisters registration later = is_deregister later

registration_agrees : (c a later : Change) → registration_of c ≡ Some a
    → (undoes_of_client c later ≡ deregisters a later) × (undoes_of_peer c later ≡ false) × (is_lost c ≡ false)
unfolding registration_of deregisters undoes_of_client undoes_of_peer is_lost
registration_agrees change.Register a later is = (refl, refl, refl)
registration_agrees _ a later is = absurd (none-some a is)

registration_held : (c a : Change) → registration_of c ≡ Some a → is_held c ≡ true
unfolding registration_of is_held
registration_held change.Register a is = refl
registration_held _ a is = absurd (none-some a is)

abbrev some_there : {A : Type 0} → List A → Bool
some_there xs = not (is_nil xs)

by_kind : (b rest : Bool) (c : Change) (left : List Change) → rest ≡ some_there left
    → ((is_registration c && b) || rest) ≡ some_there (option_to_list (cond b (registration_of c) None) ++ left)
unfolding registration_of is_registration
by_kind true rest change.Register left same = refl
by_kind false rest change.Register left same = same
by_kind true rest _ left same = same
by_kind false rest _ left same = same

registered_by : (client : Client) (es : List Entry) → is_registered client es ≡ some_there (written registration_of client es)
registered_by client [] = refl
registered_by client (x ∷ es) = by_kind (is_of client x) (is_registered client es) x.change (written registration_of client es) (registered_by client es)

pub registered_alone : (client : Client) (entries : List Entry) → is_registered client (held (of_client client entries)) ≡ is_registered client (held entries)
registered_alone client entries =
    registered_by client (held (of_client client entries))
    ∙ ap some_there (written_alone registration_of deregisters registration_agrees registration_held client entries)
    ∙ sym (registered_by client (held entries))

pub registered_still : (client : Client) (e : Entry) (entries : List Entry) → is_of client e ≡ false
    → is_registered client (held (entries ++ e ∷ [])) ≡ is_registered client (held entries)
registered_still client e entries other =
    ap (is_registered client) (held_push e entries)
    ∙ registered_by client (held_with e (held entries))
    ∙ ap some_there (with_other registration_of deregisters registration_agrees registration_held client e (held entries) other)
    ∙ sym (registered_by client (held entries))

pub aliases_still : (client : Client) (e : Entry) (entries : List Entry) → is_of client e ≡ false
    → aliases_of client (held (entries ++ e ∷ [])) ≡ aliases_of client (held entries)
aliases_still client e entries other = ap (aliases_of client) (held_push e entries) ∙ other_aliases client e (held entries) other

pub acls_still : (client : Client) (e : Entry) (entries : List Entry) → is_of client e ≡ false
    → acls_of client (held (entries ++ e ∷ [])) ≡ acls_of client (held entries)
acls_still client e entries other = ap (acls_of client) (held_push e entries) ∙ other_acls client e (held entries) other

-- ---- mitigations
undoes_nothing : (c later : Change) → laws.is_of_mitigations later ≡ true → (undoes_of_client c later ≡ false) × (undoes_of_peer c later ≡ false)
unfolding laws.is_of_mitigations undoes_of_client undoes_of_peer undoes_alias undoes_acl is_deregister is_configuration
undoes_nothing change.Register (change.Put put) is = (refl, refl)
undoes_nothing change.Register (change.Withdraw mid) is = (refl, refl)
undoes_nothing change.Register _ is = absurd (false≢true is)
undoes_nothing (change.SetAlias alias) (change.Put put) is = (refl, refl)
undoes_nothing (change.SetAlias alias) (change.Withdraw mid) is = (refl, refl)
undoes_nothing (change.SetAlias alias) _ is = absurd (false≢true is)
undoes_nothing (change.SetAcl acl) (change.Put put) is = (refl, refl)
undoes_nothing (change.SetAcl acl) (change.Withdraw mid) is = (refl, refl)
undoes_nothing (change.SetAcl acl) _ is = absurd (false≢true is)
undoes_nothing (change.SetConfig sid config) (change.Put put) is = (refl, refl)
undoes_nothing (change.SetConfig sid config) (change.Withdraw mid) is = (refl, refl)
undoes_nothing (change.SetConfig sid config) _ is = absurd (false≢true is)
undoes_nothing _ later is = (refl, refl)

no_loss : (c : Change) → laws.is_of_mitigations c ≡ true → is_loss c ≡ false
unfolding laws.is_of_mitigations is_loss
no_loss (change.Put put) is = refl
no_loss (change.Withdraw mid) is = refl
no_loss _ is = absurd (false≢true is)

none_undone : (x e : Entry) → laws.is_of_mitigations e.change ≡ true → undoes x e ≡ false
unfolding undoes reconfigures resumes undoes_loss
none_undone x e is =
    let parts = undoes_nothing x.change e.change is in
    or_from
    (same_client x e && undoes_of_client x.change e.change)
    (((x.peer == e.peer) && undoes_of_peer x.change e.change) || ((x.peer == e.peer) && ((x.domain == e.domain) && (is_lost x.change && is_loss e.change))))
    (and_right (same_client x e) (undoes_of_client x.change e.change) parts.0)
    (or_from
    ((x.peer == e.peer) && undoes_of_peer x.change e.change)
    ((x.peer == e.peer) && ((x.domain == e.domain) && (is_lost x.change && is_loss e.change)))
    (and_right (x.peer == e.peer) (undoes_of_peer x.change e.change) parts.1)
    (and_right
    (x.peer == e.peer)
    ((x.domain == e.domain) && (is_lost x.change && is_loss e.change))
    (and_right (x.domain == e.domain) (is_lost x.change && is_loss e.change) (and_right (is_lost x.change) (is_loss e.change) (no_loss e.change is)))))

holds_nothing : (c : Change) → laws.is_of_mitigations c ≡ true → is_held c ≡ false
unfolding laws.is_of_mitigations is_held
holds_nothing (change.Put put) is = refl
holds_nothing (change.Withdraw mid) is = refl
holds_nothing _ is = absurd (false≢true is)

all_stay : (e : Entry) (xs : List Entry) → laws.is_of_mitigations e.change ≡ true → filter (λ x. not (undoes x e)) xs ≡ xs
all_stay e [] is = refl
all_stay e (x ∷ xs) is =
    let rest = filter (λ x. not (undoes x e)) xs in
    ap (λ b. cond (not b) (x ∷ rest) rest) (none_undone x e is) ∙ ap (λ ys. x ∷ ys) (all_stay e xs is)

pub same_held : (e : Entry) (entries : List Entry) → laws.is_of_mitigations e.change ≡ true → held (entries ++ e ∷ []) ≡ held entries
same_held e entries is =
    held_push e entries
    ∙ ap (λ b. filter (λ x. not (undoes x e)) (held entries) ++ cond b (e ∷ []) []) (holds_nothing e.change is)
    ∙ append-nil (filter (λ x. not (undoes x e)) (held entries))
    ∙ all_stay e (held entries) is

pub still_represents : (tables : Tables) (e : Entry) (entries : List Entry) → laws.is_of_mitigations e.change ≡ true → Represents tables entries
    → Represents tables (entries ++ e ∷ [])
still_represents tables e entries is represents = subst (Have tables) (sym (same_held e entries is)) represents

-- ---- what fits
acts_below : (settings : SettingsValue) (r : Role) (domain : ℕ) → may_act settings r domain ≡ true → nat_lt domain (length settings.domains) ≡ true
acts_below settings role.Stranger domain is = absurd (false≢true is)
acts_below settings (role.Client own) domain is = (and_parts (own == domain) (nat_lt domain (length settings.domains)) is).1
acts_below settings role.Gateway domain is = is

peer_there : (settings : SettingsValue) (peer domain : ℕ) → may_configure (role_of settings peer) domain ≡ true
    → list_any (λ other. peer == other) (map (λ (row : PeerRow). row.peer) settings.peers) ≡ true
peer_there settings peer domain is = by_rows settings.peers is
  where
    by_rows : (rows : List PeerRow)
        → may_configure (unwrap_or (option_map (λ (row : PeerRow). row.role) (find (λ (row : PeerRow). row.peer == peer) rows)) role.Stranger) domain ≡ true
        → list_any (λ other. peer == other) (map (λ (row : PeerRow). row.peer) rows) ≡ true
    by_rows [] is = absurd (false≢true is)
    by_rows (row ∷ rows) is =
        elim (cases_Bool (row.peer == peer)) [
          | inl here ↦
              or_left
              (peer == row.peer)
              (list_any (λ other. peer == other) (map (λ (row : PeerRow). row.peer) rows))
              (turned_eq peer row.peer ∙ here)
          | inr out ↦
              or_right
              (peer == row.peer)
              (list_any (λ other. peer == other) (map (λ (row : PeerRow). row.peer) rows))
              (by_rows
              rows
              (sym (ap
              (λ o. may_configure (unwrap_or (option_map (λ (row : PeerRow). row.role) o) role.Stranger) domain)
              (cond-false (row.peer == peer) (Some row) (find (λ (row : PeerRow). row.peer == peer) rows) out))
              ∙ is))
        ]

placed_of : (settings : SettingsValue) (e : Entry) → acts_rightly settings e ≡ true → is_placed (sizes_of settings) e ≡ true
placed_of settings e own =
    let configures = is_nil e.cuid && may_configure (role_of settings e.peer) e.domain in
    let acts = may_act settings (role_of settings e.peer) e.domain && change_inside settings (prefixes_of settings e.domain) e.change in
    cond_both
    (is_configuration e.change)
    (list_any (λ peer. e.peer == peer) (sizes_of settings).peers)
    (nat_lt e.domain (sizes_of settings).domains)
    (λ b. b ≡ true)
    (λ is.
    peer_there
    settings
    e.peer
    e.domain
    (and_parts (is_nil e.cuid) (may_configure (role_of settings e.peer) e.domain) (sym (cond-true (is_configuration e.change) configures acts is) ∙ own)).1)
    (λ out.
    acts_below
    settings
    (role_of settings e.peer)
    e.domain
    (and_parts
    (may_act settings (role_of settings e.peer) e.domain)
    (change_inside settings (prefixes_of settings e.domain) e.change)
    (sym (cond-false (is_configuration e.change) configures acts out) ∙ own)).0)

loser_there : (settings : SettingsValue) (e : Entry) → loses_rightly settings e ≡ true → not (is_loss e.change) || list_any (loses_as e) (flat_map loser_of settings.peers) ≡ true
loser_there settings e rightly =
    elim (or_cases (not (is_loss e.change)) (is_nil e.cuid && is_client_of (role_of settings e.peer) e.domain) rightly) [
      | inl none ↦ or_left (not (is_loss e.change)) (list_any (loses_as e) (flat_map loser_of settings.peers)) none
      | inr client ↦
          or_right
          (not (is_loss e.change))
          (list_any (loses_as e) (flat_map loser_of settings.peers))
          (loser_in e settings.peers (and_parts (is_nil e.cuid) (is_client_of (role_of settings e.peer) e.domain) client).1)
    ]

pub known_of : (settings : SettingsValue) (e : Entry) → is_of_settings settings e ≡ true → is_known (sizes_of settings) e ≡ true
known_of settings e own =
    let parts = and_parts (acts_rightly settings e) (loses_rightly settings e && waits_rightly settings e) own in
    let rest = and_parts (loses_rightly settings e) (waits_rightly settings e) parts.1 in
    and_from
    (is_placed (sizes_of settings) e)
    (not (is_loss e.change) || list_any (loses_as e) (sizes_of settings).own)
    (placed_of settings e parts.0)
    (loser_there settings e rest.0)

-- the settings' own entries: the condition is the one of the laws
pub accepts_own : (settings : SettingsValue) (before : List Entry) (e : Entry) → is_of_settings settings e ≡ true
    → accepts (sizes_of settings) before e
    ≡ (laws.registers_rightly (held before) e && keeps_rooms (sizes_of settings).rooms e (held (before ++ e ∷ [])))
accepts_own settings before e own =
    ap
    (λ b. b && (laws.registers_rightly (held before) e && keeps_rooms (sizes_of settings).rooms e (held (before ++ e ∷ []))))
    (known_of settings e own)

pub accepts_fitting : (settings : SettingsValue) (before : List Entry) (e : Entry) → laws.fits settings before e ≡ true
    → accepts (sizes_of settings) before e ≡ true
accepts_fitting settings before e is =
    let held_now = held (before ++ e ∷ []) in
    let timed = nat_le (laws.last_time before) e.time && nat_lt e.time 281474976710656 in
    let rooms = keeps_rooms (sizes_of settings).rooms e held_now in
    let ms = mitigations e.time (before ++ e ∷ []) in
    let halves = and_parts
    (timed && is_of_settings settings e)
    (laws.registers_rightly (held before) e && laws.keeps_room settings.limits e ms held_now)
    is in
    let own = and_parts timed (is_of_settings settings e) halves.0 in
    let back = and_parts (laws.registers_rightly (held before) e) (laws.keeps_room settings.limits e ms held_now) halves.1 in
    let numbers = and_parts
    (nat_le (tally (λ (m : Mitigation). m.put.domain == e.domain) ms) settings.limits.domain_mitigations
    && nat_le (tally (λ (m : Mitigation). same_client e m.put) ms) settings.limits.client_mitigations)
    rooms
    back.1 in
    accepts_own settings before e own.1 ∙ and_from (laws.registers_rightly (held before) e) rooms back.0 numbers.1
