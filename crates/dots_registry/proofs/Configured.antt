-- What a peer configures of its session is the settings' own and fits; and what is read of it is read of one domain.
use Rattle.std.proofs.Common.{◌≡◌, ℕ, ◌<◌, ◌≤◌, true, false, cond, not, ◌&&◌, ◌||◌, List, [], ◌∷◌, ◌++◌, length, Option, Some, None, inl, inr, refl, sym, ap, ◌∙◌}
use Rattle.std.specs.Prelude.{◌==◌, ◌^◌, nat_lt, nat_le, bytes_eq, option_to_list}
use Rattle.std.specs.List.{list_any, list_all}
use Rattle.std.proofs.lemmas.Bool.{false≢true, both_ways, cond_both, cond-true, cond-false, cases_Bool, and_parts, and_from, and_left, or_from, eqb-true, eq-eqb, lt-ltb, le-leb, false_from_ne_true}
use Rattle.dots_lists.specs.Name.{is_name}
use Rattle.dots_settings.specs.declared.limits.Limits.{Limits}
use Rattle.dots_settings.specs.declared.peer.Role.{Role}
use Rattle.dots_settings.specs.declared.peer.Role.TheVariants as role
use Rattle.dots_settings.specs.Settings.{SettingsValue}
use Rattle.dots_settings.specs.Lookups.{no_domain, role_of, prefixes_of}
use Rattle.dots_history.specs.declared.config.Config.{Config}
use Rattle.dots_history.specs.declared.entry.Entry.{Entry}
use Rattle.dots_history.specs.declared.change.Change.{Change}
use Rattle.dots_history.specs.declared.change.Change.TheVariants as change
use Rattle.dots_history.specs.Bounds.{change_within, within_bounds}
use Rattle.dots_history.specs.Entries.{same_client, put_of, is_signal, is_held, is_configuration, is_loss, undoes, undoes_of_client, undoes_of_peer, reconfigures, resumes}
use Rattle.dots_history.specs.Histories.{or_else, is_nil, stays, held, alone}
use Rattle.dots_history.specs.Rows.{waits}
use Rattle.dots_history.specs.Calm.{may_configure, is_client_of, change_inside, is_http, is_own}
use Rattle.dots_history.specs.Capacities.{is_registration, is_alias, is_list}
use Rattle.dots_history.specs.Held.{config_set, config_of}
use Rattle.dots_history.proofs.Apart.{other_domain}
use Rattle.dots_history.proofs.Alone.{own_passes, other_dropped, far_resumes}
use Rattle.dots_registry.specs.RegistryValues.{RegistryValue, IsOf, Represents, time_of}
use Rattle.dots_registry.specs.Fitting.{fits_now}
use Rattle.dots_registry.specs.Limits.{ClientsKeepLimits}
use Rattle.dots_registry.proofs.Lists.{held_pass}
use Rattle.dots_registry.proofs.Inside.{configures, acts, acts_of, by_parts}
use Rattle.dots_registry.proofs.Bounded.{in_front}
use Rattle.dots_registry.proofs.Counted.{none_room}
use Rattle.dots_registry.proofs.FittingEntries.{entry_fits_now, limits_hold}

-- ---- what sets or clears a configuration is a signal, and neither a loss nor a mitigation, nor does it register or hold for a client
kind_of : (c : Change) → is_configuration c ≡ true → (is_signal c ≡ true) × (is_loss c ≡ false) × (waits c ≡ false)
unfolding is_configuration is_signal is_loss
kind_of (change.SetConfig sid config) is = (refl, refl, refl)
kind_of change.ClearConfig is = (refl, refl, refl)
kind_of _ is = absurd (false≢true is)

puts_none : (c : Change) → is_configuration c ≡ true → put_of c ≡ None
unfolding is_configuration
puts_none (change.SetConfig sid config) is = refl
puts_none change.ClearConfig is = refl
puts_none _ is = absurd (false≢true is)

holds_none : (c : Change) → is_configuration c ≡ true → (is_registration c ≡ false) × (is_alias c || is_list c ≡ false)
unfolding is_configuration is_registration is_alias is_list
holds_none (change.SetConfig sid config) is = (refl, refl)
holds_none change.ClearConfig is = (refl, refl)
holds_none _ is = absurd (false≢true is)

-- ---- the entry
pub own_configured : (settings : SettingsValue) (e : Entry) → is_configuration e.change ≡ true → may_configure (role_of settings e.peer) e.domain ≡ true
    → e.cuid ≡ [] → is_own settings e ≡ true
own_configured settings e is may nobody =
    let kind = kind_of e.change is in
    by_parts settings e
    (ap (λ b. cond b (configures settings e) (acts settings e && change_inside settings (prefixes_of settings e.domain) e.change)) is
    ∙ and_from (is_nil e.cuid) (may_configure (role_of settings e.peer) e.domain) (ap is_nil nobody) may)
    (ap (λ b. not b || (is_nil e.cuid && is_client_of (role_of settings e.peer) e.domain)) kind.1)
    (ap (λ b. not b || is_client_of (role_of settings e.peer) e.domain) kind.2)
    (ap (λ b. b || is_http e.key) kind.0)

pub bounded_configured : (e : Entry) → e.time < 2 ^ 48 → e.cuid ≡ [] → length e.reply ≤ 64 → change_within e.change ≡ true → within_bounds e ≡ true
bounded_configured e time nobody reply within =
    let timed = nat_lt e.time (2 ^ 48) in
    and_from
    (in_front e)
    (change_within e.change)
    (and_from
    (timed && ((length e.cuid == 0) || is_name e.cuid))
    (nat_le (length e.reply) 64)
    (and_from timed ((length e.cuid == 0) || is_name e.cuid) (lt-ltb e.time (2 ^ 48) time) (ap (λ (c : List ℕ). (length c == 0) || is_name c) nobody))
    (le-leb (length e.reply) 64 reply))
    within

pub fits_configured : (settings : SettingsValue) (registry : RegistryValue) (entries : List Entry) (e : Entry) → is_configuration e.change ≡ true
    → IsOf settings registry → Represents registry entries → ClientsKeepLimits settings.limits (time_of registry) entries
    → is_own settings e ≡ true → within_bounds e ≡ true → e.time ≡ time_of registry
    → fits_now settings registry entries e ≡ true
fits_configured settings registry entries e is is_of represents clients own within at =
    entry_fits_now
    settings
    registry
    entries
    e
    is_of
    represents
    clients
    own
    within
    at
    (holds_none e.change is)
    (none_room settings.limits (time_of registry) entries e at (puts_none e.change is))

pub configured_limits : (limits : Limits) (t : ℕ) (entries : List Entry) (e : Entry) → is_configuration e.change ≡ true
    → ClientsKeepLimits limits t entries → e.time ≡ t → ClientsKeepLimits limits t (entries ++ e ∷ [])
configured_limits limits t entries e is clients at =
    limits_hold limits t entries e clients at (holds_none e.change is) (none_room limits t entries e at (puts_none e.change is))

-- ---- the one domain in which a peer configures its session
one_domain : (r : Role) (a b : ℕ) → may_configure r a ≡ true → may_configure r b ≡ true → a ≡ b
one_domain role.Stranger a b one other = absurd (false≢true one)
one_domain (role.Client own) a b one other = sym (eqb-true own a one) ∙ eqb-true own b other
one_domain role.Gateway a b one other = eqb-true a no_domain one ∙ sym (eqb-true b no_domain other)

configures_there : (settings : SettingsValue) (e : Entry) → is_own settings e ≡ true → is_configuration e.change ≡ true
    → may_configure (role_of settings e.peer) e.domain ≡ true
configures_there settings e own is =
    (and_parts
    (is_nil e.cuid)
    (may_configure (role_of settings e.peer) e.domain)
    (sym (cond-true
    (is_configuration e.change)
    (configures settings e)
    (acts settings e && change_inside settings (prefixes_of settings e.domain) e.change)
    is)
    ∙ acts_of settings e own)).1

-- an entry that configures the session of the peer is of its domain
pub configured_there : (settings : SettingsValue) (peer domain : ℕ) (e : Entry) → may_configure (role_of settings peer) domain ≡ true
    → is_own settings e ≡ true → e.peer ≡ peer → is_configuration e.change ≡ true → e.domain ≡ domain
configured_there settings peer domain e may own of is =
    one_domain
    (role_of settings peer)
    e.domain
    domain
    (ap (λ p. may_configure (role_of settings p) e.domain) (sym of) ∙ configures_there settings e own is)
    may

-- ---- what is held of a domain
set_anew : (c later : Change) → undoes_of_peer c later ≡ true → (is_configuration c ≡ true) × (is_configuration later ≡ true)
unfolding undoes_of_peer is_configuration
set_anew (change.SetConfig sid config) later is = (refl, is)
set_anew _ later is = absurd (false≢true is)

reconfigured_there : (settings : SettingsValue) (e x : Entry) → is_own settings e ≡ true → is_own settings x ≡ true → reconfigures e x ≡ true → x.domain ≡ e.domain
unfolding reconfigures
reconfigured_there settings e x own next is =
    let parts = and_parts (e.peer == x.peer) (undoes_of_peer e.change x.change) is in
    let kinds = set_anew e.change x.change parts.1 in
    configured_there settings e.peer e.domain x (configures_there settings e own kinds.0) next (sym (eqb-true e.peer x.peer parts.0)) kinds.1

-- an entry of another domain undoes nothing of this one
far_undone : (domain : ℕ) (e x : Entry) → (e.domain == domain) ≡ true → (x.domain == domain) ≡ false
    → (reconfigures e x ≡ true → x.domain ≡ e.domain) → undoes e x ≡ false
unfolding undoes same_client
far_undone domain e x here there one =
    let far = other_domain domain e x here there in
    or_from
    (((e.domain == x.domain) && bytes_eq e.cuid x.cuid) && undoes_of_client e.change x.change)
    (reconfigures e x || resumes e x)
    (and_left
    ((e.domain == x.domain) && bytes_eq e.cuid x.cuid)
    (undoes_of_client e.change x.change)
    (and_left (e.domain == x.domain) (bytes_eq e.cuid x.cuid) far))
    (or_from (reconfigures e x) (resumes e x)
    (false_from_ne_true
    (reconfigures e x)
    (λ is. both_ways (x.domain == domain) there (eq-eqb x.domain domain (one is ∙ eqb-true e.domain domain here))))
    (far_resumes e x far))

same_undone : (settings : SettingsValue) (domain : ℕ) (e : Entry) (later : List Entry) → (e.domain == domain) ≡ true → is_own settings e ≡ true
    → list_all (is_own settings) later ≡ true → list_any (undoes e) (alone domain later) ≡ list_any (undoes e) later
same_undone settings domain e [] here own all = refl
same_undone settings domain e (x ∷ later) here own all =
    let parts = and_parts (is_own settings x) (list_all (is_own settings) later) all in
    let go = same_undone settings domain e later here own parts.1 in
    cond_both
    (x.domain == domain)
    (x ∷ alone domain later)
    (alone domain later)
    (λ es. list_any (undoes e) es ≡ list_any (undoes e) (x ∷ later))
    (λ same. ap (λ b. undoes e x || b) go)
    (λ there. go ∙ sym (ap (λ b. b || list_any (undoes e) later) (far_undone domain e x here there (reconfigured_there settings e x own parts.0))))

pub own_held_alone : (settings : SettingsValue) (domain : ℕ) (entries : List Entry) → list_all (is_own settings) entries ≡ true
    → held (alone domain entries) ≡ alone domain (held entries)
own_held_alone settings domain [] all = refl
own_held_alone settings domain (e ∷ later) all =
    let parts = and_parts (is_own settings e) (list_all (is_own settings) later) all in
    let go = own_held_alone settings domain later parts.1 in
    cond_both
    (e.domain == domain)
    (e ∷ alone domain later)
    (alone domain later)
    (λ es. held es ≡ alone domain (held (e ∷ later)))
    (λ here.
    ap
    (λ b. option_to_list (cond (is_held e.change && not b) (Some e) None) ++ held (alone domain later))
    (same_undone settings domain e later here parts.0 parts.1)
    ∙ ap (λ es. option_to_list (cond (stays e later) (Some e) None) ++ es) go
    ∙ sym (own_passes (stays e later) domain e (held later) here))
    (λ there. go ∙ sym (other_dropped (stays e later) domain e (held later) there))

-- ---- what is read of it
no_setting : (c : Change) → is_configuration c ≡ false → config_set c ≡ None
unfolding is_configuration
no_setting (change.SetConfig sid config) out = absurd (false≢true (sym out))
no_setting _ out = refl

abbrev set_by : ℕ → Entry → Option (ℕ × Config)
set_by peer e = cond (e.peer == peer) (config_set e.change) None

none_elsewhere : (settings : SettingsValue) (peer domain : ℕ) (e : Entry) → may_configure (role_of settings peer) domain ≡ true → is_own settings e ≡ true
    → (e.domain == domain) ≡ false → set_by peer e ≡ None
none_elsewhere settings peer domain e may own there =
    elim (cases_Bool (e.peer == peer)) [
      | inl of ↦
          cond-true (e.peer == peer) (config_set e.change) None of
          ∙ no_setting
          e.change
          (false_from_ne_true
          (is_configuration e.change)
          (λ is.
          both_ways
          (e.domain == domain)
          there
          (eq-eqb e.domain domain (configured_there settings peer domain e may own (eqb-true e.peer peer of) is))))
      | inr out ↦ cond-false (e.peer == peer) (config_set e.change) None out
    ]

read_alone : (settings : SettingsValue) (peer domain : ℕ) (standing : List Entry) → may_configure (role_of settings peer) domain ≡ true
    → list_all (is_own settings) standing ≡ true → config_of peer (alone domain standing) ≡ config_of peer standing
read_alone settings peer domain [] may all = refl
read_alone settings peer domain (e ∷ es) may all =
    let parts = and_parts (is_own settings e) (list_all (is_own settings) es) all in
    let go = read_alone settings peer domain es may parts.1 in
    cond_both
    (e.domain == domain)
    (e ∷ alone domain es)
    (alone domain es)
    (λ xs. config_of peer xs ≡ config_of peer (e ∷ es))
    (λ here. ap (λ o. or_else (set_by peer e) o) go)
    (λ there. go ∙ sym (ap (λ o. or_else o (config_of peer es)) (none_elsewhere settings peer domain e may parts.0 there)))

pub configured_alone : (settings : SettingsValue) (entries : List Entry) (peer domain : ℕ) → list_all (is_own settings) entries ≡ true
    → may_configure (role_of settings peer) domain ≡ true → config_of peer (held entries) ≡ config_of peer (held (alone domain entries))
configured_alone settings entries peer domain all may =
    sym (ap (λ standing. config_of peer standing) (own_held_alone settings domain entries all)
    ∙ read_alone settings peer domain (held entries) may (held_pass (is_own settings) entries all))
