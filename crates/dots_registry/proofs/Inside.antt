-- What is granted and what is withdrawn is the settings' own.
use Rattle.std.proofs.Common.{◌≡◌, ℕ, ◌<◌, Bool, true, false, cond, ◌&&◌, ◌||◌, not, List, [], ◌∷◌, length, Option, Some, None, Ok, refl, sym, ap, ◌∙◌}
use Rattle.std.specs.Prelude.{◌==◌, nat_lt, option_to_list, option_map, bytes_eq}
use Rattle.std.specs.List.{list_any, list_all, flat_map}
use Rattle.std.proofs.lemmas.Bool.{false≢true, cond_both, and_parts, and_from, or_right, eqb-true, eq-eqb, lt-ltb}
use Rattle.std.proofs.lemmas.List.Folds.{list_all-append}
use Rattle.std.proofs.lemmas.Option.{none-some, same_Some}
use Rattle.ip_scope.specs.Prefix.{PrefixValue, inside}
use Rattle.acl_lists.specs.declared.alias.Alias.{Alias}
use Rattle.acl_lists.specs.declared.asked.Asked.{Asked}
use Rattle.dots_settings.specs.Settings.{SettingsValue}
use Rattle.dots_settings.specs.Lookups.{role_of, prefixes_of, addresses_of}
use Rattle.dots_history.specs.declared.entry.Entry.{Entry}
use Rattle.dots_history.specs.declared.put.Put.{Put}
use Rattle.dots_history.specs.declared.put.Target.{Target}
use Rattle.dots_history.specs.declared.change.Change.{Change}
use Rattle.dots_history.specs.declared.change.Change.TheVariants as change
use Rattle.dots_history.specs.Entries.{is_configuration, is_signal, is_loss, put_of}
use Rattle.dots_history.specs.Rows.{waits}
use Rattle.dots_history.specs.declared.entry.MessageKey.TheVariants as key
use Rattle.dots_settings.specs.declared.peer.Role.TheVariants as role
use Rattle.dots_history.specs.Histories.{Mitigation, is_nil, held}
use Rattle.dots_history.specs.Calm.{may_act, may_configure, is_client_of, all_inside, name_inside, change_inside, acts_rightly, loses_rightly, waits_rightly, is_of_settings, came_rightly, is_http, is_own}
use Rattle.dots_history.specs.Tables.{Client, is_of}
use Rattle.conflict_rules.specs.declared.live.Live.{Live}
use Rattle.conflict_rules.specs.ByMid.{has_mid}
use Rattle.conflict_rules.specs.Lives.{put_or_nothing, live_of, lives_of}
use Rattle.dots_history.specs.Held.{alias_of, aliases_of}
use Rattle.conflict_rules.specs.declared.judging.Judged.{Judged}
use Rattle.conflict_rules.specs.Requests.{Request, ClientValue}
use Rattle.conflict_rules.specs.Targets.{prefixes_asked, target_of, own_target, alias_named, alias_target, targets_of}
use Rattle.conflict_rules.specs.ByHistory.{client_in, judge_request}
use Rattle.dots_registry.proofs.Lists.{found_passes, held_pass, lives_pass, written_pass}
use Rattle.dots_registry.proofs.Granted.{IsGranted, refreshes, begins, granted_by}

abbrev targets_inside : List PrefixValue → List Target → Bool
targets_inside domain targets = list_all (λ (target : Target). all_inside domain target.prefixes) targets

abbrev alias_inside : SettingsValue → List PrefixValue → Alias → Bool
alias_inside settings domain alias = all_inside domain alias.asked.prefixes && list_all (name_inside settings domain) alias.asked.names

-- ---- what is asked for
addresses_inside : (settings : SettingsValue) (domain : List PrefixValue) (names : List (List ℕ)) → list_all (name_inside settings domain) names ≡ true
    → all_inside domain (flat_map (addresses_of settings) names) ≡ true
addresses_inside settings domain [] all = refl
addresses_inside settings domain (name ∷ names) all =
    let parts = and_parts (name_inside settings domain name) (list_all (name_inside settings domain) names) all in
    let here = and_parts (not (is_nil (addresses_of settings name))) (all_inside domain (addresses_of settings name)) parts.0 in
    list_all-append (λ (prefix : PrefixValue). list_any (inside prefix) domain) (addresses_of settings name) (flat_map (addresses_of settings) names)
    ∙ and_from
    (all_inside domain (addresses_of settings name))
    (all_inside domain (flat_map (addresses_of settings) names))
    here.1
    (addresses_inside settings domain names parts.1)

asked_inside : (settings : SettingsValue) (domain : List PrefixValue) (asked : Asked) → all_inside domain asked.prefixes ≡ true
    → list_all (name_inside settings domain) asked.names ≡ true → all_inside domain (prefixes_asked settings asked) ≡ true
asked_inside settings domain asked prefixes names =
    list_all-append (λ (prefix : PrefixValue). list_any (inside prefix) domain) asked.prefixes (flat_map (addresses_of settings) asked.names)
    ∙ and_from
    (all_inside domain asked.prefixes)
    (all_inside domain (flat_map (addresses_of settings) asked.names))
    prefixes
    (addresses_inside settings domain asked.names names)

own_inside : (settings : SettingsValue) (domain : List PrefixValue) (asked : Asked) → all_inside domain (prefixes_asked settings asked) ≡ true
    → targets_inside domain (own_target settings asked) ≡ true
own_inside settings domain asked is =
    cond_both
    (is_nil (prefixes_asked settings asked))
    []
    (target_of settings asked ∷ [])
    (λ targets. targets_inside domain targets ≡ true)
    (λ none. refl)
    (λ some. and_from (all_inside domain (prefixes_asked settings asked)) true is refl)

-- ---- what the aliases stand for
if_named : (settings : SettingsValue) (domain : List PrefixValue) (o : Option Alias) → ((alias : Alias) → o ≡ Some alias → alias_inside settings domain alias ≡ true)
    → targets_inside domain (option_to_list (option_map (λ (alias : Alias). target_of settings alias.asked) o)) ≡ true
if_named settings domain None leads = refl
if_named settings domain (Some alias) leads =
    let parts = and_parts (all_inside domain alias.asked.prefixes) (list_all (name_inside settings domain) alias.asked.names) (leads alias refl) in
    and_from (all_inside domain (prefixes_asked settings alias.asked)) true (asked_inside settings domain alias.asked parts.0 parts.1) refl

named_inside : (settings : SettingsValue) (domain : List PrefixValue) (aliases : List Alias) (names : List (List ℕ)) → list_all (alias_inside settings domain) aliases ≡ true
    → targets_inside domain (flat_map (alias_target settings aliases) names) ≡ true
named_inside settings domain aliases [] all = refl
named_inside settings domain aliases (name ∷ names) all =
    let rest = flat_map (alias_target settings aliases) names in
    list_all-append (λ (target : Target). all_inside domain target.prefixes) (alias_target settings aliases name) rest
    ∙ and_from
    (targets_inside domain (alias_target settings aliases name))
    (targets_inside domain rest)
    (if_named
    settings
    domain
    (alias_named name aliases)
    (λ alias is. found_passes (λ (other : Alias). bytes_eq name other.name) (alias_inside settings domain) aliases alias is all))
    (named_inside settings domain aliases names all)

new_inside : (settings : SettingsValue) (domain : List PrefixValue) (aliases : List Alias) (asked : Asked) → list_all (alias_inside settings domain) aliases ≡ true
    → all_inside domain asked.prefixes ≡ true → list_all (name_inside settings domain) asked.names ≡ true
    → targets_inside domain (targets_of settings aliases asked) ≡ true
new_inside settings domain aliases asked all prefixes names =
    let rest = flat_map (alias_target settings aliases) asked.aliases in
    list_all-append (λ (target : Target). all_inside domain target.prefixes) (own_target settings asked) rest
    ∙ and_from
    (targets_inside domain (own_target settings asked))
    (targets_inside domain rest)
    (own_inside settings domain asked (asked_inside settings domain asked prefixes names))
    (named_inside settings domain aliases asked.aliases all)

-- ---- what the entries of the settings' own name
alias_of_change : (settings : SettingsValue) (domain : List PrefixValue) (c : Change) (alias : Alias) (configures acts b : Bool) → is_configuration c ≡ b
    → alias_of c ≡ Some alias → cond b configures (acts && change_inside settings domain c) ≡ true → alias_inside settings domain alias ≡ true
unfolding is_configuration
alias_of_change settings domain (change.SetAlias other) alias configures acts true same is own = absurd (false≢true same)
alias_of_change settings domain (change.SetAlias other) alias configures acts false same is own =
    ap (alias_inside settings domain) (sym (same_Some other alias is))
    ∙ (and_parts acts (change_inside settings domain (change.SetAlias other)) own).1
alias_of_change settings domain _ alias configures acts b same is own = absurd (none-some alias is)

put_of_change : (settings : SettingsValue) (domain : List PrefixValue) (c : Change) (configures acts b : Bool) → is_configuration c ≡ b
    → cond b configures (acts && change_inside settings domain c) ≡ true → targets_inside domain (put_or_nothing (put_of c)).targets ≡ true
unfolding is_configuration
put_of_change settings domain (change.Put put) configures acts true same own = absurd (false≢true same)
put_of_change settings domain (change.Put put) configures acts false same own =
    (and_parts acts (change_inside settings domain (change.Put put)) own).1
put_of_change settings domain _ configures acts b same own = refl

abbrev pub configures : SettingsValue → Entry → Bool
configures settings e = is_nil e.cuid && may_configure (role_of settings e.peer) e.domain

abbrev pub acts : SettingsValue → Entry → Bool
acts settings e = may_act settings (role_of settings e.peer) e.domain

pub acts_of : (settings : SettingsValue) (e : Entry) → is_own settings e ≡ true → acts_rightly settings e ≡ true
acts_of settings e own =
    (and_parts (acts_rightly settings e) (loses_rightly settings e && waits_rightly settings e) (and_parts (is_of_settings settings e) (came_rightly e) own).0).0

in_domain : (client : Client) (e : Entry) → is_of client e ≡ true → client.domain ≡ e.domain
unfolding is_of
in_domain client e is = eqb-true client.domain e.domain (and_parts (client.domain == e.domain) (bytes_eq client.cuid e.cuid) is).0

alias_own : (settings : SettingsValue) (client : Client) (e : Entry) (alias : Alias) → is_own settings e ≡ true → is_of client e ≡ true
    → alias_of e.change ≡ Some alias → alias_inside settings (prefixes_of settings client.domain) alias ≡ true
alias_own settings client e alias own of is =
    ap (λ domain. alias_inside settings (prefixes_of settings domain) alias) (in_domain client e of)
    ∙ alias_of_change
    settings
    (prefixes_of settings e.domain)
    e.change
    alias
    (configures settings e)
    (acts settings e)
    (is_configuration e.change)
    refl
    is
    (acts_of settings e own)

put_own : (settings : SettingsValue) (domain : ℕ) (m : Mitigation) → is_own settings m.put ≡ true → (m.put.domain == domain) ≡ true
    → targets_inside (prefixes_of settings domain) (live_of m).put.targets ≡ true
put_own settings domain m own here =
    ap (λ d. targets_inside (prefixes_of settings d) (live_of m).put.targets) (sym (eqb-true m.put.domain domain here))
    ∙ put_of_change
    settings
    (prefixes_of settings m.put.domain)
    m.put.change
    (configures settings m.put)
    (acts settings m.put)
    (is_configuration m.put.change)
    refl
    (acts_of settings m.put own)

-- ---- the entry
-- where it is neither a loss nor waits, it is the settings' own by what it names alone
pub by_parts : (settings : SettingsValue) (e : Entry) → acts_rightly settings e ≡ true → loses_rightly settings e ≡ true → waits_rightly settings e ≡ true → came_rightly e ≡ true
    → is_own settings e ≡ true
by_parts settings e rightly losses waiting came =
    and_from
    (is_of_settings settings e)
    (came_rightly e)
    (and_from
    (acts_rightly settings e)
    (loses_rightly settings e && waits_rightly settings e)
    rightly
    (and_from (loses_rightly settings e) (waits_rightly settings e) losses waiting))
    came

twice_not : (b c : Bool) → (b || c) ≡ true → (not (not b) || c) ≡ true
twice_not true c is = refl
twice_not false c is = is

own_put : (settings : SettingsValue) (e : Entry) (put : Put) → e.change ≡ change.Put put → may_act settings (role_of settings e.peer) e.domain ≡ true
    → (put.trigger || is_client_of (role_of settings e.peer) e.domain) ≡ true
    → targets_inside (prefixes_of settings e.domain) put.targets ≡ true → is_own settings e ≡ true
unfolding is_configuration is_signal is_loss
own_put settings e put is may triggers within =
    by_parts settings e
    (ap (λ c. cond (is_configuration c) (configures settings e) (acts settings e && change_inside settings (prefixes_of settings e.domain) c)) is
    ∙ and_from (acts settings e) (targets_inside (prefixes_of settings e.domain) put.targets) may within)
    (ap (λ c. not (is_loss c) || (is_nil e.cuid && is_client_of (role_of settings e.peer) e.domain)) is)
    (ap (λ c. not (waits c) || is_client_of (role_of settings e.peer) e.domain) is
    ∙ twice_not put.trigger (is_client_of (role_of settings e.peer) e.domain) triggers)
    (ap (λ c. is_signal c || is_http e.key) is)

pub own_withdrawal : (settings : SettingsValue) (mid : ℕ) (e : Entry) → e.change ≡ change.Withdraw mid → may_act settings (role_of settings e.peer) e.domain ≡ true
    → is_own settings e ≡ true
unfolding is_configuration is_signal is_loss
own_withdrawal settings mid e is may =
    by_parts settings e
    (ap (λ c. cond (is_configuration c) (configures settings e) (acts settings e && change_inside settings (prefixes_of settings e.domain) c)) is
    ∙ and_from (acts settings e) true may refl)
    (ap (λ c. not (is_loss c) || (is_nil e.cuid && is_client_of (role_of settings e.peer) e.domain)) is)
    (ap (λ c. not (waits c) || is_client_of (role_of settings e.peer) e.domain) is)
    (ap (λ c. is_signal c || is_http e.key) is)

-- a loss, or its end
loss_kind : (settings : SettingsValue) (domain : List PrefixValue) (c : Change) → is_loss c ≡ true
    → (is_configuration c ≡ false) × (change_inside settings domain c ≡ true) × (waits c ≡ false)
unfolding is_configuration is_loss
loss_kind settings domain change.Lost is = (refl, refl, refl)
loss_kind settings domain change.Back is = (refl, refl, refl)
loss_kind settings domain _ is = absurd (false≢true is)

own_client : (settings : SettingsValue) (peer domain : ℕ) → role_of settings peer ≡ role.Client domain → domain < length settings.domains
    → (may_act settings (role_of settings peer) domain ≡ true) × (is_client_of (role_of settings peer) domain ≡ true)
own_client settings peer domain is less = (
  ap (λ r. may_act settings r domain) is
      ∙ and_from (domain == domain) (nat_lt domain (length settings.domains)) (eq-eqb domain domain refl) (lt-ltb domain (length settings.domains) less),
  ap (λ r. is_client_of r domain) is ∙ eq-eqb domain domain refl,
)

pub own_loss : (settings : SettingsValue) (e : Entry) → is_loss e.change ≡ true → role_of settings e.peer ≡ role.Client e.domain
    → e.domain < length settings.domains → e.cuid ≡ [] → e.key ≡ key.Http → is_own settings e ≡ true
own_loss settings e is client less nobody http =
    let kind = loss_kind settings (prefixes_of settings e.domain) e.change is in
    let own = own_client settings e.peer e.domain client less in
    by_parts settings e
    (ap (λ b. cond b (configures settings e) (acts settings e && change_inside settings (prefixes_of settings e.domain) e.change)) kind.0
    ∙ and_from (acts settings e) (change_inside settings (prefixes_of settings e.domain) e.change) own.0 kind.1)
    (or_right
    (not (is_loss e.change))
    (is_nil e.cuid && is_client_of (role_of settings e.peer) e.domain)
    (and_from (is_nil e.cuid) (is_client_of (role_of settings e.peer) e.domain) (ap is_nil nobody) own.1))
    (ap (λ b. not b || is_client_of (role_of settings e.peer) e.domain) kind.2)
    (or_right (is_signal e.change) (is_http e.key) (ap is_http http))

granted_inside : (settings : SettingsValue) (t : ℕ) (entries : List Entry) (domain : ℕ) (request : Request) (judged : Judged)
    → list_all (is_own settings) entries ≡ true → all_inside (prefixes_of settings domain) request.asked.prefixes ≡ true
    → list_all (name_inside settings (prefixes_of settings domain)) request.asked.names ≡ true
    → IsGranted settings (lives_of domain t entries) (client_in entries (record { domain = domain; cuid = request.cuid })) t request judged
    → targets_inside (prefixes_of settings domain) judged.put.targets ≡ true
granted_inside settings t entries domain request judged own prefixes names (refreshes m found is) =
    ap (λ (j : Judged). targets_inside (prefixes_of settings domain) j.put.targets) is
    ∙ found_passes
    (has_mid request.cuid request.mid)
    (λ (x : Live). targets_inside (prefixes_of settings domain) x.put.targets)
    (lives_of domain t entries)
    m
    found
    (lives_pass
    (λ (x : Live). targets_inside (prefixes_of settings domain) x.put.targets)
    (is_own settings)
    domain
    t
    entries
    (put_own settings domain)
    own)
granted_inside settings t entries domain request judged own prefixes names (begins few place is) =
    let client : Client = record { domain = domain; cuid = request.cuid } in
    ap (λ (j : Judged). targets_inside (prefixes_of settings domain) j.put.targets) is
    ∙ new_inside
    settings
    (prefixes_of settings domain)
    (aliases_of client (held entries))
    request.asked
    (written_pass
    alias_of
    (alias_inside settings (prefixes_of settings domain))
    (is_own settings)
    client
    (held entries)
    (alias_own settings client)
    (held_pass (is_own settings) entries own))
    prefixes
    names

-- what is granted has the trigger value of the request
trigger_of : (settings : SettingsValue) (live : List Live) (client : ClientValue) (t : ℕ) (request : Request) (judged : Judged)
    → IsGranted settings live client t request judged → judged.put.trigger ≡ request.trigger
trigger_of settings live client t request judged (refreshes m found is) = ap (λ (j : Judged). j.put.trigger) is
trigger_of settings live client t request judged (begins few place is) = ap (λ (j : Judged). j.put.trigger) is

pub own_granted : (settings : SettingsValue) (t : ℕ) (entries : List Entry) (domain : ℕ) (request : Request) (judged : Judged) (e : Entry)
    → list_all (is_own settings) entries ≡ true
    → may_act settings (role_of settings request.peer) domain ≡ true
    → (request.trigger || is_client_of (role_of settings request.peer) domain) ≡ true
    → all_inside (prefixes_of settings domain) request.asked.prefixes ≡ true
    → list_all (name_inside settings (prefixes_of settings domain)) request.asked.names ≡ true
    → judge_request settings t entries domain request ≡ Ok judged
    → e.peer ≡ request.peer → e.domain ≡ domain → e.cuid ≡ request.cuid → e.change ≡ change.Put judged.put
    → is_own settings e ≡ true
own_granted settings t entries domain request judged e own may triggers prefixes names is peer of cuid put =
    let client : Client = record { domain = domain; cuid = request.cuid } in
    let granted = granted_by settings (lives_of domain t entries) (client_in entries client) t request judged is in
    own_put
    settings
    e
    judged.put
    put
    (ap (λ p. may_act settings (role_of settings p) e.domain) peer ∙ ap (λ d. may_act settings (role_of settings request.peer) d) of ∙ may)
    (ap (λ b. b || is_client_of (role_of settings e.peer) e.domain) (trigger_of settings (lives_of domain t entries) (client_in entries client) t request judged granted)
    ∙ ap (λ p. request.trigger || is_client_of (role_of settings p) e.domain) peer
    ∙ ap (λ d. request.trigger || is_client_of (role_of settings request.peer) d) of
    ∙ triggers)
    (ap (λ d. targets_inside (prefixes_of settings d) judged.put.targets) of
    ∙ granted_inside settings t entries domain request judged own prefixes names granted)
