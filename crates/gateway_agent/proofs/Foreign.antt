-- No server has an entry in the domain of a store's entries.
use Rattle.std.proofs.Common.{◌≡◌, ℕ, ◌≤◌, Bool, true, false, List, [], ◌∷◌, length, refl, sym, subst, ◌∙◌, arith}
use Rattle.std.specs.Prelude.{◌^◌, ◌==◌, ◌&&◌, nat_le, nat_lt, Option, Some, None, option_map, unwrap_or}
use Rattle.std.specs.List.{AllByRecursion, find}
use Rattle.std.proofs.lemmas.Bool.{false≢true, and_left, and_right, ne_eqb, le-ltb, cond-true, cond-false, false_from_ne_true}
use Rattle.dots_settings.specs.declared.peer.PeerRow.{PeerRow}
use Rattle.dots_settings.specs.declared.peer.Role.{Role}
use Rattle.dots_settings.specs.declared.peer.Role.TheVariants as role
use Rattle.dots_settings.specs.Settings.{SettingsValue, IsKnown, IsSettings}
use Rattle.dots_settings.specs.Lookups.{role_of, prefixes_of}
use Rattle.dots_history.specs.declared.entry.Entry.{Entry}
use Rattle.dots_history.specs.Entries.{is_configuration}
use Rattle.dots_history.specs.Histories.{is_nil, mitigations}
use Rattle.dots_history.specs.Calm.{is_own, is_of_settings, came_rightly, acts_rightly, loses_rightly, waits_rightly, may_act, may_configure, change_inside}
use Rattle.dots_history.specs.Fits.{last_time, fits, joins, has_one_peer}
use Rattle.dots_gateway.specs.declared.exchange.Exchange.{Exchange}
use Rattle.slot_journal.specs.Untaken.{IsApart}
use Rattle.gateway_agent.specs.Forms.{exchange_domain, entry_of, is_form, exchange_in}
use Rattle.gateway_agent.specs.Refusing.{IsStray}
use Rattle.gateway_agent.proofs.Forms.{form_domain, none_is_read, none_read}
use Rattle.gateway_agent.proofs.Orders.{none_is}

-- ---- roles

abbrev role_in : Option PeerRow → Role
role_in found = unwrap_or (option_map (λ (row : PeerRow). row.role) found) role.Stranger

known_role : (n peer : ℕ) (rows : List PeerRow) → AllByRecursion (λ (row : PeerRow). IsKnown n row.role) rows
    → IsKnown n (unwrap_or (option_map (λ (row : PeerRow). row.role) (find (λ (row : PeerRow). row.peer == peer) rows)) role.Stranger)
known_role n peer [] known = tt
known_role n peer (row ∷ rows) known = by_peer (known_role n peer rows known.1) (row.peer == peer) refl
  where
    by_peer : IsKnown n (role_in (find (λ (row : PeerRow). row.peer == peer) rows)) → (b : Bool) → (row.peer == peer) ≡ b → IsKnown n (role_in (find (λ (row : PeerRow). row.peer == peer) (row ∷ rows)))
    by_peer rest true is =
        subst (λ o. IsKnown n (role_in o)) (sym (cond-true (row.peer == peer) (Some row) (find (λ (row : PeerRow). row.peer == peer) rows) is)) known.0
    by_peer rest false other =
        subst (λ o. IsKnown n (role_in o)) (sym (cond-false (row.peer == peer) (Some row) (find (λ (row : PeerRow). row.peer == peer) rows) other)) rest

acts_for_none : (settings : SettingsValue) (r : Role) (domain : ℕ) → length settings.domains ≤ 16 → domain ≡ exchange_domain → may_act settings r domain ≡ false
acts_for_none settings role.Stranger domain few is = refl
acts_for_none settings (role.Client own) domain few is =
    and_right (own == domain) (nat_lt domain (length settings.domains)) (le-ltb domain (length settings.domains) (omega (arith, few, is)))
acts_for_none settings role.Gateway domain few is = le-ltb domain (length settings.domains) (omega (arith, few, is))

configures_none : (n : ℕ) (r : Role) (domain : ℕ) → n ≤ 16 → IsKnown n r → domain ≡ exchange_domain → may_configure r domain ≡ false
configures_none n role.Stranger domain few known is = refl
configures_none n (role.Client own) domain few known is = ne_eqb own domain (λ same. absurd (omega (arith, few, known, is, same)))
configures_none n role.Gateway domain few known is = ne_eqb domain 65535 (λ same. absurd (omega (arith, is, same)))

-- ---- entries

abbrev configuring : SettingsValue → Entry → Bool
configuring settings e = is_nil e.cuid && may_configure (role_of settings e.peer) e.domain

abbrev acting : SettingsValue → Entry → Bool
acting settings e = may_act settings (role_of settings e.peer) e.domain && change_inside settings (prefixes_of settings e.domain) e.change

acts_not : (settings : SettingsValue) (e : Entry) → IsSettings settings → e.domain ≡ exchange_domain → acts_rightly settings e ≡ false
acts_not settings e valid is = by_kind (is_configuration e.change) refl
  where
    by_kind : (b : Bool) → is_configuration e.change ≡ b → acts_rightly settings e ≡ false
    by_kind true kind =
        cond-true (is_configuration e.change) (configuring settings e) (acting settings e) kind
        ∙ and_right (is_nil e.cuid) (may_configure (role_of settings e.peer) e.domain)
        (configures_none (length settings.domains) (role_of settings e.peer) e.domain valid.few (known_role (length settings.domains) e.peer settings.peers valid.known) is)
    by_kind false kind =
        cond-false (is_configuration e.change) (configuring settings e) (acting settings e) kind
        ∙ and_left (may_act settings (role_of settings e.peer) e.domain) (change_inside settings (prefixes_of settings e.domain) e.change)
        (acts_for_none settings (role_of settings e.peer) e.domain valid.few is)

of_none : (settings : SettingsValue) (e : Entry) → IsSettings settings → e.domain ≡ exchange_domain → is_of_settings settings e ≡ false
of_none settings e valid is = and_left (acts_rightly settings e) (loses_rightly settings e && waits_rightly settings e) (acts_not settings e valid is)

pub own_not : (settings : SettingsValue) (e : Entry) → IsSettings settings → e.domain ≡ exchange_domain → is_own settings e ≡ false
own_not settings e valid is = and_left (is_of_settings settings e) (came_rightly e) (of_none settings e valid is)

joins_not : (settings : SettingsValue) (e : Entry) → IsSettings settings → e.domain ≡ exchange_domain → joins settings [] e ≡ false
joins_not settings e valid is =
    and_left (fits settings [] e) (came_rightly e && has_one_peer e (mitigations e.time []))
    (and_left ((nat_le (last_time []) e.time && nat_lt e.time (2 ^ 48)) && is_of_settings settings e) _
    (and_right (nat_le (last_time []) e.time && nat_lt e.time (2 ^ 48)) (is_of_settings settings e) (of_none settings e valid is)))

pub server_refuses : (settings : SettingsValue) (x : Exchange) (later : List Entry) → IsSettings settings → IsApart settings (entry_of x ∷ later) 0
server_refuses settings x later valid = record {
  before = [];
  entry = entry_of x;
  later = later;
  cut = refl;
  calm = refl;
  apart = joins_not settings (entry_of x) valid refl;
  there = refl;
}

form_not : (settings : SettingsValue) (e : Entry) → IsSettings settings → is_own settings e ≡ true → is_form e ≡ false
form_not settings e valid own =
    false_from_ne_true (is_form e) (λ is. false≢true (sym (own_not settings e valid (form_domain e is)) ∙ own))

pub store_refuses : (settings : SettingsValue) (most : ℕ) (e : Entry) (later : List Entry) → IsSettings settings → is_own settings e ≡ true
    → (exchange_in e ≡ None) × IsStray most (e ∷ later) 0
store_refuses settings most e later valid own = (
  none_is_read e (form_not settings e valid own),
  record {
    before = [];
    entry = e;
    later = later;
    cut = refl;
    store = none_is most;
    stray = λ x is. absurd (none_read e x (form_not settings e valid own) is);
    there = refl;
  },
)
