-- What was a domain's own is its own, where the lines that concern it say what they said.
use Rattle.std.proofs.Common.{◌≡◌, ℕ, ◌≤◌, ◌<◌, Bool, true, false, cond, not, ◌&&◌, ◌||◌, List, [], ◌∷◌, ◌++◌, length, map, Option, Some, None, inl, inr, refl, sym, ap, ◌∙◌, subst, arith}
use Rattle.std.specs.Prelude.{◌==◌, nat_lt, if◌then◌else◌}
use Rattle.std.specs.List.{list_any, list_all}
use Rattle.std.proofs.lemmas.Bool.{false≢true, cond_both, cond-true, cond-false, and_parts, and_from, or_cases, or_left, or_right, cases_Bool, both_ways, eq-eqb, eqb-true, lt-ltb, ltb-true, not_from_true, not_from_false}
use Rattle.ip_scope.specs.Prefix.{PrefixValue, inside}
use Rattle.acl_lists.specs.declared.ace.Ace.{Ace}
use Rattle.dots_settings.specs.declared.peer.Role.{Role}
use Rattle.dots_settings.specs.declared.peer.Role.TheVariants as role
use Rattle.dots_settings.specs.Settings.{SettingsValue, IsSettings}
use Rattle.dots_settings.specs.Lookups.{no_domain, role_of, prefixes_of}
use Rattle.dots_history.specs.declared.entry.Entry.{Entry}
use Rattle.dots_history.specs.declared.put.Target.{Target}
use Rattle.dots_history.specs.declared.change.Change.{Change}
use Rattle.dots_history.specs.declared.change.Change.TheVariants as change
use Rattle.dots_history.specs.Entries.{is_configuration, is_loss}
use Rattle.dots_history.specs.Histories.{is_nil}
use Rattle.dots_history.specs.Rows.{waits}
use Rattle.dots_history.specs.Calm.{may_act, may_configure, all_inside, name_inside, destination_inside, change_inside, is_client_of, loses_rightly, acts_rightly, waits_rightly, is_of_settings}
use Rattle.host_checks.specs.Migrating.{number_in, with_domain, KeepsLines}
use Rattle.host_checks.proofs.Carrying.{to_domain, IsIn}
use Rattle.host_checks.proofs.Numbers.{named_number, no_number}

-- ---- what lies inside
all_more : {A : Type 0} (test other : A → Bool) (xs : List A) → ((x : A) → test x ≡ true → other x ≡ true) → list_all test xs ≡ true → list_all other xs ≡ true
all_more test other [] more all = refl
all_more test other (x ∷ xs) more all =
    let parts = and_parts (test x) (list_all test xs) all in and_from (other x) (list_all other xs) (more x parts.0) (all_more test other xs more parts.1)

abbrev Holds : List PrefixValue → List PrefixValue → Type 0
Holds domain other = (prefix : PrefixValue) → list_any (inside prefix) domain ≡ true → list_any (inside prefix) other ≡ true

all_still : (domain other prefixes : List PrefixValue) → Holds domain other → all_inside domain prefixes ≡ true → all_inside other prefixes ≡ true
all_still domain other prefixes holds all = all_more (λ prefix. list_any (inside prefix) domain) (λ prefix. list_any (inside prefix) other) prefixes holds all

aimed_still : (domain other : List PrefixValue) (aim : Option PrefixValue) → Holds domain other → destination_inside domain aim ≡ true → destination_inside other aim ≡ true
aimed_still domain other None holds is = refl
aimed_still domain other (Some prefix) holds is = holds prefix is

change_still : (old new : SettingsValue) (domain other : List PrefixValue) (c : Change) → Holds domain other
    → ((name : List ℕ) → name_inside old domain name ≡ true → name_inside new other name ≡ true) → change_inside old domain c ≡ true → change_inside new other c ≡ true
change_still old new domain other (change.Put put) holds names is =
    all_more (λ (target : Target). all_inside domain target.prefixes) (λ (target : Target). all_inside other target.prefixes) put.targets (λ target within. all_still domain other target.prefixes holds within) is
change_still old new domain other (change.SetAlias alias) holds names is =
    let parts = and_parts (all_inside domain alias.asked.prefixes) (list_all (name_inside old domain) alias.asked.names) is in
    and_from
    (all_inside other alias.asked.prefixes)
    (list_all (name_inside new other) alias.asked.names)
    (all_still domain other alias.asked.prefixes holds parts.0)
    (all_more (name_inside old domain) (name_inside new other) alias.asked.names names parts.1)
change_still old new domain other (change.SetAcl acl) holds names is =
    all_more (λ (ace : Ace). destination_inside domain ace.destination) (λ (ace : Ace). destination_inside other ace.destination) acl.aces (λ ace within. aimed_still domain other ace.destination holds within) is
change_still old new domain other (change.Withdraw mid) holds names is = refl
change_still old new domain other (change.DropAlias name) holds names is = refl
change_still old new domain other (change.DropAcl name) holds names is = refl
change_still old new domain other change.Register holds names is = refl
change_still old new domain other change.Deregister holds names is = refl
change_still old new domain other (change.SetConfig sid config) holds names is = refl
change_still old new domain other change.ClearConfig holds names is = refl
change_still old new domain other change.Lost holds names is = refl
change_still old new domain other change.Back holds names is = refl

-- ---- who may ask
below_there : (old new : SettingsValue) (domain number : ℕ) → IsSettings old → number_in old new domain ≡ Some number → nat_lt domain (length old.domains) ≡ true
    → nat_lt number (length new.domains) ≡ true
below_there old new domain number valid known below =
    elim (cases_Bool (domain == no_domain)) [
      | inl none ↦
          let few = valid.few in
          let less = ltb-true domain (length old.domains) below in
          let is = eqb-true domain no_domain none in
          absurd (omega (arith, few, less, is))
      | inr some ↦ lt-ltb number (length new.domains) (named_number old new domain number known some).below
    ]

acts_as : (old new : SettingsValue) (domain number : ℕ) (r : Role) (now : Role) → IsSettings old → number_in old new domain ≡ Some number
    → (r ≡ role.Client domain → now ≡ role.Client number) → (r ≡ role.Gateway → now ≡ role.Gateway) → may_act old r domain ≡ true → may_act new now number ≡ true
acts_as old new domain number role.Stranger now valid known client gateway may = absurd (false≢true may)
acts_as old new domain number (role.Client own) now valid known client gateway may =
    let parts = and_parts (own == domain) (nat_lt domain (length old.domains)) may in
    ap (λ r. may_act new r number) (client (ap role.Client (eqb-true own domain parts.0)))
    ∙ and_from (number == number) (nat_lt number (length new.domains)) (eq-eqb number number refl) (below_there old new domain number valid known parts.1)
acts_as old new domain number role.Gateway now valid known client gateway may =
    ap (λ r. may_act new r number) (gateway refl) ∙ below_there old new domain number valid known may

configures_as : (old new : SettingsValue) (domain number : ℕ) (r : Role) (now : Role) → number_in old new domain ≡ Some number
    → (r ≡ role.Client domain → now ≡ role.Client number) → (r ≡ role.Gateway → now ≡ role.Gateway) → may_configure r domain ≡ true → may_configure now number ≡ true
configures_as old new domain number role.Stranger now known client gateway may = absurd (false≢true may)
configures_as old new domain number (role.Client own) now known client gateway may =
    ap (λ r. may_configure r number) (client (ap role.Client (eqb-true own domain may))) ∙ eq-eqb number number refl
configures_as old new domain number role.Gateway now known client gateway may =
    ap (λ r. may_configure r number) (gateway refl) ∙ eq-eqb number no_domain (no_number old new domain number known may)

client_as : (domain number : ℕ) (r : Role) (now : Role) → (r ≡ role.Client domain → now ≡ role.Client number) → is_client_of r domain ≡ true → is_client_of now number ≡ true
client_as domain number role.Stranger now client is = absurd (false≢true is)
client_as domain number (role.Client own) now client is = ap (λ r. is_client_of r number) (client (ap role.Client (eqb-true own domain is))) ∙ eq-eqb number number refl
client_as domain number role.Gateway now client is = absurd (false≢true is)

or_more : (front back other : Bool) → (back ≡ true → other ≡ true) → (front || back) ≡ true → (front || other) ≡ true
or_more true back other more is = refl
or_more false back other more is = more is

and_more : (front back other : Bool) → (back ≡ true → other ≡ true) → (front && back) ≡ true → (front && other) ≡ true
and_more true back other more is = more is
and_more false back other more is = absurd (false≢true is)

by_kind : (b : Bool) (one two first second : Bool) → (one ≡ true → first ≡ true) → (two ≡ true → second ≡ true) → (if b then one else two) ≡ true → (if b then first else second) ≡ true
by_kind true one two first second more also is = more is
by_kind false one two first second more also is = also is

pub own_still : (old new : SettingsValue) (domain number : ℕ) (e : Entry) → IsSettings old → KeepsLines old new domain number → IsIn domain e → is_of_settings old e ≡ true
    → is_of_settings new (to_domain number e) ≡ true
own_still old new domain number e valid lines own is =
    let r = role_of old e.peer in
    let now = role_of new e.peer in
    let client : r ≡ role.Client domain → now ≡ role.Client number = lines.clients e.peer in
    let gateway : r ≡ role.Gateway → now ≡ role.Gateway = lines.gateways e.peer in
    let there : (P : ℕ → Bool) → P e.domain ≡ true → P domain ≡ true = λ P holds. ap P (sym own) ∙ holds in
    let halves = and_parts (acts_rightly old e) (loses_rightly old e && waits_rightly old e) is in
    let rest = and_parts (loses_rightly old e) (waits_rightly old e) halves.1 in
    let acts : acts_rightly new (to_domain number e) ≡ true =
    by_kind
    (is_configuration e.change)
    (is_nil e.cuid && may_configure r e.domain)
    (may_act old r e.domain && change_inside old (prefixes_of old e.domain) e.change)
    (is_nil e.cuid && may_configure now number)
    (may_act new now number && change_inside new (prefixes_of new number) e.change)
    (λ may. and_more (is_nil e.cuid) (may_configure r e.domain) (may_configure now number) (λ so. configures_as old new domain number r now lines.number_is client gateway (there (may_configure r) so)) may)
    (λ may.
    let both = and_parts (may_act old r e.domain) (change_inside old (prefixes_of old e.domain) e.change) may in
    and_from
    (may_act new now number)
    (change_inside new (prefixes_of new number) e.change)
    (acts_as old new domain number r now valid lines.number_is client gateway (there (may_act old r) both.0))
    (change_still old new (prefixes_of old domain) (prefixes_of new number) e.change lines.prefixes lines.names (there (λ d. change_inside old (prefixes_of old d) e.change) both.1)))
    halves.0 in
    let loses : loses_rightly new (to_domain number e) ≡ true =
    or_more
    (not (is_loss e.change))
    (is_nil e.cuid && is_client_of r e.domain)
    (is_nil e.cuid && is_client_of now number)
    (λ so. and_more (is_nil e.cuid) (is_client_of r e.domain) (is_client_of now number) (λ held. client_as domain number r now client (there (is_client_of r) held)) so)
    rest.0 in
    let waiting : waits_rightly new (to_domain number e) ≡ true =
    or_more (not (waits e.change)) (is_client_of r e.domain) (is_client_of now number) (λ held. client_as domain number r now client (there (is_client_of r) held)) rest.1 in
    and_from
    (acts_rightly new (to_domain number e))
    (loses_rightly new (to_domain number e) && waits_rightly new (to_domain number e))
    acts
    (and_from (loses_rightly new (to_domain number e)) (waits_rightly new (to_domain number e)) loses waiting)
