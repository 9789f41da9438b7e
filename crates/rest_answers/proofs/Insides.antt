-- Where what a request writes has no fault, it lies inside the domain.
use Rattle.std.proofs.Common.{◌≡◌, ℕ, Bool, true, false, cond, List, [], ◌∷◌, Option, Some, None, refl}
use Rattle.std.specs.Prelude.{is_some}
use Rattle.std.specs.List.{list_all, list_any}
use Rattle.std.proofs.lemmas.Bool.{and_from}
use Rattle.ip_scope.specs.Prefix.{PrefixValue, inside}
use Rattle.acl_lists.specs.declared.ace.Ace.{Ace}
use Rattle.acl_lists.specs.declared.acl.Acl.{Acl}
use Rattle.acl_lists.specs.declared.alias.Alias.{Alias}
use Rattle.dots_settings.specs.Settings.{SettingsValue}
use Rattle.dots_settings.specs.Lookups.{addresses_of}
use Rattle.dots_history.specs.Histories.{or_else}
use Rattle.dots_history.specs.declared.change.Change.TheVariants as change
use Rattle.dots_history.specs.Calm.{all_inside, name_inside, destination_inside, change_inside}
use Rattle.conflict_rules.specs.declared.target.TargetFault.TheVariants.{NotATarget, OutsideDomain}
use Rattle.conflict_rules.specs.AskableTargets.{is_target, prefix_fault, first_fault, fault_of_addresses, name_fault, scope_fault, fault_of_destination, destination_fault, list_fault}

or_else_none : {A : Type 0} → (a b : Option A) → or_else a b ≡ None → (a ≡ None) × (b ≡ None)
or_else_none (Some x) b is = absurd (cc is)
or_else_none None b is = (refl, is)

none_of : {A : Type 0} → (o : Option A) → is_some o ≡ false → o ≡ None
none_of None is = refl
none_of (Some x) is = absurd (cc is)

one_inside : (domain : List PrefixValue) (prefix : PrefixValue) → prefix_fault domain prefix ≡ None → list_any (inside prefix) domain ≡ true
one_inside domain prefix is = by_test (is_target prefix) (list_any (inside prefix) domain) is
  where
    by_test : (target within : Bool) → cond target (cond within None (Some OutsideDomain)) (Some NotATarget) ≡ None → within ≡ true
    by_test true true e = refl
    by_test true false e = absurd (cc e)
    by_test false within e = absurd (cc e)

each_inside : (domain prefixes : List PrefixValue) → first_fault (prefix_fault domain) prefixes ≡ None → all_inside domain prefixes ≡ true
each_inside domain [] is = refl
each_inside domain (prefix ∷ prefixes) is =
    let parts = or_else_none (prefix_fault domain prefix) (first_fault (prefix_fault domain) prefixes) is in
    and_from (list_any (inside prefix) domain) (all_inside domain prefixes) (one_inside domain prefix parts.0) (each_inside domain prefixes parts.1)

-- ---- aliases

addresses_inside : (settings : SettingsValue) (domain : List PrefixValue) (name : List ℕ) (found : List PrefixValue) → addresses_of settings name ≡ found
    → fault_of_addresses domain found ≡ None → name_inside settings domain name ≡ true
addresses_inside settings domain name [] are is = absurd (cc is)
addresses_inside settings domain name (p ∷ ps) are is = rw are (each_inside domain (p ∷ ps) is)

names_inside : (settings : SettingsValue) (domain : List PrefixValue) (names : List (List ℕ)) → first_fault (name_fault settings domain) names ≡ None
    → list_all (name_inside settings domain) names ≡ true
names_inside settings domain [] is = refl
names_inside settings domain (name ∷ names) is =
    let parts = or_else_none (name_fault settings domain name) (first_fault (name_fault settings domain) names) is in
    and_from
    (name_inside settings domain name)
    (list_all (name_inside settings domain) names)
    (addresses_inside settings domain name (addresses_of settings name) refl parts.0)
    (names_inside settings domain names parts.1)

pub alias_inside : (settings : SettingsValue) (domain : List PrefixValue) (alias : Alias) → is_some (scope_fault settings domain alias.asked) ≡ false
    → change_inside settings domain (change.SetAlias alias) ≡ true
alias_inside settings domain alias is =
    let prefixes = first_fault (prefix_fault domain) alias.asked.prefixes in
    let names = first_fault (name_fault settings domain) alias.asked.names in
    let parts = or_else_none prefixes names (none_of (scope_fault settings domain alias.asked) is) in
    and_from
    (all_inside domain alias.asked.prefixes)
    (list_all (name_inside settings domain) alias.asked.names)
    (each_inside domain alias.asked.prefixes parts.0)
    (names_inside settings domain alias.asked.names parts.1)

-- ---- access lists

one_destination : (domain : List PrefixValue) (destination : Option PrefixValue) → fault_of_destination domain destination ≡ None → destination_inside domain destination ≡ true
one_destination domain None is = refl
one_destination domain (Some prefix) is = one_inside domain prefix is

destinations_inside : (domain : List PrefixValue) (aces : List Ace) → first_fault (destination_fault domain) aces ≡ None
    → list_all (λ (ace : Ace). destination_inside domain ace.destination) aces ≡ true
destinations_inside domain [] is = refl
destinations_inside domain (ace ∷ aces) is =
    let parts = or_else_none (destination_fault domain ace) (first_fault (destination_fault domain) aces) is in
    and_from
    (destination_inside domain ace.destination)
    (list_all (λ (other : Ace). destination_inside domain other.destination) aces)
    (one_destination domain ace.destination parts.0)
    (destinations_inside domain aces parts.1)

pub list_inside : (settings : SettingsValue) (domain : List PrefixValue) (acl : Acl) → is_some (list_fault domain acl) ≡ false
    → change_inside settings domain (change.SetAcl acl) ≡ true
list_inside settings domain acl is = destinations_inside domain acl.aces (none_of (list_fault domain acl) is)
