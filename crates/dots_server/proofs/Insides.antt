-- Where a scope has no fault, all that it names lies inside the domain.
use Rattle.std.proofs.Common.{◌≡◌, [], Bool, true, false, List, ◌∷◌, ℕ, Option, Some, None, refl, cond}
use Rattle.std.specs.List.{list_all, list_any}
use Rattle.std.proofs.lemmas.Bool.{and_from}
use Rattle.ip_scope.specs.Prefix.{PrefixValue, inside}
use Rattle.acl_lists.specs.declared.asked.Asked.{Asked}
use Rattle.dots_settings.specs.Settings.{SettingsValue}
use Rattle.dots_settings.specs.Lookups.{addresses_of}
use Rattle.dots_history.specs.Histories.{or_else}
use Rattle.dots_history.specs.Calm.{all_inside, name_inside}
use Rattle.conflict_rules.specs.declared.target.TargetFault.TheVariants.{NotATarget, OutsideDomain}
use Rattle.conflict_rules.specs.AskableTargets.{is_target, prefix_fault, first_fault, fault_of_addresses, name_fault, scope_fault}

or_else_none : {A : Type 0} → (a b : Option A) → or_else a b ≡ None → (a ≡ None) × (b ≡ None)
or_else_none (Some x) b is = absurd (cc is)
or_else_none None b is = (refl, is)

one_inside : (domain : List PrefixValue) (prefix : PrefixValue) → prefix_fault domain prefix ≡ None → list_any (inside prefix) domain ≡ true
one_inside domain prefix is = by_test (is_target prefix) (list_any (inside prefix) domain) is
  where
    by_test : (target within : Bool) → cond target (cond within None (Some OutsideDomain)) (Some NotATarget) ≡ None → within ≡ true
    by_test true true e = refl
    by_test true false e = absurd (cc e)
    by_test false within e = absurd (cc e)

each_inside : (domain prefixes : List PrefixValue) → first_fault (prefix_fault domain) prefixes ≡ None → all_inside domain prefixes ≡ true
each_inside domain [] is = refl
each_inside domain (prefix ∷ prefixes) is =
    let parts = or_else_none (prefix_fault domain prefix) (first_fault (prefix_fault domain) prefixes) is in
    and_from (list_any (inside prefix) domain) (all_inside domain prefixes) (one_inside domain prefix parts.0) (each_inside domain prefixes parts.1)

addresses_inside : (settings : SettingsValue) (domain : List PrefixValue) (name : List ℕ) (found : List PrefixValue) → addresses_of settings name ≡ found
    → fault_of_addresses domain found ≡ None → name_inside settings domain name ≡ true
addresses_inside settings domain name [] are is = absurd (cc is)
addresses_inside settings domain name (p ∷ ps) are is = rw are (each_inside domain (p ∷ ps) is)

names_inside : (settings : SettingsValue) (domain : List PrefixValue) (names : List (List ℕ)) → first_fault (name_fault settings domain) names ≡ None
    → list_all (name_inside settings domain) names ≡ true
names_inside settings domain [] is = refl
names_inside settings domain (name ∷ names) is =
    let parts = or_else_none (name_fault settings domain name) (first_fault (name_fault settings domain) names) is in
    and_from
    (name_inside settings domain name)
    (list_all (name_inside settings domain) names)
    (addresses_inside settings domain name (addresses_of settings name) refl parts.0)
    (names_inside settings domain names parts.1)

pub record LiesInside (settings : SettingsValue) (domain : List PrefixValue) (asked : Asked) : Type 0 where
  pub prefixes : all_inside domain asked.prefixes ≡ true
  pub names : list_all (name_inside settings domain) asked.names ≡ true

pub lies_inside : (settings : SettingsValue) (domain : List PrefixValue) (asked : Asked) → scope_fault settings domain asked ≡ None → LiesInside settings domain asked
lies_inside settings domain asked is =
    let parts = or_else_none (first_fault (prefix_fault domain) asked.prefixes) (first_fault (name_fault settings domain) asked.names) is in
    record { prefixes = each_inside domain asked.prefixes parts.0; names = names_inside settings domain asked.names parts.1 }
