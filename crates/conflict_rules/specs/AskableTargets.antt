-- Which scopes may be asked for (RFC 9132, section 4.4.1: target-prefix, target-fqdn), and which access lists (RFC 8783, section 7.2).
use Rattle.std.specs.Prelude.{ℕ, ◌*◌, ◌^◌, ◌-◌, Bool, not, if◌then◌else◌, List, [], ◌∷◌, codes, Option, Some, None}
use Rattle.std.specs.List.{list_any}
use Rattle.ip_scope.specs.declared.family.Family.TheVariants.{V4, V6}
use Rattle.ip_scope.specs.Prefix.{PrefixValue, inside, meets}
use Rattle.acl_lists.specs.declared.ace.Ace.{Ace}
use Rattle.acl_lists.specs.declared.acl.Acl.{Acl}
use Rattle.acl_lists.specs.declared.asked.Asked.{Asked}
use Rattle.dots_history.specs.Histories.{or_else}
use Rattle.dots_settings.specs.Settings.{SettingsValue}
use Rattle.conflict_rules.specs.declared.target.TargetFault.{TargetFault}
use Rattle.conflict_rules.specs.declared.target.TargetFault.TheVariants.{NotATarget, OutsideDomain, UnknownName}
use Rattle.dots_settings.specs.Lookups.{addresses_of}

-- loopback, multicast and limited broadcast: 127.0.0.0/8, 224.0.0.0/4, 255.255.255.255/32, ::1/128 and ff00::/8
abbrev pub never_targets : List PrefixValue
never_targets =
    (record { family = V4; number = 127 * 2 ^ 24; length = 8 })
    ∷ (record { family = V4; number = 224 * 2 ^ 24; length = 4 })
    ∷ (record { family = V4; number = 2 ^ 32 - 1; length = 32 })
    ∷ (record { family = V6; number = 1; length = 128 })
    ∷ (record { family = V6; number = 255 * 2 ^ 120; length = 8 })
    ∷ []

abbrev pub is_target : PrefixValue → Bool
is_target prefix = not (list_any (λ never. meets prefix never) never_targets)

-- why a prefix may not be asked for in a domain of these prefixes: it is no target, or lies outside
abbrev pub prefix_fault : List PrefixValue → PrefixValue → Option TargetFault
prefix_fault domain prefix =
    if is_target prefix then (if list_any (inside prefix) domain then None else Some OutsideDomain) else Some NotATarget

-- the fault of the first that has one
abbrev pub first_fault : {A : Type 0} → (A → Option TargetFault) → List A → Option TargetFault
first_fault fault [] = None
first_fault fault (x ∷ xs) = or_else (fault x) (first_fault fault xs)

-- a host name is known, and each of its addresses may be asked for
abbrev pub fault_of_addresses : List PrefixValue → List PrefixValue → Option TargetFault
fault_of_addresses domain [] = Some UnknownName
fault_of_addresses domain (p ∷ ps) = first_fault (prefix_fault domain) (p ∷ ps)

abbrev pub name_fault : SettingsValue → List PrefixValue → List ℕ → Option TargetFault
name_fault settings domain name = fault_of_addresses domain (addresses_of settings name)

-- the fault of the first asked prefix that has one, else of the first name that has one
abbrev pub scope_fault : SettingsValue → List PrefixValue → Asked → Option TargetFault
scope_fault settings domain asked =
    or_else (first_fault (prefix_fault domain) asked.prefixes) (first_fault (name_fault settings domain) asked.names)

-- The destination of an entry of an access list, where it has one, may be asked for. What it has as its source isn't looked at.
abbrev pub fault_of_destination : List PrefixValue → Option PrefixValue → Option TargetFault
fault_of_destination domain None = None
fault_of_destination domain (Some prefix) = prefix_fault domain prefix

abbrev pub destination_fault : List PrefixValue → Ace → Option TargetFault
destination_fault domain ace = fault_of_destination domain ace.destination

-- the fault of the first destination that has one
abbrev pub list_fault : List PrefixValue → Acl → Option TargetFault
list_fault domain acl = first_fault (destination_fault domain) acl.aces

-- the text of its refusal
abbrev pub target_text : TargetFault → List ℕ
target_text NotATarget = codes "not a target"
target_text OutsideDomain = codes "outside domain"
target_text UnknownName = codes "unknown name"
