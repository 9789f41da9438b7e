-- The capacities of a server: their names in the settings, defaults and ranges.
use Rattle.std.specs.Prelude.{ℕ, Bool, ◌==◌, if◌then◌else◌, List, codes, bytes_eq, Option, Some, None}
use Rattle.dots_settings.specs.declared.capacity.Capacity.{Capacity}
use Rattle.dots_settings.specs.declared.capacity.Capacity.TheVariants as capacity

-- each is at least 1 and at most this
abbrev pub greatest_of : Capacity → ℕ
greatest_of capacity.ClientMitigations = 64
greatest_of capacity.DomainMitigations = 64
greatest_of capacity.Clients = 8
greatest_of capacity.Aliases = 16
greatest_of capacity.Acls = 8
greatest_of capacity.Remembered = 64
greatest_of capacity.Observers = 8

-- where no line gives it
abbrev pub default_of : Capacity → ℕ
default_of capacity.ClientMitigations = 16
default_of capacity.DomainMitigations = 64
default_of capacity.Clients = 8
default_of capacity.Aliases = 16
default_of capacity.Acls = 8
default_of capacity.Remembered = 64
default_of capacity.Observers = 8

abbrev pub place_of : Capacity → ℕ
place_of capacity.ClientMitigations = 0
place_of capacity.DomainMitigations = 1
place_of capacity.Clients = 2
place_of capacity.Aliases = 3
place_of capacity.Acls = 4
place_of capacity.Remembered = 5
place_of capacity.Observers = 6

abbrev pub same_capacity : Capacity → Capacity → Bool
same_capacity one other = place_of one == place_of other

-- the capacity of a name
abbrev pub capacity_named : List ℕ → Option Capacity
capacity_named name =
    if bytes_eq name (codes "client-mitigations") then Some capacity.ClientMitigations
    else if bytes_eq name (codes "domain-mitigations") then Some capacity.DomainMitigations
    else if bytes_eq name (codes "clients") then Some capacity.Clients
    else if bytes_eq name (codes "aliases") then Some capacity.Aliases
    else if bytes_eq name (codes "acls") then Some capacity.Acls
    else if bytes_eq name (codes "remembered") then Some capacity.Remembered
    else if bytes_eq name (codes "observers") then Some capacity.Observers
    else None
