-- Members of an alias that are found one after the other.
use Rattle.std.specs.Prelude.{◌≡◌, true, codes, Option, Some, None, Result, Ok, Err}
use Rattle.std.specs.Borrow.{Bor}
use Rattle.serde_json.specs.Data.{Data, Members}
use Rattle.serde_json.specs.Find.{get, get_member}
use Rattle.serde_json.specs.View.{view}
use Rattle.serde_json.specs.declared.value.Value.{Value}
use Rattle.list_json.specs.declared.alias_members.AliasMembers.{AliasMembers}
use Rattle.list_json.specs.declared.fault.ListFault.{ListFault}
use Rattle.list_json.specs.declared.fault.Member.TheVariants as the
use Rattle.list_json.specs.declared.shape.Shape.TheVariants as shape
use Rattle.list_json.specs.Shapes.{whole_object}

-- the value of a member that was found, or else another
abbrev pub or_found : Option (Bor Value) → Option Data → Option Data
or_found None other = other
or_found (Some value) other = Some (view value.now)

abbrev pub found : Option (Bor Value) → Option Data
found value = or_found value None

abbrev pub nothing : AliasMembers
nothing = record { is_whole = true; name = None; prefixes = None; ports = None; protocols = None; names = None }

-- what was found and what the members say, each name's first value, is as before
abbrev pub IsAsBefore : AliasMembers → Members → AliasMembers → Members → Type 0
IsAsBefore old before new rest =
    (or_found old.name (get_member (codes "name") before) ≡ or_found new.name (get_member (codes "name") rest))
    × (or_found old.prefixes (get_member (codes "target-prefix") before) ≡ or_found new.prefixes (get_member (codes "target-prefix") rest))
    × (or_found old.ports (get_member (codes "target-port-range") before) ≡ or_found new.ports (get_member (codes "target-port-range") rest))
    × (or_found old.protocols (get_member (codes "target-protocol") before) ≡ or_found new.protocols (get_member (codes "target-protocol") rest))
    × (or_found old.names (get_member (codes "target-fqdn") before) ≡ or_found new.names (get_member (codes "target-fqdn") rest))

abbrev pub AreFound : Data → AliasMembers → Type 0
AreFound d members =
    (get (codes "name") d ≡ found members.name)
    × (get (codes "target-prefix") d ≡ found members.prefixes)
    × (get (codes "target-port-range") d ≡ found members.ports)
    × (get (codes "target-protocol") d ≡ found members.protocols)
    × (get (codes "target-fqdn") d ≡ found members.names)

-- each member that an alias has, or the fault of what is no such object
abbrev pub FindsMembers : Data → Result AliasMembers ListFault → Type 0
FindsMembers d (Ok members) = (whole_object shape.Alias the.Alias d ≡ Ok tt) × AreFound d members
FindsMembers d (Err fault) = whole_object shape.Alias the.Alias d ≡ Err fault
