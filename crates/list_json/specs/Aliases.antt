-- Which values are an alias, and what each member says (RFC 8783, section 6.1).
use Rattle.std.specs.Prelude.{ℕ, [], ◌∷◌, codes, nat_le, if◌then◌else◌, Option, Result, Ok, Err}
use Rattle.acl_lists.specs.declared.limits.TheConstants.{MAX_ITEMS, MAX_NAMES}
use Rattle.acl_lists.specs.declared.alias.Alias.{Alias}
use Rattle.acl_lists.specs.declared.asked.Asked.{Asked}
use Rattle.ip_scope.specs.Ports.{Ports}
use Rattle.serde_json.specs.Data.{Data}
use Rattle.serde_json.specs.Find.{get}
use Rattle.list_json.specs.declared.fault.Member.TheVariants as the
use Rattle.list_json.specs.declared.fault.ListFault.{ListFault}
use Rattle.list_json.specs.declared.fault.ListFault.TheVariants as faults
use Rattle.list_json.specs.declared.shape.Shape.TheVariants as shape
use Rattle.list_json.specs.Shapes.{whole_object}
use Rattle.list_json.specs.Steps.{◌>>=◌, needed, otherwise, items_in}
use Rattle.list_json.specs.Values.{name_of, prefix_of, protocol_of, port_of}

-- the ports from the lower to the upper, which isn't below it
abbrev pub range_between : ℕ → ℕ → Result Ports ListFault
range_between lower upper =
    if nat_le lower upper then Ok (record { lower = lower; upper = upper }) else Err (faults.Invalid the.UpperPort)

-- a range of ports (RFC 8783, section 6.1): without an upper port it is the lower one alone
abbrev pub range_of : Data → Result Ports ListFault
range_of d = do
  _ ← whole_object shape.Range the.TargetPortRange d
  lower ← needed the.LowerPort (port_of the.LowerPort) (get (codes "lower-port") d)
  upper ← otherwise lower (port_of the.UpperPort) (get (codes "upper-port") d)
  range_between lower upper

-- at least a prefix or a name
abbrev pub with_target : Asked → Result Asked ListFault
with_target asked = elim asked.prefixes [ [] ↦ elim asked.names [ [] ↦ Err (faults.Missing the.TargetPrefix) | name ∷ names ↦ Ok asked ] | prefix ∷ prefixes ↦ Ok asked ]

-- what an alias stands for, by its members
abbrev pub targets_from : Option Data → Option Data → Option Data → Option Data → Result Asked ListFault
targets_from target_prefix target_port_range target_protocol target_fqdn = do
  prefixes ← items_in the.TargetPrefix MAX_ITEMS (prefix_of the.TargetPrefix) target_prefix
  ports ← items_in the.TargetPortRange MAX_ITEMS range_of target_port_range
  protocols ← items_in the.TargetProtocol MAX_ITEMS (protocol_of the.TargetProtocol) target_protocol
  names ← items_in the.TargetFqdn MAX_NAMES (name_of the.TargetFqdn) target_fqdn
  with_target (record { prefixes = prefixes; ports = ports; protocols = protocols; names = names; aliases = [] })

abbrev pub targets_of : Data → Result Asked ListFault
targets_of d =
    targets_from
    (get (codes "target-prefix") d)
    (get (codes "target-port-range") d)
    (get (codes "target-protocol") d)
    (get (codes "target-fqdn") d)

-- **the alias that a value is**, or its first fault
abbrev pub alias_in : Data → Result Alias ListFault
alias_in d = do
  _ ← whole_object shape.Alias the.Alias d
  name ← needed the.Name (name_of the.Name) (get (codes "name") d)
  asked ← targets_of d
  Ok (record { name = name; asked = asked })
