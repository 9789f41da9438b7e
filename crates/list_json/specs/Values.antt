-- Names, prefixes and numbers in JSON (RFC 7951, section 6; RFC 6991, sections 2 and 4).
use Rattle.std.specs.Prelude.{ℕ, List, nat_lt, if◌then◌else◌, Option, Some, None, option_and_then, ok_or, Result}
use Rattle.dots_lists.specs.Name.{is_name}
use Rattle.ip_scope.specs.Prefix.{PrefixValue}
use Rattle.ip_scope.specs.PrefixReader.{prefix_in}
use Rattle.serde_json.specs.Data.{Data}
use Rattle.serde_json.specs.Find.{as_str, as_number, as_u64}
use Rattle.list_json.specs.declared.fault.Member.{Member}
use Rattle.list_json.specs.declared.fault.ListFault.{ListFault}
use Rattle.list_json.specs.declared.fault.ListFault.TheVariants as faults

abbrev pub name_in : List ℕ → Option (List ℕ)
name_in text = if is_name text then Some text else None

-- a text that is a name
abbrev pub name_of : Member → Data → Result (List ℕ) ListFault
name_of of d = ok_or (option_and_then name_in (as_str d)) (faults.Invalid of)

-- a text of a prefix
abbrev pub prefix_of : Member → Data → Result PrefixValue ListFault
prefix_of of d = ok_or (option_and_then prefix_in (as_str d)) (faults.Invalid of)

abbrev pub below : ℕ → ℕ → Option ℕ
below bound n = if nat_lt n bound then Some n else None

-- an integer below the bound, without a fraction or an exponent
abbrev pub number_below : ℕ → Member → Data → Result ℕ ListFault
number_below bound of d = ok_or (option_and_then (below bound) (option_and_then as_u64 (as_number d))) (faults.Invalid of)

-- a protocol number of IANA's registry
abbrev pub protocol_of : Member → Data → Result ℕ ListFault
protocol_of of d = number_below 256 of d

abbrev pub port_of : Member → Data → Result ℕ ListFault
port_of of d = number_below 65536 of d
