-- The body of a request for a mitigation (RFC 9132, section 4.4.1): {1: {2: [scope]}}.
use Rattle.std.specs.Prelude.{ℕ, ◌^◌, Bool, true, false, not, ◌&&◌, ◌==◌, nat_lt, nat_le, if◌then◌else◌, ℤ, pos, negsuc, List, [], ◌∷◌, Option, Some, None, ok_or, option_and_then, Result, Ok, Err}
use Rattle.acl_lists.specs.declared.limits.TheConstants.{MAX_ITEMS, MAX_NAMES}
use Rattle.acl_lists.specs.declared.asked.Asked.{Asked}
use Rattle.cbor_profile.specs.Tree.{Tree, unsigned, negative, boolean, Trees, no_items, item, count}
use Rattle.cbor_profile.specs.Kind.{number_in, text_in, items_in}
use Rattle.dots_lists.specs.Name.{is_name}
use Rattle.ip_scope.specs.Prefix.{PrefixValue}
use Rattle.ip_scope.specs.PrefixReader.{prefix_in}
use Rattle.ip_scope.specs.Ports.{Ports}
use Rattle.dots_keys.specs.declared.reject.Reject.{Reject}
use Rattle.dots_keys.specs.declared.request.MitigationBody.{MitigationBody}
use Rattle.dots_keys.specs.declared.scope.Scope.{Scope}
use Rattle.dots_keys.specs.declared.scope.ScopeKey.{ScopeKey}
use Rattle.dots_keys.specs.declared.scope.ScopeKey.TheVariants as scope_key
use Rattle.dots_keys.specs.declared.ports.RangeKey.{RangeKey}
use Rattle.dots_keys.specs.declared.ports.RangeKey.TheVariants as range_key
use Rattle.dots_keys.specs.declared.ports.PortPair.{PortPair}
use Rattle.dots_keys.specs.Fields.{fields_of, each_field, sole_field}
use Rattle.dots_keys.specs.Results.{◌>>=◌, invalid, missing}

-- ---- arrays

-- what each item says, in order, up to the first that is refused
abbrev pub each_item : {A : Type 0} → (Tree → Result A Reject) → Trees → Result (List A) Reject
each_item read no_items = Ok []
each_item read (item tree trees) = read tree >>= λ value. each_item read trees >>= λ values. Ok (value ∷ values)

-- the items of an array of at most so many
abbrev pub at_most : ℕ → Option Trees → Option Trees
at_most most None = None
at_most most (Some trees) = if nat_le (count trees) most then Some trees else None

-- an array under a key: first its type and the number of its items, then the items
abbrev pub array_under : {A : Type 0} → ℕ → ℕ → (Tree → Result A Reject) → Tree → Result (List A) Reject
array_under key most read tree = ok_or (at_most most (items_in tree)) (invalid key) >>= each_item read

-- ---- target-prefix 6, target-protocol 10, target-fqdn 11, alias-name 13

abbrev pub prefix_of : Tree → Result PrefixValue Reject
prefix_of tree = ok_or (option_and_then prefix_in (text_in tree)) (invalid 6)

abbrev pub byte_in : Option ℕ → Option ℕ
byte_in None = None
byte_in (Some n) = if nat_lt n 256 then Some n else None

abbrev pub protocol_of : Tree → Result ℕ Reject
protocol_of tree = ok_or (byte_in (number_in tree)) (invalid 10)

abbrev pub name_in : Option (List ℕ) → Option (List ℕ)
name_in None = None
name_in (Some text) = if is_name text then Some text else None

abbrev pub name_of : ℕ → Tree → Result (List ℕ) Reject
name_of key tree = ok_or (name_in (text_in tree)) (invalid key)

-- ---- target-port-range 7: maps of lower-port 8 and, where it isn't the same, upper-port 9

abbrev pub range_key_of : ℕ → Option RangeKey
range_key_of n = if n == 8 then Some range_key.Lower else if n == 9 then Some range_key.Upper else None

abbrev pub port_in : Option ℕ → Option ℕ
port_in None = None
port_in (Some n) = if nat_lt n (2 ^ 16) then Some n else None

abbrev pub port_of : ℕ → Tree → Result ℕ Reject
port_of key tree = ok_or (port_in (number_in tree)) (invalid key)

-- an upper port that isn't below the lower port, which stands before it
abbrev pub not_below : Option ℕ → ℕ → Result ℕ Reject
not_below None upper = Ok upper
not_below (Some lower) upper = if nat_le lower upper then Ok upper else Err (invalid 9)

abbrev pub take_port : Option RangeKey → PortPair → ℕ → Tree → Result PortPair Reject
take_port (Some range_key.Lower) said n tree = port_of 8 tree >>= λ port. Ok (record said { lower = Some port })
take_port (Some range_key.Upper) said n tree =
    port_of 9 tree >>= λ port. not_below said.lower port >>= λ port. Ok (record said { upper = Some port })
take_port None said n tree = Err (invalid n)

abbrev pub range_field : PortPair → ℕ → Tree → Result PortPair Reject
range_field said n tree = take_port (range_key_of n) said n tree

abbrev pub no_ports : PortPair
no_ports = record { lower = None; upper = None }

abbrev pub range_between : ℕ → Option ℕ → Result Ports Reject
range_between lower None = Ok (record { lower = lower; upper = lower })
range_between lower (Some upper) = not_below (Some lower) upper >>= λ upper. Ok (record { lower = lower; upper = upper })

abbrev pub range_with : Option ℕ → Option ℕ → Result Ports Reject
range_with None upper = Err (missing 8)
range_with (Some lower) upper = range_between lower upper

abbrev pub range_of : Tree → Result Ports Reject
range_of tree = do
  fields ← fields_of 7 tree
  said ← each_field range_field no_ports fields
  range_with said.lower said.upper

-- ---- lifetime 14 in seconds, from 1 to 2^31 - 1, or -1; trigger-mitigation 45, a truth value, which isn't false from a gateway

abbrev pub lifetime_of : Tree → Result ℤ Reject
lifetime_of (unsigned n) = if nat_le 1 n && nat_lt n (2 ^ 31) then Ok (pos n) else Err (invalid 14)
lifetime_of (negative n) = if n == 0 then Ok (negsuc 0) else Err (invalid 14)
lifetime_of _ = Err (invalid 14)

abbrev pub trigger_of : Bool → Tree → Result Bool Reject
trigger_of gateway (boolean true) = Ok true
trigger_of gateway (boolean false) = if gateway then Err (invalid 45) else Ok false
trigger_of gateway _ = Err (invalid 45)

-- ---- the scope

abbrev pub scope_key_of : ℕ → Option ScopeKey
scope_key_of n =
    if n == 6 then Some scope_key.Prefixes
    else if n == 7 then Some scope_key.Ports
    else if n == 10 then Some scope_key.Protocols
    else if n == 11 then Some scope_key.Names
    else if n == 13 then Some scope_key.Aliases
    else if n == 14 then Some scope_key.Lifetime
    else if n == 45 then Some scope_key.Trigger
    else None

abbrev pub with_asked : Scope → Asked → Scope
with_asked said asked = record said { asked = asked }

abbrev pub take_target : Bool → Option ScopeKey → Scope → ℕ → Tree → Result Scope Reject
take_target gateway (Some scope_key.Prefixes) said n tree =
    array_under 6 MAX_ITEMS prefix_of tree >>= λ prefixes. Ok (with_asked said (record said.asked { prefixes = prefixes }))
take_target gateway (Some scope_key.Ports) said n tree =
    array_under 7 MAX_ITEMS range_of tree >>= λ ports. Ok (with_asked said (record said.asked { ports = ports }))
take_target gateway (Some scope_key.Protocols) said n tree =
    array_under 10 MAX_ITEMS protocol_of tree >>= λ protocols. Ok (with_asked said (record said.asked { protocols = protocols }))
take_target gateway (Some scope_key.Names) said n tree =
    array_under 11 MAX_NAMES (name_of 11) tree >>= λ names. Ok (with_asked said (record said.asked { names = names }))
take_target gateway (Some scope_key.Aliases) said n tree =
    array_under 13 MAX_NAMES (name_of 13) tree >>= λ aliases. Ok (with_asked said (record said.asked { aliases = aliases }))
take_target gateway (Some scope_key.Lifetime) said n tree =
    lifetime_of tree >>= λ lifetime. Ok (record said { lifetime = Some lifetime })
take_target gateway (Some scope_key.Trigger) said n tree = trigger_of gateway tree >>= λ trigger. Ok (record said { trigger = trigger })
take_target gateway None said n tree = Err (invalid n)

abbrev pub scope_field : Bool → Scope → ℕ → Tree → Result Scope Reject
scope_field gateway said n tree = take_target gateway (scope_key_of n) said n tree

abbrev pub nothing_asked : Scope
nothing_asked = record { asked = record { prefixes = []; ports = []; protocols = []; names = []; aliases = [] }; lifetime = None; trigger = true }

-- a prefix, a name or an alias; an empty array counts as absent
abbrev pub is_empty : {A : Type 0} → List A → Bool
is_empty [] = true
is_empty (x ∷ xs) = false

abbrev pub has_target : Asked → Bool
has_target asked = not (is_empty asked.prefixes && is_empty asked.names && is_empty asked.aliases)

abbrev pub with_lifetime : Asked → Bool → Option ℤ → Result MitigationBody Reject
with_lifetime asked trigger None = Err (missing 14)
with_lifetime asked trigger (Some lifetime) = Ok (record { asked = asked; lifetime = lifetime; trigger = trigger })

abbrev pub whole_scope : Scope → Result MitigationBody Reject
whole_scope said = if has_target said.asked then with_lifetime said.asked said.trigger said.lifetime else Err (missing 6)

abbrev pub scope_of : Bool → Tree → Result MitigationBody Reject
scope_of gateway tree = do
  fields ← fields_of 2 tree
  said ← each_field (scope_field gateway) nothing_asked fields
  whole_scope said

-- an array of exactly one scope
abbrev pub only_item : Option Trees → Option Tree
only_item (Some (item tree no_items)) = Some tree
only_item _ = None

abbrev pub only_scope : Bool → Tree → Result MitigationBody Reject
only_scope gateway tree = ok_or (only_item (items_in tree)) (invalid 2) >>= scope_of gateway

abbrev pub mitigation_of : Bool → Tree → Result MitigationBody Reject
mitigation_of gateway tree = sole_field 0 1 (sole_field 1 2 (only_scope gateway)) tree
