-- An alias as JSON: the members that say something, in the bytewise order of their names (RFC 8783, section 6.1).
use Rattle.std.specs.Prelude.{ℕ, List, [], ◌∷◌, map, codes}
use Rattle.acl_lists.specs.declared.alias.Alias.{Alias}
use Rattle.ip_scope.specs.Ports.{Ports}
use Rattle.ip_scope.specs.Prefix.{PrefixValue}
use Rattle.ip_scope.specs.PrefixText.{prefix_text}
use Rattle.serde_json.specs.Data.{Data, unsigned, number, string, array, object, Members, no_members, member}
use Rattle.serde_json.specs.View.{items_of}

abbrev pub number_data : ℕ → Data
number_data n = number (unsigned n)

-- a prefix is its canonical text
abbrev pub prefix_data : PrefixValue → Data
prefix_data prefix = string (prefix_text prefix)

-- a range has both ports
abbrev pub range_data : Ports → Data
range_data range =
    object
    (member (codes "lower-port") (number_data range.lower) (member (codes "upper-port") (number_data range.upper) no_members))

-- a member that is an array stands only where it has an item
abbrev pub with_items : {A : Type 0} → List ℕ → (A → Data) → List A → Members → Members
with_items name write [] rest = rest
with_items name write (x ∷ xs) rest = member name (array (items_of (map write (x ∷ xs)))) rest

abbrev pub alias_data : Alias → Data
alias_data alias =
    object
    (
    member
    (codes "name")
    (string alias.name)
    (
    with_items
    (codes "target-fqdn")
    string
    alias.asked.names
    (
    with_items
    (codes "target-port-range")
    range_data
    alias.asked.ports
    (
    with_items
    (codes "target-prefix")
    prefix_data
    alias.asked.prefixes
    (with_items (codes "target-protocol") number_data alias.asked.protocols no_members)
    )
    )
    )
    )
