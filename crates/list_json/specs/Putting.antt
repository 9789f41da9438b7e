-- Members that are put into an object.
use Rattle.std.specs.Prelude.{ℕ, List, [], ◌∷◌, map, codes, Option, Some, None}
use Rattle.serde_json.specs.Data.{Data, string, array, object, Members, no_members, member, put}
use Rattle.serde_json.specs.View.{items_of}
use Rattle.acl_lists.specs.declared.acl.Acl.{Acl}
use Rattle.acl_lists.specs.declared.asked.Asked.{Asked}
use Rattle.list_json.specs.AliasPrinting.{number_data, prefix_data, range_data}
use Rattle.list_json.specs.ListPrinting.{family_text, activation_text, aces_data}

-- an array at this name, where it has an item
abbrev pub put_items : List ℕ → List Data → Members → Members
put_items name [] ms = ms
put_items name (d ∷ ds) ms = put name (array (items_of (d ∷ ds))) ms

-- a value at this name, where there is one
abbrev pub put_value : List ℕ → Option Data → Members → Members
put_value name None ms = ms
put_value name (Some d) ms = put name d ms

-- an object at this name, where it has a member
abbrev pub put_object : List ℕ → Members → Members → Members
put_object name no_members ms = ms
put_object name (member first d inner) ms = put name (object (member first d inner)) ms

-- what an alias stands for, an array after the other
abbrev pub put_asked : Asked → Members → Members
put_asked asked ms =
    put_items
    (codes "target-fqdn")
    (map string asked.names)
    (
    put_items
    (codes "target-port-range")
    (map range_data asked.ports)
    (
    put_items
    (codes "target-prefix")
    (map prefix_data asked.prefixes)
    (put_items (codes "target-protocol") (map number_data asked.protocols) ms)
    )
    )

-- the members of an access list
abbrev pub put_list : Acl → Members → Members
put_list acl ms =
    put
    (codes "aces")
    (aces_data acl.family acl.aces)
    (
    put
    (codes "activation-type")
    (string (activation_text acl.activation))
    (put (codes "name") (string acl.name) (put (codes "type") (string (family_text acl.family)) ms))
    )
