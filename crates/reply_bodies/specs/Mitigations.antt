-- Mitigations as a client is told of them (RFC 9132, sections 4.4.1.3 and 4.4.2).
use Rattle.std.specs.Prelude.{ℕ, ℤ, Bool, true, false, List, [], ◌∷◌, ◌++◌, map}
use Rattle.acl_lists.specs.declared.asked.Asked.{Asked}
use Rattle.cbor_profile.specs.Tree.{Tree, unsigned, text, array, boolean, items_of}
use Rattle.dots_keys.specs.declared.head_request.Content.{Content}
use Rattle.dots_keys.specs.declared.head_request.Content.TheVariants.{All, Config, State}
use Rattle.ip_scope.specs.Ports.{Ports}
use Rattle.ip_scope.specs.Prefix.{PrefixValue}
use Rattle.ip_scope.specs.PrefixText.{prefix_text}
use Rattle.reply_bodies.specs.declared.keys.TheConstants.{MITIGATION_SCOPE, SCOPE, MID, TARGET_PREFIX, TARGET_PORT_RANGE, LOWER_PORT, UPPER_PORT, TARGET_PROTOCOL, TARGET_FQDN, ALIAS_NAME, LIFETIME, MITIGATION_START, STATUS, TRIGGER_MITIGATION}
use Rattle.reply_bodies.specs.declared.scope.MitigationView.{MitigationView}
use Rattle.reply_bodies.specs.Maps.{field, listed, map_of, sole, integer}

-- {1: {2: [scope, ..]}}
abbrev pub mitigations_with : List Tree → Tree
mitigations_with scopes = sole MITIGATION_SCOPE (sole SCOPE (array (items_of scopes)))

-- {5: mid, 14: lifetime}
abbrev pub granted_scope : ℕ → ℤ → Tree
granted_scope mid lifetime = map_of (field MID (unsigned mid) ++ field LIFETIME (integer lifetime))

-- a prefix is its canonical text
abbrev pub prefix_tree : PrefixValue → Tree
prefix_tree prefix = text (prefix_text prefix)

-- a range has both ports
abbrev pub range_tree : Ports → Tree
range_tree range = map_of (field LOWER_PORT (unsigned range.lower) ++ field UPPER_PORT (unsigned range.upper))

-- what was asked for, as it was asked: the lists that have an item
abbrev pub asked_fields : Asked → List (Tree × Tree)
asked_fields asked =
    listed TARGET_PREFIX (map prefix_tree asked.prefixes)
    ++ listed TARGET_PORT_RANGE (map range_tree asked.ports)
    ++ listed TARGET_PROTOCOL (map unsigned asked.protocols)
    ++ listed TARGET_FQDN (map text asked.names)
    ++ listed ALIAS_NAME (map text asked.aliases)

-- what was asked for, and the seconds left, which are -1 where they are indefinite: told with c=a and c=c
abbrev pub config_fields : MitigationView → List (Tree × Tree)
config_fields view = asked_fields view.asked.now ++ field LIFETIME (integer view.left)

abbrev pub config_part : Content → MitigationView → List (Tree × Tree)
config_part All view = config_fields view
config_part Config view = config_fields view
config_part State view = []

-- the start and the status: told with c=a and c=n
abbrev pub state_fields : MitigationView → List (Tree × Tree)
state_fields view = field MITIGATION_START (unsigned view.start) ++ field STATUS (unsigned view.status)

abbrev pub state_part : Content → MitigationView → List (Tree × Tree)
state_part All view = state_fields view
state_part Config view = []
state_part State view = state_fields view

-- that it waits for a lost signal: told with c=a and c=c, where it does
abbrev pub trigger_fields : Bool → List (Tree × Tree)
trigger_fields true = []
trigger_fields false = field TRIGGER_MITIGATION (boolean false)

abbrev pub trigger_part : Content → MitigationView → List (Tree × Tree)
trigger_part All view = trigger_fields view.trigger
trigger_part Config view = trigger_fields view.trigger
trigger_part State view = []

abbrev pub scope_of : MitigationView → Tree
scope_of view = map_of (field MID (unsigned view.mid) ++ config_part view.content view ++ state_part view.content view ++ trigger_part view.content view)

abbrev pub granted_tree : ℕ → ℤ → Tree
granted_tree mid lifetime = mitigations_with (granted_scope mid lifetime ∷ [])

abbrev pub views_tree : List MitigationView → Tree
views_tree views = mitigations_with (map scope_of views)
