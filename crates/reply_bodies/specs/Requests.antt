-- The body of a request for a mitigation (RFC 9132, section 4.4.1).
use Rattle.std.specs.Prelude.{ℤ, List, [], ◌∷◌, ◌++◌}
use Rattle.acl_lists.specs.declared.asked.Asked.{Asked}
use Rattle.cbor_profile.specs.Tree.{Tree}
use Rattle.reply_bodies.specs.declared.keys.TheConstants.{LIFETIME}
use Rattle.reply_bodies.specs.Maps.{field, map_of, integer}
use Rattle.reply_bodies.specs.Mitigations.{asked_fields, mitigations_with}

-- what is asked for, and for how long
abbrev pub request_scope : Asked → ℤ → Tree
request_scope asked lifetime = map_of (asked_fields asked ++ field LIFETIME (integer lifetime))

-- one scope is asked for by a request
abbrev pub request_tree : Asked → ℤ → Tree
request_tree asked lifetime = mitigations_with (request_scope asked lifetime ∷ [])
