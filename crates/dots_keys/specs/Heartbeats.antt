-- The body of a heartbeat (RFC 9132, section 4.7): {49: {51: boolean}}.
use Rattle.std.specs.Prelude.{Bool, Option, Some, None, ok_or, Result}
use Rattle.cbor_profile.specs.Tree.{Tree, boolean}
use Rattle.dots_keys.specs.declared.reject.Reject.{Reject}
use Rattle.dots_keys.specs.Fields.{sole_field}
use Rattle.dots_keys.specs.Results.{invalid}

abbrev pub boolean_in : Tree → Option Bool
boolean_in (boolean value) = Some value
boolean_in _ = None

abbrev pub peer_status : Tree → Result Bool Reject
peer_status tree = ok_or (boolean_in tree) (invalid 51)

abbrev pub heartbeat_of : Tree → Result Bool Reject
heartbeat_of tree = sole_field 0 49 (sole_field 49 51 peer_status) tree
