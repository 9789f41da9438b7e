-- Each side of a fork has fewer spots than the tree.
use Rattle.std.specs.Prelude.{◌≤◌, ◌∷◌, length, Option, None, Some, Box}
use Rattle.std.specs.Global.{Global}
use Rattle.std.proofs.Common.{arith, length-append}
use Rattle.coap_observe.specs.declared.spots.Fork.{Fork}
use Rattle.coap_observe.specs.declared.spots.Spots.TheDeep.{deep-Spots}
use Rattle.coap_observe.specs.Rooted.{spots_of}

pub deep_le-length : (root : Option (Box Fork Global)) → deep-Spots (record { root = root }) ≤ length (spots_of root)
deep_le-length None = omega arith
deep_le-length (Some root) = omega (arith, length-append root.value.left (root.value.slot ∷ root.value.right))
