use Rattle.cbor_profile.specs.ItemTrees.{tree_of}
use Rattle.cbor_profile.proofs.ItemTrees.{array_is, map_is, array_argument, map_argument}
use Rattle.cbor_profile.proofs.order.head_of.Goals as goal

pub returns-in-Array-clause-number : goal.returns-in-Array-clause-number
returns-in-Array-clause-number c = array_argument (tree_of c.args.item.now) c.items-in-Array.result.now (array_is c.args.item.now c.in-Array.list c.items-in-Array.result.now c.in-Array.is c.items-in-Array.ensures)

pub returns-in-Map-clause-number : goal.returns-in-Map-clause-number
returns-in-Map-clause-number c = map_argument (tree_of c.args.item.now) c.items-in-Map.result.now (map_is c.args.item.now c.in-Map.list c.items-in-Map.result.now c.in-Map.is c.items-in-Map.ensures)
