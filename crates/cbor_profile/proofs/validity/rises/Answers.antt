use Rattle.std.proofs.Common.{refl}
use Rattle.cbor_profile.specs.ItemTrees.{tree_of}
use Rattle.cbor_profile.proofs.KeyOrder.{after_nothing}
use Rattle.cbor_profile.proofs.validity.rises.Goals as goal

pub returns-in-None : goal.returns-in-None
returns-in-None c = (λ yes. rw c.in-None.is (after_nothing (tree_of c.args.key.now)), λ before. refl)
