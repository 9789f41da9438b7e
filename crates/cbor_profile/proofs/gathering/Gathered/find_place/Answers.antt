use Rattle.std.proofs.Common.{refl, subst}
use Rattle.cbor_profile.specs.ItemTrees.{tree_of}
use Rattle.cbor_profile.specs.Gathering.{AllBefore}
use Rattle.cbor_profile.proofs.AtEncodings.{behind_new}
use Rattle.cbor_profile.proofs.gathering.Gathered.find_place.Goals as goal

pub returns-in-Less-clause-fresh : goal.returns-in-Less-clause-fresh
returns-in-Less-clause-fresh c =
    behind_new c.args.self.now c.in-Rising.list (tree_of c.args.key.now) c.in-Rising.is (subst (AllBefore (tree_of c.args.key.now)) c.items.ensures (c.in-Less.ensures.less refl))
