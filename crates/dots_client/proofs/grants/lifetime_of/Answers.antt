use Rattle.cbor_profile.specs.Tree.{unsigned, pair, no_pairs}
use Rattle.cbor_profile.specs.ItemTrees.{tree_of}
use Rattle.reply_bodies.specs.Maps.{integer}
use Rattle.dots_client.proofs.Shapes.{pairs_many}
use Rattle.dots_client.proofs.grants.lifetime_of.Goals as goal

pub returns-in_default-two : goal.returns-in_default-two
returns-in_default-two c = λ lifetime is same.
    c.in_default-two.ensures
    (
    pairs_many (λ p. (tree_of p.0, tree_of p.1)) c.in-Some.fields.now (pair (unsigned 5) (unsigned c.args.mid) (pair (unsigned 14) (integer lifetime) no_pairs))
    (tree_of c.args.scope.now) c.in-Some.ensures same
    )
