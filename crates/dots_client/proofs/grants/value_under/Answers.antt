use Rattle.cbor_profile.specs.Tree.{unsigned, pair, no_pairs}
use Rattle.cbor_profile.specs.ItemTrees.{tree_of}
use Rattle.dots_client.proofs.Shapes.{pairs_many}
use Rattle.dots_client.proofs.grants.value_under.Goals as goal

pub returns-in_default-only : goal.returns-in_default-only
returns-in_default-only c = λ value same.
    c.in_default-only.ensures (pairs_many (λ p. (tree_of p.0, tree_of p.1)) c.in-Some.pairs.now (pair (unsigned c.args.key) value no_pairs) (tree_of c.args.item.now) c.in-Some.ensures same)
