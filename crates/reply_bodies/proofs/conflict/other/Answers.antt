use Rattle.std.proofs.Common.{refl}
use Rattle.reply_bodies.specs.Mitigations.{prefix_tree}
use Rattle.reply_bodies.proofs.Shapes.{an_array, other_within}
use Rattle.reply_bodies.proofs.conflict.other.Goals as goal

pub returns-clause-within : goal.returns-clause-within
returns-clause-within c =
    other_within c.args.prefixes.now
    (an_array prefix_tree c.args.prefixes.now c.args.prefixes.now _ refl c.in_ok-prefix_items.ensures.is c.in_ok-prefix_items.ensures.within c.array_of-prefixes.ensures.few)
