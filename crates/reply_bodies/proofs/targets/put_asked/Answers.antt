use Rattle.cbor_profile.specs.Tree.{unsigned, text}
use Rattle.reply_bodies.specs.Mitigations.{prefix_tree, range_tree}
use Rattle.reply_bodies.proofs.Parts.{always}
use Rattle.reply_bodies.proofs.Shapes.{an_array, asked_within}
use Rattle.reply_bodies.proofs.targets.put_asked.Goals as goal

pub returns-clause-within : goal.returns-clause-within
returns-clause-within c =
    let asked = c.args.asked.now in
    always c.put_list-5.result
    (
    asked_within asked
    (an_array prefix_tree asked.prefixes _ _ c.items.ensures c.in_ok-prefixes.ensures.is c.in_ok-prefixes.ensures.within c.put_list.ensures.few)
    (an_array range_tree asked.ports _ _ c.items-2.ensures c.in_ok-ports.ensures.is c.in_ok-ports.ensures.within c.put_list-2.ensures.few)
    (an_array unsigned asked.protocols _ _ c.items-3.ensures c.in_ok-protocols.ensures.is c.in_ok-protocols.ensures.within c.put_list-3.ensures.few)
    (an_array text asked.names _ _ c.items-4.ensures c.in_ok-names.ensures.is c.in_ok-names.ensures.within c.put_list-4.ensures.few)
    (an_array text asked.aliases _ _ c.items-5.ensures c.in_ok-aliases.ensures.is c.in_ok-aliases.ensures.within c.put_list-5.ensures.few)
    )
