use Rattle.std.proofs.Common.{sym, ◌∙◌}
use Rattle.cbor_profile.specs.ItemTrees.{tree_of}
use Rattle.cbor_profile.proofs.AtEncodings.{found_is}
use Rattle.cbor_profile.proofs.gathering.place_among.Goals as goal

pub returns-then-contains_key-clause-taken : goal.returns-then-contains_key-clause-taken
returns-then-contains_key-clause-taken c =
    sym (found_is c.args.pairs.now.entries c.as_slice.result.now (tree_of c.args.key.now) c.requires.kept (c.as_slice.ensures.value ∙ c.in_ok-encoding.ensures)) ∙ sym c.contains_key.ensures ∙ c.if-contains_key.true

pub returns-clause-fresh : goal.returns-clause-fresh
returns-clause-fresh c =
    sym (found_is c.args.pairs.now.entries c.as_slice.result.now (tree_of c.args.key.now) c.requires.kept (c.as_slice.ensures.value ∙ c.in_ok-encoding.ensures)) ∙ sym c.contains_key.ensures ∙ c.if-contains_key.false
