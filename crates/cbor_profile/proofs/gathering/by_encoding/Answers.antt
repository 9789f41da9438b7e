use Rattle.cbor_profile.specs.ItemTrees.{tree_pairs}
use Rattle.cbor_profile.specs.Gathering.{encoded_pairs}
use Rattle.cbor_profile.proofs.AtEncodings.{taken_fresh, taken_whole}
use Rattle.cbor_profile.proofs.gathering.by_encoding.Goals as goal

pub insert_pair-requires-clause-fresh : goal.insert_pair-requires-clause-fresh
insert_pair-requires-clause-fresh c = taken_fresh c.loop-pair.list.items.items c.pop.new.self.items c.in-Some.pair (encoded_pairs c.loop-pair.pairs.entries) (tree_pairs c.args.list.now) c.in-Some.ensures.items c.loop-pair.invariant.whole c.requires

pub loop-pair-preserved : goal.loop-pair-preserved
loop-pair-preserved c = record {
  whole = taken_whole c.loop-pair.list.items.items c.pop.new.self.items c.in-Some.pair (encoded_pairs c.loop-pair.pairs.entries) (tree_pairs c.args.list.now) c.in-Some.ensures.items c.loop-pair.invariant.whole c.requires _ c.in_ok-insert_pair.ensures.pairs;
  kept = c.in_ok-insert_pair.ensures.kept;
}
