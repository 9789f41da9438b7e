use Rattle.std.proofs.Common.{sym, ◌∙◌}
use Rattle.cbor_profile.specs.ItemTrees.{tree_of}
use Rattle.cbor_profile.proofs.Places.{last_sound, last_less, last_equal}
use Rattle.cbor_profile.proofs.gathering.compare_to_last.Goals as goal

pub compare-requires-clause-left_sound : goal.compare-requires-clause-left_sound
compare-requires-clause-left_sound c = last_sound c.args.pairs.now c.in-Some.field-0.now c.requires.sound c.in-Some.ensures.item.3.0 c.in-Some.ensures.item.1

pub returns-in-Some-clause-less : goal.returns-in-Some-clause-less
returns-in-Some-clause-less c =
    λ less. last_less c.args.pairs.now (tree_of c.args.key.now) c.in-Some.field-0.now c.in-Some.ensures.item.3.0 c.in-Some.ensures.item.1 c.requires.rise (sym c.compare.ensures ∙ less)

pub returns-in-Some-clause-equal : goal.returns-in-Some-clause-equal
returns-in-Some-clause-equal c =
    λ same. last_equal c.args.pairs.now (tree_of c.args.key.now) c.in-Some.field-0.now c.in-Some.ensures.item.3.0 c.in-Some.ensures.item.1 (sym c.compare.ensures ∙ same)
