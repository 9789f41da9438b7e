use Rattle.cbor_profile.specs.ItemTrees.{trees}
use Rattle.reply_bodies.proofs.Parts.{always}
use Rattle.reply_bodies.proofs.Shapes.{mitigations_valid}
use Rattle.reply_bodies.proofs.scope.mitigations_with.Goals as goal

pub returns-clause-valid : goal.returns-clause-valid
returns-clause-valid c = λ all. always c.sole-2.result (mitigations_valid (trees c.args.scopes) all c.array_of.ensures.few)
