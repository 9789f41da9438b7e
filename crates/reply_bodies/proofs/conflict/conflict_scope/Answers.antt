use Rattle.reply_bodies.proofs.Shapes.{conflict_within}
use Rattle.reply_bodies.proofs.conflict.conflict_scope.Goals as goal

pub returns-clause-within : goal.returns-clause-within
returns-clause-within c = conflict_within c.args.conflict.now c.put_number.ensures.fits c.in_ok-information.ensures.within
