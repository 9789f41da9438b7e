use Rattle.reply_bodies.proofs.Parts.{always}
use Rattle.reply_bodies.proofs.Shapes.{request_within}
use Rattle.reply_bodies.proofs.request.request_scope.Goals as goal

pub returns-clause-within : goal.returns-clause-within
returns-clause-within c = request_within c.args.asked.now c.args.lifetime c.in_ok-put_asked.ensures.within c.ranges.lifetime
