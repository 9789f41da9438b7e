use Rattle.std.proofs.Common.{arith}
use Rattle.reply_bodies.proofs.Parts.{always}
use Rattle.reply_bodies.proofs.Shapes.{state_within}
use Rattle.reply_bodies.proofs.scope.put_state.Goals as goal

pub returns-clause-within : goal.returns-clause-within
returns-clause-within c = always c.put-2.result (state_within c.args.view.now (omega arith) (omega arith))
