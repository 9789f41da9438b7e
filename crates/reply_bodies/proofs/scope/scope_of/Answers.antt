use Rattle.std.proofs.Common.{arith}
use Rattle.reply_bodies.proofs.Shapes.{scope_within}
use Rattle.reply_bodies.proofs.scope.scope_of.Goals as goal

pub returns-clause-within : goal.returns-clause-within
returns-clause-within c = scope_within c.args.view.now (omega arith) c.in_ok-put_config_part.ensures.within c.in_ok-put_state_part.ensures.within c.in_ok-put_trigger_part.ensures.within
