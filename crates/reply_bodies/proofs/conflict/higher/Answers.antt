use Rattle.std.proofs.Common.{arith}
use Rattle.reply_bodies.proofs.Shapes.{higher_within}
use Rattle.reply_bodies.proofs.conflict.higher.Goals as goal

pub returns-clause-within : goal.returns-clause-within
returns-clause-within c = higher_within c.args.mid (omega arith)
