use Rattle.std.proofs.Common.{arith}
use Rattle.reply_bodies.proofs.Shapes.{range_within}
use Rattle.reply_bodies.proofs.targets.range_item.Goals as goal

pub returns-clause-within : goal.returns-clause-within
returns-clause-within c = range_within c.args.range.now (omega arith) (omega arith)
