use Rattle.std.proofs.Common.{arith}
use Rattle.reply_bodies.proofs.Shapes.{granted_within}
use Rattle.reply_bodies.proofs.scope.granted_scope.Goals as goal

pub returns-clause-within : goal.returns-clause-within
returns-clause-within c = granted_within c.args.mid c.args.lifetime (omega arith) c.ranges.lifetime
