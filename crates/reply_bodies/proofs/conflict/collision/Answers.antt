use Rattle.reply_bodies.proofs.Shapes.{collision_within}
use Rattle.reply_bodies.proofs.conflict.collision.Goals as goal

pub returns-clause-within : goal.returns-clause-within
returns-clause-within c = collision_within
