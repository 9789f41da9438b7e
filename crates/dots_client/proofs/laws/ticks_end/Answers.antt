use Rattle.dots_client.proofs.Falls.{due_falls}
use Rattle.dots_client.proofs.laws.ticks_end.Goals as goal

pub returns : goal.returns
returns c = due_falls
