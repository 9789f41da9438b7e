use Rattle.data_channel.proofs.Within.{asked_within}
use Rattle.data_channel.proofs.laws.what_is_asked_is_within_bounds.Goals as goal

pub returns : goal.returns
returns c = asked_within
