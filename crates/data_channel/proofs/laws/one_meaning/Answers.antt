use Rattle.data_channel.proofs.Meaning.{one_meaning}
use Rattle.data_channel.proofs.laws.one_meaning.Goals as goal

pub returns : goal.returns
returns c = one_meaning
