use Rattle.dots_client.proofs.Read.{asking_means}
use Rattle.dots_client.proofs.message_laws.asking_means.Goals as goal

pub returns : goal.returns
returns c = asking_means c.encoding_spells.ensures
