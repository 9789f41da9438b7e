use Rattle.dots_client.proofs.Read.{withdrawing_means}
use Rattle.dots_client.proofs.message_laws.withdrawing_means.Goals as goal

pub returns : goal.returns
returns c = withdrawing_means
