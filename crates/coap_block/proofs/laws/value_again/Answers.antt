use Rattle.coap_block.proofs.Values.{value_again}
use Rattle.coap_block.proofs.laws.value_again.Goals as goal

pub returns : goal.returns
returns c = value_again
