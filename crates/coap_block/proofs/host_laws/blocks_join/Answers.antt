use Rattle.coap_block.proofs.Joining.{all_join}
use Rattle.coap_block.proofs.host_laws.blocks_join.Goals as goal

pub returns : goal.returns
returns c = all_join
