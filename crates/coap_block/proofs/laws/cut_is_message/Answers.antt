use Rattle.coap_block.proofs.Values.{cut_message, cut_block}
use Rattle.coap_block.proofs.laws.cut_is_message.Goals as goal

pub returns-clause-is : goal.returns-clause-is
returns-clause-is c = cut_message

pub returns-clause-block : goal.returns-clause-block
returns-clause-block c = cut_block
