use Rattle.coap_block.proofs.Plain.{all_same}
use Rattle.coap_block.proofs.host_laws.short_replies_stay.Goals as goal

pub returns : goal.returns
returns c = all_same
