use Rattle.coap_message.proofs.Whole.{one_message}
use Rattle.coap_message.proofs.laws.one_message.Goals as goal

pub returns : goal.returns
returns c m n is are e = one_message m n is are e
