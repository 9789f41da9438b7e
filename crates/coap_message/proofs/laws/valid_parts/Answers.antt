use Rattle.coap_message.proofs.PartsOf.{parts_message}
use Rattle.coap_message.proofs.laws.valid_parts.Goals as goal

pub returns : goal.returns
returns c parts valid ranges = parts_message parts valid ranges
