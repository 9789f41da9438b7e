use Rattle.coap_message.proofs.Faults.{one_break, breaks_no_message}
use Rattle.coap_message.proofs.laws.one_fault.Goals as goal

pub returns-clause-alone : goal.returns-clause-alone
returns-clause-alone c bytes fault other a b = one_break bytes fault other a b

pub returns-clause-no_message : goal.returns-clause-no_message
returns-clause-no_message c bytes fault m a is spelled = breaks_no_message bytes fault m a is spelled
