use Rattle.coap_message.proofs.PartsOf.{parts_same, parts_are, parts_sum}
use Rattle.coap_message.proofs.laws.parts_of_message.Goals as goal

pub returns-clause-same : goal.returns-clause-same
returns-clause-same c m = parts_same m.options

pub returns-clause-are : goal.returns-clause-are
returns-clause-are c m is = parts_are 0 m.options is.options

pub returns-clause-values : goal.returns-clause-values
returns-clause-values c m = parts_sum m.options
