use Rattle.dots_edge.proofs.EndpointLemmas.{no_host, no_inner}
use Rattle.dots_edge.proofs.endpoint_text.host_of.Goals as goal

pub returns-in_default-in_brackets : goal.returns-in_default-in_brackets
returns-in_default-in_brackets c = λ address. no_host c.args.text.now c.in_default.ensures c.in_default-in_brackets.ensures address.family address.number

pub returns-in_default-v6_of : goal.returns-in_default-v6_of
returns-in_default-v6_of c = λ address.
    no_inner c.args.text.now c.in-Some-in_brackets.inner.now c.in_default.ensures c.in-Some-in_brackets.ensures c.in_default-v6_of.ensures address.family address.number
