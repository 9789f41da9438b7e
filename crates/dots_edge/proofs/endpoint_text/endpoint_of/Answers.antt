use Rattle.dots_edge.proofs.EndpointLemmas.{no_endpoint, parts_of}
use Rattle.dots_edge.proofs.endpoint_text.endpoint_of.Goals as goal

pub returns-in_err-host : goal.returns-in_err-host
returns-in_err-host c = rw c.from_residual.ensures (no_endpoint c.args.text.now c.in_err-host.ensures)

pub returns-in_default : goal.returns-in_default
returns-in_default c = λ address port is.
    c.in_default.ensures port is.small (parts_of c.args.text.now c.in_ok-host.host.now c.in_ok-host.digits.now address port c.in_ok-host.ensures.0 c.in_ok-host.ensures.1 is).0

pub returns-in_default-host_of : goal.returns-in_default-host_of
returns-in_default-host_of c = λ address port is.
    c.in_default-host_of.ensures address (parts_of c.args.text.now c.in_ok-host.host.now c.in_ok-host.digits.now address port c.in_ok-host.ensures.0 c.in_ok-host.ensures.1 is).1
