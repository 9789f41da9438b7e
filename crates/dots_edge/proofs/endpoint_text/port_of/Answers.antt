use Rattle.std.proofs.Common.{arith}
use Rattle.dots_edge.proofs.Numbers.{too_large}
use Rattle.dots_edge.proofs.endpoint_text.port_of.Goals as goal

pub returns-then-port-from : goal.returns-then-port-from
returns-then-port-from c = λ port small.
    too_large c.args.text.now 65536 c.in_ok-port.port port (omega arith) c.in_ok-port.ensures.found.0 (omega arith) c.in_ok-port.ensures.found.1 small
