use Rattle.std.proofs.Common.{arith}
use Rattle.dots_edge.proofs.Numbers.{too_large}
use Rattle.dots_edge.proofs.host_lines.peer_number_of.Goals as goal

pub returns-then-number-from : goal.returns-then-number-from
returns-then-number-from c = λ number small.
    too_large c.args.text.now 4294967295 c.in_ok-number.number number (omega arith) c.in_ok-number.ensures.found.0 (omega arith) c.in_ok-number.ensures.found.1 small
