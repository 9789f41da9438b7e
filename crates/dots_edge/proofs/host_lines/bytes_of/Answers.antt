use Rattle.std.proofs.Common.{arith}
use Rattle.dots_edge.proofs.Numbers.{too_large}
use Rattle.dots_edge.proofs.host_lines.bytes_of.Goals as goal

pub returns-then-bytes-gt-MAX_RESERVE : goal.returns-then-bytes-gt-MAX_RESERVE
returns-then-bytes-gt-MAX_RESERVE c = λ bytes small.
    too_large c.args.text.now 1073741825 c.in_ok-bytes.bytes bytes (omega arith) c.in_ok-bytes.ensures.found.0 (omega arith) c.in_ok-bytes.ensures.found.1 (omega arith)
