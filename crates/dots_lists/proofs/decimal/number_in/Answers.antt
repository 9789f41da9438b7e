use Rattle.std.proofs.Common.{arith}
use Rattle.dots_lists.proofs.Numbers.{number_there, out_of_range}
use Rattle.dots_lists.proofs.decimal.number_in.Goals as goal

pub returns : goal.returns
returns c = number_there c.args.least c.args.most c.args.text.now c.in_ok-number.number c.in_ok-number.ensures.found.0 c.in_ok-number.ensures.found.1 (omega arith) (omega arith)

pub returns-then-number-least : goal.returns-then-number-least
returns-then-number-least c = out_of_range c.args.least c.args.most c.args.text.now c.in_ok-number.number c.in_ok-number.ensures.found.0 c.in_ok-number.ensures.found.1 c.then-number-least.either
