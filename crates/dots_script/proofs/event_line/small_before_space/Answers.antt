use Rattle.std.proofs.Common.{arith}
use Rattle.dots_script.proofs.EventLines.{number_before}
use Rattle.dots_script.proofs.event_line.small_before_space.Goals as goal

pub returns-then-number-from-clause-none : goal.returns-then-number-from-clause-none
returns-then-number-from-clause-none c = λ number rest small after.
    let is = number_before _ _ _ number rest c.in-Some.ensures.some after in
    absurd (omega (arith, is, c.if-number-from.true))
