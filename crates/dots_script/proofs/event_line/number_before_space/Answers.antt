use Rattle.dots_script.proofs.EventLines.{no_number, number_is}
use Rattle.dots_script.proofs.event_line.number_before_space.Goals as goal

pub returns-in_default-clause-none : goal.returns-in_default-clause-none
returns-in_default-clause-none c = λ number rest after. no_number _ number rest c.in_default.ensures.none after

pub returns-in_default-parse_decimal-clause-none : goal.returns-in_default-parse_decimal-clause-none
returns-in_default-parse_decimal-clause-none c = λ number rest after.
    c.in_default-parse_decimal.ensures.none number after.small (number_is _ _ _ number rest c.in-Some.ensures.some.0 c.in-Some.ensures.some.1 after).0
