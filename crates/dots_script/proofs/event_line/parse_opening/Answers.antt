use Rattle.dots_script.proofs.EventLines.{no_opening, no_first, no_second}
use Rattle.dots_script.proofs.event_line.parse_opening.Goals as goal

pub returns-in_default-clause-none : goal.returns-in_default-clause-none
returns-in_default-clause-none c = no_opening _ (no_first _ c.in_default.ensures.none)

pub returns-in_default-small_number-clause-none : goal.returns-in_default-small_number-clause-none
returns-in_default-small_number-clause-none c = no_opening _ (no_second _ _ _ c.in-Some.ensures.some.1 c.in_default-small_number.ensures.none)
