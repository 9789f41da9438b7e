use Rattle.dots_script.proofs.EventLines.{no_closing}
use Rattle.dots_script.proofs.event_line.parse_closing.Goals as goal

pub returns-in_default-clause-none : goal.returns-in_default-clause-none
returns-in_default-clause-none c = no_closing _ c.in_default.ensures.none
