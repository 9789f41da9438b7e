use Rattle.dots_script.proofs.Passing.{passed_event}
use Rattle.dots_script.proofs.script_check.pass_line.Goals as goal

pub returns-in-Some-parse_event-clause-passed : goal.returns-in-Some-parse_event-clause-passed
returns-in-Some-parse_event-clause-passed c = passed_event _ _ _ c.in-Some.ensures.some.0 c.in-Some.ensures.some.1 _ _ c.in-Some-parse_event.ensures.some
