use Rattle.dots_script.proofs.EventLines.{no_bytes, no_hex}
use Rattle.dots_script.proofs.event_line.number_and_bytes.Goals as goal

pub returns-in_default-clause-none : goal.returns-in_default-clause-none
returns-in_default-clause-none c = no_bytes _ c.in_default.ensures.none

pub returns-in_default-read_digits-clause-none : goal.returns-in_default-read_digits-clause-none
returns-in_default-read_digits-clause-none c = no_hex _ _ _ c.in-Some.ensures.some.1 c.in_default-read_digits.ensures.none
