use Rattle.dots_script.proofs.EventLines.{no_piece}
use Rattle.dots_script.proofs.event_line.parse_piece.Goals as goal

pub returns-in_default-clause-none : goal.returns-in_default-clause-none
returns-in_default-clause-none c = no_piece _ c.in_default.ensures.none
