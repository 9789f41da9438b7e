use Rattle.dots_history.proofs.Endings.{live_end, seconds_end, due_goes, none_due}
use Rattle.dots_history.proofs.tables.a_mitigation_has_an_end.Goals as goal

pub returns : goal.returns
returns c = record { lives = live_end; left = seconds_end; due = due_goes; none_due = none_due }
