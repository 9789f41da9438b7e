use Rattle.std.proofs.Common.{Err, ap}
use Rattle.ask_agent.proofs.Complete.{ends_well, no_line_at_fault}
use Rattle.ask_agent.proofs.running.run_ask.Goals as goal

pub returns-in-Ok-clause-complete : goal.returns-in-Ok-clause-complete
returns-in-Ok-clause-complete g c = λ given read taken written. ends_well c.in-Ok.settings c.args.firsts c.begin.result _ _ c.begin.ensures.begins taken written

pub returns-in-Err-Line-clause-complete : goal.returns-in-Err-Line-clause-complete
returns-in-Err-Line-clause-complete g c = λ given read taken written. absurd (no_line_at_fault _ c.in-Err-Line.field-0 _ given c.in-Err-Line.field-0-is c.in-Err-Line.ensures.refused)

pub returns-in-Err-ReadFault-clause-complete : goal.returns-in-Err-ReadFault-clause-complete
returns-in-Err-ReadFault-clause-complete g c = λ given read taken written. absurd (read (c.in-Err-ReadFault.ensures.cause (ap Err c.in-Err-ReadFault.field-0-is)))
