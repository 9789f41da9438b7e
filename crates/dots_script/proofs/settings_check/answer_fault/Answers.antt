use Rattle.dots_script.proofs.Wholes.{fault_reported}
use Rattle.dots_script.proofs.settings_check.answer_fault.Goals as goal

pub returns-in-Ok : goal.returns-in-Ok
returns-in-Ok c = fault_reported c.args.content.now c.in-Ok.text c.args.fault c.requires.short c.requires.fails c.in-Ok.ensures
