use Rattle.dots_data.specs.Accepting.{IsAcceptable}
use Rattle.dots_data.proofs.Acceptable.{still_in_use}
use Rattle.worked_codecs.proofs.message_rows.carry_out.Goals as goal

pub returns-in-Accept-clause-settings : goal.returns-in-Accept-clause-settings
returns-in-Accept-clause-settings c = c.apply.ensures.settings c.args.settings.now c.requires.settings

pub returns-in-Accept-clause-in_use : goal.returns-in-Accept-clause-in_use
returns-in-Accept-clause-in_use c =
    let acceptable : IsAcceptable c.args.settings.now c.args.registry.now c.in-Accept.entry = rw c.in-Accept.is at c.requires.ready in
    still_in_use c.args.settings.now c.args.registry.now c.apply.new.self c.in-Accept.entry c.requires.in_use acceptable c.apply.ensures.represents c.apply.ensures.time
