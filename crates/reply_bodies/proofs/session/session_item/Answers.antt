use Rattle.reply_bodies.proofs.Parts.{always}
use Rattle.reply_bodies.proofs.Shapes.{session_valid}
use Rattle.reply_bodies.proofs.session.session_item.Goals as goal

pub returns-clause-valid : goal.returns-clause-valid
returns-clause-valid c = always c.sole.result (session_valid c.args.view.now c.in_ok-configuration.ensures.within)
