use Rattle.reply_bodies.proofs.Parts.{always}
use Rattle.reply_bodies.proofs.Shapes.{beat_valid}
use Rattle.reply_bodies.proofs.session.beat_item.Goals as goal

pub returns-clause-valid : goal.returns-clause-valid
returns-clause-valid c = always c.sole-2.result (beat_valid c.args.heard)
