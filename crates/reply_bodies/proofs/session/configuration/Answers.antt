use Rattle.reply_bodies.proofs.Shapes.{configuration_within}
use Rattle.reply_bodies.proofs.session.configuration.Goals as goal

pub returns-clause-within : goal.returns-clause-within
returns-clause-within c = configuration_within c.args.view.now c.put_number.ensures.fits c.in_ok-mitigating.ensures.within c.in_ok-idle.ensures.within
