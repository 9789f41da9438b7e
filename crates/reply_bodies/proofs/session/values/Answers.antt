use Rattle.reply_bodies.proofs.Shapes.{values_within}
use Rattle.reply_bodies.proofs.session.values.Goals as goal

pub returns-clause-within : goal.returns-clause-within
returns-clause-within c = values_within c.args.current.now (record {
  interval = c.put_value.ensures.fits;
  missing = c.put_value-2.ensures.fits;
  retransmit = c.put_value-3.ensures.fits;
  timeout = c.put_decimal.ensures.fits;
  factor = c.put_decimal-2.ensures.fits;
  rate = c.put_value-4.ensures.fits;
})
