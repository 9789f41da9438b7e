use Rattle.http_cut.proofs.PutAt.{put_as}
use Rattle.http_cut.proofs.Lines.{closes, stays}
use Rattle.http_cut.proofs.reply_head.put_closing.Goals as goal

pub returns-then-close-clause-written : goal.returns-then-close-clause-written
returns-then-close-clause-written c = put_as c.args.at _ _ c.args.into.now _ _ (closes c.args.close c.if-close.true) c.put_field.ensures.written

pub returns-clause-written : goal.returns-clause-written
returns-clause-written c = put_as c.args.at _ _ c.args.into.now _ _ (stays c.args.close c.if-close.false) c.put.ensures.written
