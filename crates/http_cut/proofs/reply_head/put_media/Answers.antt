use Rattle.http_cut.proofs.PutAt.{put_as}
use Rattle.http_cut.proofs.Lines.{has_media, has_no_media}
use Rattle.http_cut.proofs.reply_head.put_media.Goals as goal

pub returns-then-json-clause-written : goal.returns-then-json-clause-written
returns-then-json-clause-written c = put_as c.args.at _ _ c.args.into.now _ _ (has_media c.args.json c.if-json.true) c.put_field.ensures.written

pub returns-clause-written : goal.returns-clause-written
returns-clause-written c = put_as c.args.at _ _ c.args.into.now _ _ (has_no_media c.args.json c.if-json.false) c.put.ensures.written
