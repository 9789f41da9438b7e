use Rattle.http_cut.proofs.PutAt.{put_as}
use Rattle.http_cut.proofs.Lines.{no_text, some_text}
use Rattle.http_cut.proofs.reply_head.put_text.Goals as goal

pub returns-then-is_empty-clause-written : goal.returns-then-is_empty-clause-written
returns-then-is_empty-clause-written c = put_as c.args.at _ _ c.args.into.now _ _ (no_text c.args.name.now c.args.value.now c.if-is_empty.ensures) c.put.ensures.written

pub returns-clause-written : goal.returns-clause-written
returns-clause-written c = put_as c.args.at _ _ c.args.into.now _ _ (some_text c.args.name.now c.args.value.now c.if-is_empty.ensures) c.put_field.ensures.written
