use Rattle.std.proofs.Common.{◌∙◌}
use Rattle.http_cut.proofs.PutAt.{put_as}
use Rattle.http_cut.proofs.Lines.{no_length, some_length}
use Rattle.http_cut.proofs.reply_head.put_length.Goals as goal

pub returns-then-status-eq204-clause-written : goal.returns-then-status-eq204-clause-written
returns-then-status-eq204-clause-written c = put_as c.args.at _ _ c.args.into.now _ _ (no_length c.args.status c.args.len c.if-status-eq204.true) c.put.ensures.written

pub returns-clause-written : goal.returns-clause-written
returns-clause-written c =
    put_as c.args.at _ _ c.args.into.now _ _ (some_length c.args.status c.args.len c.as_bytes.result.now c.if-status-eq204.false (c.as_bytes.ensures.value ∙ c.format.ensures.text)) c.put_field.ensures.written
