use Rattle.std.proofs.Common.{◌++◌}
use Rattle.std.specs.Prelude.{codes}
use Rattle.http_cut.specs.Reply.{field_line}
use Rattle.http_cut.proofs.PutAt.{put_more}
use Rattle.http_cut.proofs.reply_head.put_field.Goals as goal

pub returns-clause-written : goal.returns-clause-written
unfolding field_line
returns-clause-written c =
    let name = c.args.name.now in
    let value = c.args.value.now in
    let first = put_more c.args.at name (codes ": ") c.args.into.now _ _ _ _ c.put-at.ensures.written c.put-at-2.ensures.written in
    let second = put_more c.args.at (name ++ codes ": ") value c.args.into.now _ _ _ _ first c.put-at-3.ensures.written in
    put_more c.args.at (name ++ codes ": " ++ value) (codes "\r\n") c.args.into.now _ _ _ _ second c.put.ensures.written
