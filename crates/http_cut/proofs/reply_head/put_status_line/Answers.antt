use Rattle.std.proofs.Common.{◌++◌, sym, ◌∙◌}
use Rattle.std.specs.Prelude.{codes}
use Rattle.http.specs.StatusCode.{code_digits}
use Rattle.http_cut.specs.Reply.{status_line, phrase_of}
use Rattle.http_cut.proofs.PutAt.{put_more, put_as}
use Rattle.http_cut.proofs.Statuses.{reply_status}
use Rattle.http_cut.proofs.reply_head.put_status_line.Goals as goal

pub digits_of-requires : goal.digits_of-requires
digits_of-requires c = (reply_status c.args.status c.requires.status).0.1

pub returns-clause-written : goal.returns-clause-written
unfolding status_line
returns-clause-written c =
    let start = codes "HTTP/1.1 " in
    let digits = code_digits c.args.status in
    let phrase = phrase_of c.args.status in
    let into = c.args.into.now in
    let three = put_as c.put-at.result digits _ c.put-at.new.into _ _ (sym c.digits_of.ensures) c.put-at-2.ensures.written in
    let text = put_as c.put-at-3.result phrase _ c.put-at-3.new.into _ _ (sym (c.as_bytes.ensures.value ∙ c.phrase_of.ensures.phrase)) c.put-at-4.ensures.written in
    let first = put_more 0 start digits into _ _ _ _ c.put-at.ensures.written three in
    let second = put_more 0 (start ++ digits) (codes " ") into _ _ _ _ first c.put-at-3.ensures.written in
    let third = put_more 0 (start ++ digits ++ codes " ") phrase into _ _ _ _ second text in
    put_more 0 (start ++ digits ++ codes " " ++ phrase) (codes "\r\n") into _ _ _ _ third c.put.ensures.written
