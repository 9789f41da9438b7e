use Rattle.std.proofs.Common.{◌++◌, arith}
use Rattle.std.specs.Prelude.{codes}
use Rattle.http_cut.specs.Reply.{status_line, closing_line, text_line, media_line, length_line}
use Rattle.http_cut.proofs.PutAt.{put_more, put_front}
use Rattle.http_cut.proofs.reply_head.write_head.Goals as goal

pub returns-clause-written : goal.returns-clause-written
returns-clause-written c =
    let head = c.args.head.now in
    let into = c.args.into.now in
    let a = status_line head.status in
    let b = closing_line head.close in
    let d = text_line (codes "Location") head.location.now in
    let e = text_line (codes "Allow") head.allow.now in
    let f = media_line head.json in
    let g = length_line head.status head.length in
    let two = put_more 0 a b into _ _ _ _ c.put_status_line-at.ensures.written c.put_closing-at.ensures.written in
    let three = put_more 0 (a ++ b) d into _ _ _ _ two c.put_text-at.ensures.written in
    let four = put_more 0 (a ++ b ++ d) e into _ _ _ _ three c.put_text-at-2.ensures.written in
    let five = put_more 0 (a ++ b ++ d ++ e) f into _ _ _ _ four c.put_media-at.ensures.written in
    let six = put_more 0 (a ++ b ++ d ++ e ++ f) g into _ _ _ _ five c.put_length-at.ensures.written in
    let seven = put_more 0 (a ++ b ++ d ++ e ++ f ++ g) (codes "\r\n") into _ _ _ _ six c.put.ensures.written in
    put_front (a ++ b ++ d ++ e ++ f ++ g ++ codes "\r\n") into _ _ seven

pub returns-clause-len : goal.returns-clause-len
returns-clause-len c =
    let head = c.args.head.now in
    let into = c.args.into.now in
    let a = status_line head.status in
    let b = closing_line head.close in
    let d = text_line (codes "Location") head.location.now in
    let e = text_line (codes "Allow") head.allow.now in
    let f = media_line head.json in
    let g = length_line head.status head.length in
    let two = put_more 0 a b into _ _ _ _ c.put_status_line-at.ensures.written c.put_closing-at.ensures.written in
    let three = put_more 0 (a ++ b) d into _ _ _ _ two c.put_text-at.ensures.written in
    let four = put_more 0 (a ++ b ++ d) e into _ _ _ _ three c.put_text-at-2.ensures.written in
    let five = put_more 0 (a ++ b ++ d ++ e) f into _ _ _ _ four c.put_media-at.ensures.written in
    let six = put_more 0 (a ++ b ++ d ++ e ++ f) g into _ _ _ _ five c.put_length-at.ensures.written in
    let seven = put_more 0 (a ++ b ++ d ++ e ++ f ++ g) (codes "\r\n") into _ _ _ _ six c.put.ensures.written in
    omega (arith, seven.place)

pub returns-clause-within : goal.returns-clause-within
returns-clause-within c =
    let head = c.args.head.now in
    let into = c.args.into.now in
    let a = status_line head.status in
    let b = closing_line head.close in
    let d = text_line (codes "Location") head.location.now in
    let e = text_line (codes "Allow") head.allow.now in
    let f = media_line head.json in
    let g = length_line head.status head.length in
    let two = put_more 0 a b into _ _ _ _ c.put_status_line-at.ensures.written c.put_closing-at.ensures.written in
    let three = put_more 0 (a ++ b) d into _ _ _ _ two c.put_text-at.ensures.written in
    let four = put_more 0 (a ++ b ++ d) e into _ _ _ _ three c.put_text-at-2.ensures.written in
    let five = put_more 0 (a ++ b ++ d ++ e) f into _ _ _ _ four c.put_media-at.ensures.written in
    let six = put_more 0 (a ++ b ++ d ++ e ++ f) g into _ _ _ _ five c.put_length-at.ensures.written in
    let seven = put_more 0 (a ++ b ++ d ++ e ++ f ++ g) (codes "\r\n") into _ _ _ _ six c.put.ensures.written in
    seven.room
