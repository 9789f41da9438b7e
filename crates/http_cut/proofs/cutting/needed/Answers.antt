use Rattle.std.proofs.Common.{◌≤◌, sym, arith}
use Rattle.http_cut.proofs.Cuts.{window_fits}
use Rattle.http_cut.proofs.Needs.{waits_for_body}
use Rattle.http_cut.proofs.cutting.needed.Goals as goal

pub returns-in-Ok : goal.returns-in-Ok
returns-in-Ok c =
    let within = rw c.in-Ok-Complete.field-0-is at c.in-Ok-Complete.ensures.within in
    let complete = rw c.in-Ok-Complete.field-0-is at c.in-Ok-Complete.ensures.complete in
    let head = c.in-Ok-Complete.head in
    let buffered = c.args.buffered.now in
    let window = c.window-bytes.result.now in
    let fits : head.len ≤ 8192 = omega (arith, within.section.len_fits, (window_fits buffered window c.window-bytes.ensures.value).0) in
    waits_for_body buffered window c.parse_request.new.headers head c.in-Ok.size c.window-bytes.ensures.value complete fits (sym c.in-Ok.ensures.value)
