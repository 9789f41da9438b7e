use Rattle.std.proofs.Common.{sym}
use Rattle.stream_table.proofs.Placing.{is_there, conn_is}
use Rattle.rest_answers.proofs.Turning.{connection_has_caller}
use Rattle.dots_server.proofs.pieces.caller_there.Goals as goal

pub caller_at-requires : goal.caller_at-requires
caller_at-requires c = is_there c.requires.there.0 c.args.place c.args.table.now c.requires.there.1

-- each connection has a caller
pub unreachable-requires : goal.unreachable-requires
unreachable-requires c =
    let conn = c.requires.there.0 in
    let at = c.requires.there.1 in
    let has = connection_has_caller c.args.settings.now conn c.args.table.now at.line c.domains-domains.ensures.valid c.requires.rows at.found in
    let none = c.in-None.ensures.caller conn (conn_is conn c.args.place c.args.table.now at) in
    cc (has.1, none)

pub returns-clause-caller : goal.returns-clause-caller
returns-clause-caller c = λ conn at. sym (c.in-Some.ensures.caller conn (conn_is conn c.args.place c.args.table.now at))
