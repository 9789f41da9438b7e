use Rattle.std.proofs.Common.{List, drop, ap, ◌∙◌}
use Rattle.stream_table.specs.Lines.{PeerLines}
use Rattle.session_core.proofs.Sends.{sent_none, keeps_still}
use Rattle.dots_server.proofs.Rows.{held_all}
use Rattle.dots_server.proofs.server.Server.end_request.Goals as goal

-- ---- it is closed

pub returns-then-close-clause-lines : goal.returns-then-close-clause-lines
returns-then-close-clause-lines g c = rw c.if-close.true c.end_connection.ensures.lines

pub returns-then-close-clause-sent : goal.returns-then-close-clause-sent
returns-then-close-clause-sent g c = rw c.if-close.true c.end_connection.ensures.sent

-- ---- it stays open

pub drop_request-requires : goal.drop_request-requires
drop_request-requires g c = (c.requires.there.line, c.requires.there.there, c.requires.size c.requires.there.line c.requires.there.there)

pub returns-clause-lines : goal.returns-clause-lines
returns-clause-lines g c =
    let at = c.requires.there in
    rw c.if-close.false (
    c.drop_request.ensures.others
    ∙ ap (λ (lines : List PeerLines). record c.args.self.now { lines = lines })
    (held_all c.args.conn c.args.place (drop c.args.size) c.args.self.now.lines c.drop_request.new.self.lines at (c.drop_request.ensures.held at.line at.there))
    )

pub returns-clause-sent : goal.returns-clause-sent
returns-clause-sent g c = rw c.if-close.false (sent_none (g.H.Wire.acts c.args.host.now) (g.H.Wire.moment c.args.host.now))

pub returns-clause-media : goal.returns-clause-media
returns-clause-media g c = keeps_still (g.H.Disk.media c.args.host.now)

pub returns-clause-leads : goal.returns-clause-leads
returns-clause-leads g c = g.met.H.Wire.leads_same c.args.host.now
