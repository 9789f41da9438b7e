use Rattle.std.proofs.Common.{◌≡◌, None, subst}
use Rattle.std.specs.Prelude.{MatchOption}
use Rattle.stream_table.specs.Lines.{line_of}
use Rattle.stream_table.specs.Places.{AreApart, IsAt}
use Rattle.dots_server.specs.ServerValues.{ServerValue}
use Rattle.dots_server.proofs.server.Server.place.Goals as goal

pub returns-clause-place : goal.returns-clause-place
returns-clause-place c =
    subst (λ (server : ServerValue). MatchOption c.place.result (line_of c.args.conn server.lines ≡ None) (λ place. IsAt c.args.conn place server.lines)) c.self.view_is c.place.ensures

pub returns-clause-apart : goal.returns-clause-apart
returns-clause-apart c = subst (λ (server : ServerValue). AreApart server.lines) c.self.view_is c.self.invariant.apart
