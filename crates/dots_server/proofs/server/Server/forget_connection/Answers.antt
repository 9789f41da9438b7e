use Rattle.std.proofs.Common.{List, sym, ap, ◌∙◌, subst}
use Rattle.stream_table.specs.Lines.{PeerLines, forgotten}
use Rattle.dots_server.specs.ServerValues.{ServerValue, IsServing}
use Rattle.dots_server.proofs.Connecting.{with_lines, forgotten_lives}
use Rattle.dots_server.proofs.server.Server.forget_connection.Goals as goal

pub invariant_of-self : goal.invariant_of-self
invariant_of-self c =
    let old : ServerValue = record { settings = c.self.inside.settings; registry = c.self.inside.ledger.registry; journal = c.self.inside.ledger.journal; watch = c.self.inside.watch; lines = c.self.inside.lines } in
    subst (λ (lines : List PeerLines). IsServing (record old { lines = lines })) (sym c.forget.ensures) (forgotten_lives c.args.conn old c.self.invariant)

pub returns : goal.returns
returns c =
    let old : ServerValue = record { settings = c.self.inside.settings; registry = c.self.inside.ledger.registry; journal = c.self.inside.ledger.journal; watch = c.self.inside.watch; lines = c.self.inside.lines } in
    ap (λ (lines : List PeerLines). record old { lines = lines }) c.forget.ensures ∙ ap (with_lines (forgotten c.args.conn)) c.self.view_is
