use Rattle.std.proofs.Common.{drop, ap, ◌∙◌, subst}
use Rattle.stream_table.specs.Places.{NowBuffers, line_at}
use Rattle.dots_server.specs.ServerValues.{ServerValue}
use Rattle.dots_server.proofs.Connecting.{held_lives}
use Rattle.dots_server.proofs.server.Server.drop_request.Goals as goal

pub discard-requires : goal.discard-requires
discard-requires c = (c.requires.0, ap (λ (server : ServerValue). line_at c.args.place server.lines) c.self.view_is ∙ c.requires.1, c.requires.2)

pub invariant_of-self : goal.invariant_of-self
invariant_of-self c =
    let old : ServerValue = record { settings = c.self.inside.settings; registry = c.self.inside.ledger.registry; journal = c.self.inside.ledger.journal; watch = c.self.inside.watch; lines = c.self.inside.lines } in
    held_lives c.args.place (drop c.args.size) old c.discard.new.self c.requires.0
    (c.discard.ensures c.requires.0 (ap (λ (server : ServerValue). line_at c.args.place server.lines) c.self.view_is ∙ c.requires.1)) c.self.invariant

pub returns-clause-held : goal.returns-clause-held
returns-clause-held c = λ line there.
    subst (λ (server : ServerValue). NowBuffers c.args.place (drop c.args.size) server.lines c.discard.new.self line) c.self.view_is
    (c.discard.ensures line (ap (λ (server : ServerValue). line_at c.args.place server.lines) c.self.view_is ∙ there))

pub returns-clause-others : goal.returns-clause-others
returns-clause-others c = ap (λ (server : ServerValue). record server { lines = c.discard.new.self }) c.self.view_is
